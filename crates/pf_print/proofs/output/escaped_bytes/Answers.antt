use Rattle.std.proofs.Common.{◌≡◌, ◌∙◌, ap, arith, length, take}
use Rattle.pf_model.specs.Canonical.{string_bytes_of}
use Rattle.pf_print.proofs.Escapes.{escaped_all, escaped_next}
use Rattle.pf_print.proofs.output.escaped_bytes.Goals as goal

pub loop-byte-preserved : goal.loop-byte-preserved
loop-byte-preserved c = grind (arith, escaped_next)

pub returns : goal.returns
returns c =
    let bytes = c.as_bytes-byte-items.result.now in
    let whole : c.loop-byte.byte-index ≡ length bytes = omega arith in
    c.loop-byte.invariant
    ∙ (ap (λ i. string_bytes_of (take i bytes)) whole
    ∙ (escaped_all bytes ∙ ap string_bytes_of c.as_bytes-byte-items.ensures.value))
