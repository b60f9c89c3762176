use Rattle.std.proofs.Common.{◌∙◌, arith}
use Rattle.std.proofs.lemmas.Int.{ints}
use Rattle.pf_block.specs.Snaps.{samples_of}
use Rattle.pf_selectors.proofs.RunValues.{read_alike}
use Rattle.pf_selectors.proofs.instant.read_steps.Goals as goal

pub returns : goal.returns
returns c =
    c.in_ok-put_values.ensures
    ∙ read_alike c.args.times.now (samples_of c.args.snap.now c.args.id) c.in_ok-samples.samples.now c.args.span.first c.args.span.last _ _ c.in_ok-samples.ensures.samples
    (omega (arith, ints, c.requires.last)) c.requires.low c.requires.high c.args.reading (omega (arith, ints, c.requires.first))
