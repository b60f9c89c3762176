use Rattle.std.proofs.Common.{sym, subst}
use Rattle.std.specs.Str.{IsUtf8}
use Rattle.pf_base.specs.Arithmetic.{IsValue}
use Rattle.pf_print.proofs.Escapes.{value_utf8}
use Rattle.pf_print.proofs.output.push_value.Goals as goal

pub text_of-text-requires : goal.text_of-text-requires
text_of-text-requires c =
    subst IsUtf8 (sym c.in_ok-bytes.ensures)
    (value_utf8 c.args.value (subst IsValue c.micros-micros.ensures.value c.micros-micros.ensures.within))
