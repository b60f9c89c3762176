use Rattle.std.proofs.Common.{sym, subst}
use Rattle.std.specs.Str.{IsUtf8}
use Rattle.pf_print.proofs.Escapes.{escaped_utf8}
use Rattle.pf_print.proofs.output.push_quoted.Goals as goal

pub text_of-escaped-requires : goal.text_of-escaped-requires
text_of-escaped-requires c = subst IsUtf8 (sym c.in_ok-bytes.ensures) (escaped_utf8 c.args.text.now c.utf8.text)
