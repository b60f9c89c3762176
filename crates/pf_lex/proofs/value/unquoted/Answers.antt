use Rattle.std.proofs.Common.{sym, subst}
use Rattle.std.specs.Str.{IsUtf8}
use Rattle.pf_lex.proofs.Utf8.{written_utf8}
use Rattle.pf_lex.proofs.value.unquoted.Goals as goal

pub text_of-requires : goal.text_of-requires
text_of-requires c = subst IsUtf8 (sym c.in_ok-value.ensures) (written_utf8 c.as_bytes.result.now c.as_bytes.ensures.utf8)
