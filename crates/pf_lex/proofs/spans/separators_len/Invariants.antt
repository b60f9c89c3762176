use Rattle.std.proofs.Common.{◌≡◌, ◌+◌, drop, false}
use Rattle.pf_model.specs.Tokens.{separators}
use Rattle.pf_lex.proofs.spans.separators_len.Given as goal

abbrev pub invariant-loop-i : goal.invariant-loop-i
invariant-loop-i l = separators false l.bytes ≡ l.i + separators l.in_comment (drop l.i l.bytes)
