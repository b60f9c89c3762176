use Rattle.std.proofs.Common.{◌-◌, ◌≤◌, length}
use Rattle.pf_lex.proofs.Places.{AreUpTo}
use Rattle.pf_lex.proofs.lexer.tokens.Given as goal

abbrev pub invariant-loop-at : goal.invariant-loop-at
invariant-loop-at l = record {
  found : AreUpTo l.bytes l.found.items l.inside l.at;
  within : l.at ≤ length l.bytes;
  short : length l.bytes ≤ 65536;
}

abbrev pub decreases-loop-at : goal.decreases-loop-at
decreases-loop-at l = length l.bytes - l.at
