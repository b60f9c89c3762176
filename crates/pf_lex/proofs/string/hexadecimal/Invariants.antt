use Rattle.std.proofs.Common.{◌≡◌, ◌<◌, drop}
use Rattle.pf_model.specs.Tokens.{hexadecimal}
use Rattle.pf_lex.proofs.Limits.{limit}
use Rattle.pf_lex.proofs.string.hexadecimal.Given as goal

abbrev pub invariant-loop-digit : goal.invariant-loop-digit
invariant-loop-digit l = record {
  left : hexadecimal l.number (drop l.digit-index l.digits) ≡ hexadecimal 0 l.digits;
  small : l.number < limit l.digit-index;
}
