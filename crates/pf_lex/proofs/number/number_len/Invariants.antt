use Rattle.std.proofs.Common.{◌≡◌, ◌≤◌, drop, true, None}
use Rattle.std.specs.Prelude.{IfSome}
use Rattle.pf_lex.specs.Stages.{is_small, longest_from}
use Rattle.pf_lex.specs.declared.number.Stage.TheVariants.{Start}
use Rattle.pf_lex.proofs.number.number_len.Given as goal

abbrev pub invariant-loop-i : goal.invariant-loop-i
invariant-loop-i l = record {
  small : is_small l.stage ≡ true;
  left : longest_from l.stage l.i l.found (drop l.i l.bytes) ≡ longest_from Start 0 None l.bytes;
  within : IfSome l.found (λ n. n ≤ l.i);
}
