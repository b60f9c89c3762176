use Rattle.std.proofs.Common.{◌≡◌, ◌++◌, length}
use Rattle.pf_eval.proofs.merged.take_groups.Given as goal

abbrev pub invariant-loop : goal.invariant-loop
invariant-loop l = record {
  all : l.found.items ++ l.parts.items ≡ l.initial.parts.items;
  many : length l.found.items ≡ l.counter;
}
