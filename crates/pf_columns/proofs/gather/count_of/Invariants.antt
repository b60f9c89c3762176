use Rattle.std.proofs.Common.{◌≡◌, ◌+◌, ◌≤◌, drop, filter, is_some, length}
use Rattle.pf_columns.proofs.gather.count_of.Given as goal

abbrev pub invariant-loop-value : goal.invariant-loop-value
invariant-loop-value l = record {
  counted : l.count + length (filter is_some (drop l.value-index l.values)) ≡ length (filter is_some l.values);
  few : l.count ≤ l.value-index;
}
