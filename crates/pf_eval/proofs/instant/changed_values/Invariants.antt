use Rattle.std.proofs.Common.{◌≡◌, ◌<◌, ◌≤◌, ℕ, length}
use Rattle.pf_columns.specs.Columns.{value_in}
use Rattle.pf_math.specs.EachValue.{changed}
use Rattle.pf_eval.specs.Calls.{change_at}
use Rattle.pf_eval.specs.Nodes.{onto}
use Rattle.pf_eval.proofs.instant.changed_values.Given as goal

abbrev pub invariant-loop-i : goal.invariant-loop-i
invariant-loop-i l = record {
  many : length l.values.items ≡ length l.initial.values.items;
  done : (k : ℕ) → k < l.i → value_in l.values.items k ≡ onto (value_in l.initial.values.items k) (changed (change_at l.changes k));
  left : (k : ℕ) → l.i ≤ k → value_in l.values.items k ≡ value_in l.initial.values.items k;
}
