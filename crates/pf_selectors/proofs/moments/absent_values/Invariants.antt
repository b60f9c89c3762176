use Rattle.std.proofs.Common.{◌≡◌, ◌<◌, ℕ, Some, drop, vec_len}
use Rattle.pf_columns.specs.Columns.{value_in}
use Rattle.pf_model.specs.Micros.{one}
use Rattle.pf_selectors.specs.Subqueries.{unless_sampled}
use Rattle.pf_selectors.proofs.moments.absent_values.Given as goal

abbrev pub invariant-loop-column : goal.invariant-loop-column
invariant-loop-column l = record {
  size : vec_len l.values ≡ l.times.len;
  values : (k : ℕ) → k < l.times.len
      → unless_sampled l.range l.at l.times k (drop l.column-index l.columns) (value_in l.values.items k) ≡ unless_sampled l.range l.at l.times k l.columns (Some one);
}
