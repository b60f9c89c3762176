use Rattle.std.proofs.Common.{◌≡◌, ◌<◌, ℕ, Some, drop, vec_len}
use Rattle.pf_columns.specs.Columns.{value_in}
use Rattle.pf_model.specs.Micros.{one}
use Rattle.pf_selectors.specs.SeriesColumns.{unless_present}
use Rattle.pf_selectors.proofs.windows.absent_values.Given as goal

abbrev pub invariant-loop-id : goal.invariant-loop-id
invariant-loop-id l = record {
  size : vec_len l.values ≡ l.times.len;
  values : (k : ℕ) → k < l.times.len
      → unless_present l.range l.snap l.times k (drop l.id-index l.ids) (value_in l.values.items k) ≡ unless_present l.range l.snap l.times k l.ids (Some one);
}
