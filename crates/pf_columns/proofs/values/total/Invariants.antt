use Rattle.std.proofs.Common.{◌≡◌, ◌≤◌, ◌*◌, ◌+ℤ◌, drop}
use Rattle.std.specs.Prelude.{unsigned_abs}
use Rattle.pf_model.specs.Micros.{total}
use Rattle.pf_columns.proofs.values.total.Given as goal

-- what is summed is not more than a greatest value for each
abbrev pub invariant-loop-value : goal.invariant-loop-value
invariant-loop-value l = record {
  sums : l.sum +ℤ total (drop l.value-index l.values) ≡ total l.values;
  small : unsigned_abs l.sum ≤ l.value-index * 1000000000000000000;
}
