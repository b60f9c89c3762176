use Rattle.std.proofs.Common.{◌≡◌, map}
use Rattle.pf_model.specs.Cells.{values_of}
use Rattle.pf_model.specs.Merging.{below}
use Rattle.pf_columns.specs.Columns.{cell_at, value_in}
use Rattle.pf_columns.specs.Groups.{quantile_of}
use Rattle.pf_columns.proofs.aggregate.quantile_values.Given as goal

abbrev pub invariant-loop-i : goal.invariant-loop-i
invariant-loop-i l = l.found.items ≡ below (λ k. quantile_of (value_in l.params k) (values_of (cell_at (map (λ c. c.now) l.columns) k))) l.i
