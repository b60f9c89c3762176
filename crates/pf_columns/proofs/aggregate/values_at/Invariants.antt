use Rattle.std.proofs.Common.{◌≡◌, ◌++◌, map, drop}
use Rattle.pf_model.specs.Cells.{values_of}
use Rattle.pf_columns.specs.Columns.{cell_at}
use Rattle.pf_columns.proofs.aggregate.values_at.Given as goal

abbrev pub invariant-loop-column : goal.invariant-loop-column
invariant-loop-column l =
    l.values.items ++ values_of (cell_at (map (λ c. c.now) (drop l.column-index l.columns)) l.step)
    ≡ values_of (cell_at (map (λ c. c.now) l.columns) l.step)
