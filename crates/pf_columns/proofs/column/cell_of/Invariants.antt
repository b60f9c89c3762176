use Rattle.std.proofs.Common.{◌≡◌, ◌++◌, drop}
use Rattle.pf_columns.specs.Columns.{cell_at}
use Rattle.pf_columns.proofs.column.cell_of.Given as goal

abbrev pub invariant-loop-column : goal.invariant-loop-column
invariant-loop-column l = l.elements.items ++ cell_at (drop l.column-index l.columns) l.step ≡ cell_at l.columns l.step
