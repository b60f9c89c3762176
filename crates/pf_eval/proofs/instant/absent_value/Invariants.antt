use Rattle.std.proofs.Common.{◌≡◌, drop}
use Rattle.pf_columns.specs.Columns.{cell_at}
use Rattle.pf_eval.specs.Calls.{absent_value}
use Rattle.pf_eval.proofs.instant.absent_value.Given as goal

abbrev pub invariant-loop-column : goal.invariant-loop-column
invariant-loop-column l = absent_value (cell_at (drop l.column-index l.columns) l.step) ≡ absent_value (cell_at l.columns l.step)
