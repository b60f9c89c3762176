use Rattle.std.proofs.Common.{◌≡◌, drop}
use Rattle.pf_model.specs.InstantFunctions.{only_value}
use Rattle.pf_columns.specs.Columns.{cell_at}
use Rattle.pf_eval.specs.Calls.{only_after}
use Rattle.pf_eval.proofs.instant.only_value.Given as goal

abbrev pub invariant-loop-column : goal.invariant-loop-column
invariant-loop-column l = only_after l.found (cell_at (drop l.column-index l.columns) l.step) ≡ only_value (cell_at l.columns l.step)
