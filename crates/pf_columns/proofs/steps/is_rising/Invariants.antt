use Rattle.std.proofs.Common.{◌≡◌, drop, None}
use Rattle.std.specs.Option.{option_copied}
use Rattle.pf_columns.specs.Columns.{columns_labels}
use Rattle.pf_columns.specs.Steps.{rise_above}
use Rattle.pf_columns.proofs.steps.is_rising.Given as goal

abbrev pub invariant-loop-column : goal.invariant-loop-column
invariant-loop-column l =
    rise_above (option_copied l.last) (columns_labels (drop l.column-index l.columns)) ≡ rise_above None (columns_labels l.columns)
