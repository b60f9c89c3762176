use Rattle.std.proofs.Common.{◌≡◌, ◌++◌, map, drop}
use Rattle.pf_model.specs.Aggregation.{group_key}
use Rattle.pf_columns.specs.Columns.{columns_labels}
use Rattle.pf_columns.proofs.groups.keys_of.Given as goal

abbrev pub invariant-loop-column : goal.invariant-loop-column
invariant-loop-column l =
    l.found.items ++ map (group_key l.grouping.without l.grouping.labels) (columns_labels (drop l.column-index l.columns))
    ≡ map (group_key l.grouping.without l.grouping.labels) (columns_labels l.columns)
