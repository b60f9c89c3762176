use Rattle.std.proofs.Common.{◌≡◌, ◌++◌, drop}
use Rattle.pf_model.specs.Lists.{joined}
use Rattle.pf_columns.specs.Columns.{cut_column}
use Rattle.pf_columns.proofs.column.cut_columns.Given as goal

abbrev pub invariant-loop-column : goal.invariant-loop-column
invariant-loop-column l = l.found.items ++ joined (cut_column l.from l.len) (drop l.column-index l.columns) ≡ joined (cut_column l.from l.len) l.columns
