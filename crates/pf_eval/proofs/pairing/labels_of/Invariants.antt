use Rattle.std.proofs.Common.{◌≡◌, ◌++◌, drop}
use Rattle.pf_columns.specs.Columns.{columns_labels}
use Rattle.pf_eval.proofs.pairing.labels_of.Given as goal

abbrev pub invariant-loop-column : goal.invariant-loop-column
invariant-loop-column l = l.found.items ++ columns_labels (drop l.column-index l.columns) ≡ columns_labels l.columns
