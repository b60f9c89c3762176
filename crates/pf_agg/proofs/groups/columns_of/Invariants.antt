use Rattle.std.proofs.Common.{◌≡◌, ◌++◌, drop}
use Rattle.pf_model.specs.Cells.{labels_of}
use Rattle.pf_columns.specs.Columns.{columns_labels}
use Rattle.pf_agg.proofs.groups.columns_of.Given as goal

abbrev pub invariant-loop-element : goal.invariant-loop-element
invariant-loop-element l = columns_labels l.found.items ++ labels_of (drop l.element-index l.elements) ≡ labels_of l.elements
