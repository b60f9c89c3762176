-- What is ordered by its labels is totally ordered.
use Rattle.std.proofs.Common.{Bool}
use Rattle.std.specs.Cmp.{IsTotalOrder, IsStrictWeakOrder}
use Rattle.std.proofs.lemmas.List.MinMax.{ranks_by}
use Rattle.std.specs.Ordering.{is_lt}
use Rattle.pf_base.specs.LabelSets.{Pairs}
use Rattle.pf_base.specs.LabelOrder.{labels_cmp, labels_total}
use Rattle.pf_model.specs.Cells.{element_cmp}
use Rattle.pf_columns.specs.Columns.{ColumnData}
use Rattle.pf_columns.specs.Steps.{column_cmp}

by_labels : {X : Type 0} (labels : X → Pairs) → IsTotalOrder (λ x y. labels_cmp (labels x) (labels y))
by_labels labels = record {
  antisymm = λ x y. labels_total.antisymm (labels x) (labels y);
  trans = λ x y z. labels_total.trans (labels x) (labels y) (labels z);
  congr = λ x y z. labels_total.congr (labels x) (labels y) (labels z);
}

pub element_total : IsTotalOrder element_cmp
element_total = by_labels (λ e. e.labels)

pub column_total : IsTotalOrder column_cmp
column_total = by_labels (λ c. c.labels)

abbrev pub column_lt : ColumnData → ColumnData → Bool
column_lt c d = is_lt (column_cmp c d)

pub column_weak : IsStrictWeakOrder column_lt
column_weak = ranks_by labels_total (λ c. c.labels)
