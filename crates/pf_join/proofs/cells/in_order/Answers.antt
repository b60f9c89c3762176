use Rattle.pf_base.specs.LabelOrder.{labels_cmp, labels_exact, labels_total}
use Rattle.pf_base.proofs.Sorting.{sorted_is}
use Rattle.pf_join.proofs.cells.in_order.Goals as goal

pub returns : goal.returns
returns c = sorted_is labels_cmp labels_total labels_exact _ _ c.in_ok-sort.ensures.permutation c.in_ok-sort.ensures.sorted
