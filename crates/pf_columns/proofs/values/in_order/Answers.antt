use Rattle.std.specs.Ordering.{int_cmp}
use Rattle.std.proofs.lemmas.Cmp.{int_cmp_total}
use Rattle.pf_base.proofs.Sorting.{sorted_is}
use Rattle.pf_columns.proofs.Ways.{value_exact}
use Rattle.pf_columns.proofs.values.in_order.Goals as goal

pub returns : goal.returns
returns c = sorted_is int_cmp int_cmp_total value_exact _ _ c.in_ok-sort.ensures.permutation c.in_ok-sort.ensures.sorted
