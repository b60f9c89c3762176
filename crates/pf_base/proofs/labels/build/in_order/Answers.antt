use Rattle.pf_base.specs.LabelOrder.{pair_cmp, pair_total}
use Rattle.pf_base.proofs.StableSorting.{stable_sorted_is}
use Rattle.pf_base.proofs.labels.build.in_order.Goals as goal

pub returns : goal.returns
returns c = stable_sorted_is pair_cmp pair_total _ _ c.in_ok-sort.ensures.sorted c.in_ok-sort.ensures.stable
