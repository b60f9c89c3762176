use Rattle.std.proofs.Common.{◌≡◌, ◌+◌, map, take, get_or}
use Rattle.pf_block.specs.LabelOrders.{ids_by_label}
use Rattle.pf_block.proofs.ordering.ids_at.Given as goal

abbrev pub invariant-loop-rank : goal.invariant-loop-rank
invariant-loop-rank l = l.ids.items ≡ map (λ rank. l.first + get_or (ids_by_label l.layer) rank 0) (take l.rank-index l.ranks)
