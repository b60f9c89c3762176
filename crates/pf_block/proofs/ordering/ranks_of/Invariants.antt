use Rattle.std.proofs.Common.{◌≡◌, ◌+◌, ◌<◌, length, map, take, get_or}
use Rattle.std.specs.List.{All}
use Rattle.pf_block.specs.LabelOrders.{ids_by_label}
use Rattle.pf_block.proofs.ordering.ranks_of.Given as goal

abbrev pub invariant-loop-id : goal.invariant-loop-id
invariant-loop-id l = record {
  within : All (λ rank. rank < length l.layer) l.ranks.items;
  places : map (λ rank. l.first + get_or (ids_by_label l.layer) rank 0) l.ranks.items ≡ take l.id-index l.ids;
}
