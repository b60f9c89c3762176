use Rattle.std.proofs.Common.{◌≡◌, ◌<◌, length, map}
use Rattle.std.specs.Arc.{arc_value}
use Rattle.std.specs.List.{All}
use Rattle.pf_block.specs.IndexStacks.{joined}
use Rattle.pf_block.specs.LabelOrders.{in_label_order}
use Rattle.pf_block.proofs.Interleaved.{placed_so_far}
use Rattle.pf_block.proofs.interleaving.placed.Given as goal

abbrev pub invariant-loop-id : goal.invariant-loop-id
invariant-loop-id l = record {
  placed : placed_so_far (joined (map arc_value l.layers)) l.few l.many l.id-index l.found.items l.rest;
  ordered : l.rest ≡ in_label_order (joined (map arc_value l.layers)) l.rest;
  within : All (λ i. i < length (joined (map arc_value l.layers))) l.rest;
}
