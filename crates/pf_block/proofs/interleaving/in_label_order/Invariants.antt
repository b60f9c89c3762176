use Rattle.std.proofs.Common.{◌≡◌, ℕ, ◌<◌, ◌≤◌, length, map, take, drop, get_or}
use Rattle.std.specs.Arc.{arc_value}
use Rattle.pf_block.specs.IndexStacks.{joined}
use Rattle.pf_block.specs.LabelOrders.{in_label_order}
use Rattle.pf_block.proofs.interleaving.in_label_order.Given as goal

abbrev pub invariant-loop-place : goal.invariant-loop-place
invariant-loop-place l = record {
  within : l.place ≤ length l.layers;
  inside : l.end ≤ length l.ids;
  first : l.first ≡ length (joined (take l.place (map arc_value l.layers)));
  below : (k : ℕ) → k < l.end → get_or l.ids k 0 < l.first;
  found : l.found.items ≡ in_label_order (joined (map arc_value l.layers)) (drop l.end l.ids);
}

abbrev pub decreases-loop-place : goal.decreases-loop-place
decreases-loop-place l = l.place
