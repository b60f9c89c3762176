use Rattle.std.proofs.Common.{◌≡◌, ℕ, ◌-◌, ◌<◌, ◌≤◌, true, false, length, map, get_or}
use Rattle.std.specs.Arc.{arc_value}
use Rattle.std.specs.Ordering.{is_gt}
use Rattle.pf_block.specs.IndexStacks.{joined}
use Rattle.pf_block.specs.LabelOrders.{ids_cmp}
use Rattle.pf_block.proofs.interleaving.count_before.Given as goal

abbrev pub invariant-loop-low : goal.invariant-loop-low
invariant-loop-low l = record {
  order : l.low ≤ l.high;
  within : l.high ≤ length l.ids;
  before : (k : ℕ) → k < l.low → is_gt (ids_cmp (joined (map arc_value l.layers)) l.id (get_or l.ids k 0)) ≡ true;
  behind : (k : ℕ) → l.high ≤ k → k < length l.ids → is_gt (ids_cmp (joined (map arc_value l.layers)) l.id (get_or l.ids k 0)) ≡ false;
}

abbrev pub decreases-loop-low : goal.decreases-loop-low
decreases-loop-low l = l.high - l.low
