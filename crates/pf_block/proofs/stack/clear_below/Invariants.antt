use Rattle.std.proofs.Common.{◌≤◌, length, map}
use Rattle.std.specs.Arc.{arc_value}
use Rattle.pf_block.proofs.Walks.{AreBefore}
use Rattle.pf_block.proofs.stack.clear_below.Given as goal

abbrev pub invariant-loop-count : goal.invariant-loop-count
invariant-loop-count l = record {
  within : l.count ≤ length l.blocks;
  inside : l.clear ≤ length l.blocks;
  passed : AreBefore l.id l.time (map arc_value l.blocks) l.count → AreBefore l.id l.time (map arc_value l.blocks) l.clear;
}

abbrev pub decreases-loop-count : goal.decreases-loop-count
decreases-loop-count l = l.count
