use Rattle.std.proofs.Common.{◌≡◌, ◌≤◌, length, map, drop}
use Rattle.std.specs.Arc.{arc_value}
use Rattle.pf_block.specs.Stacks.{merged_into}
use Rattle.pf_block.proofs.stack.stacked.Given as goal

abbrev pub invariant-loop-count : goal.invariant-loop-count
invariant-loop-count l = record {
  within : l.count ≤ length l.blocks;
  same : l.top ≡ merged_into (drop l.count (map arc_value l.blocks)) l.fn.block;
}

abbrev pub decreases-loop-count : goal.decreases-loop-count
decreases-loop-count l = l.count
