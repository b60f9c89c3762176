use Rattle.std.proofs.Common.{◌≡◌, ◌≤◌, length, map, take}
use Rattle.std.specs.Arc.{arc_value}
use Rattle.pf_block.specs.Samples.{last_of, window_of}
use Rattle.pf_block.specs.Stacks.{joined_in}
use Rattle.pf_block.proofs.reads.last_joined.Given as goal

abbrev pub invariant-loop-count : goal.invariant-loop-count
invariant-loop-count l = record {
  within : l.count ≤ length l.blocks;
  same : last_of (window_of (joined_in l.id (take l.count (map arc_value l.blocks))) l.after l.upto) ≡ last_of (window_of (joined_in l.id (map arc_value l.blocks)) l.after l.upto);
}

abbrev pub decreases-loop-count : goal.decreases-loop-count
decreases-loop-count l = l.count
