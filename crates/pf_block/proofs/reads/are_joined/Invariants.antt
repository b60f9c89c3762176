use Rattle.std.proofs.Common.{◌≡◌, ◌≤◌, true, length, map, drop}
use Rattle.std.specs.Arc.{arc_value}
use Rattle.pf_block.specs.Samples.{rises}
use Rattle.pf_block.specs.Stacks.{joined_in}
use Rattle.pf_block.proofs.Stretches.{IsFront}
use Rattle.pf_block.proofs.reads.are_joined.Given as goal

abbrev pub invariant-loop-count : goal.invariant-loop-count
invariant-loop-count l = record {
  within : l.count ≤ length l.blocks;
  front : IsFront l.behind (joined_in l.id (drop l.count (map arc_value l.blocks)));
  rises : rises (joined_in l.id (drop l.count (map arc_value l.blocks))) ≡ true;
}

abbrev pub decreases-loop-count : goal.decreases-loop-count
decreases-loop-count l = l.count
