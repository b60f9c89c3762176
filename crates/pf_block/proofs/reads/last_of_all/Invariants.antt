use Rattle.std.proofs.Common.{◌≡◌, ◌≤◌, length, map, drop}
use Rattle.std.specs.Arc.{arc_value}
use Rattle.pf_block.specs.Samples.{last_of, window_of}
use Rattle.pf_block.specs.Stacks.{series_in}
use Rattle.pf_block.proofs.reads.last_of_all.Given as goal

abbrev pub invariant-loop-count : goal.invariant-loop-count
invariant-loop-count l = record {
  within : l.count ≤ length l.blocks;
  last : l.last ≡ last_of (window_of (series_in l.id (drop l.count (map arc_value l.blocks))) l.after l.upto);
}

abbrev pub decreases-loop-count : goal.decreases-loop-count
decreases-loop-count l = l.count
