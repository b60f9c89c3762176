use Rattle.std.proofs.Common.{drop, map}
use Rattle.std.specs.Arc.{arc_value}
use Rattle.pf_block.specs.Samples.{window_of}
use Rattle.pf_block.specs.Stacks.{series_in}
use Rattle.pf_block.proofs.LentWindows.{IsAllBefore}
use Rattle.pf_block.proofs.lending.lent.Given as goal

abbrev pub invariant-loop-block : goal.invariant-loop-block
invariant-loop-block l =
    IsAllBefore l.found (window_of (series_in l.id (drop l.block-index (map arc_value l.blocks))) l.after l.upto) (window_of (series_in l.id (map arc_value l.blocks)) l.after l.upto)
