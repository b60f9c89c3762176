use Rattle.std.proofs.Common.{◌≡◌, ◌++◌, true, length, map}
use Rattle.std.specs.Arc.{arc_value}
use Rattle.pf_block.specs.Samples.{rises, window_of}
use Rattle.pf_block.specs.Stacks.{joined_in}
use Rattle.pf_block.proofs.window.first_joined.Given as goal

abbrev pub invariant-loop-rest : goal.invariant-loop-rest
invariant-loop-rest l = record {
  left : l.rest ++ window_of (joined_in l.id (map arc_value l.more)) l.after l.upto ≡ window_of (joined_in l.id (map arc_value l.fn.more)) l.after l.upto;
  rises : rises (joined_in l.id (map arc_value l.more)) ≡ true;
}

abbrev pub decreases-loop-rest : goal.decreases-loop-rest
decreases-loop-rest l = length l.more
