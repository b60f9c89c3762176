use Rattle.std.proofs.Common.{◌≡◌, ◌++◌, map, take}
use Rattle.std.specs.Arc.{arc_value}
use Rattle.pf_block.specs.IndexStacks.{joined}
use Rattle.pf_block.proofs.index_stack.merged.Given as goal

abbrev pub invariant-loop-layer : goal.invariant-loop-layer
invariant-loop-layer l = l.index ≡ l.initial.index ++ joined (take l.layer-index (map arc_value l.newer))
