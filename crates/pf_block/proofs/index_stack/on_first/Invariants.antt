use Rattle.std.proofs.Common.{◌≡◌, map, take}
use Rattle.std.specs.Arc.{arc_value}
use Rattle.pf_block.proofs.index_stack.on_first.Given as goal

abbrev pub invariant-loop-layer : goal.invariant-loop-layer
invariant-loop-layer l = map arc_value l.stack.items ≡ take l.layer-index (map arc_value l.layers)
