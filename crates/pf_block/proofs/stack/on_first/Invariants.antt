use Rattle.std.proofs.Common.{◌≡◌, map, take}
use Rattle.std.specs.Arc.{arc_value}
use Rattle.pf_block.proofs.stack.on_first.Given as goal

abbrev pub invariant-loop-block : goal.invariant-loop-block
invariant-loop-block l = map arc_value l.stack.items ≡ take l.block-index (map arc_value l.blocks)
