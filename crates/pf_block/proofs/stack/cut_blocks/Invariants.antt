use Rattle.std.proofs.Common.{◌≡◌, map, take}
use Rattle.std.specs.Arc.{arc_value}
use Rattle.pf_block.specs.Layers.{cut_by}
use Rattle.pf_block.proofs.stack.cut_blocks.Given as goal

abbrev pub invariant-loop-block : goal.invariant-loop-block
invariant-loop-block l = map arc_value l.left.items ≡ take l.block-index (map (cut_by l.series l.from l.to) (map arc_value l.blocks))
