use Rattle.std.proofs.Common.{map, refl, arith}
use Rattle.std.specs.Arc.{arc_value}
use Rattle.pf_block.specs.Layers.{cut_by}
use Rattle.pf_block.proofs.Series.{block_rises}
use Rattle.pf_block.proofs.Walks.{block_is, in_map, push_cut}
use Rattle.pf_block.proofs.stack.cut_blocks.Goals as goal

pub cut_block-requires-clause-rises : goal.cut_block-requires-clause-rises
cut_block-requires-clause-rises c = λ id.
    let k = c.loop-block.block-index in
    block_rises id (map arc_value c.args.blocks.now) k (arc_value c.block-item.result) (in_map arc_value c.args.blocks.now k (omega arith))
    (block_is arc_value c.args.blocks.now k c.block-item.result (arc_value c.block-item.result) (omega arith) c.block-item.is refl) (c.requires.rises id)

pub loop-block-preserved : goal.loop-block-preserved
loop-block-preserved c =
    push_cut arc_value (cut_by c.args.series.now _ _) c.args.blocks.now c.loop-block.left.items c.push.new.self.items c.loop-block.block-index c.in_ok-cut_block.field-0 c.block-item.result
    c.in_ok-push.ensures.items c.loop-block.invariant c.in_ok-cut_block.ensures c.block-item.is (omega arith)
