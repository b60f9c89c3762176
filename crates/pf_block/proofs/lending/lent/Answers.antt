use Rattle.std.proofs.Common.{map, arith, rules}
use Rattle.std.specs.Arc.{arc_value}
use Rattle.pf_block.proofs.Series.{block_rises}
use Rattle.pf_block.proofs.Walks.{block_is, in_map, none_left}
use Rattle.pf_block.proofs.LentWindows.{first, passed}
use Rattle.pf_block.proofs.lending.lent.Goals as goal

pub window-here-requires : goal.window-here-requires
window-here-requires c =
    let k = c.loop-block.block-index in
    block_rises c.args.id (map arc_value c.args.blocks.now) k c.deref.result.now (in_map arc_value c.args.blocks.now k (omega arith))
    (block_is arc_value c.args.blocks.now k c.block-item.result c.deref.result.now (omega arith) c.block-item.is c.deref.ensures) c.requires

pub loop-block-preserved-then-is_empty : goal.loop-block-preserved-then-is_empty
loop-block-preserved-then-is_empty c =
    let k = c.loop-block.block-index in
    passed c.args.id _ _ (map arc_value c.args.blocks.now) k c.deref.result.now c.window-here.result.now _ (in_map arc_value c.args.blocks.now k (omega arith))
    (block_is arc_value c.args.blocks.now k c.block-item.result c.deref.result.now (omega arith) c.block-item.is c.deref.ensures)
    c.window-here.ensures c.requires c.loop-block.found.now (none_left c.window-here.result.now (search rules)) c.loop-block.invariant

pub loop-block-preserved : goal.loop-block-preserved
loop-block-preserved c =
    let k = c.loop-block.block-index in
    first c.args.id _ _ (map arc_value c.args.blocks.now) k c.deref.result.now c.window-here.result.now _ (in_map arc_value c.args.blocks.now k (omega arith))
    (block_is arc_value c.args.blocks.now k c.block-item.result c.deref.result.now (omega arith) c.block-item.is c.deref.ensures)
    c.window-here.ensures c.requires c.loop-block.found.now (none_left c.loop-block.found.now (search rules)) c.loop-block.invariant
