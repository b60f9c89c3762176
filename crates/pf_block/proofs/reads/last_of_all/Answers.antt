use Rattle.std.proofs.Common.{◌-◌, map, ◌∙◌, arith}
use Rattle.std.specs.Arc.{arc_value}
use Rattle.pf_block.proofs.Reading.{last_step}
use Rattle.pf_block.proofs.Series.{block_rises}
use Rattle.pf_block.proofs.Walks.{block_is, down, in_map}
use Rattle.pf_block.proofs.reads.last_of_all.Goals as goal

pub window-requires : goal.window-requires
window-requires c =
    let n = c.loop-count.count - 1 in
    block_rises c.args.id (map arc_value c.args.blocks.now) n c.deref.result.now (in_map arc_value c.args.blocks.now n (omega arith)) (block_is arc_value c.args.blocks.now n c.index-blocks-count.result c.deref.result.now (omega arith) c.index-blocks-count.is c.deref.ensures) c.requires

pub loop-count-preserved : goal.loop-count-preserved
loop-count-preserved c =
    let n = c.loop-count.count - 1 in
    record {
      within = omega arith;
      last = last_step c.args.id (map arc_value c.args.blocks.now) n c.loop-count.count c.deref.result.now (in_map arc_value c.args.blocks.now n (omega arith)) (block_is arc_value c.args.blocks.now n c.index-blocks-count.result c.deref.result.now (omega arith) c.index-blocks-count.is c.deref.ensures)
          (down c.loop-count.count (omega arith)) _ _ c.window.result.now c.window.ensures c.requires _ _ _ (c.copied.ensures ∙ c.last.ensures.value) c.loop-count.invariant.last c.later-last.ensures;
    }
