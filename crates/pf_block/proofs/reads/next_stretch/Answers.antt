use Rattle.std.proofs.Common.{◌-◌, map, arith, w64}
use Rattle.std.proofs.lemmas.Int.{to_z-of_z}
use Rattle.std.specs.Arc.{arc_value}
use Rattle.pf_block.specs.Blocks.{samples_in}
use Rattle.pf_block.proofs.Reading.{behind_rises, read_rises, stretch_read, stretch_step}
use Rattle.pf_block.proofs.Series.{block_rises}
use Rattle.pf_block.proofs.Walks.{block_is, down, in_map}
use Rattle.pf_block.proofs.reads.next_stretch.Goals as goal

pub window-requires : goal.window-requires
window-requires c =
    let n = c.loop-count.count - 1 in
    block_rises c.args.id (map arc_value c.args.blocks.now) n c.deref.result.now (in_map arc_value c.args.blocks.now n (omega arith)) (block_is arc_value c.args.blocks.now n c.index-blocks-count.result c.deref.result.now (omega arith) c.index-blocks-count.is c.deref.ensures) c.requires

pub stretch_of-stretch-requires-clause-ones : goal.stretch_of-stretch-requires-clause-ones
stretch_of-stretch-requires-clause-ones c =
    let n = c.loop-count.count - 1 in
    read_rises _ _ (samples_in c.args.id c.deref.result.now) c.window.result.now c.window.ensures
    (block_rises c.args.id (map arc_value c.args.blocks.now) n c.deref.result.now (in_map arc_value c.args.blocks.now n (omega arith)) (block_is arc_value c.args.blocks.now n c.index-blocks-count.result c.deref.result.now (omega arith) c.index-blocks-count.is c.deref.ensures) c.requires)

pub stretch_of-stretch-requires-clause-others : goal.stretch_of-stretch-requires-clause-others
stretch_of-stretch-requires-clause-others c = behind_rises c.args.id c.loop-count.count (map arc_value c.args.blocks.now) _ _ c.loop-count.stretch.now c.requires c.loop-count.invariant.front

pub loop-count-preserved : goal.loop-count-preserved
loop-count-preserved c =
    let n = c.loop-count.count - 1 in
    record {
      within = omega arith;
      front = stretch_step c.args.id (map arc_value c.args.blocks.now) n c.loop-count.count c.deref.result.now (in_map arc_value c.args.blocks.now n (omega arith)) (block_is arc_value c.args.blocks.now n c.index-blocks-count.result c.deref.result.now (omega arith) c.index-blocks-count.is c.deref.ensures)
          (down c.loop-count.count (omega arith)) _ _ c.window.result.now c.window.ensures c.requires c.loop-count.stretch.now c.stretch_of-stretch.result.now c.loop-count.invariant.front c.stretch_of-stretch.ensures;
    }

pub returns-clause-left : goal.returns-clause-left
returns-clause-left c =
    stretch_read c.args.id c.loop-count.count (map arc_value c.args.blocks.now) c.loop-count.stretch.now _ _ c.args.after c.args.upto (omega arith) c.loop-count.invariant.front
    (to_z-of_z w64 c.args.after c.ranges.after) (to_z-of_z w64 c.args.upto c.ranges.upto) c.requires
