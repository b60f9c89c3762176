use Rattle.std.proofs.Common.{◌-◌, map, sym, ◌∙◌, arith, w64}
use Rattle.std.proofs.lemmas.Grind.{common_steps}
use Rattle.std.proofs.lemmas.Int.{to_z-of_z}
use Rattle.std.specs.Arc.{arc_value}
use Rattle.pf_block.specs.Stacks.{joined_in}
use Rattle.pf_block.proofs.Walks.{block_is, block_rises, down, in_map, last_before, last_here, last_same, same_window}
use Rattle.pf_block.proofs.reads.last_joined.Goals as goal

pub window-requires : goal.window-requires
window-requires c =
    let n = c.loop-count.count - 1 in
    block_rises c.args.id (map arc_value c.args.blocks.now) n c.deref.result.now (in_map arc_value c.args.blocks.now n (omega arith))
    (block_is arc_value c.args.blocks.now n c.index-blocks-count.result c.deref.result.now (omega arith) c.index-blocks-count.is c.deref.ensures) c.requires

pub returns-in-Some : goal.returns-in-Some
returns-in-Some c =
    let n = c.loop-count.count - 1 in
    let bs = map arc_value c.args.blocks.now in
    let here = last_here c.args.id _ _ bs n c.deref.result.now (in_map arc_value c.args.blocks.now n (omega arith))
    (block_is arc_value c.args.blocks.now n c.index-blocks-count.result c.deref.result.now (omega arith) c.index-blocks-count.is c.deref.ensures) c.window.result.now c.window.ensures c.in-Some.sample.now c.in-Some.ensures.value in
    sym (last_same c.args.id bs c.loop-count.count n _ _ _ (down c.loop-count.count (omega arith)) here) ∙ c.loop-count.invariant.same
    ∙ same_window (joined_in c.args.id bs) _ _ c.args.after c.args.upto (to_z-of_z w64 c.args.after c.ranges.after) (to_z-of_z w64 c.args.upto c.ranges.upto)

pub loop-count-preserved : goal.loop-count-preserved
loop-count-preserved c =
    let n = c.loop-count.count - 1 in
    let bs = map arc_value c.args.blocks.now in
    let before = last_before c.args.id _ _ bs n c.deref.result.now (in_map arc_value c.args.blocks.now n (omega arith))
    (block_is arc_value c.args.blocks.now n c.index-blocks-count.result c.deref.result.now (omega arith) c.index-blocks-count.is c.deref.ensures) c.window.result.now c.window.ensures c.in_default.ensures.value in
    record {
      within = omega arith;
      same = sym (last_same c.args.id bs c.loop-count.count n _ _ _ (down c.loop-count.count (omega arith)) before) ∙ c.loop-count.invariant.same;
    }

pub returns : goal.returns
returns c = grind (arith, common_steps)
