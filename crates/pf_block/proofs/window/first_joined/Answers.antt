use Rattle.std.proofs.Common.{rules}
use Rattle.std.specs.Arc.{arc_value}
use Rattle.pf_block.proofs.Walks.{none_left, walk_behind, walk_first, walk_on}
use Rattle.pf_block.proofs.window.first_joined.Goals as goal

pub window-rest-requires : goal.window-rest-requires
window-rest-requires c = walk_first arc_value c.args.id c.loop-rest.more.now c.in-Some.behind.now c.in-Some.block.now c.deref.result.now c.in-Some.ensures.cases.0 c.deref.ensures c.loop-rest.invariant.rises

pub loop-rest-preserved : goal.loop-rest-preserved
loop-rest-preserved c = record {
  left = walk_on arc_value c.args.id c.loop-rest.more.now c.in-Some.behind.now c.in-Some.block.now c.deref.result.now c.in-Some.ensures.cases.0 c.deref.ensures _ _ c.loop-rest.rest.now c.window-rest.result.now _
      (none_left c.loop-rest.rest.now (search rules)) c.window-rest.ensures c.loop-rest.invariant.left;
  rises = walk_behind arc_value c.args.id c.loop-rest.more.now c.in-Some.behind.now c.in-Some.block.now c.deref.result.now c.in-Some.ensures.cases.0 c.deref.ensures c.loop-rest.invariant.rises;
}
