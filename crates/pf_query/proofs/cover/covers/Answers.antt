use Rattle.pf_query.proofs.Covering.{covers_all}
use Rattle.pf_query.proofs.cover.covers.Goals as goal

pub returns : goal.returns
returns c =
    covers_all c.args.runs.now c.args.cells.now c.loop-done.from c.loop-done.done-index c.loop-done.invariant.within c.loop-done-test.false
    c.loop-done.invariant.rest
