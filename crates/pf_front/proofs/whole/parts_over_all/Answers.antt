-- One run more.
use Rattle.pf_front.proofs.WholeGrid.{all_more}
use Rattle.pf_front.proofs.whole.parts_over_all.Goals as goal

pub loop-run-preserved : goal.loop-run-preserved
loop-run-preserved c =
    all_more c.args.legs.now c.args.snap.now c.args.runs.now c.loop-run.run-index c.run-item.result c.loop-run.parts.items c.in_ok-own.own.items c.append.new.self.items
    c.loop-run-test.true c.run-item.is c.in_ok-append.ensures.items c.loop-run.invariant c.in_ok-own.ensures
