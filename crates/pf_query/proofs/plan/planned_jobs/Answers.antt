use Rattle.std.proofs.Common.{◌∙◌, ap}
use Rattle.std.specs.Arc.{arc_value}
use Rattle.pf_query.specs.Works.{legs_in}
use Rattle.pf_query.proofs.Moving.{jobs_next}
use Rattle.pf_query.proofs.plan.planned_jobs.Goals as goal

pub loop-number-preserved : goal.loop-number-preserved
loop-number-preserved c =
    let both = jobs_next c.args.tenant c.args.query (arc_value c.args.legs.now) c.args.runs.now c.leg_count-count.result c.index-runs-number.result c.loop-number.number
    (arc_value c.args.snap.now) c.in_ok-planned_job.field-0 c.loop-number.jobs.items c.push.new.self.items
    c.loop-number.invariant.each c.loop-number.invariant.many c.in_ok-planned_job.ensures
    (c.leg_count-count.ensures.value ∙ ap legs_in c.deref.ensures) c.loop-number-test.true c.index-runs-number.is c.in_ok-push.ensures.items in
    record { many = both.0; each = both.1 }
