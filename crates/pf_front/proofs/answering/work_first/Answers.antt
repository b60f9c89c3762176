-- A job that was taken and worked on.
use Rattle.pf_front.proofs.Tries.{taken_begun, taken_works}
use Rattle.pf_front.proofs.answering.work_first.Goals as goal

pub returns-clause-works : goal.returns-clause-works
returns-clause-works g c =
    taken_works c.args.core.now c.args.actor c.in-Some.held c.take.new.self c.in-Some.ensures.taken _ _ c.work-worked.result c.work-worked.new.core c.requires.idle c.work-worked.ensures.worked

pub returns-clause-begun : goal.returns-clause-begun
returns-clause-begun g c =
    taken_begun c.args.core.now c.args.actor c.in-Some.held c.take.new.self c.in-Some.ensures.taken _ _ c.work-worked.result c.work-worked.new.core c.work-worked.ensures.worked
