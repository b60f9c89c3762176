-- A query is planned, worked off and settled.
use Rattle.pf_front.proofs.Plans.{begun_after}
use Rattle.pf_front.proofs.Settled.{answered_behind, parted}
use Rattle.pf_front.proofs.Tries.{works_trans}
use Rattle.pf_front.proofs.answering.answer.Goals as goal

pub work_all-told-requires-clause-begun : goal.work_all-told-requires-clause-begun
work_all-told-requires-clause-begun g c =
    begun_after c.args.core.now c.args.query c.plan-planned.result c.plan-planned.new.core c.requires.open c.plan-planned.ensures.stands
    c.plan-planned.ensures.ok c.plan-planned.ensures.err

pub settle-requires-clause-told : goal.settle-requires-clause-told
settle-requires-clause-told g c =
    (parted c.plan-planned.new.core c.args.query c.work_all-told.result c.work_all-told.new.core c.work_all-told.ensures.told).1

pub returns-clause-answered : goal.returns-clause-answered
returns-clause-answered g c =
    let worked = (parted c.plan-planned.new.core c.args.query c.work_all-told.result c.work_all-told.new.core c.work_all-told.ensures.told).0 in
    let works = works_trans c.args.core.now c.plan-planned.new.core c.work_all-told.new.core c.plan-planned.ensures.works worked in
    answered_behind c.args.core.now c.work_all-told.new.core c.args.by c.args.query c.settle.result c.settle.new.core works c.settle.ensures.answered
