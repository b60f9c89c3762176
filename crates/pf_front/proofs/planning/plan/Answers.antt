-- A plan for which memory ran out.
use Rattle.pf_front.proofs.Plans.{starved_works}
use Rattle.pf_front.proofs.planning.plan.Goals as goal

pub returns-in-Err-OutOfMemory-clause-works : goal.returns-in-Err-OutOfMemory-clause-works
returns-in-Err-OutOfMemory-clause-works c =
    starved_works c.args.core.now c.try_plan.new.core c.args.query c.lack_query.new.self c.requires
    (rw c.in-Err-OutOfMemory.field-0-is at c.in-Err-OutOfMemory.ensures).err c.lack_query.ensures.lacked
