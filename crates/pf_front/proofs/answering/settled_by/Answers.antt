-- An error, or that memory ran out.
use Rattle.pf_front.proofs.Settled.{settled_failed, settled_starved}
use Rattle.pf_front.proofs.answering.settled_by.Goals as goal

pub returns-in-Ok-Failed-clause-settled : goal.returns-in-Ok-Failed-clause-settled
returns-in-Ok-Failed-clause-settled c =
    let found = rw c.in-Ok-Failed.is at c.requires.found in
    settled_failed c.args.core.now c.args.query c.in-Ok-Failed.step c.in-Ok-Failed.kind c.requires.evaluable c.requires.stands (rw c.in-Ok-Failed.field-0-is at found)

pub returns-in-Err-clause-works : goal.returns-in-Err-clause-works
returns-in-Err-clause-works c =
    (settled_starved c.args.core.now c.args.query c.lack_query.new.self c.requires.evaluable c.lack_query.ensures.stands c.lack_query.ensures.lacked).0

pub returns-in-Err-clause-settled : goal.returns-in-Err-clause-settled
returns-in-Err-clause-settled c =
    (settled_starved c.args.core.now c.args.query c.lack_query.new.self c.requires.evaluable c.lack_query.ensures.stands c.lack_query.ensures.lacked).1
