-- The matrix of cells, or that memory ran out.
use Rattle.pf_front.proofs.Settled.{settled_matrix, settled_starved}
use Rattle.pf_front.proofs.answering.settled_by_cells.Goals as goal

pub returns-in_default-clause-works : goal.returns-in_default-clause-works
returns-in_default-clause-works c =
    (settled_starved c.args.core.now c.args.query c.lack_query.new.self c.requires.evaluable c.lack_query.ensures.stands c.lack_query.ensures.lacked).0

pub returns-in_default-clause-settled : goal.returns-in_default-clause-settled
returns-in_default-clause-settled c =
    (settled_starved c.args.core.now c.args.query c.lack_query.new.self c.requires.evaluable c.lack_query.ensures.stands c.lack_query.ensures.lacked).1

pub returns-clause-settled : goal.returns-clause-settled
returns-clause-settled c =
    settled_matrix c.args.core.now c.offer.new.core c.args.query c.in-Ok.matrix c.offer.ensures.works c.offer.ensures.offered c.offer.ensures.stands c.in-Ok.ensures
