use Rattle.std.proofs.Common.{arith}
use Rattle.std.proofs.lemmas.Grind.{common_steps}
use Rattle.pf_query.proofs.queues.Queues.drop_hands.Goals as goal

pub returns-clause-dropped : goal.returns-clause-dropped
returns-clause-dropped c = grind (arith, common_steps)

pub returns-clause-tries : goal.returns-clause-tries
returns-clause-tries c = grind (arith, common_steps)

pub returns-clause-queues : goal.returns-clause-queues
returns-clause-queues c = grind (arith, common_steps)
