use Rattle.pf_query.proofs.Changing.{none_waited}
use Rattle.pf_query.proofs.queues.Queues.drop_some_waiting.Goals as goal

pub returns-else-some-clause-dropped : goal.returns-else-some-clause-dropped
returns-else-some-clause-dropped c = none_waited c.args.self.now c.args.tenant c.args.query c.requires.queues (c.requires.none c.if-some.false)
