use Rattle.pf_query.proofs.Changing.{AreBlank}
use Rattle.pf_query.proofs.queues.Queues.open.Given as goal

abbrev pub invariant-loop-tenant : goal.invariant-loop-tenant
invariant-loop-tenant l = AreBlank l.by_tenant.items l._tenant
