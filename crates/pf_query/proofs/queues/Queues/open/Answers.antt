use Rattle.std.proofs.Common.{arith}
use Rattle.pf_query.proofs.Changing.{blank_more, blank_none, opened}
use Rattle.pf_query.proofs.queues.Queues.open.Goals as goal

pub loop-tenant-init : goal.loop-tenant-init
loop-tenant-init c = blank_none _ c.in_ok-by_tenant.ensures.items

pub loop-tenant-preserved : goal.loop-tenant-preserved
loop-tenant-preserved c = blank_more _ _ _ _ c.loop-tenant.invariant c.new.ensures c.in_ok-push.ensures.items

pub returns-clause-empty : goal.returns-clause-empty
returns-clause-empty c =
    (opened (record { by_tenant = c.loop-tenant.by_tenant; ring = c.in_ok-open.field-0 }) _ c.loop-tenant.invariant (omega arith)
    c.in_ok-open.ensures.0 c.in_ok-open.ensures.1).0

pub returns-clause-queues : goal.returns-clause-queues
returns-clause-queues c =
    (opened (record { by_tenant = c.loop-tenant.by_tenant; ring = c.in_ok-open.field-0 }) _ c.loop-tenant.invariant (omega arith)
    c.in_ok-open.ensures.0 c.in_ok-open.ensures.1).1
