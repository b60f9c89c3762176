use Rattle.std.proofs.Common.{◌+◌, ◌≡◌, refl, arith}
use Rattle.pf_queue.proofs.Rings.{opened, ring_at, unlinked_more, unlinked_none, waiting_is}
use Rattle.pf_queue.proofs.ring.Ring.open.Goals as goal

pub loop-tenant-init : goal.loop-tenant-init
loop-tenant-init c = record {
  behind = unlinked_none _ _ c.in_ok-next.ensures.items;
  before = unlinked_none _ _ c.in_ok-previous.ensures.items;
}

pub loop-tenant-preserved : goal.loop-tenant-preserved
loop-tenant-preserved c = record {
  behind = unlinked_more _ _ _ _ c.loop-tenant.invariant.behind c.loop-tenant-test.true c.in_ok-push.ensures.items;
  before = unlinked_more _ _ _ _ c.loop-tenant.invariant.before c.loop-tenant-test.true c.in_ok-push-2.ensures.items;
}

pub invariant_of-result : goal.invariant_of-result
invariant_of-result c =
    let all : c.loop-tenant.tenant ≡ c.args.capacity + 1 = omega (arith, c.loop-tenant-test.false, c.loop-tenant.auto.tenant-end) in
    ring_at _ _ _ _ (opened _ _ _ _ c.loop-tenant.invariant.behind c.loop-tenant.invariant.before all)

pub returns : goal.returns
returns c =
    let all : c.loop-tenant.tenant ≡ c.args.capacity + 1 = omega (arith, c.loop-tenant-test.false, c.loop-tenant.auto.tenant-end) in
    (refl, waiting_is _ _ _ _ (opened _ _ _ _ c.loop-tenant.invariant.behind c.loop-tenant.invariant.before all))
