use Rattle.pf_queue.proofs.Rings.{IsUnlinked}
use Rattle.pf_queue.proofs.ring.Ring.open.Given as goal

abbrev pub invariant-loop-tenant : goal.invariant-loop-tenant
invariant-loop-tenant l = record {
  behind : IsUnlinked l.next.items l.tenant l.capacity;
  before : IsUnlinked l.previous.items l.tenant l.capacity;
}
