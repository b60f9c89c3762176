use Rattle.std.proofs.Common.{◌∙◌, ap, refl, sym}
use Rattle.pf_query.specs.Jobs.{is_empty}
use Rattle.pf_query.proofs.Changing.{entered, full_last}
use Rattle.pf_query.proofs.queues.Queues.put_back.Goals as goal

pub returns-then-enters-clause-queues : goal.returns-then-enters-clause-queues
returns-then-enters-clause-queues c =
    entered c.args.self.now _ c.args.held.head.tenant c.index_mut-queue.result.now c.put_back-found.new.self c.requires.queues
    c.if-tenant-ge-MOST_TENANTS.false c.index_mut-queue.ensures.value refl c.add.ensures.capacity
    (sym c.is_idle-enters.ensures ∙ c.if-enters.true)
    (ap (λ d. is_empty d.waiting) (c.put_back-found.ensures.back c.if-found.true) ∙ full_last c.index_mut-queue.result.now.waiting _)
    c.add.ensures.waiting
