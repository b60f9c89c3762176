use Rattle.std.proofs.Common.{◌∙◌, ◌++◌, ◌∷◌, [], ap, drop, refl, sym}
use Rattle.pf_query.specs.Queueing.{ring_in}
use Rattle.pf_query.proofs.Serving.{begins, served, taken, turned}
use Rattle.pf_query.proofs.queues.Queues.take.Goals as goal

pub returns-then-not-is_idle-clause-taken : goal.returns-then-not-is_idle-clause-taken
returns-then-not-is_idle-clause-taken c =
    taken c.args.self.now _ c.in_ok-tenant.tenant _ c.index_mut-queue.result.now c.take-held.new.self c.requires
    (begins _ _ c.in_ok-tenant.ensures.first) c.index_mut-queue.ensures.value refl (c.add.ensures.capacity ∙ c.take.ensures.capacity)
    (c.add.ensures.waiting ∙ ap (λ us. us ++ c.in_ok-tenant.tenant ∷ []) c.take.ensures.others
    ∙ ap (λ b. turned b c.in_ok-tenant.tenant (drop 1 (ring_in c.args.self.now))) (sym c.if-not-is_idle.true ∙ c.is_idle.ensures))
    c.args.actor c.take-held.result c.take-held.ensures

pub returns-then-not-is_idle-clause-queues : goal.returns-then-not-is_idle-clause-queues
returns-then-not-is_idle-clause-queues c =
    served c.args.self.now _ c.in_ok-tenant.tenant _ c.index_mut-queue.result.now c.take-held.new.self c.requires
    (begins _ _ c.in_ok-tenant.ensures.first) c.index_mut-queue.ensures.value refl (c.add.ensures.capacity ∙ c.take.ensures.capacity)
    (c.add.ensures.waiting ∙ ap (λ us. us ++ c.in_ok-tenant.tenant ∷ []) c.take.ensures.others
    ∙ ap (λ b. turned b c.in_ok-tenant.tenant (drop 1 (ring_in c.args.self.now))) (sym c.if-not-is_idle.true ∙ c.is_idle.ensures))

pub returns-else-not-is_idle-clause-taken : goal.returns-else-not-is_idle-clause-taken
returns-else-not-is_idle-clause-taken c =
    taken c.args.self.now _ c.in_ok-tenant.tenant _ c.index_mut-queue.result.now c.take-held.new.self c.requires
    (begins _ _ c.in_ok-tenant.ensures.first) c.index_mut-queue.ensures.value refl c.take.ensures.capacity
    (c.take.ensures.others
    ∙ ap (λ b. turned b c.in_ok-tenant.tenant (drop 1 (ring_in c.args.self.now))) (sym c.if-not-is_idle.false ∙ c.is_idle.ensures))
    c.args.actor c.take-held.result c.take-held.ensures

pub returns-else-not-is_idle-clause-queues : goal.returns-else-not-is_idle-clause-queues
returns-else-not-is_idle-clause-queues c =
    served c.args.self.now _ c.in_ok-tenant.tenant _ c.index_mut-queue.result.now c.take-held.new.self c.requires
    (begins _ _ c.in_ok-tenant.ensures.first) c.index_mut-queue.ensures.value refl c.take.ensures.capacity
    (c.take.ensures.others
    ∙ ap (λ b. turned b c.in_ok-tenant.tenant (drop 1 (ring_in c.args.self.now))) (sym c.if-not-is_idle.false ∙ c.is_idle.ensures))
