use Rattle.std.proofs.Common.{◌∙◌, ap, refl, sym}
use Rattle.pf_query.specs.Jobs.{is_other_job}
use Rattle.pf_query.proofs.Changing.{fewer, left}
use Rattle.pf_query.proofs.queues.Queues.drop_waiting.Goals as goal

pub returns-then-is_idle-clause-queues : goal.returns-then-is_idle-clause-queues
returns-then-is_idle-clause-queues c =
    left c.args.self.now _ c.args.tenant c.index_mut-queue.result.now c.drop_waiting.new.self c.requires.queues c.requires.known
    c.index_mut-queue.ensures.value refl c.leave.ensures.capacity (sym c.is_idle.ensures ∙ c.if-is_idle.true) c.leave.ensures.waiting

pub returns-else-is_idle-clause-tries : goal.returns-else-is_idle-clause-tries
returns-else-is_idle-clause-tries c =
    fewer c.args.self.now c.args.tenant c.index_mut-queue.result.now c.drop_waiting.new.self c.requires.queues c.requires.known
    c.index_mut-queue.ensures.value (is_other_job c.args.query) (ap (λ d. d.waiting) c.drop_waiting.ensures)
