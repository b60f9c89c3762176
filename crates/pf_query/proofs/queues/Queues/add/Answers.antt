use Rattle.std.proofs.Common.{◌∙◌, ap, refl, sym}
use Rattle.pf_query.specs.Jobs.{is_empty}
use Rattle.pf_query.proofs.Changing.{entered, full_behind, some}
use Rattle.pf_query.proofs.queues.Queues.add.Goals as goal
use Rattle.pf_query.proofs.queues.Queues.add.Goals.{then-is_idle, else-is_idle}

pub returns-then-enters-clause-queues : goal.returns-then-enters-clause-queues
returns-then-enters-clause-queues c =
    elim c.if-is_idle.branch [
      | then-is_idle w ↦
          entered c.args.self.now _ c.args.tenant c.index_mut-queue.result.now c.add.new.self c.requires.queues c.requires.known
          c.index_mut-queue.ensures.value refl c.add-then-enters.ensures.capacity (sym c.is_idle.ensures ∙ w.if-is_idle.true)
          (ap (λ d. is_empty d.waiting) c.in_ok-add.ensures.ok
          ∙ full_behind c.index_mut-queue.result.now.waiting c.args.jobs.items
          (some _ _ _ _ w.is_empty.ensures w.enters-is c.if-enters.true c.args.jobs.ok.0)) c.add-then-enters.ensures.waiting
      | else-is_idle w ↦ absurd cc
    ]
