use Rattle.std.proofs.Common.{◌∙◌, ◌++◌, ◌∷◌, [], ap, refl, sym}
use Rattle.pf_query.specs.Jobs.{hand_of, held_of}
use Rattle.pf_query.proofs.queue.Queue.take.Goals as goal

pub returns : goal.returns
returns c = record {
  job = c.in_ok-job.job;
  waiting = ap (λ s. s.waiting) (sym c.self.view_is) ∙ c.in_ok-job.ensures.items;
  held_is = refl;
  hands = c.push_reserved.ensures.items ∙ ap (λ s. s.hands ++ hand_of (held_of c.args.actor c.in_ok-job.job) ∷ []) c.self.view_is;
}
