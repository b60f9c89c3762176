use Rattle.std.proofs.Common.{◌∙◌, ◌+◌, refl, sym}
use Rattle.pf_query.specs.Jobs.{hand_of, job_of_held}
use Rattle.pf_query.proofs.Hands.{behind, gone, queue_of, stays}
use Rattle.pf_query.proofs.queue.Queue.put_back.Goals as goal

pub returns-in-None : goal.returns-in-None
returns-in-None c =
    let r =
    stays c.self.inside.waiting.items c.self.inside.hands.items _ c.self.view_is _ (hand_of c.args.held) _ c.hand.ensures
    c.deref.ensures.value (sym c.in-None.is ∙ c.place_of.ensures) in record {
      found = sym r.0;
      back = λ e. absurd cc;
      unchanged = λ e. refl;
    }

pub returns-in-Some : goal.returns-in-Some
returns-in-Some c =
    let r =
    gone c.self.inside.waiting.items c.self.inside.hands.items _ c.self.view_is _ (hand_of c.args.held) _ c.hand.ensures
    c.deref.ensures.value _ (sym c.in-Some.is ∙ c.place_of.ensures) in record {
      found = sym r.0;
      back = λ e.
          queue_of _ _ _ _
          (behind _ _ _ c.self.view_is _ _ (job_of_held (c.args.held.head.tries + 1) c.args.held) c.push_back_reserved.ensures.items
          c.tried_once_more.ensures) (c.remove-hand.ensures.items ∙ r.1);
      unchanged = λ e. absurd cc;
    }
