use Rattle.std.proofs.Common.{◌∙◌, ap, sym, refl}
use Rattle.pf_query.proofs.Hands.{gone, queue_of, stays}
use Rattle.pf_query.proofs.queue.Queue.release.Goals as goal

pub returns-in-None : goal.returns-in-None
returns-in-None c =
    let r =
    stays c.self.inside.waiting.items c.self.inside.hands.items _ c.self.view_is _ c.args.hand c.args.hand refl
    c.deref.ensures.value (sym c.in-None.is ∙ c.place_of.ensures) in record {
      found = sym r.0;
      left = sym r.1;
    }

pub returns-in-Some : goal.returns-in-Some
returns-in-Some c =
    let r =
    gone c.self.inside.waiting.items c.self.inside.hands.items _ c.self.view_is _ c.args.hand c.args.hand refl
    c.deref.ensures.value _ (sym c.in-Some.is ∙ c.place_of.ensures) in record {
      found = sym r.0;
      left = queue_of _ _ _ _ (ap (λ s. s.waiting) c.self.view_is) (c.remove-hand.ensures.items ∙ r.1);
    }
