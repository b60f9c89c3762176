-- The first tenant's first job goes into an actor's hand. This project's own.
use Rattle.std.proofs.Common.{◌≡◌, ◌∙◌, ℕ, ◌<◌, Bool, true, false, cond, not, MatchOption, Option, Some, None, List, [], ◌∷◌, ◌++◌, drop, get_or, length, slice_get, slice_set, sym, ap, subst}
use Rattle.pf_queue.specs.Rings.{AreDifferent, waits}
use Rattle.pf_query.specs.Jobs.{IsHanded, QueueData, hand_of, is_empty}
use Rattle.pf_query.specs.Queueing.{AreQueues, Takes, put_last, ring_in}
use Rattle.pf_query.specs.declared.job.Held.{Held}
use Rattle.pf_query.specs.declared.queues.Queues.{Queues}
use Rattle.pf_query.proofs.Changing.{changed, kept, read}
use Rattle.pf_query.proofs.Turns.{Turns, first_in, first_last, first_out}

-- a list with a first one
pub begins : (us : List ℕ) (u : ℕ) → Some u ≡ slice_get us 0 → us ≡ u ∷ drop 1 us
begins [] u e = absurd cc
begins (x ∷ us) u e = let h : x ≡ u = cc in ap (λ y. y ∷ us) h

never : (b : Bool) → b ≡ true → b ≡ false → ⊥
never b h k = cc

abbrev pub turned : Bool → ℕ → List ℕ → List ℕ
turned b u us = cond b us (put_last u us)

turn : (u : ℕ) (us : List ℕ) (b : Bool) → AreDifferent (u ∷ us) → Turns (u ∷ us) (turned b u us) u (not b)
turn u us true d = first_out u us d
turn u us false d = first_last u us d

module _
    (old new : Queues) (u : ℕ) (us : List ℕ) (d e : QueueData) (q : AreQueues old) (ring : ring_in old ≡ u ∷ us)
    (was : d ≡ get_or old.by_tenant.items u d) (is : new.by_tenant.items ≡ slice_set old.by_tenant.items u e)
    (places : new.ring.capacity ≡ old.ring.capacity) (after : ring_in new ≡ turned (is_empty e.waiting) u us) where
  waited : waits u (ring_in old) ≡ true
  waited = ap (waits u) ring ∙ first_in u us

  known : u < length old.by_tenant.items
  known = subst (λ n. u < n) (sym q.many) (q.known u waited)

  full : not (is_empty d.waiting) ≡ true
  full = ap (λ x. not (is_empty x.waiting)) (read old u d known was) ∙ sym (q.in_ring u) ∙ waited

  pub served : AreQueues new
  served =
      kept old new u e known is q places
      (subst (λ vs. Turns vs (ring_in new) u (not (is_empty e.waiting))) (sym ring)
      (subst (λ vs. Turns (u ∷ us) vs u (not (is_empty e.waiting))) (sym after) (turn u us (is_empty e.waiting) (subst AreDifferent ring q.different))))

  pub taken : (actor : ℕ) (r : Option Held) → MatchOption r ((d.waiting ≡ []) × (e ≡ d)) (λ h. IsHanded d actor h e) → Takes old actor r new
  taken actor None h = absurd (never (not (is_empty d.waiting)) full (ap (λ x. not (is_empty x)) h.0))
  taken actor (Some held) h = record {
    tenant = u;
    tenants = us;
    job = h.job;
    jobs = e.waiting;
    ring = ring;
    waiting = ap (λ x. x.waiting) (sym (read old u d known was)) ∙ h.waiting;
    held_is = h.held_is;
    left =
        let with = changed old new u e known is (turned (is_empty e.waiting) u us) after in record {
          waiting = with.waiting;
          hands = with.hands ∙ h.hands ∙ ap (λ x. x.hands ++ hand_of held ∷ []) (read old u d known was);
          others = with.others;
          ring = with.ring;
        };
  }
