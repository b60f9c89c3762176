-- The jobs in hand: those of an actor that has none, and a job that is taken and worked on.
use Rattle.std.proofs.Common.{◌≡◌, ℕ, Bool, true, false, ◌&&◌, ◌||◌, ◌⊎◌, inl, inr, cond, nat_eq, List, [], ◌∷◌, ◌++◌, refl, sym, ap, ◌∙◌, subst}
use Rattle.std.proofs.lemmas.Bool.{eq-eqb, eqb-true, false≢true}
use Rattle.pf_base.specs.declared.plain.JobHead.{JobHead}
use Rattle.pf_core.specs.Cores.{CoreData, HasQueue, queue_at}
use Rattle.pf_core.specs.Jobs.{QueueHeads}
use Rattle.pf_front.specs.Works.{IsIdle}
use Rattle.pf_model.specs.Lists.{Each}
use Rattle.pf_query.specs.Jobs.{has_hand, is_hand, is_head, without_hand}
use Rattle.pf_query.specs.declared.job.Hand.{Hand}

-- ---- tests

pub cases : (b : Bool) → (b ≡ true) ⊎ (b ≡ false)
cases true = inl refl
cases false = inr refl

both : (a b : Bool) → a ≡ true → b ≡ true → (a && b) ≡ true
both true b p q = q
both false b p q = absurd (false≢true p)

and_no : (a b : Bool) → b ≡ false → (a && b) ≡ false
and_no true b q = q
and_no false b q = refl

or_behind : (a b : Bool) → b ≡ true → (a || b) ≡ true
or_behind true b q = refl
or_behind false b q = q

or_first : (a b : Bool) → a ≡ true → (a || b) ≡ true
or_first true b p = refl
or_first false b p = absurd (false≢true p)

same : (n : ℕ) → nat_eq n n ≡ true
same n = eq-eqb n n refl

other : (m n : ℕ) → (m ≡ n → ⊥) → nat_eq m n ≡ false
other m n h = elim (cases (nat_eq m n)) [ inl e ↦ absurd (h (eqb-true m n e)) | inr e ↦ e ]

-- ---- one hand

same_head : (h : JobHead) → is_head h h ≡ true
same_head h =
    both _ _ (both _ _ (both _ _ (both _ _ (both _ _ (both _ _ (same h.tenant) (same h.query)) (same h.job)) (same h.leg)) (same h.first)) (same h.last)) (same h.tries)

same_hand : (h : Hand) → is_hand h h ≡ true
same_hand h = both _ _ (same_head h.head) (same h.actor)

other_hand : (x h : Hand) → (x.actor ≡ h.actor → ⊥) → is_hand x h ≡ false
other_hand x h n = and_no (is_head x.head h.head) (nat_eq x.actor h.actor) (other x.actor h.actor n)

-- ---- hands

abbrev pub IsNotOf : ℕ → Hand → Type 0
IsNotOf actor h = h.actor ≡ actor → ⊥

-- the job that was handed out last is put away
pub put_away : (h : Hand) (hs : List Hand) → Each (IsNotOf h.actor) hs → without_hand h (hs ++ h ∷ []) ≡ hs
put_away h [] e = ap (λ (b : Bool). cond b [] (h ∷ [])) (same_hand h)
put_away h (x ∷ xs) e =
    ap (λ (b : Bool). cond b (xs ++ h ∷ []) (x ∷ without_hand h (xs ++ h ∷ []))) (other_hand x h e.0) ∙ ap (λ (t : List Hand). x ∷ t) (put_away h xs e.1)

-- and is in hand before
pub in_hand_last : (h : Hand) (hs : List Hand) → has_hand h (hs ++ h ∷ []) ≡ true
in_hand_last h [] = or_first (is_hand h h) false (same_hand h)
in_hand_last h (x ∷ xs) = or_behind (is_hand x h) (has_hand h (xs ++ h ∷ [])) (in_hand_last h xs)

module _ (P : Hand → Type 0) where
  each_of : (b : Bool) (x : Hand) (xs ys : List Hand) → P x → Each P xs → Each P ys → Each P (cond b xs (x ∷ ys))
  each_of true x xs ys p all some = all
  each_of false x xs ys p all some = (p, some)

  pub each_without : (h : Hand) (hs : List Hand) → Each P hs → Each P (without_hand h hs)
  each_without h [] e = e
  each_without h (x ∷ xs) e = each_of (is_hand x h) x xs (without_hand h xs) e.0 e.1 (each_without h xs e.1)

-- ---- the hands of all tenants

-- what is so of the hands of one tenant, and of the others' as they were
pub by_tenant : (old new : CoreData) (u : ℕ) (queue : QueueHeads) (ring : List ℕ) (P : ℕ → List Hand → Type 0) → HasQueue old u queue ring new
    → P u queue.hands → ((v : ℕ) → P v (queue_at old v).hands) → (v : ℕ) → P v (queue_at new v).hands
by_tenant old new u queue ring P has here others v = elim (cases (nat_eq v u)) [
  | inl e ↦
      let is = eqb-true v u e in
      subst (λ (w : ℕ). P w (queue_at new w).hands) (sym is) (subst (λ (q : QueueHeads). P u q.hands) (sym has.here) here)
  | inr e ↦
      subst (λ (q : QueueHeads). P v q.hands)
      (sym (has.others v (λ is. absurd (false≢true (sym e ∙ eq-eqb v u is))))) (others v)
]

-- an actor without a job stays so where a tenant's hands only get fewer
pub idle_with : (old new : CoreData) (actor u : ℕ) (queue : QueueHeads) (ring : List ℕ) → HasQueue old u queue ring new
    → Each (IsNotOf actor) queue.hands → IsIdle old actor → IsIdle new actor
idle_with old new actor u queue ring has here idle =
    by_tenant old new u queue ring (λ _ hs. Each (IsNotOf actor) hs) has here idle

-- a job that an actor without one took, and put away: the same jobs are in hand
pub same_hands : (old mid new : CoreData) (u : ℕ) (h : Hand) (taken left : QueueHeads) (ring ring' : List ℕ) → IsIdle old h.actor
    → HasQueue old u taken ring mid → taken.hands ≡ (queue_at old u).hands ++ h ∷ []
    → HasQueue mid u left ring' new → left.hands ≡ without_hand h (queue_at mid u).hands
    → (v : ℕ) → (queue_at new v).hands ≡ (queue_at old v).hands
same_hands old mid new u h taken left ring ring' idle first takes then leaves v = elim (cases (nat_eq v u)) [
  | inl e ↦
      let is = eqb-true v u e in
      subst (λ (w : ℕ). (queue_at new w).hands ≡ (queue_at old w).hands) (sym is)
      (ap (λ (q : QueueHeads). q.hands) then.here ∙ leaves
      ∙ ap (λ (q : QueueHeads). without_hand h q.hands) first.here ∙ ap (λ (hs : List Hand). without_hand h hs) takes
      ∙ put_away h (queue_at old u).hands (idle u))
  | inr e ↦
      let not : (v ≡ u → ⊥) = λ is. absurd (false≢true (sym e ∙ eq-eqb v u is)) in
      ap (λ (q : QueueHeads). q.hands) (then.others v not) ∙ ap (λ (q : QueueHeads). q.hands) (first.others v not)
]
