-- The numbers of waiting jobs and of jobs in hand that are kept of queries are right after each kind of change. This project's own.
use Rattle.std.proofs.Common.{◌≡◌, ◌∙◌, ℕ, ◌+◌, ◌≤◌, inl, inr, true, nat_eq, Option, Some, None, List, [], ◌∷◌, ◌++◌, filter, refl, sym, ap, subst, arith}
use Rattle.pf_query.specs.Jobs.{has_hand, is_other_hand, is_other_job, without_hand}
use Rattle.pf_query.specs.Queueing.{AreWith, hands_in, waiting_in}
use Rattle.pf_query.specs.Tables.{IsCounted, hands_with, is_of, jobs_in}
use Rattle.pf_query.specs.declared.entry.Entry.{Entry}
use Rattle.pf_query.specs.declared.job.Hand.{Hand}
use Rattle.pf_query.specs.declared.job.Job.{Job}
use Rattle.pf_query.specs.declared.queues.Queues.{Queues}
use Rattle.pf_query.proofs.Entering.{Raw}
use Rattle.pf_query.proofs.Naming.{count_same, count_without, eq_same, is_other_of, num_cases, of_other}
use Rattle.pf_query.proofs.Tallies.{count_append, count_cons, count_kept, count_one, one_if}

abbrev pub AreCounted : Raw → (ℕ → List Job) → (ℕ → List Hand) → Type 0
AreCounted K W H = (query : ℕ) (e : Entry) → K query ≡ Some e → e.stop ≡ None → IsCounted query W H e

raw_is : (o : Option Entry) (e f : Entry) → o ≡ Some e → o ≡ Some f → e ≡ f
raw_is o e f h k = cc

equal_count : (p : ℕ) (W V : ℕ → List Job) (H G : ℕ → List Hand) (e : Entry) → jobs_in p (V e.tenant) ≡ jobs_in p (W e.tenant)
    → hands_with p (G e.tenant) ≡ hands_with p (H e.tenant) → IsCounted p W H e → IsCounted p V G e
equal_count p W V H G e f g k = record { queued = k.queued ∙ sym f; in_hand = k.in_hand ∙ sym g; few = k.few }

-- nothing that is counted is changed
pub counted_equal : (K : Raw) (W V : ℕ → List Job) (H G : ℕ → List Hand) → ((v : ℕ) → V v ≡ W v) → ((v : ℕ) → G v ≡ H v) → AreCounted K W H → AreCounted K V G
counted_equal K W V H G f g a p e h s =
    equal_count p W V H G e (ap (λ js. jobs_in p js) (f e.tenant)) (ap (λ xs. hands_with p xs) (g e.tenant)) (a p e h s)

module _ (K L : Raw) (W V : ℕ → List Job) (H G : ℕ → List Hand) (q u : ℕ) (a : AreCounted K W H)
    (entries : (p : ℕ) → (p ≡ q → ⊥) → L p ≡ K p)
    (waiting : (v : ℕ) → (v ≡ u → ⊥) → V v ≡ W v) (hands : (v : ℕ) → (v ≡ u → ⊥) → G v ≡ H v)
    (jobs : (p : ℕ) → (p ≡ q → ⊥) → jobs_in p (V u) ≡ jobs_in p (W u)) (held : (p : ℕ) → (p ≡ q → ⊥) → hands_with p (G u) ≡ hands_with p (H u)) where
  other_count : (p : ℕ) (e : Entry) → (p ≡ q → ⊥) → IsCounted p W H e → IsCounted p V G e
  other_count p e d k = elim (num_cases e.tenant u) [
    | inl t ↦
        equal_count p W V H G e (subst (λ x. jobs_in p (V x) ≡ jobs_in p (W x)) (sym t) (jobs p d))
        (subst (λ x. hands_with p (G x) ≡ hands_with p (H x)) (sym t) (held p d)) k
    | inr f ↦ equal_count p W V H G e (ap (λ js. jobs_in p js) (waiting e.tenant f)) (ap (λ xs. hands_with p xs) (hands e.tenant f)) k
  ]

  pub counted_after : ((e : Entry) → L q ≡ Some e → e.stop ≡ None → IsCounted q V G e) → AreCounted L V G
  counted_after here p e h s = elim (num_cases p q) [
    | inl t ↦ subst (λ x. IsCounted x V G e) (sym t) (here e (subst (λ x. L x ≡ Some e) t h) s)
    | inr d ↦ other_count p e d (a p e (sym (entries p d) ∙ h) s)
  ]

-- the same where one tenant's queue is changed
module _ (K L : Raw) (old new : Queues) (q u : ℕ) (jobs : List Job) (held : List Hand) (order : List ℕ) (aw : AreWith old u jobs held order new)
    (a : AreCounted K (waiting_in old) (hands_in old)) (entries : (p : ℕ) → (p ≡ q → ⊥) → L p ≡ K p)
    (f : (p : ℕ) → (p ≡ q → ⊥) → jobs_in p jobs ≡ jobs_in p (waiting_in old u))
    (g : (p : ℕ) → (p ≡ q → ⊥) → hands_with p held ≡ hands_with p (hands_in old u)) where
  pub counted_by : ((e : Entry) → L q ≡ Some e → e.stop ≡ None → IsCounted q (waiting_in new) (hands_in new) e) → AreCounted L (waiting_in new) (hands_in new)
  counted_by here =
      counted_after K L (waiting_in old) (waiting_in new) (hands_in old) (hands_in new) q u a entries
      (λ v d. (aw.others v d).waiting) (λ v d. (aw.others v d).hands)
      (λ p d. ap (λ js. jobs_in p js) aw.waiting ∙ f p d) (λ p d. ap (λ xs. hands_with p xs) aw.hands ∙ g p d) here

  -- where its query is stopped, or nothing is kept of it
  pub counted_stopped : ((e : Entry) → L q ≡ Some e → e.stop ≡ None → ⊥) → AreCounted L (waiting_in new) (hands_in new)
  counted_stopped never = counted_by (λ e h s. absurd (never e h s))

  -- where this is kept of it
  pub counted_with : (e : Entry) → L q ≡ Some e → e.tenant ≡ u → e.queued ≡ jobs_in q jobs → e.in_hand ≡ hands_with q held → e.queued + e.in_hand ≤ 4294967295
      → AreCounted L (waiting_in new) (hands_in new)
  counted_with e h t m n l =
      counted_by (λ x k s. subst (λ (y : Entry). IsCounted q (waiting_in new) (hands_in new) y) (raw_is (L q) e x h k)
      (record {
        queued = m ∙ sym (ap (λ js. jobs_in q js) aw.waiting) ∙ ap (λ v. jobs_in q (waiting_in new v)) (sym t);
        in_hand = n ∙ sym (ap (λ xs. hands_with q xs) aw.hands) ∙ ap (λ v. hands_with q (hands_in new v)) (sym t);
        few = l;
      }))

-- ---- what is counted before a change

-- the first job that waits
pub first_counted : (q : ℕ) (j : Job) (js : List Job) → j.head.query ≡ q → jobs_in q (j ∷ js) ≡ 1 + jobs_in q js
first_counted q j js e =
    let c = count_cons (λ x. is_of q x.head) j js in
    let z : one_if (is_of q j.head) ≡ 1 = ap (λ b. one_if b) (ap (λ x. nat_eq x q) e ∙ eq_same q) in omega (arith, c, z)

pub first_other : (p q : ℕ) (j : Job) (js : List Job) → j.head.query ≡ q → (p ≡ q → ⊥) → jobs_in p js ≡ jobs_in p (j ∷ js)
first_other p q j js e d =
    let c = count_cons (λ x. is_of p x.head) j js in
    let z : one_if (is_of p j.head) ≡ 0 = ap (λ b. one_if b) (of_other p q j.head e d) in omega (arith, c, z)

-- one job more that waits, or that is in hand
pub more_waiting : (q : ℕ) (js : List Job) (j : Job) → j.head.query ≡ q → jobs_in q (js ++ j ∷ []) ≡ jobs_in q js + 1
more_waiting q js j e =
    let c = count_append (λ x. is_of q x.head) js (j ∷ []) in
    let o = count_one (λ (x : Job). is_of q x.head) j in
    let z : one_if (is_of q j.head) ≡ 1 = ap (λ b. one_if b) (ap (λ x. nat_eq x q) e ∙ eq_same q) in omega (arith, c, o, z)

pub more_other : (p q : ℕ) (js : List Job) (j : Job) → j.head.query ≡ q → (p ≡ q → ⊥) → jobs_in p (js ++ j ∷ []) ≡ jobs_in p js
more_other p q js j e d =
    let c = count_append (λ x. is_of p x.head) js (j ∷ []) in
    let o = count_one (λ (x : Job). is_of p x.head) j in
    let z : one_if (is_of p j.head) ≡ 0 = ap (λ b. one_if b) (of_other p q j.head e d) in omega (arith, c, o, z)

pub more_in_hand : (q : ℕ) (xs : List Hand) (x : Hand) → x.head.query ≡ q → hands_with q (xs ++ x ∷ []) ≡ hands_with q xs + 1
more_in_hand q xs x e =
    let c = count_append (λ y. is_of q y.head) xs (x ∷ []) in
    let o = count_one (λ (y : Hand). is_of q y.head) x in
    let z : one_if (is_of q x.head) ≡ 1 = ap (λ b. one_if b) (ap (λ y. nat_eq y q) e ∙ eq_same q) in omega (arith, c, o, z)

pub more_held_other : (p q : ℕ) (xs : List Hand) (x : Hand) → x.head.query ≡ q → (p ≡ q → ⊥) → hands_with p (xs ++ x ∷ []) ≡ hands_with p xs
more_held_other p q xs x e d =
    let c = count_append (λ y. is_of p y.head) xs (x ∷ []) in
    let o = count_one (λ (y : Hand). is_of p y.head) x in
    let z : one_if (is_of p x.head) ≡ 0 = ap (λ b. one_if b) (of_other p q x.head e d) in omega (arith, c, o, z)

-- one less in hand
pub less_in_hand : (x : Hand) (xs : List Hand) → has_hand x xs ≡ true → hands_with x.head.query (without_hand x xs) + 1 ≡ hands_with x.head.query xs
less_in_hand x xs t =
    let c = count_without (λ y. is_of x.head.query y.head) x xs t in
    let z : one_if (is_of x.head.query x.head) ≡ 1 = ap (λ b. one_if b) (eq_same x.head.query) in omega (arith, c, z)

pub less_held_other : (p : ℕ) (x : Hand) (xs : List Hand) → (p ≡ x.head.query → ⊥) → hands_with p (without_hand x xs) ≡ hands_with p xs
less_held_other p x xs d = count_same (λ y. is_of p y.head) x xs (of_other p x.head.query x.head refl d)

-- those of other queries stay
pub others_waiting : (p q : ℕ) (js : List Job) → (p ≡ q → ⊥) → jobs_in p (filter (is_other_job q) js) ≡ jobs_in p js
others_waiting p q js d = count_kept (λ j. is_of p j.head) (is_other_job q) (λ j t. is_other_of p q j.head d t) js

pub others_in_hand : (p q : ℕ) (xs : List Hand) → (p ≡ q → ⊥) → hands_with p (filter (is_other_hand q) xs) ≡ hands_with p xs
others_in_hand p q xs d = count_kept (λ x. is_of p x.head) (is_other_hand q) (λ x t. is_other_of p q x.head d t) xs
