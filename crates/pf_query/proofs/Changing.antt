-- What another queue of one tenant leaves of all queues. This project's own.
use Rattle.std.proofs.Common.{◌≡◌, ◌≢◌, ◌∙◌, ℕ, zero, suc, ◌+◌, ◌≤◌, ◌<◌, Bool, true, false, cond, not, eqb, nat_lt, List, [], ◌∷◌, ◌++◌, filter, length, get_or, slice_set, sum_by, refl, sym, ap, subst, arith, length-append}
use Rattle.std.proofs.lemmas.Bool.{eqb-true, eqb-false}
use Rattle.std.proofs.lemmas.Bool.Decides.{nat_tests}
use Rattle.std.proofs.lemmas.List.{get_or-set_same, get_or-set_other, get_or_default, length-set}
use Rattle.std.proofs.lemmas.List.Filters.{sum_by-filter_both}
use Rattle.std.proofs.lemmas.List.Sums.{sum_by-append, sum_by-set}
use Rattle.std.proofs.Math.ListN.{get_or-eq_default}
use Rattle.pf_queue.specs.Rings.{AreDifferent, waits, without}
use Rattle.pf_query.specs.Jobs.{QueueData, is_empty, is_other_hand, is_other_job, no_queue, tries_left_in, tries_left_of}
use Rattle.pf_journal.specs.Machine.{most_tenants}
use Rattle.pf_query.specs.Queueing.{AreEmpty, AreNotInHand, AreNotWaiting, AreQueues, AreWith, hands_in, queue_in, ring_in, tries_left, waiting_in}
use Rattle.pf_query.specs.declared.job.Job.{Job}
use Rattle.pf_query.specs.declared.queues.Queues.{Queues}
use Rattle.pf_query.proofs.Turns.{Turns, last_in, taken_out, without_other}

below_by : (v n : ℕ) (b : Bool) → nat_lt v n ≡ b → (n ≤ v → ⊥) → v < n
below_by v n true e h = grind (arith, nat_tests)
below_by v n false e h = absurd (h (grind (arith, nat_tests)))

-- a tenant in the ring is known
known_in : (q : Queues) (v : ℕ) → waits v (ring_in q) ≡ not (is_empty (waiting_in q v)) → waits v (ring_in q) ≡ true → length q.by_tenant.items ≤ v → ⊥
known_in q v e w l =
    let none : waiting_in q v ≡ [] = ap (λ d. d.waiting) (get_or-eq_default q.by_tenant.items no_queue l) in
    let no : waits v (ring_in q) ≡ false = e ∙ ap (λ x. not (is_empty x)) none in cc

pub are_queues :
    (q : Queues) → length q.by_tenant.items ≡ most_tenants → q.ring.capacity ≡ most_tenants
    → ((v : ℕ) → waits v (ring_in q) ≡ not (is_empty (waiting_in q v))) → AreDifferent (ring_in q) → AreQueues q
are_queues q m p r d = record {
  many = m;
  places = p;
  in_ring = r;
  different = d;
  known = λ v w.
      subst (λ n. v < n) m
      (below_by v (length q.by_tenant.items) (nat_lt v (length q.by_tenant.items)) refl (known_in q v (r v) w));
}

module _ (old new : Queues) (u : ℕ) (d : QueueData) (known : u < length old.by_tenant.items) (is : new.by_tenant.items ≡ slice_set old.by_tenant.items u d) where
  pub itself : queue_in new u ≡ d
  itself = ap (λ xs. get_or xs u no_queue) is ∙ get_or-set_same old.by_tenant.items u d no_queue known

  pub others : (v : ℕ) → v ≢ u → queue_in new v ≡ queue_in old v
  others v k = ap (λ xs. get_or xs v no_queue) is ∙ get_or-set_other old.by_tenant.items u v d no_queue k

  pub changed : (order : List ℕ) → ring_in new ≡ order → AreWith old u d.waiting d.hands order new
  changed order r = record {
    waiting = ap (λ q. q.waiting) itself;
    hands = ap (λ q. q.hands) itself;
    others = λ v k. record { waiting = ap (λ q. q.waiting) (others v k); hands = ap (λ q. q.hands) (others v k) };
    ring = r;
  }

  -- the further tries of all that wait, with those of this tenant's
  pub tries : tries_left new + tries_left_in (waiting_in old u) ≡ tries_left old + tries_left_in d.waiting
  tries =
      ap (λ xs. sum_by (λ q. tries_left_in q.waiting) xs + tries_left_in (waiting_in old u)) is
      ∙ sum_by-set (λ q. tries_left_in q.waiting) old.by_tenant.items u d no_queue known

  many : length new.by_tenant.items ≡ length old.by_tenant.items
  many = ap length is ∙ length-set old.by_tenant.items u d

  in_ring_by :
      (q : AreQueues old) (t : Turns (ring_in old) (ring_in new) u (not (is_empty d.waiting))) (v : ℕ) (b : Bool) → eqb v u ≡ b
      → waits v (ring_in new) ≡ not (is_empty (waiting_in new v))
  in_ring_by q t v true e =
      subst (λ w. waits w (ring_in new) ≡ not (is_empty (waiting_in new w))) (sym (eqb-true v u e))
      (t.is_in ∙ sym (ap (λ x. not (is_empty x.waiting)) itself))
  in_ring_by q t v false e =
      t.others v (eqb-false v u e) ∙ q.in_ring v ∙ sym (ap (λ x. not (is_empty x.waiting)) (others v (eqb-false v u e)))

  pub kept : AreQueues old → new.ring.capacity ≡ old.ring.capacity → Turns (ring_in old) (ring_in new) u (not (is_empty d.waiting)) → AreQueues new
  kept q p t = are_queues new (many ∙ q.many) (p ∙ q.places) (λ v. in_ring_by q t v (eqb v u) refl) t.different

-- ---- no queue has a job

pub record AreBlank (ds : List QueueData) (n : ℕ) : Type 0 where
  pub many : length ds ≡ n
  pub blank : (u : ℕ) → get_or ds u no_queue ≡ no_queue
  pub tries : sum_by (λ d. tries_left_in d.waiting) ds ≡ 0

pub blank_none : (ds : List QueueData) → ds ≡ [] → AreBlank ds 0
blank_none ds e = subst (λ xs. AreBlank xs 0) (sym e) (record { many = refl; blank = λ u. refl; tries = refl })

blank_last : (ds : List QueueData) (u : ℕ) → ((v : ℕ) → get_or ds v no_queue ≡ no_queue) → get_or (ds ++ no_queue ∷ []) u no_queue ≡ no_queue
blank_last [] zero h = refl
blank_last [] (suc u) h = refl
blank_last (d ∷ ds) zero h = h zero
blank_last (d ∷ ds) (suc u) h = blank_last ds u (λ v. h (suc v))

pub blank_more : (ds es : List QueueData) (n : ℕ) (d : QueueData) → AreBlank ds n → d ≡ no_queue → es ≡ ds ++ d ∷ [] → AreBlank es (n + 1)
blank_more ds es n d b k e = subst (λ xs. AreBlank xs (n + 1)) (sym (e ∙ ap (λ x. ds ++ x ∷ []) k)) (record {
  many = omega (arith, length-append ds (no_queue ∷ []), b.many);
  blank = λ u. blank_last ds u b.blank;
  tries = omega (arith, sum_by-append (λ x. tries_left_in x.waiting) ds (no_queue ∷ []), b.tries);
})

-- ---- how often the jobs of a part of these may be tried

pub part : (p : Job → Bool) (jobs : List Job) → tries_left_in (filter p jobs) ≤ tries_left_in jobs
part p jobs = omega (arith, sum_by-filter_both p (λ x. not (p x)) (λ _. refl) tries_left_of jobs)

-- ---- a tenant without a job that waited has one, or has none at all

pub full_last : (w : List Job) (j : Job) → is_empty (w ++ j ∷ []) ≡ false
full_last [] j = refl
full_last (x ∷ w) j = refl

pub full_behind : (w jobs : List Job) → (length jobs ≡ 0 → ⊥) → is_empty (w ++ jobs) ≡ false
full_behind [] [] h = absurd (h refl)
full_behind [] (x ∷ jobs) h = refl
full_behind (x ∷ w) jobs h = refl

-- a number of jobs that isn't told as none
pub some : (n m : ℕ) (b e : Bool) → b ≡ eqb n 0 → e ≡ not b → e ≡ true → n ≡ m → m ≡ 0 → ⊥
some n m true e h k l z o = cc
some n m false e h k l z o = eqb-false n 0 (sym h) (z ∙ o)

-- what is read of a known tenant
pub read : (old : Queues) (u : ℕ) (d : QueueData) → u < length old.by_tenant.items → d ≡ get_or old.by_tenant.items u d → d ≡ queue_in old u
read old u d known h = h ∙ get_or_default old.by_tenant.items u d no_queue known

module _
    (old new : Queues) (u : ℕ) (d e : QueueData) (q : AreQueues old) (below : u < most_tenants)
    (was : d ≡ get_or old.by_tenant.items u d) (is : new.by_tenant.items ≡ slice_set old.by_tenant.items u e)
    (places : new.ring.capacity ≡ old.ring.capacity) where
  known : u < length old.by_tenant.items
  known = subst (λ n. u < n) (sym q.many) below

  pub entered : is_empty d.waiting ≡ true → is_empty e.waiting ≡ false → ring_in new ≡ ring_in old ++ u ∷ [] → AreQueues new
  entered none some r =
      let out : waits u (ring_in old) ≡ false = q.in_ring u ∙ ap (λ x. not (is_empty x.waiting)) (sym (read old u d known was)) ∙ ap not none in
      kept old new u e known is q places (
      subst (λ us. Turns (ring_in old) us u (not (is_empty e.waiting))) (sym r)
      (subst (λ b. Turns (ring_in old) (ring_in old ++ u ∷ []) u (not b)) (sym some) (last_in (ring_in old) u out q.different)))

  pub left : is_empty e.waiting ≡ true → ring_in new ≡ without u (ring_in old) → AreQueues new
  left none r =
      kept old new u e known is q places (
      subst (λ us. Turns (ring_in old) us u (not (is_empty e.waiting))) (sym r)
      (subst (λ b. Turns (ring_in old) (without u (ring_in old)) u (not b)) (sym none) (taken_out (ring_in old) u q.different)))

-- where only some of a tenant's jobs that waited wait, there are no more tries
pub fewer :
    (old : Queues) (u : ℕ) (d e : QueueData) → AreQueues old → u < most_tenants → d ≡ get_or old.by_tenant.items u d
    → (p : Job → Bool) → e.waiting ≡ filter p d.waiting → sum_by (λ x. tries_left_in x.waiting) (slice_set old.by_tenant.items u e) ≤ tries_left old
fewer old u d e q below was p h =
    let known : u < length old.by_tenant.items = subst (λ n. u < n) (sym q.many) below in
    let k = sum_by-set (λ x. tries_left_in x.waiting) old.by_tenant.items u e no_queue known in
    let s = part p d.waiting in
    let w : tries_left_in (waiting_in old u) ≡ tries_left_in d.waiting = ap (λ x. tries_left_in x.waiting) (sym (read old u d known was)) in
    let v : tries_left_in e.waiting ≡ tries_left_in (filter p d.waiting) = ap tries_left_in h in
    omega (arith, k, s, w, v)

-- ---- a query has no job

same_ring : (q : Queues) (u : ℕ) (b : Bool) → is_empty (waiting_in q u) ≡ b → AreQueues q → ring_in q ≡ cond b (without u (ring_in q)) (ring_in q)
same_ring q u true e h = sym (without_other u (ring_in q) (h.in_ring u ∙ ap not e))
same_ring q u false e h = refl

-- where none of its jobs waits, none is taken out
pub none_waited : (q : Queues) (u query : ℕ) → AreQueues q → filter (is_other_job query) (waiting_in q u) ≡ waiting_in q u → AreNotWaiting q u query q
none_waited q u query h e = record {
  waiting = sym e;
  hands = refl;
  others = λ v d. record { waiting = refl; hands = refl };
  ring = same_ring q u (is_empty (filter (is_other_job query) (waiting_in q u))) (ap is_empty (sym e)) h;
}

-- and where none is in hand
pub none_held : (q : Queues) (u query : ℕ) → filter (is_other_hand query) (hands_in q u) ≡ hands_in q u → AreNotInHand q u query q
none_held q u query e = record { waiting = refl; hands = sym e; others = λ v d. record { waiting = refl; hands = refl }; ring = refl }

-- ---- no tenant has a job yet

pub opened : (q : Queues) (n : ℕ) → AreBlank q.by_tenant.items n → n ≡ most_tenants → q.ring.capacity ≡ most_tenants → ring_in q ≡ [] → AreEmpty q × AreQueues q
opened q n b m p r = (
  record { waiting = λ u. ap (λ d. d.waiting) (b.blank u); hands = λ u. ap (λ d. d.hands) (b.blank u); ring = r; tries = b.tries },
  are_queues q (b.many ∙ m) p (λ v. ap (waits v) r ∙ sym (ap (λ d. not (is_empty d.waiting)) (b.blank v))) (subst AreDifferent (sym r) tt),
)
