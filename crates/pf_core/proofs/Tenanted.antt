-- The jobs of tenants as contracts see them are those of the table.
use Rattle.std.proofs.Common.{◌≡◌, ℕ, zero, suc, ◌+◌, ◌-◌, ◌<◌, ◌≤◌, inl, inr, not, cond, nat_eq, nat_lt, List, [], ◌∷◌, ◌++◌, filter, length, map, refl, sym, ap, ◌∙◌, arith}
use Rattle.std.specs.List.{sum_by}
use Rattle.std.specs.Prelude.{slice_index_or}
use Rattle.std.proofs.lemmas.Bool.Decides.{nat_tests}
use Rattle.std.proofs.lemmas.List.{get_or_past}
use Rattle.std.proofs.lemmas.List.Sums.{sum_by-cons}
use Rattle.pf_base.specs.declared.plain.JobHead.{JobHead}
use Rattle.pf_journal.specs.Machine.{most_tenants}
use Rattle.pf_query.specs.Jobs.{QueueData, is_empty, is_other_job, no_queue, tries_left_in, tries_left_of}
use Rattle.pf_query.specs.Queueing.{AreWith, queue_in}
use Rattle.pf_query.specs.Tables.{IsTable, hands_of, hands_with, is_of, jobs_in, tries_left_of as tries_left_in_table, waiting_of}
use Rattle.pf_query.specs.declared.job.Hand.{Hand}
use Rattle.pf_query.specs.declared.job.Job.{Job}
use Rattle.pf_query.specs.declared.table.Table.{Table}
use Rattle.pf_core.specs.Cores.{AreServed, HasQueue, in_hand_of, queue_at, queued_of}
use Rattle.pf_core.specs.Jobs.{QueueHeads, by_tenant, heads_with, is_other_head, no_heads, numbered, tries_in, tries_of}
use Rattle.pf_core.specs.States.{core_of, heads_in}
use Rattle.pf_core.specs.declared.state.State.{State}
use Rattle.pf_core.proofs.Machines.{bool_cases}

abbrev pub head_of : Job → JobHead
head_of j = j.head

-- ---- by tenant

numbered_get : {X : Type 0} (f : ℕ → X) (first n i : ℕ) (d : X) → i < n → slice_index_or (numbered f first n) i d ≡ f (first + i)
numbered_get f first zero i d h = absurd (omega (arith, h))
numbered_get f first (suc n) zero d h = ap f (omega arith)
numbered_get f first (suc n) (suc i) d h = numbered_get f (first + 1) n i d (omega (arith, h)) ∙ ap f (omega arith)

numbered_past : {X : Type 0} (f : ℕ → X) (first n i : ℕ) (d : X) → n ≤ i → slice_index_or (numbered f first n) i d ≡ d
numbered_past f first zero i d h = refl
numbered_past f first (suc n) zero d h = absurd (omega (arith, h))
numbered_past f first (suc n) (suc i) d h = numbered_past f (first + 1) n i d (omega (arith, h))

at_tenant : (f : ℕ → QueueHeads) (u : ℕ) → u < most_tenants → slice_index_or (by_tenant f) u no_heads ≡ f u
unfolding by_tenant
at_tenant f u h = numbered_get f 0 most_tenants u no_heads h ∙ ap f (omega arith)

past_tenants : (f : ℕ → QueueHeads) (u : ℕ) → most_tenants ≤ u → slice_index_or (by_tenant f) u no_heads ≡ no_heads
unfolding by_tenant
past_tenants f u h = numbered_past f 0 most_tenants u no_heads h

abbrev heads_of_queue : QueueData → QueueHeads
heads_of_queue q = record { waiting = map head_of q.waiting; hands = q.hands }

-- what is said of a tenant's jobs
pub queue_is : (s : State) → IsTable s.table → (u : ℕ) → queue_at (core_of s) u ≡ heads_in s.table u
queue_is s h u = elim (bool_cases (nat_lt u most_tenants)) [
  | inl t ↦ at_tenant (heads_in s.table) u (grind (arith, nat_tests, t))
  | inr t ↦
      let past : most_tenants ≤ u = grind (arith, nat_tests, t) in
      let many = h.queues.many in
      let none : queue_in s.table.queues u ≡ no_queue = get_or_past s.table.queues.by_tenant.items u no_queue (omega (arith, many, past)) in
      past_tenants (heads_in s.table) u past ∙ sym (ap heads_of_queue none)
]

-- ---- heads

pub empty_heads : (js : List Job) → is_empty (map head_of js) ≡ is_empty js
empty_heads [] = refl
empty_heads (j ∷ js) = refl

pub other_heads : (query : ℕ) (js : List Job) → map head_of (filter (is_other_job query) js) ≡ filter (is_other_head query) (map head_of js)
other_heads query [] = refl
other_heads query (j ∷ js) = elim (bool_cases (nat_eq j.head.query query)) [
  | inl t ↦ rw t (other_heads query js)
  | inr t ↦ rw t (ap (λ (hs : List JobHead). j.head ∷ hs) (other_heads query js))
]

pub map_front : {X Y : Type 0} (f : X → Y) (xs ys : List X) → map f (xs ++ ys) ≡ map f xs ++ map f ys
map_front f [] ys = refl
map_front f (x ∷ xs) ys = ap (λ (zs : List _). f x ∷ zs) (map_front f xs ys)

counted_heads : (query : ℕ) (js : List Job) → heads_with query (map head_of js) ≡ jobs_in query js
counted_heads query [] = refl
counted_heads query (j ∷ js) =
    sum_by-cons (λ (h : JobHead). cond (is_of query h) 1 0) j.head (map head_of js)
    ∙ ap (λ n. cond (is_of query j.head) 1 0 + n) (counted_heads query js)
    ∙ sym (sum_by-cons (λ (k : Job). cond (is_of query k.head) 1 0) j js)

pub queued_is : (s : State) → IsTable s.table → (u query : ℕ) → queued_of (core_of s) u query ≡ jobs_in query (waiting_of s.table u)
queued_is s h u query =
    ap (λ (q : QueueHeads). heads_with query q.waiting) (queue_is s h u) ∙ counted_heads query (waiting_of s.table u)

pub in_hand_is : (s : State) → IsTable s.table → (u query : ℕ) → in_hand_of (core_of s) u query ≡ hands_with query (hands_of s.table u)
in_hand_is s h u query = ap (λ (q : QueueHeads). hands_with query q.hands) (queue_is s h u)

-- ---- what changes

pub has_queue : (old new : State) (u : ℕ) (waiting : List Job) (hands : List Hand) (ring : List ℕ) → IsTable old.table → IsTable new.table
    → AreWith old.table.queues u waiting hands ring new.table.queues
    → HasQueue (core_of old) u (record { waiting = map head_of waiting; hands = hands }) ring (core_of new)
has_queue old new u waiting hands ring h k a = record {
  here = queue_is new k u ∙ (λ i. record { waiting = map head_of (a.waiting i); hands = a.hands i });
  others = λ v d.
      queue_is new k v
      ∙ (λ i. record { waiting = map head_of ((a.others v d).waiting i); hands = (a.others v d).hands i })
      ∙ sym (queue_is old h v);
  ring_is = a.ring;
}

-- ---- tries

tries_of_heads : (js : List Job) → tries_of (map head_of js) ≡ tries_left_in js
tries_of_heads [] = refl
tries_of_heads (j ∷ js) =
    sum_by-cons (λ (h : JobHead). 5 - h.tries) j.head (map head_of js) ∙ ap (λ n. 5 - j.head.tries + n) (tries_of_heads js)
    ∙ sym (sum_by-cons tries_left_of j js)

numbered_later : {X : Type 0} (f : ℕ → X) (first n : ℕ) → numbered f (first + 1) n ≡ numbered (λ u. f (suc u)) first n
numbered_later f first zero = refl
numbered_later f first (suc n) =
    let here : f (first + 1) ≡ f (suc first) = ap f (omega arith) in
    let rest = numbered_later f (first + 1) n in
    λ i. here i ∷ rest i

numbered_all : {X Y : Type 0} (g : X → Y) (xs : List X) (d : X) → numbered (λ u. g (slice_index_or xs u d)) 0 (length xs) ≡ map g xs
numbered_all g [] d = refl
numbered_all g (x ∷ xs) d =
    ap (λ (ys : List _). g x ∷ ys) (numbered_later (λ u. g (slice_index_or (x ∷ xs) u d)) 0 (length xs) ∙ numbered_all g xs d)

tries_map : (qs : List QueueData) → tries_in (map heads_of_queue qs) ≡ sum_by (λ (q : QueueData). tries_left_in q.waiting) qs
tries_map [] = refl
tries_map (q ∷ qs) =
    sum_by-cons (λ (d : QueueHeads). tries_of d.waiting) (heads_of_queue q) (map heads_of_queue qs)
    ∙ (λ i. tries_of_heads q.waiting i + tries_map qs i)
    ∙ sym (sum_by-cons (λ (d : QueueData). tries_left_in d.waiting) q qs)

all_tenants : (t : Table) → IsTable t → by_tenant (heads_in t) ≡ map heads_of_queue t.queues.by_tenant.items
unfolding by_tenant
all_tenants t h =
    ap (λ n. numbered (heads_in t) 0 n) (sym h.queues.many) ∙ numbered_all heads_of_queue t.queues.by_tenant.items no_queue

pub tries_table : (t : Table) → IsTable t → tries_in (by_tenant (heads_in t)) ≡ tries_left_in_table t
tries_table t h = ap tries_in (all_tenants t h) ∙ tries_map t.queues.by_tenant.items

-- ---- turns

pub served : (s : State) → IsTable s.table → AreServed (core_of s)
served s h = record {
  in_ring = λ u.
      h.queues.in_ring u
      ∙ ap not (sym (ap (λ (q : QueueHeads). is_empty q.waiting) (queue_is s h u) ∙ empty_heads (waiting_of s.table u)));
  different = h.queues.different;
  known = h.queues.known;
}
