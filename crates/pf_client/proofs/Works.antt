-- What work on jobs leaves in hand.
use Rattle.std.proofs.Common.{◌≡◌, ℕ, ◌+◌, ◌<◌, ◌≤◌, ◌⊎◌, inl, inr, false, nat_eq, nat_lt, Option, Some, None, List, [], ◌∷◌, ◌++◌, filter, length, slice_set, sum, refl, sym, ap, ◌∙◌, append-nil, subst, rules, arith}
use Rattle.std.proofs.lemmas.Bool.Decides.{nat_tests}
use Rattle.std.proofs.lemmas.List.Elements.{filter-append}
use Rattle.std.proofs.lemmas.List.Sums.{sum_by-set}
use Rattle.std.specs.Arc.{arc_value}
use Rattle.std.specs.Prelude.{slice_index_or}
use Rattle.pf_core.proofs.Asked.{asked_open, opened_grows}
use Rattle.pf_core.specs.Asks.{as_opened, opened_at, opened_from}
use Rattle.pf_core.specs.Calls.{IsLackedBy, IsTaken, IsWhole, StandsForAsk, counted, is_in_hand}
use Rattle.pf_core.specs.Cores.{AreClosed, CoreData, IsSameHistory, machine_of, queue_at}
use Rattle.pf_base.specs.declared.plain.Limits.{Limits}
use Rattle.pf_core.specs.Jobs.{IsLegsOf, QueueHeads, failures_after}
use Rattle.pf_front.specs.Works.{HasFailed, IsEvaluated, IsIdle, IsWorked}
use Rattle.pf_front.specs.declared.working.Worked.{Worked}
use Rattle.pf_front.specs.declared.working.Worked.TheVariants as worked
use Rattle.pf_journal.specs.Legal.{machine_after}
use Rattle.pf_journal.specs.Machine.{Entry, Machine, Open, next, open_at, started}
use Rattle.pf_journal.specs.Rest.{of_done}
use Rattle.pf_model.specs.Lists.{Each}
use Rattle.pf_query.specs.Jobs.{hand_of, has_hand, is_other_hand, without_hand}
use Rattle.pf_query.specs.declared.job.Hand.{Hand}
use Rattle.pf_query.specs.declared.job.Held.{Held}
use Rattle.pf_client.proofs.Cases.{bool_cases}
use Rattle.pf_client.proofs.Hands.{absent, each_filter, filter_no, filter_others, filter_without, without_none}
use Rattle.pf_client.specs.Clients.{Grows}
use Rattle.pf_client.specs.Hands.{CountsTries, IsLive, done_told, is_job_of, jobs_in_hand}

-- ---- places

count_up : (m : Machine) (es : List Entry) → m.count ≤ (machine_after m es).count
count_up m [] = omega arith
count_up m (e ∷ es) = let more = count_up (next m e.what) es in omega (arith, more)

opened_under : (m : Machine) (es : List Entry) (q : ℕ) (o : Open) → opened_from m es q ≡ Some o → q < (machine_after m es).count
opened_under m [] q o h = cc
opened_under m (e ∷ es) q o h = elim (bool_cases (nat_eq m.count q)) [
  | inl t ↦
      let here : m.count ≡ q = grind (arith, nat_tests, t) in
      let more = count_up (next m e.what) es in
      omega (arith, here, more)
  | inr t ↦ let g : opened_from (next m e.what) es q ≡ Some o = rw t at h in opened_under (next m e.what) es q o g
]

-- what is open was asked
pub open_under : (c : CoreData) (q : ℕ) (o : Open) → open_at q (machine_of c).queries ≡ Some o → q < (machine_of c).count
open_under c q o h = opened_under started c.journal q (as_opened o) (asked_open c.journal q o h)

-- a held job's query is one of its tenant
pub owner_is : (c : CoreData) (held : Held) → StandsForAsk c held → (u : ℕ) → IsLive c u held.head.query → u ≡ held.head.tenant
owner_is c held h u (inl a) =
    let same : Some h.at ≡ Some (as_opened a.0) = sym h.asked ∙ asked_open c.journal held.head.query a.0 a.1.0 in
    let one : h.at ≡ as_opened a.0 = cc in
    sym a.1.1 ∙ sym (ap (λ (o : Open). o.tenant) one) ∙ sym h.job_of.tenant
owner_is c held h u (inr late) =
    let low = opened_under started c.journal held.head.query h.at h.asked in absurd (omega (arith, low, late))

-- ---- jobs in hand

module _ (old new : CoreData) (held : Held) (stands : StandsForAsk old held) where
  -- the job is taken out of its tenant's
  left_out : (queue_at new held.head.tenant).hands ≡ without_hand (hand_of held) (queue_at old held.head.tenant).hands
      → ((v : ℕ) → (v ≡ held.head.tenant → ⊥) → queue_at new v ≡ queue_at old v)
      → (u q : ℕ) → IsLive old u q → jobs_in_hand new u q ≡ without_hand (hand_of held) (jobs_in_hand old u q)
  left_out here others u q live = elim (bool_cases (nat_eq u held.head.tenant)) [
    | inl t ↦
        let e : u ≡ held.head.tenant = grind (arith, nat_tests, t) in
        subst (λ (v : ℕ). jobs_in_hand new v q ≡ without_hand (hand_of held) (jobs_in_hand old v q)) (sym e)
        (ap (filter (is_job_of q)) here ∙ filter_without q (hand_of held) (queue_at old held.head.tenant).hands)
    | inr t ↦
        let other : u ≡ held.head.tenant → ⊥ = λ e. grind (arith, nat_tests, t, e) in
        ap (λ (x : QueueHeads). filter (is_job_of q) x.hands) (others u other) ∙ sym (absent q (hand_of held) (queue_at old u).hands (another u q live other))
  ] where
    another : (u q : ℕ) → IsLive old u q → (u ≡ held.head.tenant → ⊥) → nat_eq held.head.query q ≡ false
    another u q live other = elim (bool_cases (nat_eq held.head.query q)) [
      | inl t ↦
          let e : q ≡ held.head.query = grind (arith, nat_tests, t) in
          absurd (other (owner_is old held stands u (subst (λ (x : ℕ). IsLive old u x) e live)))
      | inr t ↦ t
    ]

  -- the job's query is not open
  gone_out : open_at held.head.query (machine_of old).queries ≡ None → (u q : ℕ) → IsLive old u q → jobs_in_hand old u q ≡ without_hand (hand_of held) (jobs_in_hand old u q)
  gone_out none u q live = sym (absent q (hand_of held) (queue_at old u).hands another) where
    unopen : IsLive old u held.head.query → ⊥
    unopen (inl a) = let there = a.1.0 in let bad : None ≡ Some a.0 = sym none ∙ there in cc
    unopen (inr late) = let low = opened_under started old.journal held.head.query stands.at stands.asked in omega (arith, low, late)

    another : nat_eq held.head.query q ≡ false
    another = elim (bool_cases (nat_eq held.head.query q)) [
      | inl t ↦
          let e : q ≡ held.head.query = grind (arith, nat_tests, t) in
          absurd (unopen (subst (λ (x : ℕ). IsLive old u x) e live))
      | inr t ↦ t
    ]

  -- the job is not in hand
  not_in : has_hand (hand_of held) (queue_at old held.head.tenant).hands ≡ false → (u q : ℕ) → IsLive old u q
      → jobs_in_hand old u q ≡ without_hand (hand_of held) (jobs_in_hand old u q)
  not_in none u q live = elim (bool_cases (nat_eq held.head.query q)) [
    | inl t ↦
        let e : q ≡ held.head.query = grind (arith, nat_tests, t) in
        let owned : u ≡ held.head.tenant = owner_is old held stands u (subst (λ (x : ℕ). IsLive old u x) e live) in
        subst (λ (v : ℕ). jobs_in_hand old v q ≡ without_hand (hand_of held) (jobs_in_hand old v q)) (sym owned)
        (ap (filter (is_job_of q)) (sym (without_none (hand_of held) (queue_at old held.head.tenant).hands none))
        ∙ filter_without q (hand_of held) (queue_at old held.head.tenant).hands)
    | inr t ↦ sym (absent q (hand_of held) (queue_at old u).hands t)
  ]

  abbrev Drops : Type 0
  Drops = (u q : ℕ) → IsLive old u q → jobs_in_hand new u q ≡ without_hand (hand_of held) (jobs_in_hand old u q)

  stays : new ≡ old → ((u q : ℕ) → IsLive old u q → jobs_in_hand old u q ≡ without_hand (hand_of held) (jobs_in_hand old u q)) → Drops
  stays same f u q live = ap (λ (c : CoreData). jobs_in_hand c u q) same ∙ f u q live

  lacked_out : IsLackedBy old held new → IsSameHistory old new × Drops
  lacked_out h = by (open_at held.head.query (machine_of old).queries) refl where
    by : (o : Option Open) → open_at held.head.query (machine_of old).queries ≡ o → IsSameHistory old new × Drops
    by None e =
        let same = h.none e in
        (record { limits = ap (λ (c : CoreData). c.limits) same; names = ap (λ (c : CoreData). c.names) same; journal = ap (λ (c : CoreData). c.journal) same }, stays same (gone_out e))
    by (Some o) e =
        let s = h.some o e in
        let owned : o.tenant ≡ held.head.tenant = owner_is old held stands o.tenant (inl (o, (e, refl))) in
        let left = s.left in (
          s.history,
          left_out (subst (λ (v : ℕ). (queue_at new v).hands ≡ without_hand (hand_of held) (queue_at old v).hands) owned (ap (λ (x : QueueHeads). x.hands) left.here))
              (subst (λ (w : ℕ). (v : ℕ) → (v ≡ w → ⊥) → queue_at new v ≡ queue_at old v) owned left.others),
        )

  same_now : new ≡ old → IsSameHistory old new
  same_now same = record { limits = ap (λ (c : CoreData). c.limits) same; names = ap (λ (c : CoreData). c.names) same; journal = ap (λ (c : CoreData). c.journal) same }

  evaluated_out : (x : Worked) → IsEvaluated old held x new → IsSameHistory old new × Drops
  evaluated_out worked.Stored h =
      let r = h.1.1 in (r.history, left_out (ap (λ (x : QueueHeads). x.hands) r.queue_is.here) r.queue_is.others)
  evaluated_out (worked.Again tries) h = absurd h
  evaluated_out (worked.Exhausted job) h = absurd h
  evaluated_out worked.Lacked h = lacked_out h
  evaluated_out (worked.Gone why) h =
      let r = h.1 in (r.history, left_out (ap (λ (x : QueueHeads). x.hands) r.queue_is.here) r.queue_is.others)
  evaluated_out worked.NotHeld h = (same_now h.1, stays h.1 (either h.0)) where
    either : (open_at held.head.query (machine_of old).queries ≡ None) ⊎ (IsWhole old held.head.query × (is_in_hand old held ≡ false)) → (u q : ℕ) → IsLive old u q → jobs_in_hand old u q ≡ without_hand (hand_of held) (jobs_in_hand old u q)
    either (inl none) = gone_out none
    either (inr a) = not_in a.1

-- a failed try is counted first
module _ (old new : CoreData) (held : Held) (stands : StandsForAsk old held) where
  with_count : IsSameHistory (counted old held.actor) new → IsSameHistory old new
  with_count h = record { limits = h.limits; names = h.names; journal = h.journal }

  failed_out : (x : Worked) → HasFailed old held x new → IsSameHistory old new × Drops old new held stands
  failed_out worked.Stored h = absurd h
  failed_out (worked.Again tries) h =
      let r = h.1.1.1.1 in (with_count r.history, left_out old new held stands (ap (λ (x : QueueHeads). x.hands) r.queue_is.here) r.queue_is.others)
  failed_out (worked.Exhausted job) h =
      let s = h.1.1.1.1 in (with_count s.history, left_out old new held stands (ap (λ (x : QueueHeads). x.hands) s.left.here) s.left.others)
  failed_out worked.Lacked h = absurd h
  failed_out (worked.Gone why) h =
      let r = h.1 in (with_count r.history, left_out old new held stands (ap (λ (x : QueueHeads). x.hands) r.queue_is.here) r.queue_is.others)
  failed_out worked.NotHeld h = (
    with_count (same_now (counted old held.actor) new held stands h.1),
    λ u q live. ap (λ (c : CoreData). jobs_in_hand c u q) h.1 ∙ either h.0 u q live,
  ) where
    either : (open_at held.head.query (machine_of old).queries ≡ None) ⊎ (IsWhole (counted old held.actor) held.head.query × (is_in_hand (counted old held.actor) held ≡ false)) → (u q : ℕ) → IsLive old u q → jobs_in_hand old u q ≡ without_hand (hand_of held) (jobs_in_hand old u q)
    either (inl none) = gone_out old new held stands none
    either (inr a) = not_in old new held stands a.1

  -- a job that was worked on is in no hand any more
  pub worked_out : (before after : ℕ) (x : Worked) → IsWorked before after old held x new → IsSameHistory old new × Drops old new held stands
  worked_out before after x (inl h) = failed_out x h.1
  worked_out before after x (inr h) = evaluated_out old new held stands x h.1

-- ---- failed tries

failures_sum : (fs : List ℕ) (a : ℕ) → a < length fs → (18446744073709551615 ≤ sum (failures_after fs a)) ⊎ (sum fs + 1 ≤ sum (failures_after fs a))
failures_sum fs a inside = elim (bool_cases (nat_lt (sum fs) 18446744073709551615)) [
  | inl t ↦
      let set = sum_by-set (λ (n : ℕ). n) fs a (slice_index_or fs a 0 + 1) 0 inside in
      rw t (inr (omega (arith, set)))
  | inr t ↦ let most : 18446744073709551615 ≤ sum fs = grind (arith, nat_tests, t) in rw t (inl most)
]

length_set : (fs : List ℕ) (a n : ℕ) → length (slice_set fs a n) ≡ length fs
length_set fs a n = search rules

length_failures : (fs : List ℕ) (a : ℕ) → length (failures_after fs a) ≡ length fs
length_failures fs a = elim (bool_cases (nat_lt (sum fs) 18446744073709551615)) [
  | inl t ↦ rw t (length_set fs a (slice_index_or fs a 0 + 1))
  | inr t ↦ rw t refl
]

module _ (old new : CoreData) (held : Held) (known : held.actor < 32) (many : length new.failed ≡ 32) where
  counts_one : new.failed ≡ failures_after old.failed held.actor → (18446744073709551615 ≤ sum new.failed) ⊎ (sum old.failed + 1 ≤ sum new.failed)
  counts_one e =
      let long : length old.failed ≡ 32 = sym (length_failures old.failed held.actor) ∙ ap length (sym e) ∙ many in
      subst (λ (fs : List ℕ). (18446744073709551615 ≤ sum fs) ⊎ (sum old.failed + 1 ≤ sum fs)) (sym e)
      (failures_sum old.failed held.actor (omega (arith, long, known)))

  weaker : (n : ℕ) → n ≤ 1 → (18446744073709551615 ≤ sum new.failed) ⊎ (sum old.failed + 1 ≤ sum new.failed)
      → (18446744073709551615 ≤ sum new.failed) ⊎ (sum old.failed + n ≤ sum new.failed)
  weaker n low (inl most) = inl most
  weaker n low (inr more) = inr (omega (arith, low, more))

  kept_tries : new.failed ≡ old.failed → (18446744073709551615 ≤ sum new.failed) ⊎ (sum old.failed + 0 ≤ sum new.failed)
  kept_tries e = let s = ap (λ (fs : List ℕ). sum fs) e in inr (omega (arith, s))

  lacked_tries : IsLackedBy old held new → CountsTries old (of_done (done_told worked.Lacked)) new
  lacked_tries h = by (open_at held.head.query (machine_of old).queries) refl where
    by : (o : Option Open) → open_at held.head.query (machine_of old).queries ≡ o → CountsTries old (of_done (done_told worked.Lacked)) new
    by None e = kept_tries (ap (λ (c : CoreData). c.failed) (h.none e))
    by (Some o) e = kept_tries (h.some o e).failed

  evaluated_tries : (x : Worked) → IsEvaluated old held x new → CountsTries old (of_done (done_told x)) new
  evaluated_tries worked.Stored h = kept_tries h.1.1.failed
  evaluated_tries (worked.Again tries) h = absurd h
  evaluated_tries (worked.Exhausted job) h = absurd h
  evaluated_tries worked.Lacked h = lacked_tries h
  evaluated_tries (worked.Gone why) h = kept_tries h.1.failed
  evaluated_tries worked.NotHeld h = kept_tries (ap (λ (c : CoreData). c.failed) h.1)

  failed_tries : (x : Worked) → HasFailed old held x new → CountsTries old (of_done (done_told x)) new
  failed_tries worked.Stored h = absurd h
  failed_tries (worked.Again tries) h = counts_one h.1.1.1.1.failed
  failed_tries (worked.Exhausted job) h = counts_one h.1.1.1.1.failed
  failed_tries worked.Lacked h = absurd h
  failed_tries (worked.Gone why) h = weaker 0 (omega arith) (counts_one h.1.failed)
  failed_tries worked.NotHeld h = weaker 0 (omega arith) (counts_one (ap (λ (c : CoreData). c.failed) h.1))

  -- a failed try is counted where it is told
  pub worked_tries : (before after : ℕ) (x : Worked) → IsWorked before after old held x new → CountsTries old (of_done (done_told x)) new
  worked_tries before after x (inl h) = failed_tries x h.1
  worked_tries before after x (inr h) = evaluated_tries x h.1

-- ---- takes

pub taken_in : (old new : CoreData) (actor : ℕ) (held : Held) → (h : IsTaken old actor held new) → (u q : ℕ) → IsLive new u q
    → jobs_in_hand new u q ≡ jobs_in_hand old u q ++ filter (is_job_of q) (hand_of held ∷ [])
taken_in old new actor held h u q live = elim (bool_cases (nat_eq u h.tenant)) [
  | inl t ↦
      let e : u ≡ h.tenant = grind (arith, nat_tests, t) in
      subst (λ (v : ℕ). jobs_in_hand new v q ≡ jobs_in_hand old v q ++ filter (is_job_of q) (hand_of held ∷ [])) (sym e)
      (ap (λ (x : QueueHeads). filter (is_job_of q) x.hands) h.leaves.queue_is.here ∙ filter-append (is_job_of q) (queue_at old h.tenant).hands (hand_of held ∷ []))
  | inr t ↦
      let other : u ≡ h.tenant → ⊥ = λ e. grind (arith, nat_tests, t, e) in
      let none : filter (is_job_of q) (hand_of held ∷ []) ≡ [] = filter_no (is_job_of q) (hand_of held) [] (another other) in
      ap (λ (x : QueueHeads). filter (is_job_of q) x.hands) (h.leaves.queue_is.others u other) ∙ sym (ap (λ (xs : List Hand). jobs_in_hand old u q ++ xs) none ∙ append-nil (jobs_in_hand old u q))
] where
  another : (u ≡ h.tenant → ⊥) → nat_eq held.head.query q ≡ false
  another other = elim (bool_cases (nat_eq held.head.query q)) [
    | inl t ↦
        let e : q ≡ held.head.query = grind (arith, nat_tests, t) in
        absurd (other (owner_is new held h.stands u (subst (λ (x : ℕ). IsLive new u x) e live) ∙ h.own))
    | inr t ↦ t
  ]

idle_at : (old new : CoreData) (actor other : ℕ) (held : Held) → IsTaken old actor held new → (actor ≡ other → ⊥) → IsIdle old other → IsIdle new other
idle_at old new actor other held h differ idle u = elim (bool_cases (nat_eq u h.tenant)) [
  | inl t ↦
      let e : u ≡ h.tenant = grind (arith, nat_tests, t) in
      subst (λ (v : ℕ). Each (λ (x : Hand). x.actor ≡ other → ⊥) (queue_at new v).hands) (sym e)
      (subst (Each (λ (x : Hand). x.actor ≡ other → ⊥)) (sym (ap (λ (x : QueueHeads). x.hands) h.leaves.queue_is.here))
      (more (queue_at old h.tenant).hands (idle h.tenant)))
  | inr t ↦
      subst (λ (x : QueueHeads). Each (λ (y : Hand). y.actor ≡ other → ⊥) x.hands) (sym (h.leaves.queue_is.others u (λ e. grind (arith, nat_tests, t, e)))) (idle u)
] where
  more : (xs : List Hand) → Each (λ (x : Hand). x.actor ≡ other → ⊥) xs → Each (λ (x : Hand). x.actor ≡ other → ⊥) (xs ++ hand_of held ∷ [])
  more [] e = ((λ s. differ (sym h.actor_is ∙ s)), tt)
  more (x ∷ xs) e = (e.0, more xs e.1)

pub taken_idle : (old new : CoreData) (actor client : ℕ) (held : Held) → IsTaken old actor held new → client < actor → IsIdle old client → IsIdle new client
taken_idle old new actor client held h low idle = idle_at old new actor client held h (λ e. omega (arith, e, low)) idle

-- ---- closed queries

pub closed_jobs : (old new : CoreData) (query : ℕ) (o : Open) → open_at query (machine_of old).queries ≡ Some o → AreClosed old query new
    → (u q : ℕ) → nat_eq query q ≡ false → jobs_in_hand new u q ≡ jobs_in_hand old u q
closed_jobs old new query o there h u q other = elim (bool_cases (nat_eq u o.tenant)) [
  | inl t ↦
      let e : u ≡ o.tenant = grind (arith, nat_tests, t) in
      subst (λ (v : ℕ). jobs_in_hand new v q ≡ jobs_in_hand old v q) (sym e)
      (ap (λ (x : QueueHeads). filter (is_job_of q) x.hands) (h.left o there).here ∙ filter_others q query (queue_at old o.tenant).hands other)
  | inr t ↦ ap (λ (x : QueueHeads). filter (is_job_of q) x.hands) ((h.left o there).others u (λ e. grind (arith, nat_tests, t, e)))
]

pub closed_idle : (old new : CoreData) (query : ℕ) (o : Open) → open_at query (machine_of old).queries ≡ Some o → AreClosed old query new → (client : ℕ) → IsIdle old client → IsIdle new client
closed_idle old new query o there h client idle u = elim (bool_cases (nat_eq u o.tenant)) [
  | inl t ↦
      let e : u ≡ o.tenant = grind (arith, nat_tests, t) in
      subst (λ (v : ℕ). Each (λ (x : Hand). x.actor ≡ client → ⊥) (queue_at new v).hands) (sym e)
      (subst (Each (λ (x : Hand). x.actor ≡ client → ⊥)) (sym (ap (λ (x : QueueHeads). x.hands) (h.left o there).here))
      (each_filter (λ (x : Hand). x.actor ≡ client → ⊥) (is_other_hand query) (queue_at old o.tenant).hands (idle o.tenant)))
  | inr t ↦
      subst (λ (x : QueueHeads). Each (λ (y : Hand). y.actor ≡ client → ⊥) x.hands) (sym ((h.left o there).others u (λ e. grind (arith, nat_tests, t, e)))) (idle u)
]

-- ---- jobs stand

-- a job of an earlier journal stands in a later one
pub stands_on : {before after : ℕ} (old new : CoreData) (held : Held) → Grows before after old new → StandsForAsk old held → StandsForAsk new held
stands_on old new held g h = record {
  at = h.at;
  asked = subst (λ (es : List Entry). opened_at es held.head.query ≡ Some h.at) (sym g.journal) (opened_grows old.journal g.entries held.head.query h.at h.asked);
  legs_of = subst (λ (l : Limits). IsLegsOf l h.at (arc_value held.legs) (arc_value held.snap)) (sym g.limits) h.legs_of;
  job_of = h.job_of;
}
