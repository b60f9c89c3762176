-- What is kept of queries and the queues agree after each kind of change. This project's own.
use Rattle.std.proofs.Common.{◌≡◌, ◌∙◌, ℕ, ◌+◌, ◌<◌, ◌≤◌, inl, inr, true, false, nat_eq, Option, Some, None, List, [], ◌∷◌, ◌++◌, filter, refl, sym, ap, subst, arith, slice_get}
use Rattle.std.specs.Prelude.{IfSome}
use Rattle.pf_base.specs.GridLists.{GridData}
use Rattle.pf_journal.specs.Machine.{most_tenants}
use Rattle.pf_model.specs.Lists.{Each}
use Rattle.pf_query.specs.Jobs.{hand_of, has_hand, is_other_job, job_of_held, without_hand}
use Rattle.pf_shard.specs.declared.parts.Part.{Part}
use Rattle.pf_query.specs.Queueing.{AreWith, IsTaken, hands_in, waiting_in}
use Rattle.pf_query.specs.Tables.{Agree, EntryData, IsEntry, IsInHand, IsPlaced, IsWaiting, hands_named, is_named, jobs_named, one_if_empty, wanted}
use Rattle.pf_query.specs.Works.{IsHeadOf, IsWork, WorkData, filled}
use Rattle.pf_query.specs.declared.job.Hand.{Hand}
use Rattle.pf_query.specs.declared.job.Held.{Held}
use Rattle.pf_query.specs.declared.job.Job.{Job}
use Rattle.pf_query.specs.declared.queues.Queues.{Queues}
use Rattle.pf_query.specs.declared.slot.Slot.TheVariants.{Empty, Filled}
use Rattle.pf_query.specs.declared.stop.Stop.{Stop}
use Rattle.pf_query.proofs.Agreeing.{Changes, Kept, agree_after, entry_is, entry_with, goes_by, goes_on_by, goes_stopped, same_goes_on, stays_in_hand, waits_on}
use Rattle.pf_query.proofs.Naming.{count_fewer, count_same, count_without, each_without, eq_apart, eq_same, find_hand, is_other, named_other, named_own, num_cases, other_job}
use Rattle.pf_query.proofs.Slotted.{one_is_empty, set_filled, set_other, wanted_most, work_filled}
use Rattle.pf_query.proofs.Tallies.{count_append, count_cons, count_dropped, count_kept, count_one, each_append, each_filter, each_map, one_if}

-- ---- shapes

tenant_of : (o : Option EntryData) (u : ℕ) (s : Option Stop) (w : Option WorkData) (e : EntryData) → o ≡ Some (entry_with u s w) → o ≡ Some e → e ≡ entry_with u s w
tenant_of o u s w e h k = entry_is o e (entry_with u s w) k h

-- the fact of an entry by its parts
pub entry_fact : (query : ℕ) (W : ℕ → List Job) (H : ℕ → List Hand) (u : ℕ) (s : Option Stop) (w : Option WorkData)
    → u < most_tenants → IfSome w IsWork → ((n : ℕ) → IsPlaced s w n (jobs_named query n (W u)) (hands_named query n (H u))) → IsEntry query W H (entry_with u s w)
entry_fact query W H u s w k h p = record { known = k; work = h; placed = p }

-- the changes that one tenant's queue goes through
module _ (E F : Kept) (old new : Queues) (q u : ℕ) (jobs : List Job) (held : List Hand) (order : List ℕ) (aw : AreWith old u jobs held order new) where
  pub changes_by :
      ((e : EntryData) → E q ≡ Some e → e.tenant ≡ u) → ((p : ℕ) → (p ≡ q → ⊥) → F p ≡ E p)
      → ((p n : ℕ) → (p ≡ q → ⊥) → jobs_named p n jobs ≡ jobs_named p n (waiting_in old u))
      → ((p n : ℕ) → (p ≡ q → ⊥) → hands_named p n held ≡ hands_named p n (hands_in old u))
      → Changes E F (waiting_in old) (waiting_in new) (hands_in old) (hands_in new) q u
  changes_by owned entries f g = record {
    owned = owned;
    entries = entries;
    waiting = λ v d. (aw.others v d).waiting;
    hands = λ v d. (aw.others v d).hands;
    jobs_named = λ p n d. ap (λ js. jobs_named p n js) aw.waiting ∙ f p n d;
    hands_named = λ p n d. ap (λ xs. hands_named p n xs) aw.hands ∙ g p n d;
  }

  pub jobs_now : (n : ℕ) → jobs_named q n (waiting_in new u) ≡ jobs_named q n jobs
  jobs_now n = ap (λ js. jobs_named q n js) aw.waiting

  pub hands_now : (n : ℕ) → hands_named q n (hands_in new u) ≡ hands_named q n held
  hands_now n = ap (λ xs. hands_named q n xs) aw.hands

  pub agree_by :
      Agree E (waiting_in old) (hands_in old) → Changes E F (waiting_in old) (waiting_in new) (hands_in old) (hands_in new) q u
      → Each (IsWaiting F u) jobs → Each (IsInHand F u) held
      → ((e : EntryData) → F q ≡ Some e → IsEntry q (waiting_in new) (hands_in new) e) → Agree F (waiting_in new) (hands_in new)
  agree_by a c f g h =
      agree_after E F (waiting_in old) (waiting_in new) (hands_in old) (hands_in new) q u a c
      (subst (λ (js : List Job). Each (IsWaiting F u) js) (sym aw.waiting) f) (subst (λ (xs : List Hand). Each (IsInHand F u) xs) (sym aw.hands) g) h

-- an entry's fact from that of its parts
here_by : (F : Kept) (new : Queues) (q u : ℕ) (s : Option Stop) (w : Option WorkData) → F q ≡ Some (entry_with u s w)
    → IsEntry q (waiting_in new) (hands_in new) (entry_with u s w) → (e : EntryData) → F q ≡ Some e → IsEntry q (waiting_in new) (hands_in new) e
here_by F new q u s w h k e f =
    subst (λ (x : EntryData). IsEntry q (waiting_in new) (hands_in new) x) (sym (tenant_of (F q) u s w e h f)) k

owned_by : (E : Kept) (q u : ℕ) (s : Option Stop) (w : Option WorkData) → E q ≡ Some (entry_with u s w) → (e : EntryData) → E q ≡ Some e → e.tenant ≡ u
owned_by E q u s w h e f = ap (λ (x : EntryData). x.tenant) (tenant_of (E q) u s w e h f)

-- ---- the first job is taken

module _ (E : Kept) (old new : Queues) (a : Agree E (waiting_in old) (hands_in old)) (actor : ℕ) (held : Held) (t : IsTaken old actor held new) where
  pub waited : IsWaiting E t.tenant t.job
  waited = (subst (λ (js : List Job). Each (IsWaiting E t.tenant) js) t.waiting (a.all_waiting t.tenant)).0

  left_waiting : Each (IsWaiting E t.tenant) t.jobs
  left_waiting = (subst (λ (js : List Job). Each (IsWaiting E t.tenant) js) t.waiting (a.all_waiting t.tenant)).1

  same_head : held.head ≡ t.job.head
  same_head = ap (λ (h : Held). h.head) t.held_is

  now_in_hand : IsInHand E t.tenant (hand_of held)
  now_in_hand =
      subst (λ (h : Held). IsInHand E t.tenant (hand_of h)) (sym t.held_is)
      (record { stop = None; work = waited.work; entry = waited.entry; tenant_is = waited.tenant_is; run = waited.run; head = waited.head })

  jobs_before : (p n : ℕ) → jobs_named p n (waiting_in old t.tenant) ≡ one_if (is_named p n t.job.head) + jobs_named p n t.jobs
  jobs_before p n = ap (λ js. jobs_named p n js) t.waiting ∙ count_cons (λ j. is_named p n j.head) t.job t.jobs

  hands_after : (p n : ℕ) → hands_named p n (hands_in old t.tenant ++ hand_of held ∷ []) ≡ hands_named p n (hands_in old t.tenant) + one_if (is_named p n t.job.head)
  hands_after p n =
      let x = count_append (λ h. is_named p n h.head) (hands_in old t.tenant) (hand_of held ∷ []) in
      let y = count_one (λ h. is_named p n h.head) (hand_of held) in
      let z : one_if (is_named p n held.head) ≡ one_if (is_named p n t.job.head) = ap (λ h. one_if (is_named p n h)) same_head in
      omega (arith, x, y, z)

  no_other : (p n : ℕ) → (p ≡ t.job.head.query → ⊥) → one_if (is_named p n t.job.head) ≡ 0
  no_other p n d = ap (λ b. one_if b) (named_other p n t.job.head.query t.job.head refl d)

  taken_placed : (n : ℕ) → IsPlaced None (Some waited.work) n (jobs_named t.job.head.query n (waiting_in new t.tenant)) (hands_named t.job.head.query n (hands_in new t.tenant))
  taken_placed n =
      let q = t.job.head.query in
      let b = (a.all_kept q (entry_with t.tenant None (Some waited.work)) waited.entry).placed n in
      let x = jobs_before q n in
      let y = hands_after q n in
      let v = ap (λ js. jobs_named q n js) t.left.waiting in
      let w = ap (λ xs. hands_named q n xs) t.left.hands in omega (arith, b, x, y, v, w)

  pub agree_taken : Agree E (waiting_in new) (hands_in new)
  agree_taken =
      let q = t.job.head.query in
      let u = t.tenant in
      let k = a.all_kept q (entry_with u None (Some waited.work)) waited.entry in
      let c = changes_by E E old new q u t.jobs (hands_in old u ++ hand_of held ∷ []) _ t.left
      (owned_by E q u None (Some waited.work) waited.entry) (λ p d. refl)
      (λ p n d. let x = jobs_before p n in let z = no_other p n d in omega (arith, x, z))
      (λ p n d. let x = hands_after p n in let z = no_other p n d in omega (arith, x, z)) in
      agree_by E E old new q u t.jobs (hands_in old u ++ hand_of held ∷ []) _ t.left a c left_waiting
      (each_append (IsInHand E u) (hands_in old u) (hand_of held ∷ []) (a.all_in_hand u) (now_in_hand, tt))
      (here_by E new q u None (Some waited.work) waited.entry (entry_fact q (waiting_in new) (hands_in new) u None (Some waited.work) k.known k.work taken_placed))

-- ---- a job in hand

-- a job in hand of a query that isn't stopped has an empty slot
pub record Holds (E : Kept) (held : Held) : Type 0 where
  pub work : WorkData
  pub entry : E held.head.query ≡ Some (entry_with held.head.tenant None (Some work))
  pub run : GridData
  pub head : IsHeadOf work.legs work.runs run held.head
  pub empty : slice_get work.slots held.head.job ≡ Some Empty

stop_same : (o : Option EntryData) (u v : ℕ) (s : Option Stop) (w : Option WorkData) (e : EntryData) → o ≡ Some (entry_with u s w) → o ≡ Some e → e.stop ≡ None → s ≡ None
stop_same o u v s w e h k n = sym (ap (λ (x : EntryData). x.stop) (tenant_of o u s w e h k)) ∙ n

module _ (E : Kept) (old : Queues) (a : Agree E (waiting_in old) (hands_in old)) (held : Held)
    (there : has_hand (hand_of held) (hands_in old held.head.tenant) ≡ true) where
  pub known_hand : IsInHand E held.head.tenant (hand_of held)
  known_hand = find_hand (IsInHand E held.head.tenant) (hand_of held) (hands_in old held.head.tenant) (a.all_in_hand held.head.tenant) there

  counted_hand : 1 ≤ hands_named held.head.query held.head.job (hands_in old held.head.tenant)
  counted_hand =
      let n = held.head.job in
      let q = held.head.query in
      let x = count_without (λ h. is_named q n h.head) (hand_of held) (hands_in old held.head.tenant) there in
      let z : one_if (is_named q n held.head) ≡ 1 = ap (λ b. one_if b) (named_own q n held.head refl ∙ eq_same n) in
      omega (arith, x, z)

  pub holds : (e : EntryData) → E held.head.query ≡ Some e → e.stop ≡ None → Holds E held
  holds e h n =
      let k = known_hand in
      let same : E held.head.query ≡ Some (entry_with held.head.tenant None (Some k.work)) =
      subst (λ s. E held.head.query ≡ Some (entry_with held.head.tenant s (Some k.work))) (stop_same (E held.head.query) held.head.tenant 0 k.stop (Some k.work) e k.entry h n) k.entry in
      let placed = (a.all_kept held.head.query (entry_with held.head.tenant None (Some k.work)) same).placed held.head.job in
      let some = counted_hand in
      record { work = k.work; entry = same; run = k.run; head = k.head; empty = one_is_empty (slice_get k.work.slots held.head.job) (omega (arith, placed, some)) }

-- ---- its part is stored

module _ (E F : Kept) (old new : Queues) (a : Agree E (waiting_in old) (hands_in old)) (held : Held) (part : Part) (h : Holds E held)
    (there : has_hand (hand_of held) (hands_in old held.head.tenant) ≡ true)
    (set : F held.head.query ≡ Some (entry_with held.head.tenant None (Some (filled held.head.job part h.work))))
    (entries : (p : ℕ) → (p ≡ held.head.query → ⊥) → F p ≡ E p)
    (order : List ℕ)
    (aw : AreWith old held.head.tenant (waiting_in old held.head.tenant) (without_hand (hand_of held) (hands_in old held.head.tenant)) order new) where
  stored_jobs : Each (IsWaiting F held.head.tenant) (waiting_in old held.head.tenant)
  stored_jobs =
      each_map (IsWaiting E held.head.tenant) (IsWaiting F held.head.tenant)
      (λ j k. waits_on E F held.head.tenant j
      (goes_on_by E F held.head.query held.head.tenant h.work (filled held.head.job part h.work) h.entry set refl refl entries j.head.query held.head.tenant) k)
      (waiting_in old held.head.tenant) (a.all_waiting held.head.tenant)

  stored_hands : Each (IsInHand F held.head.tenant) (without_hand (hand_of held) (hands_in old held.head.tenant))
  stored_hands =
      each_without (IsInHand F held.head.tenant) (hand_of held) (hands_in old held.head.tenant)
      (each_map (IsInHand E held.head.tenant) (IsInHand F held.head.tenant)
      (λ x k. stays_in_hand E F held.head.tenant x
      (goes_by E F held.head.query held.head.tenant None None h.work (filled held.head.job part h.work) h.entry set refl refl entries x.head.query held.head.tenant) k)
      (hands_in old held.head.tenant) (a.all_in_hand held.head.tenant))

  -- the number of its hands is one less, and of others the same
  released : (n : ℕ) → hands_named held.head.query n (without_hand (hand_of held) (hands_in old held.head.tenant)) + one_if (nat_eq held.head.job n)
      ≡ hands_named held.head.query n (hands_in old held.head.tenant)
  released n =
      let x = count_without (λ k. is_named held.head.query n k.head) (hand_of held) (hands_in old held.head.tenant) there in
      let z : one_if (is_named held.head.query n held.head) ≡ one_if (nat_eq held.head.job n) =
      ap (λ b. one_if b) (named_own held.head.query n held.head refl) in omega (arith, x, z)

  stored_wanted : (n : ℕ) → wanted (Some (filled held.head.job part h.work)) n + one_if (nat_eq held.head.job n) ≡ wanted (Some h.work) n
  stored_wanted n = elim (num_cases n held.head.job) [
    | inl t ↦
        subst (λ m. wanted (Some (filled held.head.job part h.work)) m + one_if (nat_eq held.head.job m) ≡ wanted (Some h.work) m) (sym t)
        (let x = set_filled h.work.slots held.head.job part in
        let y : one_if_empty (slice_get h.work.slots held.head.job) ≡ 1 = ap one_if_empty h.empty in
        let z : one_if (nat_eq held.head.job held.head.job) ≡ 1 = ap (λ b. one_if b) (eq_same held.head.job) in omega (arith, x, y, z))
    | inr d ↦
        let x : wanted (Some (filled held.head.job part h.work)) n ≡ wanted (Some h.work) n = ap one_if_empty (set_other h.work.slots held.head.job n (Filled part) d) in
        let z : one_if (nat_eq held.head.job n) ≡ 0 = ap (λ b. one_if b) (eq_apart held.head.job n (λ e. d (sym e))) in omega (arith, x, z)
  ]

  stored_placed : (n : ℕ) → IsPlaced None (Some (filled held.head.job part h.work)) n
      (jobs_named held.head.query n (waiting_in new held.head.tenant)) (hands_named held.head.query n (hands_in new held.head.tenant))
  stored_placed n =
      let b = (a.all_kept held.head.query (entry_with held.head.tenant None (Some h.work)) h.entry).placed n in
      let x = released n in
      let y = stored_wanted n in
      let v = ap (λ js. jobs_named held.head.query n js) aw.waiting in
      let w = ap (λ xs. hands_named held.head.query n xs) aw.hands in omega (arith, b, x, y, v, w)

  pub agree_stored : Agree F (waiting_in new) (hands_in new)
  agree_stored =
      let q = held.head.query in
      let u = held.head.tenant in
      let w : WorkData = filled held.head.job part h.work in
      let k = a.all_kept q (entry_with u None (Some h.work)) h.entry in
      let c = changes_by E F old new q u (waiting_in old u) (without_hand (hand_of held) (hands_in old u)) order aw
      (owned_by E q u None (Some h.work) h.entry) entries (λ p n d. refl)
      (λ p n d. count_same (λ x. is_named p n x.head) (hand_of held) (hands_in old u) (named_other p n q held.head refl d)) in
      agree_by E F old new q u (waiting_in old u) (without_hand (hand_of held) (hands_in old u)) order aw a c stored_jobs stored_hands
      (here_by F new q u None (Some w) set
      (entry_fact q (waiting_in new) (hands_in new) u None (Some w) k.known (work_filled h.work held.head.job part k.work h.empty) stored_placed))

-- ---- a job waits again

module _ (E : Kept) (old new : Queues) (a : Agree E (waiting_in old) (hands_in old)) (held : Held) (h : Holds E held)
    (there : has_hand (hand_of held) (hands_in old held.head.tenant) ≡ true) (few : held.head.tries + 1 < 5)
    (order : List ℕ)
    (aw : AreWith old held.head.tenant (waiting_in old held.head.tenant ++ job_of_held (held.head.tries + 1) held ∷ [])
    (without_hand (hand_of held) (hands_in old held.head.tenant)) order new) where
  again_waits : IsWaiting E held.head.tenant (job_of_held (held.head.tries + 1) held)
  again_waits = record {
    work = h.work;
    entry = h.entry;
    tenant_is = refl;
    run = h.run;
    head = record { run_is = h.head.run_is; leg = h.head.leg; first = h.head.first; last = h.head.last; tries = few };
  }

  again_jobs : (p n : ℕ) → jobs_named p n (waiting_in old held.head.tenant ++ job_of_held (held.head.tries + 1) held ∷ [])
      ≡ jobs_named p n (waiting_in old held.head.tenant) + one_if (is_named p n held.head)
  again_jobs p n =
      let x = count_append (λ j. is_named p n j.head) (waiting_in old held.head.tenant) (job_of_held (held.head.tries + 1) held ∷ []) in
      let y = count_one (λ j. is_named p n j.head) (job_of_held (held.head.tries + 1) held) in omega (arith, x, y)

  again_placed : (n : ℕ) → IsPlaced None (Some h.work) n
      (jobs_named held.head.query n (waiting_in new held.head.tenant)) (hands_named held.head.query n (hands_in new held.head.tenant))
  again_placed n =
      let b = (a.all_kept held.head.query (entry_with held.head.tenant None (Some h.work)) h.entry).placed n in
      let x = again_jobs held.head.query n in
      let y = count_without (λ k. is_named held.head.query n k.head) (hand_of held) (hands_in old held.head.tenant) there in
      let v = ap (λ js. jobs_named held.head.query n js) aw.waiting in
      let w = ap (λ xs. hands_named held.head.query n xs) aw.hands in omega (arith, b, x, y, v, w)

  pub agree_again : Agree E (waiting_in new) (hands_in new)
  agree_again =
      let q = held.head.query in
      let u = held.head.tenant in
      let k = a.all_kept q (entry_with u None (Some h.work)) h.entry in
      let c = changes_by E E old new q u _ _ order aw
      (owned_by E q u None (Some h.work) h.entry) (λ p d. refl)
      (λ p n d. let x = again_jobs p n in let z : one_if (is_named p n held.head) ≡ 0 = ap (λ b. one_if b) (named_other p n q held.head refl d) in omega (arith, x, z))
      (λ p n d. count_same (λ x. is_named p n x.head) (hand_of held) (hands_in old u) (named_other p n q held.head refl d)) in
      agree_by E E old new q u _ _ order aw a c
      (each_append (IsWaiting E u) (waiting_in old u) (job_of_held (held.head.tries + 1) held ∷ []) (a.all_waiting u) (again_waits, tt))
      (each_without (IsInHand E u) (hand_of held) (hands_in old u) (a.all_in_hand u))
      (here_by E new q u None (Some h.work) h.entry (entry_fact q (waiting_in new) (hands_in new) u None (Some h.work) k.known k.work again_placed))

-- ---- a query is stopped

hands_most : (s : Option Stop) (w : Option WorkData) (n i j : ℕ) → IsPlaced s w n i j → j ≤ 1
hands_most None w n i j h = let m = wanted_most w n in omega (arith, h, m)
hands_most (Some why) w n i j h = h.1

module _ (E F : Kept) (old new : Queues) (a : Agree E (waiting_in old) (hands_in old)) (q : ℕ) (o : EntryData) (why : Stop) (was : E q ≡ Some o)
    (set : F q ≡ Some (entry_with o.tenant (Some why) o.work)) (entries : (p : ℕ) → (p ≡ q → ⊥) → F p ≡ E p)
    (hands : List Hand) (order : List ℕ)
    (each : Each (IsInHand E o.tenant) hands)
    (fewer : (n : ℕ) → hands_named q n hands ≤ hands_named q n (hands_in old o.tenant))
    (same : (p n : ℕ) → (p ≡ q → ⊥) → hands_named p n hands ≡ hands_named p n (hands_in old o.tenant))
    (aw : AreWith old o.tenant (filter (is_other_job q) (waiting_in old o.tenant)) hands order new) where
  still_waits : (j : Job) → is_other_job q j ≡ true → IsWaiting E o.tenant j → IsWaiting F o.tenant j
  still_waits j t k = waits_on E F o.tenant j (same_goes_on E F j.head.query o.tenant (entries j.head.query (other_job q j t))) k

  not_named : (n : ℕ) (j : Job) → is_other_job q j ≡ true → is_named q n j.head ≡ false
  not_named n j t = named_other q n j.head.query j.head refl (λ e. other_job q j t (sym e))

  stopped_placed : (n : ℕ) → IsPlaced (Some why) o.work n (jobs_named q n (waiting_in new o.tenant)) (hands_named q n (hands_in new o.tenant))
  stopped_placed n =
      let b = hands_most o.stop o.work n _ _ ((a.all_kept q o was).placed n) in
      let f = fewer n in
      let w = ap (λ xs. hands_named q n xs) aw.hands in
      let none = count_dropped (λ j. is_named q n j.head) (is_other_job q) (not_named n) (waiting_in old o.tenant) in
      let v = ap (λ js. jobs_named q n js) aw.waiting in (v ∙ none, omega (arith, b, f, w))

  pub agree_stopped : Agree F (waiting_in new) (hands_in new)
  agree_stopped =
      let u = o.tenant in
      let k = a.all_kept q o was in
      let c = changes_by E F old new q u _ hands order aw
      (λ e h. ap (λ (x : EntryData). x.tenant) (entry_is (E q) e o h was)) entries
      (λ p n d. count_kept (λ j. is_named p n j.head) (is_other_job q) (λ j t. is_other p q n j.head d t) (waiting_in old u)) same in
      agree_by E F old new q u _ hands order aw a c
      (each_filter (IsWaiting E u) (IsWaiting F u) (is_other_job q) still_waits (waiting_in old u) (a.all_waiting u))
      (each_map (IsInHand E u) (IsInHand F u) (λ x l. stays_in_hand E F u x (goes_stopped E F q o (Some why) was set entries x.head.query u) l) hands each)
      (here_by F new q u (Some why) o.work set (entry_fact q (waiting_in new) (hands_in new) u (Some why) o.work k.known k.work stopped_placed))

-- ---- a job of a stopped query is in hand no more

module _ (E : Kept) (old new : Queues) (a : Agree E (waiting_in old) (hands_in old)) (held : Held) (o : EntryData) (why : Stop)
    (was : E held.head.query ≡ Some o) (is_stopped : o.stop ≡ Some why)
    (there : has_hand (hand_of held) (hands_in old held.head.tenant) ≡ true) (order : List ℕ)
    (aw : AreWith old held.head.tenant (waiting_in old held.head.tenant) (without_hand (hand_of held) (hands_in old held.head.tenant)) order new) where
  gone_tenant : o.tenant ≡ held.head.tenant
  gone_tenant =
      let k = known_hand E old a held there in
      ap (λ (x : EntryData). x.tenant) (entry_is (E held.head.query) o (entry_with held.head.tenant k.stop (Some k.work)) was k.entry)

  gone_placed : (n i j k l : ℕ) → k ≡ i → l ≤ j → IsPlaced o.stop o.work n i j → IsPlaced o.stop o.work n k l
  gone_placed n i j k l e f h =
      subst (λ s. IsPlaced s o.work n k l) (sym is_stopped)
      (let p : IsPlaced (Some why) o.work n i j = subst (λ s. IsPlaced s o.work n i j) is_stopped h in (e ∙ p.0, let m = p.1 in omega (arith, m, f)))

  gone_entry : (n : ℕ) → IsPlaced o.stop o.work n (jobs_named held.head.query n (waiting_in new o.tenant)) (hands_named held.head.query n (hands_in new o.tenant))
  gone_entry n =
      let q = held.head.query in
      let x : jobs_named q n (waiting_in new o.tenant) ≡ jobs_named q n (waiting_in old o.tenant) =
      subst (λ z. jobs_named q n (waiting_in new z) ≡ jobs_named q n (waiting_in old z)) (sym gone_tenant) (ap (λ js. jobs_named q n js) aw.waiting) in
      let y : hands_named q n (hands_in new o.tenant) ≤ hands_named q n (hands_in old o.tenant) =
      subst (λ z. hands_named q n (hands_in new z) ≤ hands_named q n (hands_in old z)) (sym gone_tenant)
      (let e = ap (λ xs. hands_named q n xs) aw.hands in
      let f = count_fewer (λ k. is_named q n k.head) (hand_of held) (hands_in old held.head.tenant) in omega (arith, e, f)) in
      gone_placed n _ _ _ _ x y ((a.all_kept q o was).placed n)

  pub agree_gone : Agree E (waiting_in new) (hands_in new)
  agree_gone =
      let q = held.head.query in
      let u = held.head.tenant in
      let k = a.all_kept q o was in
      let c = changes_by E E old new q u (waiting_in old u) (without_hand (hand_of held) (hands_in old u)) order aw
      (λ e h. ap (λ (x : EntryData). x.tenant) (entry_is (E q) e o h was) ∙ gone_tenant) (λ p d. refl) (λ p n d. refl)
      (λ p n d. count_same (λ x. is_named p n x.head) (hand_of held) (hands_in old u) (named_other p n q held.head refl d)) in
      agree_by E E old new q u (waiting_in old u) (without_hand (hand_of held) (hands_in old u)) order aw a c
      (a.all_waiting u) (each_without (IsInHand E u) (hand_of held) (hands_in old u) (a.all_in_hand u))
      (λ e h. subst (λ (x : EntryData). IsEntry q (waiting_in new) (hands_in new) x) (entry_is (E q) o e was h)
      (record { known = k.known; work = k.work; placed = gone_entry }))
