-- What is kept of queries and the queues agree after a query is opened, planned, collected or closed. This project's own.
use Rattle.std.proofs.Common.{◌≡◌, ◌∙◌, ℕ, ◌+◌, ◌*◌, ◌<◌, ◌≤◌, inl, inr, Bool, false, nat_eq, Option, Some, None, List, [], ◌∷◌, ◌++◌, length, filter, refl, sym, ap, subst, arith, slice_get}
use Rattle.std.specs.Option.{option_map}
use Rattle.std.specs.Prelude.{IfSome}
use Rattle.pf_base.specs.GridLists.{GridData}
use Rattle.pf_block.specs.Snaps.{SnapData}
use Rattle.pf_journal.specs.Machine.{most_tenants}
use Rattle.pf_model.specs.Lists.{Each}
use Rattle.pf_shard.specs.Lawful.{IsLawful, ResolvedLegs, legs_data}
use Rattle.pf_query.specs.Jobs.{is_other_hand, is_other_job}
use Rattle.pf_query.specs.Queueing.{AreSame, AreWith, hands_in, waiting_in}
use Rattle.pf_query.specs.Tables.{Agree, EntryData, IsEntry, IsInHand, IsPlaced, IsWaiting, hands_named, hands_with, is_named, is_of, jobs_in, jobs_named, one_if_empty, wanted}
use Rattle.pf_query.specs.Works.{ArePlanned, EachAt, IsPlanned, IsWork, WorkData, handed_out, legs_in, offered, planned_work}
use Rattle.pf_extent.specs.declared.done.DoneCells.{DoneCells}
use Rattle.pf_query.specs.declared.job.Hand.{Hand}
use Rattle.pf_query.specs.declared.job.Job.{Job}
use Rattle.pf_query.specs.declared.queues.Queues.{Queues}
use Rattle.pf_query.specs.declared.stop.Stop.{Stop}
use Rattle.pf_query.proofs.Agreeing.{Changes, Goes, GoesOn, Kept, Unplanned, agree_after, entry_is, entry_with, goes_by, goes_on_by, never_planned, no_entry, no_hand_of, no_job_of, same_goes, same_goes_on, stays_in_hand, waits_on}
use Rattle.pf_query.proofs.Stepping.{agree_by, changes_by, entry_fact}
use Rattle.pf_query.proofs.Naming.{eq_apart, eq_same, is_other, named_of, named_other, named_own, num_cases, num_within, other_hand, other_job}
use Rattle.pf_query.proofs.Slotted.{empty_beyond, empty_within, handed_none, work_handed_out, work_offered, work_planned}
use Rattle.pf_query.proofs.Tallies.{count_append, count_cons, count_kept, count_less, count_none, each_append, each_filter, each_map, one_if}

-- ---- nothing is changed

module _ (E F : Kept) (W V : ℕ → List Job) (H G : ℕ → List Hand) (a : Agree E W H) (entries : (p : ℕ) → F p ≡ E p) (waiting : (v : ℕ) → V v ≡ W v) (hands : (v : ℕ) → G v ≡ H v) where
  equal_entry : (p : ℕ) (e : EntryData) → IsEntry p W H e → IsEntry p V G e
  equal_entry p e k = record {
    known = k.known;
    work = k.work;
    placed = λ n. subst (λ (js : List Job). IsPlaced e.stop e.work n (jobs_named p n js) (hands_named p n (G e.tenant))) (sym (waiting e.tenant))
        (subst (λ (xs : List Hand). IsPlaced e.stop e.work n (jobs_named p n (W e.tenant)) (hands_named p n xs)) (sym (hands e.tenant)) (k.placed n));
  }

  pub agree_equal : Agree F V G
  agree_equal = record {
    all_waiting = λ v. subst (λ (js : List Job). Each (IsWaiting F v) js) (sym (waiting v))
        (each_map (IsWaiting E v) (IsWaiting F v) (λ j h. waits_on E F v j (same_goes_on E F j.head.query v (entries j.head.query)) h) (W v) (a.all_waiting v));
    all_in_hand = λ v. subst (λ (xs : List Hand). Each (IsInHand F v) xs) (sym (hands v))
        (each_map (IsInHand E v) (IsInHand F v) (λ x h. stays_in_hand E F v x (same_goes E F x.head.query v (entries x.head.query)) h) (H v) (a.all_in_hand v));
    all_kept = λ p e h. equal_entry p e (a.all_kept p e (sym (entries p) ∙ h));
  }

-- the entry of one query is changed alone
module _ (E F : Kept) (old new : Queues) (q u : ℕ) (same : AreSame old new) where
  pub alone : ((e : EntryData) → E q ≡ Some e → e.tenant ≡ u) → ((p : ℕ) → (p ≡ q → ⊥) → F p ≡ E p)
      → Changes E F (waiting_in old) (waiting_in new) (hands_in old) (hands_in new) q u
  alone owned entries = record {
    owned = owned;
    entries = entries;
    waiting = λ v d. (same.queues v).waiting;
    hands = λ v d. (same.queues v).hands;
    jobs_named = λ p n d. ap (λ js. jobs_named p n js) (same.queues u).waiting;
    hands_named = λ p n d. ap (λ xs. hands_named p n xs) (same.queues u).hands;
  }

  pub agree_alone : Agree E (waiting_in old) (hands_in old) → ((e : EntryData) → E q ≡ Some e → e.tenant ≡ u) → ((p : ℕ) → (p ≡ q → ⊥) → F p ≡ E p)
      → Each (IsWaiting F u) (waiting_in old u) → Each (IsInHand F u) (hands_in old u)
      → ((e : EntryData) → F q ≡ Some e → IsEntry q (waiting_in new) (hands_in new) e) → Agree F (waiting_in new) (hands_in new)
  agree_alone a owned entries f g h =
      agree_after E F (waiting_in old) (waiting_in new) (hands_in old) (hands_in new) q u a (alone owned entries)
      (subst (λ (js : List Job). Each (IsWaiting F u) js) (sym (same.queues u).waiting) f)
      (subst (λ (xs : List Hand). Each (IsInHand F u) xs) (sym (same.queues u).hands) g) h

-- ---- none of a query that isn't planned

none_named : (E : Kept) (q v n : ℕ) (jobs : List Job) → Each (IsWaiting E v) jobs → jobs_in q jobs ≡ 0 → jobs_named q n jobs ≡ 0
none_named E q v n jobs h k =
    let l = count_less (λ j. is_named q n j.head) (λ j. is_of q j.head) (λ j t. named_of q n j.head t) jobs in omega (arith, k, l)

none_in_hand : (E : Kept) (q v n : ℕ) (hands : List Hand) → Each (IsInHand E v) hands → hands_with q hands ≡ 0 → hands_named q n hands ≡ 0
none_in_hand E q v n hands h k =
    let l = count_less (λ x. is_named q n x.head) (λ x. is_of q x.head) (λ x t. named_of q n x.head t) hands in omega (arith, k, l)

-- ---- a query is opened

module _ (E F : Kept) (old new : Queues) (a : Agree E (waiting_in old) (hands_in old)) (q u : ℕ) (known : u < most_tenants) (fresh : E q ≡ None)
    (set : F q ≡ Some (entry_with u None None)) (entries : (p : ℕ) → (p ≡ q → ⊥) → F p ≡ E p) (same : AreSame old new) where
  other_query : (p v : ℕ) (s : Option Stop) (w : WorkData) → E p ≡ Some (entry_with v s (Some w)) → p ≡ q → ⊥
  other_query p v s w h e = no_entry (E q) (entry_with v s (Some w)) fresh (subst (λ x. E x ≡ Some (entry_with v s (Some w))) e h)

  opened_placed : (n : ℕ) → IsPlaced None None n (jobs_named q n (waiting_in new u)) (hands_named q n (hands_in new u))
  opened_placed n =
      let x = no_job_of E q u (waiting_in old u) (a.all_waiting u) (subst Unplanned (sym fresh) tt) in
      let y = no_hand_of E q u (hands_in old u) (a.all_in_hand u) (subst Unplanned (sym fresh) tt) in
      let z = none_named E q u n (waiting_in old u) (a.all_waiting u) x in
      let w = none_in_hand E q u n (hands_in old u) (a.all_in_hand u) y in
      let v = ap (λ js. jobs_named q n js) (same.queues u).waiting in
      let t = ap (λ xs. hands_named q n xs) (same.queues u).hands in omega (arith, z, w, v, t)

  pub agree_opened : Agree F (waiting_in new) (hands_in new)
  agree_opened =
      agree_alone E F old new q u same a (λ e h. absurd (no_entry (E q) e fresh h)) entries
      (each_map (IsWaiting E u) (IsWaiting F u)
      (λ j h. waits_on E F u j (λ w k. same_goes_on E F j.head.query u (entries j.head.query (other_query j.head.query u None w k)) w k) h) (waiting_in old u) (a.all_waiting u))
      (each_map (IsInHand E u) (IsInHand F u)
      (λ x h. stays_in_hand E F u x (λ s w k. same_goes E F x.head.query u (entries x.head.query (other_query x.head.query u s w k)) s w k) h) (hands_in old u) (a.all_in_hand u))
      (λ e h. subst (λ (x : EntryData). IsEntry q (waiting_in new) (hands_in new) x) (entry_is (F q) (entry_with u None None) e set h)
      (entry_fact q (waiting_in new) (hands_in new) u None None known tt opened_placed))

-- ---- a query is planned

module _ (q u : ℕ) (legs : ResolvedLegs) (runs : List GridData) (snap : SnapData) where
  one_named : (n k : ℕ) (j : Job) → IsPlanned u q legs runs snap k j → one_if (is_named q n j.head) ≡ one_if (nat_eq k n)
  one_named n k j h = ap (λ b. one_if b) (named_own q n j.head h.query_is ∙ ap (λ x. nat_eq x n) h.number_is)

  pub named_before : (n k : ℕ) (jobs : List Job) → EachAt (IsPlanned u q legs runs snap) k jobs → n < k → jobs_named q n jobs ≡ 0
  named_before n k [] h l = refl
  named_before n k (j ∷ js) h l =
      let c = count_cons (λ x. is_named q n x.head) j js in
      let r = named_before n (k + 1) js h.1 (omega (arith, l)) in
      let o = one_named n k j h.0 in
      let z : one_if (nat_eq k n) ≡ 0 = ap (λ b. one_if b) (eq_apart k n (λ e. omega (arith, l, e))) in omega (arith, c, r, o, z)

  pub named_within : (n k : ℕ) (jobs : List Job) → EachAt (IsPlanned u q legs runs snap) k jobs → k ≤ n → n < k + length jobs → jobs_named q n jobs ≡ 1
  named_within n k [] h l m = absurd (omega (arith, l, m))
  named_within n k (j ∷ js) h l m =
      let c = count_cons (λ x. is_named q n x.head) j js in
      let o = one_named n k j h.0 in elim (num_cases k n) [
        | inl e ↦
            let r = named_before n (k + 1) js h.1 (omega (arith, e)) in
            let z : one_if (nat_eq k n) ≡ 1 = ap (λ b. one_if b) (ap (λ x. nat_eq x n) e ∙ eq_same n) in omega (arith, c, r, o, z)
        | inr d ↦
            let r = named_within n (k + 1) js h.1 (omega (arith, l, d)) (omega (arith, m)) in
            let z : one_if (nat_eq k n) ≡ 0 = ap (λ b. one_if b) (eq_apart k n d) in omega (arith, c, r, o, z)
      ]

  pub named_beyond : (n k : ℕ) (jobs : List Job) → EachAt (IsPlanned u q legs runs snap) k jobs → k + length jobs ≤ n → jobs_named q n jobs ≡ 0
  named_beyond n k [] h l = refl
  named_beyond n k (j ∷ js) h l =
      let c = count_cons (λ x. is_named q n x.head) j js in
      let r = named_beyond n (k + 1) js h.1 (omega (arith, l)) in
      let o = one_named n k j h.0 in
      let z : one_if (nat_eq k n) ≡ 0 = ap (λ b. one_if b) (eq_apart k n (λ e. omega (arith, l, e))) in omega (arith, c, r, o, z)

  pub planned_each : (P : Job → Type 0) (f : (k : ℕ) (j : Job) → IsPlanned u q legs runs snap k j → P j) (k : ℕ) (jobs : List Job)
      → EachAt (IsPlanned u q legs runs snap) k jobs → Each P jobs
  planned_each P f k [] h = tt
  planned_each P f k (j ∷ js) h = (f k j h.0, planned_each P f (k + 1) js h.1)

module _ (E F : Kept) (old new : Queues) (a : Agree E (waiting_in old) (hands_in old)) (q u : ℕ) (legs : ResolvedLegs) (runs : List GridData) (cached : List DoneCells) (offered : Bool) (snap : SnapData)
    (jobs : List Job) (lawful : IsLawful (legs_data legs)) (few : length runs ≤ 11001) (p : ArePlanned u q legs runs snap jobs)
    (was : E q ≡ Some (entry_with u None None)) (set : F q ≡ Some (entry_with u None (Some (planned_work legs runs cached offered))))
    (entries : (p : ℕ) → (p ≡ q → ⊥) → F p ≡ E p) (order : List ℕ)
    (aw : AreWith old u (waiting_in old u ++ jobs) (hands_in old u) order new) where
  unplanned : Unplanned (E q)
  unplanned = subst Unplanned (sym was) refl

  another : (n v : ℕ) (s : Option Stop) (w : WorkData) → E n ≡ Some (entry_with v s (Some w)) → n ≡ q → ⊥
  another n v s w h e = never_planned (E q) v s w unplanned (subst (λ x. E x ≡ Some (entry_with v s (Some w))) e h)

  planned_waits : (k : ℕ) (j : Job) → IsPlanned u q legs runs snap k j → IsWaiting F u j
  planned_waits k j h = record {
    work = planned_work legs runs cached offered;
    entry = ap F h.query_is ∙ set;
    tenant_is = h.tenant_is;
    run = j.run;
    head = h.head;
  }

  planned_wanted : (n : ℕ) → jobs_named q n jobs ≡ wanted (Some (planned_work legs runs cached offered)) n
  planned_wanted n = elim (num_within n (length jobs)) [
    | inl l ↦
        let x = named_within q u legs runs snap n 0 jobs p.each (omega arith) (omega (arith, l)) in
        let y = empty_within (length runs * legs_in legs) n (let m = p.many in omega (arith, l, m)) in omega (arith, x, y)
    | inr l ↦
        let x = named_beyond q u legs runs snap n 0 jobs p.each (omega (arith, l)) in
        let y = empty_beyond (length runs * legs_in legs) n (let m = p.many in omega (arith, l, m)) in omega (arith, x, y)
  ]

  planned_placed : (n : ℕ) → IsPlaced None (Some (planned_work legs runs cached offered)) n (jobs_named q n (waiting_in new u)) (hands_named q n (hands_in new u))
  planned_placed n =
      let b = (a.all_kept q (entry_with u None None) was).placed n in
      let c = count_append (λ j. is_named q n j.head) (waiting_in old u) jobs in
      let x = planned_wanted n in
      let v = ap (λ js. jobs_named q n js) aw.waiting in
      let w = ap (λ xs. hands_named q n xs) aw.hands in omega (arith, b, c, x, v, w)

  others_named : (p n : ℕ) → (p ≡ q → ⊥) → jobs_named p n (waiting_in old u ++ jobs) ≡ jobs_named p n (waiting_in old u)
  others_named r n d =
      let c = count_append (λ j. is_named r n j.head) (waiting_in old u) jobs in
      let z = count_none (λ j. is_named r n j.head) jobs (planned_each q u legs runs snap (λ j. is_named r n j.head ≡ false) (λ k j h. named_other r n q j.head h.query_is d) 0 jobs p.each) in
      omega (arith, c, z)

  pub agree_planned : Agree F (waiting_in new) (hands_in new)
  agree_planned =
      let k = a.all_kept q (entry_with u None None) was in
      let c = changes_by E F old new q u (waiting_in old u ++ jobs) (hands_in old u) order aw
      (λ e h. ap (λ (x : EntryData). x.tenant) (entry_is (E q) e (entry_with u None None) h was)) entries others_named (λ p n d. refl) in
      agree_by E F old new q u (waiting_in old u ++ jobs) (hands_in old u) order aw a c
      (each_append (IsWaiting F u) (waiting_in old u) jobs
      (each_map (IsWaiting E u) (IsWaiting F u)
      (λ j h. waits_on E F u j (λ w l. same_goes_on E F j.head.query u (entries j.head.query (another j.head.query u None w l)) w l) h) (waiting_in old u) (a.all_waiting u))
      (planned_each q u legs runs snap (IsWaiting F u) planned_waits 0 jobs p.each))
      (each_map (IsInHand E u) (IsInHand F u)
      (λ x h. stays_in_hand E F u x (λ s w l. same_goes E F x.head.query u (entries x.head.query (another x.head.query u s w l)) s w l) h) (hands_in old u) (a.all_in_hand u))
      (λ e h. subst (λ (x : EntryData). IsEntry q (waiting_in new) (hands_in new) x) (entry_is (F q) (entry_with u None (Some (planned_work legs runs cached offered))) e set h)
      (entry_fact q (waiting_in new) (hands_in new) u None (Some (planned_work legs runs cached offered)) k.known (work_planned legs runs cached offered lawful few) planned_placed))

-- ---- its parts are handed out

module _ (E : Kept) (old : Queues) (a : Agree E (waiting_in old) (hands_in old)) (q u : ℕ) (w : WorkData)
    (was : E q ≡ Some (entry_with u None (Some w)))
    (none_waits : jobs_in q (waiting_in old u) ≡ 0) (none_held : hands_with q (hands_in old u) ≡ 0) where
  pub none_wanted : (n : ℕ) → (jobs_named q n (waiting_in old u) ≡ 0) × (hands_named q n (hands_in old u) ≡ 0) × (one_if_empty (slice_get w.slots n) ≡ 0)
  none_wanted n =
      let x = none_named E q u n (waiting_in old u) (a.all_waiting u) none_waits in
      let y = none_in_hand E q u n (hands_in old u) (a.all_in_hand u) none_held in
      let b = (a.all_kept q (entry_with u None (Some w)) was).placed n in (x, y, omega (arith, x, y, b))

module _ (E F : Kept) (old new : Queues) (a : Agree E (waiting_in old) (hands_in old)) (q u : ℕ) (w : WorkData)
    (was : E q ≡ Some (entry_with u None (Some w))) (set : F q ≡ Some (entry_with u None (Some (handed_out w))))
    (entries : (p : ℕ) → (p ≡ q → ⊥) → F p ≡ E p)
    (none_waits : jobs_in q (waiting_in old u) ≡ 0) (none_held : hands_with q (hands_in old u) ≡ 0) (same : AreSame old new) where
  collected_placed : (n : ℕ) → IsPlaced None (Some (handed_out w)) n (jobs_named q n (waiting_in new u)) (hands_named q n (hands_in new u))
  collected_placed n =
      let b = none_wanted E old a q u w was none_waits none_held n in
      let x = b.0 in
      let y = b.1 in
      let z = handed_none w.slots n in
      let v = ap (λ js. jobs_named q n js) (same.queues u).waiting in
      let t = ap (λ xs. hands_named q n xs) (same.queues u).hands in omega (arith, x, y, z, v, t)

  pub agree_collected : Agree F (waiting_in new) (hands_in new)
  agree_collected =
      let k = a.all_kept q (entry_with u None (Some w)) was in
      agree_alone E F old new q u same a (λ e h. ap (λ (x : EntryData). x.tenant) (entry_is (E q) e (entry_with u None (Some w)) h was)) entries
      (each_map (IsWaiting E u) (IsWaiting F u)
      (λ j h. waits_on E F u j (goes_on_by E F q u w (handed_out w) was set refl refl entries j.head.query u) h) (waiting_in old u) (a.all_waiting u))
      (each_map (IsInHand E u) (IsInHand F u)
      (λ x h. stays_in_hand E F u x (goes_by E F q u None None w (handed_out w) was set refl refl entries x.head.query u) h) (hands_in old u) (a.all_in_hand u))
      (λ e h. subst (λ (x : EntryData). IsEntry q (waiting_in new) (hands_in new) x) (entry_is (F q) (entry_with u None (Some (handed_out w))) e set h)
      (entry_fact q (waiting_in new) (hands_in new) u None (Some (handed_out w)) k.known (work_handed_out w k.work) collected_placed))

-- ---- it is offered

-- a query's entry once it is offered
abbrev pub offers : EntryData → EntryData
offers e = record e { work = option_map offered e.work }

offered_work : (w : Option WorkData) → IfSome w IsWork → IfSome (option_map offered w) IsWork
offered_work None h = tt
offered_work (Some w) h = work_offered w h

offered_placed : (s : Option Stop) (w : Option WorkData) (n j k : ℕ) → IsPlaced s w n j k → IsPlaced s (option_map offered w) n j k
offered_placed None None n j k h = h
offered_placed None (Some w) n j k h = h
offered_placed (Some why) w n j k h = h

module _ (E F : Kept) (old new : Queues) (a : Agree E (waiting_in old) (hands_in old)) (q : ℕ) (o : EntryData) (was : E q ≡ Some o)
    (set : F q ≡ Some (offers o)) (entries : (p : ℕ) → (p ≡ q → ⊥) → F p ≡ E p) (same : AreSame old new) where
  moved_on : (p v : ℕ) (r : Option Stop) (y : WorkData) → E p ≡ Some (entry_with v r (Some y)) → p ≡ q → F p ≡ Some (entry_with v r (Some (offered y)))
  moved_on p v r y e d =
      let is : o ≡ entry_with v r (Some y) = entry_is (E q) o (entry_with v r (Some y)) was (subst (λ z. E z ≡ Some (entry_with v r (Some y))) d e) in
      subst (λ z. F z ≡ Some (entry_with v r (Some (offered y)))) (sym d) (set ∙ ap (λ (x : EntryData). Some (offers x)) is)

  offered_goes : (p v : ℕ) (r : Option Stop) (y : WorkData) → E p ≡ Some (entry_with v r (Some y)) → Goes F p v y
  offered_goes p v r y e = elim (num_cases p q) [
    | inl d ↦ record { stop = r; work = offered y; entry = moved_on p v r y e d; legs = refl; runs = refl }
    | inr d ↦ same_goes E F p v (entries p d) r y e
  ]

  offered_goes_on : (p v : ℕ) (y : WorkData) → E p ≡ Some (entry_with v None (Some y)) → GoesOn F p v y
  offered_goes_on p v y e = elim (num_cases p q) [
    | inl d ↦ record { work = offered y; entry = moved_on p v None y e d; legs = refl; runs = refl }
    | inr d ↦ same_goes_on E F p v (entries p d) y e
  ]

  offered_entry_is : IsEntry q (waiting_in old) (hands_in old) o → IsEntry q (waiting_in new) (hands_in new) (offers o)
  offered_entry_is k = record {
    known = k.known;
    work = offered_work o.work k.work;
    placed = λ n. offered_placed o.stop o.work n _ _
        (subst (λ (js : List Job). IsPlaced o.stop o.work n (jobs_named q n js) (hands_named q n (hands_in new o.tenant))) (sym (same.queues o.tenant).waiting)
        (subst (λ (xs : List Hand). IsPlaced o.stop o.work n (jobs_named q n (waiting_in old o.tenant)) (hands_named q n xs)) (sym (same.queues o.tenant).hands) (k.placed n)));
  }

  pub agree_offered : Agree F (waiting_in new) (hands_in new)
  agree_offered =
      let u = o.tenant in
      agree_alone E F old new q u same a (λ e h. ap (λ (x : EntryData). x.tenant) (entry_is (E q) e o h was)) entries
      (each_map (IsWaiting E u) (IsWaiting F u) (λ j h. waits_on E F u j (offered_goes_on j.head.query u) h) (waiting_in old u) (a.all_waiting u))
      (each_map (IsInHand E u) (IsInHand F u) (λ x h. stays_in_hand E F u x (offered_goes x.head.query u) h) (hands_in old u) (a.all_in_hand u))
      (λ e h. subst (λ (x : EntryData). IsEntry q (waiting_in new) (hands_in new) x) (entry_is (F q) (offers o) e set h)
      (offered_entry_is (a.all_kept q o was)))

-- ---- a query is closed

module _ (E F : Kept) (old new : Queues) (a : Agree E (waiting_in old) (hands_in old)) (q : ℕ) (o : EntryData) (was : E q ≡ Some o) (set : F q ≡ None)
    (entries : (p : ℕ) → (p ≡ q → ⊥) → F p ≡ E p) (order : List ℕ)
    (aw : AreWith old o.tenant (filter (is_other_job q) (waiting_in old o.tenant)) (filter (is_other_hand q) (hands_in old o.tenant)) order new) where
  pub agree_closed : Agree F (waiting_in new) (hands_in new)
  agree_closed =
      let u = o.tenant in
      let c = changes_by E F old new q u _ _ order aw
      (λ e h. ap (λ (x : EntryData). x.tenant) (entry_is (E q) e o h was)) entries
      (λ p n d. count_kept (λ j. is_named p n j.head) (is_other_job q) (λ j t. is_other p q n j.head d t) (waiting_in old u))
      (λ p n d. count_kept (λ x. is_named p n x.head) (is_other_hand q) (λ x t. is_other p q n x.head d t) (hands_in old u)) in
      agree_by E F old new q u _ _ order aw a c
      (each_filter (IsWaiting E u) (IsWaiting F u) (is_other_job q)
      (λ j t k. waits_on E F u j (same_goes_on E F j.head.query u (entries j.head.query (other_job q j t))) k) (waiting_in old u) (a.all_waiting u))
      (each_filter (IsInHand E u) (IsInHand F u) (is_other_hand q)
      (λ x t k. stays_in_hand E F u x (same_goes E F x.head.query u (entries x.head.query (other_hand q x t))) k) (hands_in old u) (a.all_in_hand u))
      (λ e h. absurd (no_entry (F q) e set h))
