-- Every table stays one: calls that open, plan, close and look. This project's own.
use Rattle.std.proofs.Common.{◌≡◌, ◌∙◌, ℕ, ◌+◌, ◌<◌, ◌≤◌, inl, inr, Bool, true, false, cond, nat_eq, Option, Some, None, List, length, filter, nat_lt, refl, sym, ap, subst, arith}
use Rattle.std.proofs.lemmas.Bool.Decides.{nat_tests}
use Rattle.std.specs.HashMap.{get}
use Rattle.std.specs.Option.{option_map}
use Rattle.std.specs.Prelude.{IfErr, Result, Err}
use Rattle.pf_base.specs.GridLists.{GridData}
use Rattle.pf_block.specs.Snaps.{SnapData}
use Rattle.pf_queue.specs.Rings.{without}
use Rattle.pf_shard.specs.Lawful.{IsLawful, ResolvedLegs, legs_data}
use Rattle.pf_journal.specs.Machine.{most_tenants}
use Rattle.pf_query.specs.Entries.{is_planned, may_be_in_hand, may_wait, opened_entry, planned_entry, state_of, with_change}
use Rattle.pf_query.specs.Jobs.{is_empty, is_other_hand, is_other_job, tries_left_in}
use Rattle.pf_query.specs.Queueing.{AreAdded, AreNotInHand, AreNotWaiting, AreQueues, AreSame, AreWith, IsSameQueue, hands_in, ring_in, tries_left, waiting_in}
use Rattle.pf_query.specs.Tables.{AreLeft, AreTried, EntryData, Ends, IsCounted, IsOpened, IsPlannedOver, IsSameTable, IsTable, IsUnplanned, IsWaiting, data_of, entry_in, hands_with, is_of, jobs_in, ring_without, tried_by, tries_in_hand, tries_waiting}
use Rattle.pf_query.specs.Works.{ArePlanned, WorkData, planned_work}
use Rattle.pf_query.specs.declared.answers.PlanError.{PlanError}
use Rattle.pf_query.specs.declared.answers.PlanError.TheVariants as plan_error
use Rattle.pf_query.specs.declared.answers.Planned.{Planned}
use Rattle.pf_extent.specs.declared.done.DoneCells.{DoneCells}
use Rattle.pf_query.specs.declared.entry.Entry.{Entry}
use Rattle.pf_query.specs.declared.job.Hand.{Hand}
use Rattle.pf_query.specs.declared.job.Job.{Job}
use Rattle.pf_query.specs.declared.queues.Queues.{Queues}
use Rattle.pf_query.specs.declared.state.EntryState.{EntryState}
use Rattle.pf_query.specs.declared.stop.Stop.{Stop}
use Rattle.pf_query.specs.declared.table.Table.{Table}
use Rattle.pf_query.proofs.Agreeing.{Unplanned, entry_with, no_hand_of, no_job_of}
use Rattle.pf_query.proofs.Counting.{counted_after, counted_equal, counted_stopped, counted_with, others_in_hand, others_waiting}
use Rattle.pf_query.proofs.Entering.{Raw, Told, data_else, data_here, data_sets, raw_else, raw_here, told}
use Rattle.pf_query.proofs.Naming.{eq_apart, eq_same, num_cases, of_other}
use Rattle.pf_query.proofs.Opening.{agree_closed, agree_equal, agree_opened, agree_planned, planned_each}
use Rattle.pf_query.proofs.Tallies.{count_all, count_append, count_none, each_map, filter_all}
use Rattle.pf_query.proofs.Trying.{AreAllTried, fewer_added, fewer_same, hands_fewer, fewer_left, keeps_tried, none_in_hand, none_waiting, planned_untried, tried_after, tried_as, tried_equal}

abbrev pub raw_of : Table → Raw
raw_of t = get nat_eq t.entries

-- ---- queues

pub are_same : (q r : Queues) → r ≡ q → AreSame q r
are_same q r e = subst (λ (x : Queues). AreSame q x) (sym e) (record { queues = λ u. record { waiting = refl; hands = refl }; ring = refl })

same_tries : (q r : Queues) → r ≡ q → tries_left r ≡ tries_left q
same_tries q r e = ap tries_left e

same_with : (q r s : Queues) (u v : ℕ) → IsSameQueue q r v → IsSameQueue r s v → IsSameQueue q s v
same_with q r s u v f g = record { waiting = g.waiting ∙ f.waiting; hands = g.hands ∙ f.hands }

-- two changes of one tenant's queue
pub with_both : (q r s : Queues) (u : ℕ) (j k l : List Job) (h i m : List Hand) (o p n : List ℕ)
    → AreWith q u j h o r → AreWith r u k i p s → k ≡ l → i ≡ m → p ≡ n → AreWith q u l m n s
with_both q r s u j k l h i m o p n a b e f g = record {
  waiting = b.waiting ∙ e;
  hands = b.hands ∙ f;
  others = λ v d. same_with q r s u v (a.others v d) (b.others v d);
  ring = b.ring ∙ g;
}

ring_same : (q r : Queues) (u query : ℕ) → waiting_in r u ≡ waiting_in q u → ring_in r ≡ ring_in q → ring_without r u query ≡ ring_without q u query
ring_same q r u query e f =
    ap (λ (js : List Job). cond (is_empty (filter (is_other_job query) js)) (without u (ring_in r)) (ring_in r)) e
    ∙ ap (λ (us : List ℕ). cond (is_empty (filter (is_other_job query) (waiting_in q u))) (without u us) us) f

-- its jobs in hand are these, and then none of its jobs waits
pub left_after : (q r s : Queues) (u query : ℕ) (h : List Hand) → AreWith q u (waiting_in q u) h (ring_in q) r → AreNotWaiting r u query s
    → AreWith q u (filter (is_other_job query) (waiting_in q u)) h (ring_without q u query) s
left_after q r s u query h a b =
    with_both q r s u _ _ _ _ _ _ _ _ _ a b (ap (λ (js : List Job). filter (is_other_job query) js) a.waiting) a.hands (ring_same q r u query a.waiting a.ring)

-- none of its jobs waits, and then none is in hand
pub ended_after : (q r s : Queues) (u query : ℕ) → AreNotWaiting q u query r → AreNotInHand r u query s
    → AreWith q u (filter (is_other_job query) (waiting_in q u)) (filter (is_other_hand query) (hands_in q u)) (ring_without q u query) s
ended_after q r s u query a b =
    with_both q r s u _ _ _ _ _ _ _ _ _ a b a.waiting (ap (λ (xs : List Hand). filter (is_other_hand query) xs) a.hands) a.ring

-- ---- tenants are known

pub known_tenant : (old : Table) (query : ℕ) (e : Entry) → IsTable old → raw_of old query ≡ Some e → e.tenant < most_tenants
known_tenant old query e t h = (t.agree.all_kept query (data_of e) (ap (λ (o : Option Entry). option_map data_of o) h)).known

pub told_tenant : (old : Table) (query : ℕ) (s : EntryState) → Some s ≡ option_map state_of (raw_of old query) → IsTable old → s.tenant < most_tenants
told_tenant old query s h t =
    let k = told (raw_of old query) s h in
    let l = known_tenant old query k.entry t k.was in
    let e = ap (λ (x : EntryState). x.tenant) k.is in omega (arith, l, e)

-- ---- nothing is changed

pub table_same : (old new : Table) → IsTable old → AreQueues new.queues → AreSame old.queues new.queues → ((p : ℕ) → raw_of new p ≡ raw_of old p) → IsTable new
table_same old new t q s e = record {
  queues = q;
  agree = agree_equal (entry_in old) (entry_in new) (waiting_in old.queues) (waiting_in new.queues) (hands_in old.queues) (hands_in new.queues) t.agree
      (λ p. ap (λ (o : Option Entry). option_map data_of o) (e p)) (λ v. (s.queues v).waiting) (λ v. (s.queues v).hands);
  counted = λ p x h n.
      counted_equal (raw_of old) (waiting_in old.queues) (waiting_in new.queues) (hands_in old.queues) (hands_in new.queues)
      (λ v. (s.queues v).waiting) (λ v. (s.queues v).hands) t.counted p x (sym (e p) ∙ h) n;
  tried = tried_equal (raw_of old) (raw_of new) old.queues new.queues e (fewer_same old.queues new.queues s) t.tried;
}

pub same_table : (old new : Table) → AreSame old.queues new.queues → tries_left new.queues ≡ tries_left old.queues → ((p : ℕ) → raw_of new p ≡ raw_of old p) → IsSameTable old new
same_table old new s t e = record {
  entries = λ p. ap (λ (o : Option Entry). option_map data_of o) (e p);
  queues = s;
  tries = t;
  tried = λ p. ap tried_by (e p);
}

pub one_entry : (e f : Entry) → Some e ≡ Some f → e ≡ f
one_entry e f h = cc

-- ---- a query is opened

never_kept : (o : Option Entry) → option_map data_of o ≡ None → o ≡ None
never_kept None h = refl
never_kept (Some e) h = cc

module _ (old new : Table) (query tenant : ℕ) (t : IsTable old) (fresh : entry_in old query ≡ None) (known : tenant < most_tenants)
    (set : (p : ℕ) → raw_of new p ≡ cond (nat_eq query p) (Some (opened_entry tenant)) (raw_of old p)) (same : new.queues ≡ old.queues) where
  opened_here : raw_of new query ≡ Some (opened_entry tenant)
  opened_here = set query ∙ ap (λ b. cond b (Some (opened_entry tenant)) (raw_of old query)) (eq_same query)

  opened_else : (p : ℕ) → (p ≡ query → ⊥) → raw_of new p ≡ raw_of old p
  opened_else p d = set p ∙ ap (λ b. cond b (Some (opened_entry tenant)) (raw_of old p)) (eq_apart query p (λ e. d (sym e)))

  opened_sets : (p : ℕ) → entry_in new p ≡ cond (nat_eq query p) (Some (entry_with tenant None None)) (entry_in old p)
  opened_sets p = elim (num_cases p query) [
    | inl e ↦
        subst (λ x. entry_in new x ≡ cond (nat_eq query x) (Some (entry_with tenant None None)) (entry_in old x)) (sym e)
        (ap (λ (o : Option Entry). option_map data_of o) opened_here ∙ sym (ap (λ b. cond b (Some (entry_with tenant None None)) (entry_in old query)) (eq_same query)))
    | inr d ↦
        ap (λ (o : Option Entry). option_map data_of o) (opened_else p d)
        ∙ sym (ap (λ b. cond b (Some (entry_with tenant None None)) (entry_in old p)) (eq_apart query p (λ e. d (sym e))))
  ]

  opened_tried : (p : ℕ) → tried_by (raw_of new p) ≡ tried_by (raw_of old p)
  opened_tried p = elim (num_cases p query) [
    | inl e ↦ subst (λ x. tried_by (raw_of new x) ≡ tried_by (raw_of old x)) (sym e) (ap tried_by opened_here ∙ sym (ap tried_by (never_kept (raw_of old query) fresh)))
    | inr d ↦ ap tried_by (opened_else p d)
  ]

  pub opened_is : IsOpened old query tenant new
  opened_is = record {
    entries = opened_sets;
    queues = are_same old.queues new.queues same;
    tries = same_tries old.queues new.queues same;
    tried = opened_tried;
  }

  opened_count : (e : Entry) → raw_of new query ≡ Some e → IsCounted query (waiting_in new.queues) (hands_in new.queues) e
  opened_count e h =
      let unplanned = subst Unplanned (sym fresh) tt in
      let x = no_job_of (entry_in old) query tenant (waiting_in old.queues tenant) (t.agree.all_waiting tenant) unplanned in
      let y = no_hand_of (entry_in old) query tenant (hands_in old.queues tenant) (t.agree.all_in_hand tenant) unplanned in
      let is : opened_entry tenant ≡ e = one_entry (opened_entry tenant) e (sym opened_here ∙ h) in
      subst (λ (z : Entry). IsCounted query (waiting_in new.queues) (hands_in new.queues) z) is
      (record {
        queued = sym (ap (λ (q : Queues). jobs_in query (waiting_in q tenant)) same ∙ x);
        in_hand = sym (ap (λ (q : Queues). hands_with query (hands_in q tenant)) same ∙ y);
        few = omega arith;
      })

  opened_covered : AreSame old.queues new.queues → AreAllTried (raw_of new) new.queues
  opened_covered s p e h = elim (num_cases p query) [
    | inl k ↦
        let unplanned = subst Unplanned (sym fresh) tt in
        let x = none_waiting query (waiting_in old.queues tenant) (no_job_of (entry_in old) query tenant (waiting_in old.queues tenant) (t.agree.all_waiting tenant) unplanned) in
        let y = none_in_hand query (hands_in old.queues tenant) (no_hand_of (entry_in old) query tenant (hands_in old.queues tenant) (t.agree.all_in_hand tenant) unplanned) in
        let w = ap (λ js. tries_waiting query js) (s.queues tenant).waiting in
        let z = ap (λ xs. tries_in_hand query xs) (s.queues tenant).hands in
        let few : tries_waiting query (waiting_in new.queues tenant) + tries_in_hand query (hands_in new.queues tenant) + 0 ≤ 0 = omega (arith, x, y, w, z) in
        let is : opened_entry tenant ≡ e = one_entry (opened_entry tenant) e (sym opened_here ∙ subst (λ x. raw_of new x ≡ Some e) k h) in
        subst (λ x. AreTried x (waiting_in new.queues) (hands_in new.queues) e) (sym k)
        (subst (λ (x : Entry). AreTried query (waiting_in new.queues) (hands_in new.queues) x) is (inr few))
    | inr d ↦
        tried_as p old.queues new.queues e e refl refl
        (let l = fewer_same old.queues new.queues s p e.tenant in omega (arith, l)) (t.tried p e (sym (opened_else p d) ∙ h))
  ]

  pub opened_table : AreQueues new.queues → IsTable new
  opened_table q =
      let s = are_same old.queues new.queues same in
      record {
        queues = q;
        agree = agree_opened (entry_in old) (entry_in new) old.queues new.queues t.agree query tenant known fresh
            (ap (λ (o : Option Entry). option_map data_of o) opened_here) (λ p d. ap (λ (o : Option Entry). option_map data_of o) (opened_else p d)) s;
        counted = counted_after (raw_of old) (raw_of new) (waiting_in old.queues) (waiting_in new.queues) (hands_in old.queues) (hands_in new.queues) query tenant
            t.counted opened_else (λ v d. (s.queues v).waiting) (λ v d. (s.queues v).hands) (λ p d. ap (λ js. jobs_in p js) (s.queues tenant).waiting)
            (λ p d. ap (λ xs. hands_with p xs) (s.queues tenant).hands) (λ e h n. opened_count e h);
        tried = opened_covered s;
      }

-- ---- a query has no job that waits or is in hand

kept_stop : (e : Entry) (u : ℕ) (w : WorkData) (why : Stop) → e.stop ≡ Some why → Some (data_of e) ≡ Some (entry_with u None (Some w)) → ⊥
kept_stop e u w why s h =
    let same : e.stop ≡ None = ap (λ (x : EntryData). x.stop) (one_data (data_of e) (entry_with u None (Some w)) h) in cc where
      one_data : (x y : EntryData) → Some x ≡ Some y → x ≡ y
      one_data x y k = cc

none_left : (n : ℕ) → nat_lt 0 n ≡ false → n ≡ 0
none_left n h = grind (arith, nat_tests, h)

module _ (old : Table) (query : ℕ) (e : Entry) (t : IsTable old) (was : raw_of old query ≡ Some e) where
  -- the entry of a stopped query isn't that of a job that waits
  stopped_waits_not : (why : Stop) → e.stop ≡ Some why → (j : Job) → IsWaiting (entry_in old) e.tenant j → is_of query j.head ≡ false
  stopped_waits_not why s j k =
      eq_apart j.head.query query
      (λ h. kept_stop e e.tenant k.work why s
      (sym (ap (λ (o : Option Entry). option_map data_of o) was) ∙ subst (λ q. entry_in old q ≡ Some (entry_with e.tenant None (Some k.work))) h k.entry))

  none_waits_by : (stop : Option Stop) → e.stop ≡ stop → may_wait stop e.queued ≡ false → jobs_in query (waiting_in old.queues e.tenant) ≡ 0
  none_waits_by None s h = sym (t.counted query e was s).queued ∙ none_left e.queued h
  none_waits_by (Some why) s h =
      count_none (λ j. is_of query j.head) (waiting_in old.queues e.tenant)
      (each_map (IsWaiting (entry_in old) e.tenant) (λ j. is_of query j.head ≡ false) (stopped_waits_not why s) (waiting_in old.queues e.tenant)
      (t.agree.all_waiting e.tenant))

  pub none_waits : may_wait e.stop e.queued ≡ false → filter (is_other_job query) (waiting_in old.queues e.tenant) ≡ waiting_in old.queues e.tenant
  none_waits h = filter_all (λ j. is_of query j.head) (waiting_in old.queues e.tenant) (none_waits_by e.stop refl h)

  none_is_held_by : (stop : Option Stop) → e.stop ≡ stop → may_be_in_hand stop e.in_hand ≡ false → hands_with query (hands_in old.queues e.tenant) ≡ 0
  none_is_held_by None s h = sym (t.counted query e was s).in_hand ∙ none_left e.in_hand h
  none_is_held_by (Some why) s h = absurd cc

  -- also once none of its jobs waits
  pub none_is_held : (mid : Queues) → AreNotWaiting old.queues e.tenant query mid → may_be_in_hand e.stop e.in_hand ≡ false
      → filter (is_other_hand query) (hands_in mid e.tenant) ≡ hands_in mid e.tenant
  none_is_held mid a h =
      subst (λ (xs : List Hand). filter (is_other_hand query) xs ≡ xs) (sym a.hands)
      (filter_all (λ x. is_of query x.head) (hands_in old.queues e.tenant) (none_is_held_by e.stop refl h))

-- ---- a query is closed

module _ (old new : Table) (query : ℕ) (e : Entry) (mid : Queues) (t : IsTable old) (was : raw_of old query ≡ Some e)
    (set : (p : ℕ) → raw_of new p ≡ cond (nat_eq query p) None (raw_of old p))
    (a : AreNotWaiting old.queues e.tenant query mid) (b : AreNotInHand mid e.tenant query new.queues) where
  closed_here : raw_of new query ≡ None
  closed_here = set query ∙ ap (λ c. cond c None (raw_of old query)) (eq_same query)

  closed_else : (p : ℕ) → (p ≡ query → ⊥) → raw_of new p ≡ raw_of old p
  closed_else p d = set p ∙ ap (λ c. cond c None (raw_of old p)) (eq_apart query p (λ f. d (sym f)))

  closed_sets : (p : ℕ) → entry_in new p ≡ cond (nat_eq query p) None (entry_in old p)
  closed_sets p = elim (num_cases p query) [
    | inl f ↦
        subst (λ x. entry_in new x ≡ cond (nat_eq query x) None (entry_in old x)) (sym f)
        (ap (λ (o : Option Entry). option_map data_of o) closed_here ∙ sym (ap (λ c. cond c None (entry_in old query)) (eq_same query)))
    | inr d ↦
        ap (λ (o : Option Entry). option_map data_of o) (closed_else p d) ∙ sym (ap (λ c. cond c None (entry_in old p)) (eq_apart query p (λ f. d (sym f))))
  ]

  closed_queue : AreLeft old e.tenant query (filter (is_other_hand query) (hands_in old.queues e.tenant)) new
  closed_queue = ended_after old.queues mid new.queues e.tenant query a b

  closed_tried : (p : ℕ) → tried_by (raw_of new p) ≡ cond (nat_eq query p) 0 (tried_by (raw_of old p))
  closed_tried p = elim (num_cases p query) [
    | inl f ↦
        subst (λ x. tried_by (raw_of new x) ≡ cond (nat_eq query x) 0 (tried_by (raw_of old x))) (sym f)
        (ap tried_by closed_here ∙ sym (ap (λ c. cond c 0 (tried_by (raw_of old query))) (eq_same query)))
    | inr d ↦ ap tried_by (closed_else p d) ∙ sym (ap (λ c. cond c 0 (tried_by (raw_of old p))) (eq_apart query p (λ f. d (sym f))))
  ]

  closed_covered : AreAllTried (raw_of new) new.queues
  closed_covered p x h = elim (num_cases p query) [
    | inl f ↦ absurd (none_some x (sym closed_here ∙ subst (λ y. raw_of new y ≡ Some x) f h))
    | inr d ↦
        tried_as p old.queues new.queues x x refl refl
        (let l = fewer_left old.queues new.queues e.tenant query _ _ closed_queue
        (λ q. hands_fewer q (is_other_hand query) (hands_in old.queues e.tenant)) p x.tenant in omega (arith, l))
        (t.tried p x (sym (closed_else p d) ∙ h))
  ] where
    none_some : (x : Entry) → None ≡ Some x → ⊥
    none_some x h = cc

  pub closed_is : tries_left new.queues ≤ tries_left old.queues → Ends old query (data_of e) new
  closed_is l = record { entries = closed_sets; queues = closed_queue; tries = l; tried = closed_tried }

  pub closed_entry : entry_in old query ≡ Some (data_of e)
  closed_entry = ap (λ (o : Option Entry). option_map data_of o) was

  pub closed_table : AreQueues new.queues → IsTable new
  closed_table q = record {
    queues = q;
    agree = agree_closed (entry_in old) (entry_in new) old.queues new.queues t.agree query (data_of e) closed_entry
        (ap (λ (o : Option Entry). option_map data_of o) closed_here) (λ p d. ap (λ (o : Option Entry). option_map data_of o) (closed_else p d)) _ closed_queue;
    counted = counted_stopped (raw_of old) (raw_of new) old.queues new.queues query e.tenant _ _ _ closed_queue t.counted closed_else
        (λ p d. others_waiting p query (waiting_in old.queues e.tenant) d) (λ p d. others_in_hand p query (hands_in old.queues e.tenant) d)
        (λ x h n. none_some x (sym closed_here ∙ h));
    tried = closed_covered;
  } where
    none_some : (x : Entry) → None ≡ Some x → ⊥
    none_some x h = cc

-- ---- what is told of a query

pub planned_by : (o : Option WorkData) → is_planned o ≡ true → (w : WorkData) × (o ≡ Some w)
planned_by None h = cc
planned_by (Some w) h = (w, refl)

pub unplanned_by : (o : Option WorkData) → is_planned o ≡ false → o ≡ None
unplanned_by None h = refl
unplanned_by (Some w) h = cc

module _ (old : Table) (query : ℕ) (s : EntryState) (h : Some s ≡ option_map state_of (raw_of old query)) where
  found : Told (raw_of old query) s
  found = told (raw_of old query) s h

  here : entry_in old query ≡ Some (data_of found.entry)
  here = ap (λ (o : Option Entry). option_map data_of o) found.was

  pub is_known : entry_in old query ≡ None → ⊥
  is_known n = none_data (sym n ∙ here) where
    none_data : {x : EntryData} → None ≡ Some x → ⊥
    none_data k = cc

  pub planned_before : s.planned ≡ true → IsUnplanned (entry_in old query) plan_error.PlannedBefore
  planned_before p =
      subst (λ (o : Option EntryData). IsUnplanned o plan_error.PlannedBefore) (sym here)
      (planned_by found.entry.work (sym (ap (λ (x : EntryState). x.planned) found.is) ∙ p))

  no_work : s.planned ≡ false → found.entry.work ≡ None
  no_work p = unplanned_by found.entry.work (sym (ap (λ (x : EntryState). x.planned) found.is) ∙ p)

  pub stopped_before : s.planned ≡ false → (why : Stop) → s.stop ≡ Some why → IsUnplanned (entry_in old query) (plan_error.Stopped why)
  stopped_before p why k =
      subst (λ (o : Option EntryData). IsUnplanned o (plan_error.Stopped why)) (sym here)
      (no_work p, sym (ap (λ (x : EntryState). x.stop) found.is) ∙ k)

  pub no_memory : s.planned ≡ false → s.stop ≡ None → IsUnplanned (entry_in old query) plan_error.OutOfMemory
  no_memory p k =
      subst (λ (o : Option EntryData). IsUnplanned o plan_error.OutOfMemory) (sym here)
      (no_work p, sym (ap (λ (x : EntryState). x.stop) found.is) ∙ k)

  -- neither planned nor stopped
  pub idle : s.planned ≡ false → s.stop ≡ None → entry_in old query ≡ Some (entry_with s.tenant None None)
  idle p k =
      here ∙ ap (λ (x : EntryData). Some x)
      (ap (λ (w : Option WorkData). entry_with found.entry.tenant found.entry.stop w) (no_work p)
      ∙ ap (λ (o : Option Stop). entry_with found.entry.tenant o None) (sym (ap (λ (x : EntryState). x.stop) found.is) ∙ k)
      ∙ ap (λ u. entry_with u None None) (sym (ap (λ (x : EntryState). x.tenant) found.is)))

-- memory ran out
pub refused : (old new : Table) (query : ℕ) (r : Result Planned PlanError) → r ≡ Err plan_error.OutOfMemory → IsUnplanned (entry_in old query) plan_error.OutOfMemory
    → IsSameTable old new → IfErr r (λ e. IsUnplanned (entry_in old query) e × IsSameTable old new)
refused old new query r e h same =
    subst (λ (x : Result Planned PlanError). IfErr x (λ y. IsUnplanned (entry_in old query) y × IsSameTable old new)) (sym e) (h, same)

-- ---- a query is planned

module _ (old new : Table) (query : ℕ) (s : EntryState) (h : Some s ≡ option_map state_of (raw_of old query)) (p : s.planned ≡ false) (n : s.stop ≡ None)
    (legs : ResolvedLegs) (runs : List GridData) (cached : List DoneCells) (offered : Bool) (snap : SnapData) (jobs : List Job) (w : WorkData) (count : ℕ) (t : IsTable old)
    (lawful : IsLawful (legs_data legs)) (few : length runs ≤ 11001)
    (made : ArePlanned s.tenant query legs runs snap jobs) (w_is : w ≡ planned_work legs runs cached offered) (count_is : count ≡ length jobs)
    (added : AreAdded old.queues s.tenant jobs new.queues)
    (set : (r : ℕ) → raw_of new r ≡ with_change query (planned_entry w count) (raw_of old) r) where
  the : Told (raw_of old query) s
  the = told (raw_of old query) s h

  was_idle : entry_in old query ≡ Some (entry_with s.tenant None None)
  was_idle = idle old query s h p n

  same_data : data_of (planned_entry w count the.entry) ≡ entry_with s.tenant None (Some (planned_work legs runs cached offered))
  same_data =
      ap (λ u. entry_with u the.entry.stop (Some w)) (sym (ap (λ (x : EntryState). x.tenant) the.is))
      ∙ ap (λ (o : Option Stop). entry_with s.tenant o (Some w)) (sym (ap (λ (x : EntryState). x.stop) the.is) ∙ n)
      ∙ ap (λ (x : WorkData). entry_with s.tenant None (Some x)) w_is

  now_planned : entry_in new query ≡ Some (entry_with s.tenant None (Some (planned_work legs runs cached offered)))
  now_planned = data_here (raw_of old) (raw_of new) query (planned_entry w count) the.entry the.was set ∙ ap (λ (x : EntryData). Some x) same_data

  planned_sets : (r : ℕ) → entry_in new r ≡ cond (nat_eq query r) (Some (entry_with s.tenant None (Some (planned_work legs runs cached offered)))) (entry_in old r)
  planned_sets r =
      data_sets (raw_of old) (raw_of new) query (planned_entry w count) the.entry the.was set r
      ∙ ap (λ (x : EntryData). cond (nat_eq query r) (Some x) (entry_in old r)) same_data

  pub planned_is : tries_left new.queues ≡ tries_left old.queues + tries_left_in jobs → IsPlannedOver old query legs runs cached offered snap count new
  planned_is l = record {
    tenant = s.tenant;
    was = was_idle;
    jobs = jobs;
    planned = made;
    count_is = count_is;
    entries = planned_sets;
    queues = added;
    tries = l;
    tried = keeps_tried (raw_of old) (raw_of new) query (planned_entry w count) set (λ e. refl);
  }

  all_of : jobs_in query jobs ≡ length jobs
  all_of =
      count_all _ jobs (planned_each query s.tenant legs runs snap (λ j. nat_eq j.head.query query ≡ true)
      (λ k j q. ap (λ x. nat_eq x query) q.query_is ∙ eq_same query) 0 jobs made.each)

  none_of : (r : ℕ) → (r ≡ query → ⊥) → jobs_in r jobs ≡ 0
  none_of r d =
      count_none _ jobs (planned_each query s.tenant legs runs snap (λ j. nat_eq j.head.query r ≡ false)
      (λ k j q. of_other r query j.head q.query_is d) 0 jobs made.each)

  unplanned : Unplanned (entry_in old query)
  unplanned = subst Unplanned (sym was_idle) refl

  pub planned_table : AreQueues new.queues → length jobs ≤ 4294967295 → IsTable new
  planned_table q m =
      let u = s.tenant in
      let none = no_job_of (entry_in old) query u (waiting_in old.queues u) (t.agree.all_waiting u) unplanned in
      let idle_hands = no_hand_of (entry_in old) query u (hands_in old.queues u) (t.agree.all_in_hand u) unplanned in
      let at : the.entry.tenant ≡ u = sym (ap (λ (x : EntryState). x.tenant) the.is) in
      let counts = t.counted query the.entry the.was (sym (ap (λ (x : EntryState). x.stop) the.is) ∙ n) in
      let c = count_append (λ j. nat_eq j.head.query query) (waiting_in old.queues u) jobs in
      let all = all_of in
      let held : the.entry.in_hand ≡ hands_with query (hands_in old.queues u) = counts.in_hand ∙ ap (λ v. hands_with query (hands_in old.queues v)) at in
      record {
        queues = q;
        agree = agree_planned (entry_in old) (entry_in new) old.queues new.queues t.agree query u legs runs cached offered snap jobs lawful few made was_idle now_planned
            (data_else (raw_of old) (raw_of new) query (planned_entry w count) the.entry the.was set) _ added;
        counted = counted_with (raw_of old) (raw_of new) old.queues new.queues query u _ _ _ added t.counted
            (raw_else (raw_of old) (raw_of new) query (planned_entry w count) the.entry the.was set)
            (λ r d. let x = count_append (λ j. nat_eq j.head.query r) (waiting_in old.queues u) jobs in let z = none_of r d in omega (arith, x, z))
            (λ r d. refl) (planned_entry w count the.entry)
            (raw_here (raw_of old) (raw_of new) query (planned_entry w count) the.entry the.was set) at
            (omega (arith, count_is, none, c, all)) held (omega (arith, count_is, m, held, idle_hands));
        tried = tried_after (raw_of old) (raw_of new) query (planned_entry w count) set old.queues new.queues t.tried
            (fewer_added old.queues new.queues u jobs _ added (λ p. planned_untried p u query legs runs snap 0 jobs made.each))
            (λ e. refl) (λ e. refl) (λ e. omega arith);
      }
