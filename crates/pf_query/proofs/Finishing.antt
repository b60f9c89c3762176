-- Every table stays one: calls that take, finish, fail, stop and collect. This project's own.
use Rattle.std.proofs.Common.{◌≡◌, ◌∙◌, ℕ, ◌+◌, ◌-◌, ◌<◌, ◌≤◌, inl, inr, Bool, true, false, cond, nat_eq, Option, Some, None, List, length, filter, refl, sym, ap, subst, arith}
use Rattle.std.specs.Option.{option_map}
use Rattle.std.specs.Prelude.{IfSome, MatchOption}
use Rattle.pf_base.specs.declared.plain.JobHead.{JobHead}
use Rattle.pf_model.specs.Lists.{Each}
use Rattle.pf_query.specs.Entries.{Gathers, GathersAt, GathersFrom, back_entry, given_entry, is_given_out, one_more, state_of, stop_after, stopped_entry, stored_entry, taken_entry, tried_entry, with_change}
use Rattle.pf_query.specs.Jobs.{hand_of, has_hand, is_other_job, job_of_held, without_hand}
use Rattle.pf_shard.specs.declared.parts.Part.{Part}
use Rattle.pf_query.specs.Queueing.{AreNotWaiting, AreQueues, AreSame, AreWith, IsPutBack, IsReleased, IsTaken, hands_in, ring_in, tries_left, waiting_in}
use Rattle.pf_query.specs.Tables.{EntryData, Goes, IsCounted, IsExhausted, IsGathered, IsGone, IsHeldOf, IsInHand, IsNothing, IsNotHeld, IsSameTable, IsStored, IsTable, IsTakenFrom, IsWaiting, KeepsTried, Stops, WaitsAgain, data_of, entry_in, hands_named, hands_with, is_named, jobs_in, last_tries, ring_without, tried_by}
use Rattle.pf_query.specs.Works.{IsFilled, WorkData, filled, handed_out, is_handed}
use Rattle.pf_query.specs.declared.entry.Entry.{Entry}
use Rattle.pf_query.specs.declared.gathered.Gathered.{Gathered}
use Rattle.pf_query.specs.declared.job.Hand.{Hand}
use Rattle.pf_query.specs.declared.job.Held.{Held}
use Rattle.pf_query.specs.declared.queues.Queues.{Queues}
use Rattle.pf_query.specs.declared.slot.Slot.TheVariants.{Empty}
use Rattle.pf_query.specs.declared.state.EntryState.{EntryState}
use Rattle.pf_query.specs.declared.stop.Stop.{Stop}
use Rattle.pf_query.specs.declared.stop.Stop.TheVariants.{Exhausted}
use Rattle.pf_query.specs.declared.table.Table.{Table}
use Rattle.pf_query.proofs.Agreeing.{entry_is, entry_with}
use Rattle.pf_query.proofs.Counting.{counted_after, counted_stopped, counted_with, first_counted, first_other, less_held_other, less_in_hand, more_held_other, more_in_hand, more_other, more_waiting, others_waiting}
use Rattle.pf_query.proofs.Entering.{Told, behind, data_else, data_here, data_keeps, data_sets, raw_else, raw_here, told, untold}
use Rattle.pf_query.proofs.Naming.{count_fewer, count_same, each_without, find_hand, named_other, num_cases, without_absent}
use Rattle.pf_query.proofs.Opening.{agree_collected, agree_equal, none_wanted}
use Rattle.pf_query.proofs.Slotted.{all_filled, get_within}
use Rattle.pf_query.proofs.Stepping.{Holds, agree_again, agree_gone, agree_stopped, agree_stored, agree_taken, holds, known_hand, waited}
use Rattle.pf_query.proofs.Tallies.{bool_cases, each_map}
use Rattle.pf_query.proofs.Tabled.{are_same, left_after, raw_of, same_table, table_same, unplanned_by}
use Rattle.pf_query.proofs.Trying.{AreAllTried, AreFewer, back_others, back_own, counted_more, counts_try, fewer_left, fewer_released, fewer_same, fewer_taken, hand_fewer, keeps_tried, last_gone, not_more, tried_after, tried_change, tried_equal, tried_more, tries_at}
pub use Rattle.pf_query.proofs.Tabled.{planned_by as work_by}

raw_is : (o : Option Entry) (e f : Entry) → o ≡ Some e → o ≡ Some f → e ≡ f
raw_is o e f h k = cc

none_some : {s : Stop} → None ≡ Some s → ⊥
none_some h = cc

data_at : (t : Table) (q : ℕ) (e : Entry) → raw_of t q ≡ Some e → entry_in t q ≡ Some (data_of e)
data_at t q e h = ap (λ (o : Option Entry). option_map data_of o) h

-- ---- the first job is taken

module _ (old : Table) (actor : ℕ) (held : Held) (queues : Queues) (t : IsTable old) (k : IsTaken old.queues actor held queues) where
  abbrev pub takes_waited : IsWaiting (entry_in old) k.tenant k.job
  takes_waited = waited (entry_in old) old.queues queues t.agree actor held k

  takes_query : held.head.query ≡ k.job.head.query
  takes_query = ap (λ (h : Held). h.head.query) k.held_is

  abbrev pub takes_raw : (e : Entry) × (raw_of old k.job.head.query ≡ Some e) × (data_of e ≡ entry_with k.tenant None (Some takes_waited.work))
  takes_raw = let b = behind (raw_of old k.job.head.query) (entry_with k.tenant None (Some takes_waited.work)) takes_waited.entry in (b.entry, b.was, b.is)

  abbrev pub takes_entry : Entry
  takes_entry = takes_raw.0

  takes_counted : IsCounted k.job.head.query (waiting_in old.queues) (hands_in old.queues) takes_entry
  takes_counted = t.counted k.job.head.query takes_entry takes_raw.1 (ap (λ (x : EntryData). x.stop) takes_raw.2)

  takes_tenant : takes_entry.tenant ≡ k.tenant
  takes_tenant = ap (λ (x : EntryData). x.tenant) takes_raw.2

  takes_queued : takes_entry.queued ≡ 1 + jobs_in k.job.head.query k.jobs
  takes_queued =
      takes_counted.queued ∙ ap (λ v. jobs_in k.job.head.query (waiting_in old.queues v)) takes_tenant
      ∙ ap (λ js. jobs_in k.job.head.query js) k.waiting ∙ first_counted k.job.head.query k.job k.jobs refl

  takes_in_hand : takes_entry.in_hand ≡ hands_with k.job.head.query (hands_in old.queues k.tenant)
  takes_in_hand = takes_counted.in_hand ∙ ap (λ v. hands_with k.job.head.query (hands_in old.queues v)) takes_tenant

  room_by : (o : Option Entry) → o ≡ Some takes_entry → IfSome o (λ e. (0 < e.queued) × (e.in_hand < 4294967295))
  room_by None h = cc
  room_by (Some e) h =
      let same : e ≡ takes_entry = cc in
      subst (λ (x : Entry). (0 < x.queued) × (x.in_hand < 4294967295)) (sym same)
      (let q = takes_queued in let f = takes_counted.few in (omega (arith, q), omega (arith, q, f)))

  pub takes_room : IfSome (raw_of old held.head.query) (λ e. (0 < e.queued) × (e.in_hand < 4294967295))
  takes_room = room_by (raw_of old held.head.query) (ap (raw_of old) takes_query ∙ takes_raw.1)

module _ (old new : Table) (actor : ℕ) (held : Held) (t : IsTable old) (k : IsTaken old.queues actor held new.queues)
    (set : (p : ℕ) → raw_of new p ≡ with_change held.head.query taken_entry (raw_of old) p) where
  abbrev taken_entry_is : Entry
  taken_entry_is = takes_entry old actor held new.queues t k

  takes_set : (p : ℕ) → raw_of new p ≡ with_change k.job.head.query taken_entry (raw_of old) p
  takes_set p = set p ∙ ap (λ q. with_change q taken_entry (raw_of old) p) (takes_query old actor held new.queues t k)

  takes_same : (p : ℕ) → entry_in new p ≡ entry_in old p
  takes_same = data_keeps (raw_of old) (raw_of new) k.job.head.query taken_entry taken_entry_is (takes_raw old actor held new.queues t k).1 takes_set refl

  pub taken_from : tries_left new.queues + (5 - held.head.tries) ≡ tries_left old.queues → IsTakenFrom old actor held new
  taken_from l =
      let w = takes_waited old actor held new.queues t k in
      let few : held.head.tries < 5 = subst (λ (h : JobHead). h.tries < 5) (sym (ap (λ (h : Held). h.head) k.held_is)) w.head.tries in record {
        taken = k;
        waited = w;
        entries = takes_same;
        tries = l;
        fewer = omega (arith, l, few);
        tried = keeps_tried (raw_of old) (raw_of new) held.head.query taken_entry set (λ e. refl);
      }

  pub taken_table : AreQueues new.queues → IsTable new
  taken_table q =
      let job = k.job.head.query in
      let u = k.tenant in
      let raw = (takes_raw old actor held new.queues t k).1 in
      let here = raw_here (raw_of old) (raw_of new) job taken_entry taken_entry_is raw takes_set in
      let m = takes_queued old actor held new.queues t k in
      let n = takes_in_hand old actor held new.queues t k in
      let more = more_in_hand job (hands_in old.queues u) (hand_of held) (takes_query old actor held new.queues t k) in
      let few = (takes_counted old actor held new.queues t k).few in record {
        queues = q;
        agree = agree_equal (entry_in old) (entry_in new) (waiting_in new.queues) (waiting_in new.queues) (hands_in new.queues) (hands_in new.queues)
            (agree_taken (entry_in old) old.queues new.queues t.agree actor held k) takes_same (λ v. refl) (λ v. refl);
        counted = counted_with (raw_of old) (raw_of new) old.queues new.queues job u _ _ _ k.left t.counted
            (raw_else (raw_of old) (raw_of new) job taken_entry taken_entry_is raw takes_set)
            (λ p d. first_other p job k.job k.jobs refl d ∙ sym (ap (λ js. jobs_in p js) k.waiting))
            (λ p d. more_held_other p job (hands_in old.queues u) (hand_of held) (takes_query old actor held new.queues t k) d) (taken_entry taken_entry_is) here
            (takes_tenant old actor held new.queues t k) (omega (arith, m)) (omega (arith, n, more)) (omega (arith, few, m));
        tried = tried_after (raw_of old) (raw_of new) held.head.query taken_entry set old.queues new.queues t.tried
            (fewer_taken old.queues new.queues actor held k) (λ e. refl) (λ e. refl) (λ e. omega arith);
      }

-- ---- a job in hand

pub released_same : (old new : Queues) (held : Held) → IsReleased old held new → has_hand (hand_of held) (hands_in old held.head.tenant) ≡ false → AreSame old new
released_same old new held r f = record {
  queues = λ v. elim (num_cases v held.head.tenant) [
    | inl e ↦ record {
      waiting = subst (λ u. waiting_in new u ≡ waiting_in old u) (sym e) r.waiting;
      hands = subst (λ u. hands_in new u ≡ hands_in old u) (sym e) (r.hands ∙ without_absent (hand_of held) (hands_in old held.head.tenant) f);
    }
    | inr d ↦ r.others v d
  ];
  ring = r.ring;
}

pub same_self : (old : Table) → IsSameTable old old
same_self old = same_table old old (are_same old.queues old.queues refl) refl (λ p. refl)

pub nothing_kept : (old : Table) (held : Held) → None ≡ option_map state_of (raw_of old held.head.query) → IsNothing old held old
nothing_kept old held h =
    let gone : entry_in old held.head.query ≡ None = ap (λ (o : Option Entry). option_map data_of o) (untold (raw_of old held.head.query) h) in record {
      not_held = subst (λ (o : Option EntryData). IsNotHeld old held o) (sym gone) tt;
      same = same_self old;
    }

-- a failed try is counted of a query, and nothing else is changed
tried_table : (old new : Table) (query : ℕ) (e : Entry) → raw_of old query ≡ Some e → ((p : ℕ) → raw_of new p ≡ with_change query tried_entry (raw_of old) p)
    → new.queues ≡ old.queues → IsTable old → AreQueues new.queues → IsTable new
tried_table old new query e was set same t q =
    let s = are_same old.queues new.queues same in record {
      queues = q;
      agree = agree_equal (entry_in old) (entry_in new) (waiting_in old.queues) (waiting_in new.queues) (hands_in old.queues) (hands_in new.queues) t.agree
          (data_keeps (raw_of old) (raw_of new) query tried_entry e was set refl) (λ v. (s.queues v).waiting) (λ v. (s.queues v).hands);
      counted = counted_after (raw_of old) (raw_of new) (waiting_in old.queues) (waiting_in new.queues) (hands_in old.queues) (hands_in new.queues) query e.tenant
          t.counted (raw_else (raw_of old) (raw_of new) query tried_entry e was set)
          (λ v d. (s.queues v).waiting) (λ v d. (s.queues v).hands)
          (λ p d. ap (λ js. jobs_in p js) (s.queues e.tenant).waiting) (λ p d. ap (λ xs. hands_with p xs) (s.queues e.tenant).hands)
          (λ x k n.
          let is : tried_entry e ≡ x = raw_is (raw_of new query) (tried_entry e) x (raw_here (raw_of old) (raw_of new) query tried_entry e was set) k in
          let count = t.counted query e was (ap (λ (y : Entry). y.stop) is ∙ n) in
          subst (λ (y : Entry). IsCounted query (waiting_in new.queues) (hands_in new.queues) y) is
          (record {
            queued = count.queued ∙ sym (ap (λ js. jobs_in query js) (s.queues e.tenant).waiting);
            in_hand = count.in_hand ∙ sym (ap (λ xs. hands_with query xs) (s.queues e.tenant).hands);
            few = count.few;
          }));
      tried = counted_more (raw_of old) (raw_of new) query tried_entry set old.queues new.queues t.tried
          (fewer_same old.queues new.queues s) (λ e. refl) (λ e. refl) (λ e. omega arith);
    }

module _ (old : Table) (held : Held) (s : EntryState) (h : Some s ≡ option_map state_of (raw_of old held.head.query)) (t : IsTable old) where
  the : Told (raw_of old held.head.query) s
  the = told (raw_of old held.head.query) s h

  here : entry_in old held.head.query ≡ Some (data_of the.entry)
  here = data_at old held.head.query the.entry the.was

  stop_is : the.entry.stop ≡ s.stop
  stop_is = sym (ap (λ (x : EntryState). x.stop) the.is)

  -- its query is stopped
  module _ (new : Table) (why : Stop) (stopped : s.stop ≡ Some why) (entries : (p : ℕ) → raw_of new p ≡ raw_of old p) (r : IsReleased old.queues held new.queues) where
    pub goes_is : tries_left new.queues ≡ tries_left old.queues → Goes old held why false new
    goes_is l = record {
      stopped = subst (λ (o : Option EntryData). IsGone o why) (sym here) (stop_is ∙ stopped);
      entries = λ p. ap (λ (o : Option Entry). option_map data_of o) (entries p);
      queues = r;
      tries = l;
      tried = λ p. ap tried_by (entries p);
    }

    -- by a failed try, where it isn't in hand
    pub untried_goes : has_hand (hand_of held) (hands_in old.queues held.head.tenant) ≡ false → tries_left new.queues ≡ tries_left old.queues
        → Goes old held why (has_hand (hand_of held) (hands_in old.queues held.head.tenant)) new
    untried_goes gone l = subst (λ (b : Bool). Goes old held why b new) (sym gone) (goes_is l)

    never_counted : (e : Entry) → raw_of new held.head.query ≡ Some e → e.stop ≡ None → ⊥
    never_counted e k n =
        let same : the.entry ≡ e = raw_is (raw_of old held.head.query) the.entry e the.was (sym (entries held.head.query) ∙ k) in
        none_some (sym n ∙ sym (ap (λ (x : Entry). x.stop) same) ∙ stop_is ∙ stopped)

    pub goes_table : AreQueues new.queues → IsTable new
    goes_table q = elim (bool_cases (has_hand (hand_of held) (hands_in old.queues held.head.tenant))) [
      | inl there ↦ record {
        queues = q;
        agree = agree_equal (entry_in old) (entry_in new) (waiting_in new.queues) (waiting_in new.queues) (hands_in new.queues) (hands_in new.queues)
            (agree_gone (entry_in old) old.queues new.queues t.agree held (data_of the.entry) why here (stop_is ∙ stopped) there _ r)
            (λ p. ap (λ (o : Option Entry). option_map data_of o) (entries p)) (λ v. refl) (λ v. refl);
        counted = counted_stopped (raw_of old) (raw_of new) old.queues new.queues held.head.query held.head.tenant _ _ _ r t.counted
            (λ p d. entries p) (λ p d. refl) (λ p d. less_held_other p (hand_of held) (hands_in old.queues held.head.tenant) d) never_counted;
        tried = tried_equal (raw_of old) (raw_of new) old.queues new.queues entries
            (fewer_released old.queues new.queues held.head.tenant (hand_of held) _ r) t.tried;
      }
      | inr f ↦ table_same old new t q (released_same old.queues new.queues held r f) entries
    ]

  -- and its try is counted
  module _ (mid new : Table) (why : Stop) (stopped : s.stop ≡ Some why) (entries : (p : ℕ) → raw_of mid p ≡ raw_of old p) (r : IsReleased old.queues held mid.queues)
      (set : (p : ℕ) → raw_of new p ≡ with_change held.head.query tried_entry (raw_of mid) p) (same : new.queues ≡ mid.queues) where
    mid_was : raw_of mid held.head.query ≡ Some the.entry
    mid_was = entries held.head.query ∙ the.was

    is_counted : tries_left mid.queues ≡ tries_left old.queues → Goes old held why true new
    is_counted l = record {
      stopped = subst (λ (o : Option EntryData). IsGone o why) (sym here) (stop_is ∙ stopped);
      entries = λ p. data_keeps (raw_of mid) (raw_of new) held.head.query tried_entry the.entry mid_was set refl p
          ∙ ap (λ (o : Option Entry). option_map data_of o) (entries p);
      queues = subst (λ (q : Queues). IsReleased old.queues held q) (sym same) r;
      tries = ap tries_left same ∙ l;
      tried = λ p. counts_try (raw_of mid) (raw_of new) held.head.query tried_entry set the.entry mid_was refl p
          ∙ ap (λ (o : Option Entry). cond (nat_eq held.head.query p) (one_more (tried_by o)) (tried_by o)) (entries p);
    }

    pub tried_goes : has_hand (hand_of held) (hands_in old.queues held.head.tenant) ≡ true → tries_left mid.queues ≡ tries_left old.queues
        → Goes old held why (has_hand (hand_of held) (hands_in old.queues held.head.tenant)) new
    tried_goes there l = subst (λ (b : Bool). Goes old held why b new) (sym there) (is_counted l)

    pub tried_goes_table : AreQueues mid.queues → IsTable new
    tried_goes_table q =
        tried_table mid new held.head.query the.entry mid_was set same (goes_table mid why stopped entries r q)
        (subst AreQueues (sym same) q)

  -- it isn't in hand
  pub not_in_hand : s.stop ≡ None → has_hand (hand_of held) (hands_in old.queues held.head.tenant) ≡ false → (new : Table)
      → IsSameTable old new → IsNothing old held new
  not_in_hand n f new same = record {
    not_held = subst (λ (o : Option EntryData). IsNotHeld old held o) (sym here) (stop_is ∙ n, f);
    same = same;
  }

  -- it is in hand, and its query isn't stopped
  module _ (n : s.stop ≡ None) (there : has_hand (hand_of held) (hands_in old.queues held.head.tenant) ≡ true) where
    pub held_is : Holds (entry_in old) held
    held_is = holds (entry_in old) old.queues t.agree held there (data_of the.entry) here (stop_is ∙ n)

    pub held_of_is : IsHeldOf old held held_is.work
    held_of_is = record { entry = held_is.entry; in_hand = there; run = held_is.run; head = held_is.head; empty = held_is.empty }

    data_is : data_of the.entry ≡ entry_with held.head.tenant None (Some held_is.work)
    data_is = entry_is (entry_in old held.head.query) (data_of the.entry) (entry_with held.head.tenant None (Some held_is.work)) here held_is.entry

    tenant_is : the.entry.tenant ≡ held.head.tenant
    tenant_is = ap (λ (x : EntryData). x.tenant) data_is

    counted_is : IsCounted held.head.query (waiting_in old.queues) (hands_in old.queues) the.entry
    counted_is = t.counted held.head.query the.entry the.was (stop_is ∙ n)

    queued_is : the.entry.queued ≡ jobs_in held.head.query (waiting_in old.queues held.head.tenant)
    queued_is = counted_is.queued ∙ ap (λ v. jobs_in held.head.query (waiting_in old.queues v)) tenant_is

    in_hand_is : the.entry.in_hand ≡ hands_with held.head.query (hands_in old.queues held.head.tenant)
    in_hand_is = counted_is.in_hand ∙ ap (λ v. hands_with held.head.query (hands_in old.queues v)) tenant_is

    one_less : hands_with held.head.query (without_hand (hand_of held) (hands_in old.queues held.head.tenant)) + 1 ≡ the.entry.in_hand
    one_less = less_in_hand (hand_of held) (hands_in old.queues held.head.tenant) there ∙ sym in_hand_is

    room_at : (o : Option Entry) → o ≡ Some the.entry → (P : Entry → Type 0) → P the.entry → IfSome o P
    room_at None k P p = cc
    room_at (Some e) k P p = let same : the.entry ≡ e = cc in subst P same p

    work_at : (o : Option WorkData) → o ≡ Some held_is.work → IfSome o (λ w. held.head.job < length w.slots)
    work_at None k = cc
    work_at (Some w) k =
        let same : held_is.work ≡ w = cc in
        subst (λ (x : WorkData). held.head.job < length x.slots) same (get_within held_is.work.slots held.head.job Empty held_is.empty)

    pub stored_room : IfSome (raw_of old held.head.query) (λ e. (0 < e.in_hand) × IfSome e.work (λ w. held.head.job < length w.slots))
    stored_room =
        room_at (raw_of old held.head.query) the.was (λ e. (0 < e.in_hand) × IfSome e.work (λ w. held.head.job < length w.slots))
        (let o = one_less in (omega (arith, o), work_at the.entry.work (ap (λ (x : EntryData). x.work) data_is)))

    pub back_room : IfSome (raw_of old held.head.query) (λ e. (0 < e.in_hand) × (e.queued < 4294967295))
    back_room =
        room_at (raw_of old held.head.query) the.was (λ e. (0 < e.in_hand) × (e.queued < 4294967295))
        (let o = one_less in let f = counted_is.few in (omega (arith, o), omega (arith, o, f)))

    -- its part is stored
    module _ (new : Table) (part : Part) (r : IsReleased old.queues held new.queues)
        (set : (p : ℕ) → raw_of new p ≡ with_change held.head.query (stored_entry held.head.job part) (raw_of old) p) where
      stored_data : data_of (stored_entry held.head.job part the.entry) ≡ entry_with held.head.tenant None (Some (filled held.head.job part held_is.work))
      stored_data = ap (λ (x : EntryData). entry_with x.tenant x.stop (option_map (filled held.head.job part) x.work)) data_is

      stored_here : entry_in new held.head.query ≡ Some (entry_with held.head.tenant None (Some (filled held.head.job part held_is.work)))
      stored_here =
          data_here (raw_of old) (raw_of new) held.head.query (stored_entry held.head.job part) the.entry the.was set ∙ ap (λ (x : EntryData). Some x) stored_data

      pub stored_is : tries_left new.queues ≡ tries_left old.queues → IsStored old held part new
      stored_is l = record {
        work = held_is.work;
        held_of = held_of_is;
        entries = λ p. data_sets (raw_of old) (raw_of new) held.head.query (stored_entry held.head.job part) the.entry the.was set p
            ∙ ap (λ (x : EntryData). cond (nat_eq held.head.query p) (Some x) (entry_in old p)) stored_data;
        queues = r;
        tries = l;
        tried = keeps_tried (raw_of old) (raw_of new) held.head.query (stored_entry held.head.job part) set (λ e. refl);
      }

      pub stored_table : AreQueues new.queues → IsTable new
      stored_table q =
          let o = one_less in
          let m = queued_is in
          let f = counted_is.few in record {
            queues = q;
            agree = agree_stored (entry_in old) (entry_in new) old.queues new.queues t.agree held part held_is there stored_here
                (data_else (raw_of old) (raw_of new) held.head.query (stored_entry held.head.job part) the.entry the.was set) _ r;
            counted = counted_with (raw_of old) (raw_of new) old.queues new.queues held.head.query held.head.tenant _ _ _ r t.counted
                (raw_else (raw_of old) (raw_of new) held.head.query (stored_entry held.head.job part) the.entry the.was set) (λ p d. refl)
                (λ p d. less_held_other p (hand_of held) (hands_in old.queues held.head.tenant) d) (stored_entry held.head.job part the.entry)
                (raw_here (raw_of old) (raw_of new) held.head.query (stored_entry held.head.job part) the.entry the.was set) tenant_is m (omega (arith, o)) (omega (arith, f));
            tried = tried_after (raw_of old) (raw_of new) held.head.query (stored_entry held.head.job part) set old.queues new.queues t.tried
                (fewer_released old.queues new.queues held.head.tenant (hand_of held) _ r) (λ e. refl) (λ e. refl) (λ e. omega arith);
          }

    -- it waits again
    module _ (new : Table) (tries : ℕ) (tries_are : tries ≡ held.head.tries + 1) (few : held.head.tries < 4) (b : IsPutBack old.queues held new.queues)
        (set : (p : ℕ) → raw_of new p ≡ with_change held.head.query back_entry (raw_of old) p) where
      back_same : (p : ℕ) → entry_in new p ≡ entry_in old p
      back_same = data_keeps (raw_of old) (raw_of new) held.head.query back_entry the.entry the.was set refl

      pub again_is : tries_left new.queues ≡ tries_left old.queues + (5 - tries) → WaitsAgain old held tries new
      again_is l = record {
        work = held_is.work;
        held_of = held_of_is;
        tries_are = tries_are;
        few = omega (arith, tries_are, few);
        entries = back_same;
        queues = b;
        tries_left = l;
        tried = counts_try (raw_of old) (raw_of new) held.head.query back_entry set the.entry the.was refl;
      }

      pub again_table : AreQueues new.queues → IsTable new
      again_table q =
          let o = one_less in
          let m = queued_is in
          let f = counted_is.few in
          let g = more_waiting held.head.query (waiting_in old.queues held.head.tenant) (job_of_held (held.head.tries + 1) held) refl in record {
            queues = q;
            agree = agree_equal (entry_in old) (entry_in new) (waiting_in new.queues) (waiting_in new.queues) (hands_in new.queues) (hands_in new.queues)
                (agree_again (entry_in old) old.queues new.queues t.agree held held_is there (omega (arith, few)) _ b) back_same (λ v. refl) (λ v. refl);
            counted = counted_with (raw_of old) (raw_of new) old.queues new.queues held.head.query held.head.tenant _ _ _ b t.counted
                (raw_else (raw_of old) (raw_of new) held.head.query back_entry the.entry the.was set)
                (λ p d. more_other p held.head.query (waiting_in old.queues held.head.tenant) (job_of_held (held.head.tries + 1) held) refl d)
                (λ p d. less_held_other p (hand_of held) (hands_in old.queues held.head.tenant) d) (back_entry the.entry)
                (raw_here (raw_of old) (raw_of new) held.head.query back_entry the.entry the.was set) tenant_is (omega (arith, m, g)) (omega (arith, o)) (omega (arith, f, o));
            tried = tried_change (raw_of old) (raw_of new) held.head.query back_entry set old.queues new.queues t.tried
                (λ p v d. back_others old.queues new.queues held _ there b p v d)
                (λ e k a. tried_more held.head.query old.queues new.queues e (back_entry e) refl refl
                (let l = back_own old.queues new.queues held _ there b e.tenant in omega (arith, l)) a);
          }

-- ---- a query is stopped

-- an entry with a stop, and with these tries
abbrev pub stop_with : Stop → (ℕ → ℕ) → Entry → Entry
stop_with why more e = record e { stop = Some (stop_after e.stop why); tried = more e.tried }

-- it is kept why, and its jobs in hand are these; none of its jobs waits
module _ (old new : Table) (query : ℕ) (e : Entry) (was : raw_of old query ≡ Some e) (t : IsTable old) (why : Stop) (more : ℕ → ℕ) (hands : List Hand)
    (set : (p : ℕ) → raw_of new p ≡ with_change query (stop_with why more) (raw_of old) p)
    (aw : AreWith old.queues e.tenant (filter (is_other_job query) (waiting_in old.queues e.tenant)) hands (ring_without old.queues e.tenant query) new.queues) where
  pub stops_is : tries_left new.queues ≤ tries_left old.queues → KeepsTried old new → Stops old query why (data_of e) hands new
  stops_is l k = record {
    entries = data_sets (raw_of old) (raw_of new) query (stop_with why more) e was set;
    queues = aw;
    tries = l;
    tried = k;
  }

  stops_here : raw_of new query ≡ Some (stop_with why more e)
  stops_here = raw_here (raw_of old) (raw_of new) query (stop_with why more) e was set

  pub stops_table : Each (IsInHand (entry_in old) e.tenant) hands → ((n : ℕ) → hands_named query n hands ≤ hands_named query n (hands_in old.queues e.tenant))
      → ((p n : ℕ) → (p ≡ query → ⊥) → hands_named p n hands ≡ hands_named p n (hands_in old.queues e.tenant))
      → ((p : ℕ) → (p ≡ query → ⊥) → hands_with p hands ≡ hands_with p (hands_in old.queues e.tenant))
      → AreQueues new.queues → AreAllTried (raw_of new) new.queues → IsTable new
  stops_table each fewer same with_same q k = record {
    queues = q;
    agree = agree_stopped (entry_in old) (entry_in new) old.queues new.queues t.agree query (data_of e) (stop_after e.stop why) (data_at old query e was)
        (data_here (raw_of old) (raw_of new) query (stop_with why more) e was set)
        (data_else (raw_of old) (raw_of new) query (stop_with why more) e was set) hands _ each fewer same aw;
    counted = counted_stopped (raw_of old) (raw_of new) old.queues new.queues query e.tenant _ hands _ aw t.counted
        (raw_else (raw_of old) (raw_of new) query (stop_with why more) e was set)
        (λ p d. others_waiting p query (waiting_in old.queues e.tenant) d) with_same
        (λ x h n. none_some (sym n ∙ sym (ap (λ (y : Entry). y.stop) (raw_is (raw_of new query) (stop_with why more e) x stops_here h))));
    tried = k;
  }

-- all its jobs in hand stay there
module _ (old new : Table) (query : ℕ) (s : EntryState) (h : Some s ≡ option_map state_of (raw_of old query)) (t : IsTable old) (why : Stop)
    (set : (p : ℕ) → raw_of new p ≡ with_change query (stopped_entry why) (raw_of old) p) (a : AreNotWaiting old.queues s.tenant query new.queues) where
  its : Told (raw_of old query) s
  its = told (raw_of old query) s h

  its_queue : AreNotWaiting old.queues its.entry.tenant query new.queues
  its_queue = subst (λ u. AreNotWaiting old.queues u query new.queues) (ap (λ (x : EntryState). x.tenant) its.is) a

  pub stop_is_told : tries_left new.queues ≤ tries_left old.queues
      → MatchOption (entry_in old query) (IsSameTable old new) (λ e. Stops old query why e (hands_in old.queues e.tenant) new)
  stop_is_told l =
      subst (λ (o : Option EntryData). MatchOption o (IsSameTable old new) (λ e. Stops old query why e (hands_in old.queues e.tenant) new))
      (sym (data_at old query its.entry its.was))
      (stops_is old new query its.entry its.was t why (λ n. n) (hands_in old.queues its.entry.tenant) set its_queue l
      (keeps_tried (raw_of old) (raw_of new) query (stopped_entry why) set (λ e. refl)))

  pub stop_table : last_tries (Some why) ≡ 0 → AreQueues new.queues → IsTable new
  stop_table none q =
      stops_table old new query its.entry its.was t why (λ n. n) (hands_in old.queues its.entry.tenant) set its_queue
      (t.agree.all_in_hand its.entry.tenant) (λ n. omega arith) (λ p n d. refl) (λ p d. refl) q
      (tried_after (raw_of old) (raw_of new) query (stopped_entry why) set old.queues new.queues t.tried
      (fewer_left old.queues new.queues its.entry.tenant query _ _ its_queue (λ p. omega arith)) (λ e. refl) (λ e. refl) (λ e. not_more why none e.stop))

pub never_told : (old : Table) (query : ℕ) → None ≡ option_map state_of (raw_of old query) → entry_in old query ≡ None
never_told old query h = ap (λ (o : Option Entry). option_map data_of o) (untold (raw_of old query) h)

-- a job of it is taken out of its actor's hand
module _ (old : Table) (held : Held) (t : IsTable old) (e : Entry) (was : raw_of old held.head.query ≡ Some e) where
  away_hands : List Hand
  away_hands = without_hand (hand_of held) (hands_in old.queues e.tenant)

  hand_there : has_hand (hand_of held) (hands_in old.queues held.head.tenant) ≡ true → held.head.tenant ≡ e.tenant
  hand_there there =
      let k = known_hand (entry_in old) old.queues t.agree held there in
      ap (λ (x : EntryData). x.tenant)
      (entry_is (entry_in old held.head.query) (entry_with held.head.tenant k.stop (Some k.work)) (data_of e) k.entry (data_at old held.head.query e was))

  -- where it isn't in hand its tenant has no such hand either
  hand_absent : has_hand (hand_of held) (hands_in old.queues held.head.tenant) ≡ false → has_hand (hand_of held) (hands_in old.queues e.tenant) ≡ false
  hand_absent f = elim (bool_cases (has_hand (hand_of held) (hands_in old.queues e.tenant))) [
    | inl there ↦
        let owner = (find_hand (IsInHand (entry_in old) e.tenant) (hand_of held) (hands_in old.queues e.tenant) (t.agree.all_in_hand e.tenant) there).tenant_is in
        sym (ap (λ v. has_hand (hand_of held) (hands_in old.queues v)) owner) ∙ f
    | inr g ↦ g
  ]

  -- the tenant's queue once it is released
  pub released_with : (mid : Queues) → IsReleased old.queues held mid
      → AreWith old.queues e.tenant (waiting_in old.queues e.tenant) (without_hand (hand_of held) (hands_in old.queues e.tenant)) (ring_in old.queues) mid
  released_with mid r = elim (bool_cases (has_hand (hand_of held) (hands_in old.queues held.head.tenant))) [
    | inl there ↦
        subst (λ u. AreWith old.queues u (waiting_in old.queues u) (without_hand (hand_of held) (hands_in old.queues u)) (ring_in old.queues) mid) (hand_there there) r
    | inr f ↦
        let same = released_same old.queues mid held r f in record {
          waiting = (same.queues e.tenant).waiting;
          hands = (same.queues e.tenant).hands ∙ sym (without_absent (hand_of held) (hands_in old.queues e.tenant) (hand_absent f));
          others = λ v d. same.queues v;
          ring = same.ring;
        }
  ]

module _ (old new : Table) (held : Held) (s : EntryState) (h : Some s ≡ option_map state_of (raw_of old held.head.query)) (t : IsTable old) (why : Stop) (more : ℕ → ℕ) (mid : Queues)
    (set : (p : ℕ) → raw_of new p ≡ with_change held.head.query (stop_with why more) (raw_of old) p)
    (r : IsReleased old.queues held mid) (a : AreNotWaiting mid s.tenant held.head.query new.queues) where
  lost : Told (raw_of old held.head.query) s
  lost = told (raw_of old held.head.query) s h

  lost_queue : AreWith old.queues lost.entry.tenant (filter (is_other_job held.head.query) (waiting_in old.queues lost.entry.tenant))
      (without_hand (hand_of held) (hands_in old.queues lost.entry.tenant)) (ring_without old.queues lost.entry.tenant held.head.query) new.queues
  lost_queue =
      left_after old.queues mid new.queues lost.entry.tenant held.head.query (without_hand (hand_of held) (hands_in old.queues lost.entry.tenant))
      (released_with old held t lost.entry lost.was mid r)
      (subst (λ u. AreNotWaiting mid u held.head.query new.queues) (ap (λ (x : EntryState). x.tenant) lost.is) a)

  pub lack_is : tries_left new.queues ≤ tries_left old.queues → KeepsTried old new
      → MatchOption (entry_in old held.head.query) (IsSameTable old new)
      (λ e. Stops old held.head.query why e (without_hand (hand_of held) (hands_in old.queues e.tenant)) new)
  lack_is l k =
      subst (λ (o : Option EntryData). MatchOption o (IsSameTable old new) (λ e. Stops old held.head.query why e (without_hand (hand_of held) (hands_in old.queues e.tenant)) new))
      (sym (data_at old held.head.query lost.entry lost.was))
      (stops_is old new held.head.query lost.entry lost.was t why more (without_hand (hand_of held) (hands_in old.queues lost.entry.tenant)) set lost_queue l k)

  lack_fewer : AreFewer old.queues new.queues
  lack_fewer =
      fewer_left old.queues new.queues lost.entry.tenant held.head.query _ _ lost_queue
      (λ p. hand_fewer p (hand_of held) (hands_in old.queues lost.entry.tenant))

  pub lack_table : AreQueues new.queues → AreAllTried (raw_of new) new.queues → IsTable new
  lack_table q k =
      let hs = hands_in old.queues lost.entry.tenant in
      stops_table old new held.head.query lost.entry lost.was t why more (without_hand (hand_of held) hs) set lost_queue
      (each_without (IsInHand (entry_in old) lost.entry.tenant) (hand_of held) hs (t.agree.all_in_hand lost.entry.tenant))
      (λ n. count_fewer (λ x. is_named held.head.query n x.head) (hand_of held) hs)
      (λ p n d. count_same (λ x. is_named p n x.head) (hand_of held) hs (named_other p n held.head.query held.head refl d))
      (λ p d. less_held_other p (hand_of held) hs d) q k

  -- where as many tries are kept
  pub lack_tried : last_tries (Some why) ≡ 0 → ((n : ℕ) → more n ≡ n) → AreAllTried (raw_of new) new.queues
  lack_tried none same =
      tried_after (raw_of old) (raw_of new) held.head.query (stop_with why more) set old.queues new.queues t.tried lack_fewer
      (λ e. refl) (λ e. same e.tried) (λ e. not_more why none e.stop)

  -- at its fifth failure
  pub exhausted_is : (n : s.stop ≡ None) (there : has_hand (hand_of held) (hands_in old.queues held.head.tenant) ≡ true) → why ≡ Exhausted held.head.job
      → ((n : ℕ) → more n ≡ one_more n) → held.head.tries ≡ 4 → tries_left new.queues ≤ tries_left old.queues → IsExhausted old held held.head.job new
  exhausted_is n there w counts last l =
      let k = held_is old held s h t n there in
      let same : data_of lost.entry ≡ entry_with held.head.tenant None (Some k.work) =
      entry_is (entry_in old held.head.query) (data_of lost.entry) (entry_with held.head.tenant None (Some k.work)) (data_at old held.head.query lost.entry lost.was) k.entry in
      let after : data_of (stop_with why more lost.entry) ≡ entry_with held.head.tenant (Some (Exhausted held.head.job)) (Some k.work) =
      ap (λ (x : EntryData). entry_with x.tenant (Some (stop_after x.stop why)) x.work) same
      ∙ ap (λ (x : Stop). entry_with held.head.tenant (Some (stop_after None x)) (Some k.work)) w in
      let tenant : lost.entry.tenant ≡ held.head.tenant = ap (λ (x : EntryData). x.tenant) same in record {
        work = k.work;
        held_of = held_of_is old held s h t n there;
        job_is = refl;
        last_try = last;
        entries = λ p. data_sets (raw_of old) (raw_of new) held.head.query (stop_with why more) lost.entry lost.was set p
            ∙ ap (λ (x : EntryData). cond (nat_eq held.head.query p) (Some x) (entry_in old p)) after;
        queues = subst (λ u. AreWith old.queues u (filter (is_other_job held.head.query) (waiting_in old.queues u)) (without_hand (hand_of held) (hands_in old.queues u))
            (ring_without old.queues u held.head.query) new.queues) tenant lost_queue;
        tries = l;
        tried = counts_try (raw_of old) (raw_of new) held.head.query (stop_with why more) set lost.entry lost.was (counts lost.entry.tried);
      }

  -- its fifth try is counted
  pub exhausted_tried : (n : s.stop ≡ None) → has_hand (hand_of held) (hands_in old.queues held.head.tenant) ≡ true → why ≡ Exhausted held.head.job
      → ((n : ℕ) → more n ≡ one_more n) → held.head.tries ≡ 4 → AreAllTried (raw_of new) new.queues
  exhausted_tried n there w counts last =
      tried_change (raw_of old) (raw_of new) held.head.query (stop_with why more) set old.queues new.queues t.tried (λ p v d. lack_fewer p v)
      (λ e k a.
      let h = held_is old held s h t n there in
      let same : data_of e ≡ entry_with held.head.tenant None (Some h.work) =
      entry_is (entry_in old held.head.query) (data_of e) (entry_with held.head.tenant None (Some h.work)) (data_at old held.head.query e k) h.entry in
      let tenant : e.tenant ≡ held.head.tenant = ap (λ (x : EntryData). x.tenant) same in
      let was : last_tries e.stop ≡ 0 = ap (λ (x : EntryData). last_tries x.stop) same in
      let now : last_tries (Some (stop_after e.stop why)) ≡ 5 =
      ap (λ (x : EntryData). last_tries (Some (stop_after x.stop why))) same ∙ ap (λ (x : Stop). last_tries (Some (stop_after None x))) w in
      let same_entry : lost.entry ≡ e = raw_is (raw_of old held.head.query) lost.entry e lost.was k in
      let gone = last_gone old.queues new.queues held _ there
      (subst (λ u. AreWith old.queues u (filter (is_other_job held.head.query) (waiting_in old.queues u)) (without_hand (hand_of held) (hands_in old.queues u))
      (ring_without old.queues u held.head.query) new.queues) (ap (λ (x : Entry). x.tenant) same_entry ∙ tenant) lost_queue) in
      let at = ap (λ u. tries_at new.queues held.head.query u) tenant in
      let before = ap (λ u. tries_at old.queues held.head.query u) tenant in
      tried_more held.head.query old.queues new.queues e (stop_with why more e) refl (counts e.tried) (omega (arith, was, now, gone, at, before, last)) a)

-- ---- what a query has

given_by : (o : Option WorkData) (w : WorkData) (b : Bool) → o ≡ Some w → is_given_out o ≡ b → w.given ≡ b
given_by o w b h g = sym (ap is_given_out h) ∙ g

module _ (old : Table) (query : ℕ) (s : EntryState) (h : Some s ≡ option_map state_of (raw_of old query)) (t : IsTable old) where
  abbrev pub asked : Told (raw_of old query) s
  asked = told (raw_of old query) s h

  abbrev pub asked_data : EntryData
  asked_data = data_of asked.entry

  pub asked_here : entry_in old query ≡ Some asked_data
  asked_here = data_at old query asked.entry asked.was

  pub asked_stop : (o : Option Stop) → s.stop ≡ o → asked_data.stop ≡ o
  asked_stop o e = sym (ap (λ (x : EntryState). x.stop) asked.is) ∙ e

  pub asked_unplanned : s.planned ≡ false → asked_data.work ≡ None
  asked_unplanned p = unplanned_by asked.entry.work (sym (ap (λ (x : EntryState). x.planned) asked.is) ∙ p)

  module _ (n : s.stop ≡ None) (p : s.planned ≡ true) where
    abbrev pub asked_work : (w : WorkData) × (asked.entry.work ≡ Some w)
    asked_work = work_by asked.entry.work (sym (ap (λ (x : EntryState). x.planned) asked.is) ∙ p)

    abbrev pub the_work : WorkData
    the_work = asked_work.0

    pub the_work_is : asked_data.work ≡ Some the_work
    the_work_is = asked_work.1

    pub the_given : (b : Bool) → s.given ≡ b → the_work.given ≡ b
    the_given b g = given_by asked.entry.work the_work b asked_work.1 (sym (ap (λ (x : EntryState). x.given) asked.is) ∙ g)

    asked_counted : IsCounted query (waiting_in old.queues) (hands_in old.queues) asked.entry
    asked_counted = t.counted query asked.entry asked.was (asked_stop None n)

    pub the_queued : s.queued ≡ jobs_in query (waiting_in old.queues asked_data.tenant)
    the_queued = ap (λ (x : EntryState). x.queued) asked.is ∙ asked_counted.queued

    pub the_in_hand : s.in_hand ≡ hands_with query (hands_in old.queues asked_data.tenant)
    the_in_hand = ap (λ (x : EntryState). x.in_hand) asked.is ∙ asked_counted.in_hand

    asked_entry : entry_in old query ≡ Some (entry_with asked_data.tenant None (Some the_work))
    asked_entry =
        asked_here
        ∙ ap (λ (o : Option Stop). Some (entry_with asked_data.tenant o asked_data.work)) (asked_stop None n)
        ∙ ap (λ (o : Option WorkData). Some (entry_with asked_data.tenant None o)) the_work_is

    module _ (none_waits : s.queued ≡ 0) (none_held : s.in_hand ≡ 0) (g : s.given ≡ false) where
      all_there : Each IsFilled the_work.slots
      all_there =
          let k = (t.agree.all_kept query (entry_with asked_data.tenant None (Some the_work)) asked_entry).work in
          all_filled the_work.slots
          (each_map (λ x. is_handed x ≡ the_work.given) (λ x. is_handed x ≡ false) (λ x e. e ∙ the_given false g) the_work.slots k.handed)
          (λ m. (none_wanted (entry_in old) old.queues t.agree query asked_data.tenant the_work asked_entry
          (sym the_queued ∙ none_waits) (sym the_in_hand ∙ none_held) m).2)

      ready_at : (o : Option Entry) → o ≡ Some asked.entry → IfSome o (λ e. IfSome e.work (λ w. (w.given ≡ false) × Each IsFilled w.slots))
      ready_at None e = cc
      ready_at (Some x) e = let same : asked.entry ≡ x = cc in subst (λ (y : Entry). IfSome y.work (λ w. (w.given ≡ false) × Each IsFilled w.slots)) same (ready_work asked.entry.work the_work_is) where
        ready_work : (o : Option WorkData) → o ≡ Some the_work → IfSome o (λ w. (w.given ≡ false) × Each IsFilled w.slots)
        ready_work None k = cc
        ready_work (Some w) k = let same : the_work ≡ w = cc in subst (λ (y : WorkData). (y.given ≡ false) × Each IsFilled y.slots) same (the_given false g, all_there)

      pub ready : IfSome (raw_of old query) (λ e. IfSome e.work (λ w. (w.given ≡ false) × Each IsFilled w.slots))
      ready = ready_at (raw_of old query) asked.was

      module _ (new : Table) (set : (r : ℕ) → raw_of new r ≡ with_change query given_entry (raw_of old) r) (same : new.queues ≡ old.queues) where
        given_data : data_of (given_entry asked.entry) ≡ record asked_data { work = Some (handed_out the_work) }
        given_data = ap (λ (o : Option WorkData). entry_with asked_data.tenant asked_data.stop (option_map handed_out o)) the_work_is

        given_here : entry_in new query ≡ Some (entry_with asked_data.tenant None (Some (handed_out the_work)))
        given_here =
            data_here (raw_of old) (raw_of new) query given_entry asked.entry asked.was set
            ∙ ap (λ (x : EntryData). Some x) given_data
            ∙ ap (λ (o : Option Stop). Some (entry_with asked_data.tenant o (Some (handed_out the_work)))) (asked_stop None n)

        pub gathered_is : (x : Gathered) → GathersAt (Some x) (raw_of old query) → IsGathered old query asked_data the_work x new
        gathered_is x k =
            let l : GathersFrom asked.entry.work (Some x) = subst (λ (o : Option Entry). GathersAt (Some x) o) asked.was k in
            let m : Gathers the_work x = subst (λ (o : Option WorkData). GathersFrom o (Some x)) the_work_is l in record {
              legs_are = m.legs_are;
              runs_are = m.runs_are;
              parts_are = m.parts_are;
              cached_are = m.cached_are;
              entries = λ r. data_sets (raw_of old) (raw_of new) query given_entry asked.entry asked.was set r
                  ∙ ap (λ (y : EntryData). cond (nat_eq query r) (Some y) (entry_in old r)) given_data;
              queues = are_same old.queues new.queues same;
              tries = ap tries_left same;
              tried = keeps_tried (raw_of old) (raw_of new) query given_entry set (λ e. refl);
            }

        pub never_missing : GathersAt None (raw_of old query) → ⊥
        never_missing k = subst (λ (o : Option WorkData). GathersFrom o None) the_work_is (subst (λ (o : Option Entry). GathersAt None o) asked.was k)

        pub gathered_table : AreQueues new.queues → IsTable new
        gathered_table q =
            let same_queues = are_same old.queues new.queues same in
            let u = asked_data.tenant in
            let count = asked_counted in
            record {
              queues = q;
              agree = agree_collected (entry_in old) (entry_in new) old.queues new.queues t.agree query u the_work asked_entry given_here
                  (data_else (raw_of old) (raw_of new) query given_entry asked.entry asked.was set)
                  (sym the_queued ∙ none_waits) (sym the_in_hand ∙ none_held) same_queues;
              counted = counted_after (raw_of old) (raw_of new) (waiting_in old.queues) (waiting_in new.queues) (hands_in old.queues) (hands_in new.queues) query u
                  t.counted (raw_else (raw_of old) (raw_of new) query given_entry asked.entry asked.was set)
                  (λ v d. (same_queues.queues v).waiting) (λ v d. (same_queues.queues v).hands)
                  (λ p d. ap (λ js. jobs_in p js) (same_queues.queues u).waiting) (λ p d. ap (λ xs. hands_with p xs) (same_queues.queues u).hands)
                  (λ e k m. subst (λ (y : Entry). IsCounted query (waiting_in new.queues) (hands_in new.queues) y)
                  (raw_is (raw_of new query) (given_entry asked.entry) e (raw_here (raw_of old) (raw_of new) query given_entry asked.entry asked.was set) k)
                  (record {
                    queued = count.queued ∙ sym (ap (λ js. jobs_in query js) (same_queues.queues u).waiting);
                    in_hand = count.in_hand ∙ sym (ap (λ xs. hands_with query xs) (same_queues.queues u).hands);
                    few = count.few;
                  }));
              tried = tried_after (raw_of old) (raw_of new) query given_entry set old.queues new.queues t.tried
                  (fewer_same old.queues new.queues same_queues) (λ e. refl) (λ e. refl) (λ e. omega arith);
            }
