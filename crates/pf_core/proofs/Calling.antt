-- What the table does for a call is what the call promises of the core.
use Rattle.std.proofs.Common.{◌≡◌, ◌⊎◌, ℕ, ◌+◌, ◌*◌, ◌/◌, ◌%◌, ◌<◌, ◌≤◌, inl, inr, Bool, true, false, cond, map, nat_eq, Option, Some, None, List, [], ◌∷◌, ◌++◌, length, refl, sym, ap, ◌∙◌, arith, subst, slice_get}
use Rattle.std.specs.Arc.{arc_value}
use Rattle.std.specs.Prelude.{MatchOption, sum}
use Rattle.std.proofs.Math.Nat.{min-le_left}
use Rattle.std.proofs.lemmas.Bool.Decides.{nat_tests}
use Rattle.std.proofs.lemmas.Option.{slice_get_within}
use Rattle.pf_base.specs.GridLists.{GridData}
use Rattle.pf_base.specs.Grids.{points}
use Rattle.pf_base.specs.declared.plain.JobHead.{JobHead}
use Rattle.pf_base.specs.declared.plain.Limits.{Limits}
use Rattle.pf_block.specs.Snaps.{SnapData}
use Rattle.pf_extent.specs.Done.{steps_in}
use Rattle.pf_extent.specs.declared.done.DoneCells.{DoneCells}
use Rattle.pf_journal.specs.Legal.{machine_after}
use Rattle.pf_journal.specs.Machine.{CanBeCached, Entry, Open, open_at, started}
use Rattle.pf_journal.specs.Weave.{failed_answers}
use Rattle.pf_model.specs.Legs.{LegsData}
use Rattle.pf_model.specs.Lists.{Each}
use Rattle.pf_model.specs.Log.{rules_of, store_of}
use Rattle.pf_query.specs.Jobs.{has_hand, hand_of, is_empty, is_other_job, job_of_held, tried, without_hand}
use Rattle.pf_query.specs.Queueing as queues
use Rattle.pf_query.specs.Queueing.{put_last}
use Rattle.pf_shard.specs.declared.parts.Part.{Part}
use Rattle.pf_query.specs.Tables as table
use Rattle.pf_query.specs.Tables.{CountsTry, CountsTryIf, EntryData, IsHeldOf, IsSameTable, IsTable, KeepsTried, Stops, entry_in, hands_of, ring_of, stopped, tried_of, waiting_of}
use Rattle.pf_query.specs.Entries.{is_planned, most_tries, one_more, stop_after}
use Rattle.pf_query.specs.Works.{WorkData, filled, last_of, legs_in, planned_work}
use Rattle.pf_query.specs.declared.answers.FailedTry.TheVariants as failed
use Rattle.pf_query.specs.declared.answers.PlanError.{PlanError}
use Rattle.pf_query.specs.declared.answers.PlanError.TheVariants as plan_error
use Rattle.pf_query.specs.declared.answers.Planned.{Planned}
use Rattle.pf_query.specs.declared.job.Hand.{Hand}
use Rattle.pf_query.specs.declared.job.Held.{Held}
use Rattle.pf_query.specs.declared.job.Job.{Job}
use Rattle.pf_query.specs.declared.slot.Slot.TheVariants.{Empty}
use Rattle.pf_query.specs.declared.stop.Stop.{Stop}
use Rattle.pf_query.specs.declared.table.Table.{Table}
use Rattle.pf_query.specs.declared.stop.Stop.TheVariants.{Cancelled, Exhausted, Starved}
use Rattle.pf_shard.specs.Lawful.{ResolvedLegs, leg_count, legs_data}
use Rattle.pf_shard.specs.LegParts.{FitsNodes}
use Rattle.pf_core.specs.Asks.{as_opened, opened_at}
use Rattle.pf_core.specs.Cached.{cached_steps, is_offered_at_once, wanted_runs}
use Rattle.pf_core.specs.Calls.{ChangesQueue, IsNotHeld, IsOpenWith, IsPartOf, IsPlannedBefore, IsReleased, IsStoppedBy, IsTaken, IsTried, IsUnplanned, IsWhole, Releases, StandsForAsk, StopsQuery, counted, is_in_hand, leg_count_of, planned_by, planned_for, ring_with, tried_after}
use Rattle.pf_core.specs.Cores.{AreCovered, CoreData, HasQueue, IsSameHistory, queue_at}
use Rattle.pf_core.specs.Entries.{entry_of}
use Rattle.pf_core.specs.Divisions.{IsPlannedFirst}
use Rattle.pf_core.specs.Jobs.{AreDivided, IsForAsk, IsLegsOf, IsRunOf, IsValueOver, QueueHeads, by_tenant, failures_after, legs_asked, planned_heads}
use Rattle.pf_core.specs.Progress as progress
use Rattle.pf_core.specs.Progress.{GoesWithPlan, QueryProgress, begun, cancel_in, exhausted, planned, progress_at, tried_in, tried_once, with_progress}
use Rattle.pf_core.specs.States.{AreCounts, IsAhead, IsEntryOf, IsOutstanding, IsState, IsWorkOf, JobStands, KeepsFailures, KeepsHistory, core_of, far_of, heads_in, machine_in, progress_of}
use Rattle.pf_core.specs.declared.state.State.{State}
use Rattle.pf_core.proofs.Asked.{asked_open}
use Rattle.pf_core.proofs.Covered.{covered_ahead, covered_less}
use Rattle.pf_core.proofs.Machines.{bool_cases}
use Rattle.pf_core.proofs.Outstanding.{closed_there, each_filter, each_front, entry_there, jobs_with, none_there, open_there, outstanding_same, outstanding_set}
use Rattle.pf_core.proofs.Progressing.{far_at, far_kept, far_set, over_once, tried_over, tries_over}
use Rattle.pf_core.proofs.Runs.{empty_unfilled, filled_at, heads_planned, jobs_planned, run_at, same_run}
use Rattle.pf_core.proofs.Standing.{counts_as, left_by, state_beside}
use Rattle.pf_core.proofs.Tenanted.{empty_heads, has_queue, head_of, map_front, queue_is, tries_table}

-- ---- what stays

pub history_same : (old new : State) → KeepsHistory old new → IsSameHistory (core_of old) (core_of new)
history_same old new k = record {
  limits = k.limits;
  names = ap (λ (t : _). t.names) k.tenants;
  journal = ap (λ (v : _). map entry_of v.items) k.journal;
}

-- a core whose table is the same for contracts
pub core_same : (old new : State) → KeepsHistory old new → KeepsFailures old new → IsSameTable old.table new.table → core_of new ≡ core_of old
core_same old new k f e = λ i. record {
  limits = k.limits i;
  names = (k.tenants i).names;
  journal = map entry_of (k.journal i).items;
  progress = progress_of (machine_after started (map entry_of (k.journal i).items)).queries (λ q. e.entries q i) (λ q. e.tried q i);
  queues = by_tenant (λ u. record { waiting = map head_of ((e.queues.queues u).waiting i); hands = (e.queues.queues u).hands i });
  ring = e.queues.ring i;
  failed = (f.failed i).items;
  kept = f.results i;
}

-- how far the work on open queries is, by what the table keeps
queries_same : (old new : State) → KeepsHistory old new
    → (core_of new).progress ≡ progress_of (machine_in old).queries (entry_in new.table) (tried_of new.table)
queries_same old new k = λ i. progress_of (machine_after started (map entry_of (k.journal i).items)).queries (entry_in new.table) (tried_of new.table)

progress_same : (old new : State) → KeepsHistory old new → ((q : ℕ) → entry_in new.table q ≡ entry_in old.table q) → KeepsTried old.table new.table
    → (core_of new).progress ≡ (core_of old).progress
progress_same old new k e n = queries_same old new k ∙ (λ i. progress_of (machine_in old).queries (λ q. e q i) (λ q. n q i))

progress_kept : (old new : State) (query : ℕ) (was now : Option EntryData) → KeepsHistory old new → entry_in old.table query ≡ was
    → ((q : ℕ) → entry_in new.table q ≡ cond (nat_eq query q) now (entry_in old.table q)) → KeepsTried old.table new.table
    → ((n : ℕ) → far_of query now n ≡ far_of query was n) → (core_of new).progress ≡ (core_of old).progress
progress_kept old new query was now k there sets n e =
    queries_same old new k
    ∙ far_kept query (machine_in old).queries (entry_in old.table) (entry_in new.table) (tried_of old.table) (tried_of new.table) was now there sets n e

pub progress_set : (old new : State) (query : ℕ) (change : QueryProgress → QueryProgress) (was now : Option EntryData) → KeepsHistory old new
    → entry_in old.table query ≡ was → ((q : ℕ) → entry_in new.table q ≡ cond (nat_eq query q) now (entry_in old.table q)) → KeepsTried old.table new.table
    → ((n : ℕ) → far_of query now n ≡ change (far_of query was n)) → (core_of new).progress ≡ with_progress query change (core_of old).progress
progress_set old new query change was now k there sets n e =
    queries_same old new k
    ∙ far_set query change (machine_in old).queries (entry_in old.table) (entry_in new.table) (tried_of old.table) (tried_of new.table) was now there sets
    (λ q d. n q) (ap (far_of query now) (n query) ∙ e (tried_of old.table query))

-- a try is counted of one
once_at : (q : ℕ) (old new : Table) → CountsTry old q new → tried_of new q ≡ one_more (tried_of old q)
once_at q old new c = let own : nat_eq q q ≡ true = grind (arith, nat_tests) in rw own at (c q)

once_past : (q : ℕ) (old new : Table) → CountsTry old q new → (p : ℕ) → (p ≡ q → ⊥) → tried_of new p ≡ tried_of old p
once_past q old new c p d =
    let other : nat_eq q p ≡ false = elim (bool_cases (nat_eq q p)) [
      | inl t ↦ absurd (d (grind (arith, nat_tests, t)))
      | inr t ↦ t
    ] in rw other at (c p)

progress_once : (old new : State) (query : ℕ) (change : QueryProgress → QueryProgress) (was now : Option EntryData) → KeepsHistory old new
    → entry_in old.table query ≡ was → ((q : ℕ) → entry_in new.table q ≡ cond (nat_eq query q) now (entry_in old.table q)) → CountsTry old.table query new.table
    → ((n : ℕ) → far_of query now (one_more n) ≡ change (far_of query was n)) → (core_of new).progress ≡ with_progress query change (core_of old).progress
progress_once old new query change was now k there sets c e =
    queries_same old new k
    ∙ far_set query change (machine_in old).queries (entry_in old.table) (entry_in new.table) (tried_of old.table) (tried_of new.table) was now there sets
    (once_past query old.table new.table c) (ap (far_of query now) (once_at query old.table new.table c) ∙ e (tried_of old.table query))

-- as often as by the table
tried_told : (old new : State) → KeepsHistory old new → tried_in (core_of new).progress ≡ tries_over (tried_of new.table) (machine_in old).queries
tried_told old new k = ap tried_in (queries_same old new k) ∙ tried_over (machine_in old).queries (entry_in new.table) (tried_of new.table)

-- tries are covered where no more are told of
pub covered_beside : (old new : State) → IsState old → KeepsHistory old new → KeepsFailures old new → KeepsTried old.table new.table → AreCovered (core_of new)
covered_beside old new h k f n =
    covered_less (core_of old) (core_of new) (ap (λ (v : _). v.items) f.failed) (ap (λ (v : _). map entry_of v.items) k.journal)
    (let now = tried_told old new k in
    let same : tries_over (tried_of new.table) (machine_in old).queries ≡ tries_over (tried_of old.table) (machine_in old).queries =
    λ i. tries_over (λ q. n q i) (machine_in old).queries in
    let was = tried_over (machine_in old).queries (entry_in old.table) (tried_of old.table) in
    omega (arith, now, same, was))
    h.stands.covered

-- and where one more is that was counted
covered_once : (old new : State) (query : ℕ) → IsState old → KeepsHistory old new → KeepsFailures old new → IsAhead (core_of old)
    → CountsTry old.table query new.table → AreCovered (core_of new)
covered_once old new query h k f ahead c =
    covered_ahead (core_of old) (core_of new) (ap (λ (v : _). v.items) f.failed) (ap (λ (v : _). map entry_of v.items) k.journal)
    (let now = tried_told old new k in
    let more = min-le_left (tried_of old.table query + 1) most_tries in
    let at = once_at query old.table new.table c in
    let once = over_once query (tried_of old.table) (tried_of new.table) (once_past query old.table new.table c) (omega (arith, more, at)) 0
    (machine_in old).queries h.history.keeps.are_open.apart in
    let was = tried_over (machine_in old).queries (entry_in old.table) (tried_of old.table) in
    omega (arith, now, once, was))
    ahead

-- and its state
pub state_same : (old new : State) → IsState old → KeepsHistory old new → KeepsFailures old new → IsTable new.table → IsSameTable old.table new.table → IsState new
state_same old new h k f t e =
    state_beside old new h k f.results t (counts_as old new f h.counts)
    (outstanding_same old.limits (machine_in old).queries (entry_in old.table) (entry_in new.table) h.jobs.outstanding e.entries)
    (λ u. subst (λ (js : List Job). Each (JobStands (map entry_of old.journal.items) old.limits) js) (sym (e.queues.queues u).waiting) (h.jobs.waiting_for u))
    (subst AreCovered (sym (core_same old new k f e)) h.stands.covered)

-- ---- entries and open queries

-- the open query of an entry, as its ask has it
pub record HasAsk (s : State) (query : ℕ) (d : EntryData) : Type 0 where
  pub opened : Open
  pub there : open_at query (machine_in s).queries ≡ Some opened
  pub is : IsEntryOf s.limits opened d
  pub asked : opened_at (map entry_of s.journal.items) query ≡ Some (as_opened opened)

pub ask_of : (s : State) (query : ℕ) (d : EntryData) → IsState s → entry_in s.table query ≡ Some d → HasAsk s query d
ask_of s query d h e =
    let found = open_there s.limits (open_at query (machine_in s).queries) (entry_in s.table query) d (h.jobs.outstanding query) e in
    record {
      opened = found.opened;
      there = found.there;
      is = found.is;
      asked = asked_open (map entry_of s.journal.items) query found.opened found.there;
    }

abbrev pub open_with : (s : State) (query : ℕ) (d : EntryData) (stop : Option Stop) → (a : HasAsk s query d) → entry_in s.table query ≡ Some d → d.stop ≡ stop
    → IsOpenWith (core_of s) query stop
open_with s query d stop a e why = record {
  opened = a.opened;
  is_open = a.there;
  cancelled_at = sym a.is.stop ∙ ap cancel_in why;
  far = far_of query (Some d) (tried_of s.table query);
  is_far = far_at query (machine_in s).queries (entry_in s.table) (tried_of s.table) a.opened a.there
      ∙ ap (λ (x : Option EntryData). Some (far_of query x (tried_of s.table query))) e;
  stop_is = why;
}

-- the same query of a core that differs in neither
abbrev open_still : (old new : CoreData) (query : ℕ) (stop : Option Stop) → new.journal ≡ old.journal → new.progress ≡ old.progress → IsOpenWith old query stop
    → IsOpenWith new query stop
open_still old new query stop j p o = record {
  opened = o.opened;
  is_open = subst (λ (js : List Entry). open_at query (machine_after started js).queries ≡ Some o.opened) (sym j) o.is_open;
  cancelled_at = o.cancelled_at;
  far = o.far;
  is_far = subst (λ (ps : List QueryProgress). progress_at query ps ≡ Some o.far) (sym p) o.is_far;
  stop_is = o.stop_is;
}

-- ---- a job is taken

pub taken_state : (old new : State) (actor : ℕ) (held : Held) → IsState old → KeepsHistory old new → KeepsFailures old new → IsTable new.table
    → table.IsTakenFrom old.table actor held new.table → IsState new
taken_state old new actor held h k f t taken =
    let l = old.limits in
    let q = taken.taken in
    let all : Each (JobStands (map entry_of old.journal.items) l) (q.job ∷ q.jobs) =
    subst (λ (js : List Job). Each (JobStands (map entry_of old.journal.items) l) js) q.waiting (h.jobs.waiting_for q.tenant) in
    state_beside old new h k f.results t (counts_as old new f h.counts)
    (outstanding_same l (machine_in old).queries (entry_in old.table) (entry_in new.table) h.jobs.outstanding taken.entries)
    (jobs_with (map entry_of old.journal.items) l q.tenant (waiting_of old.table) (waiting_of new.table) q.jobs h.jobs.waiting_for q.left.waiting all.1
    (λ v d. (q.left.others v d).waiting))
    (covered_beside old new h k f taken.tried)

pub taken_core : (old new : State) (actor : ℕ) (held : Held) → IsState old → KeepsHistory old new → KeepsFailures old new → IsTable new.table
    → table.IsTakenFrom old.table actor held new.table → IsTaken (core_of old) actor held (core_of new)
taken_core old new actor held h k f t taken = record {
  tenant = q.tenant;
  tenants = q.tenants;
  heads = map head_of q.jobs;
  ring = q.ring;
  waiting = ap (λ (d : QueueHeads). d.waiting) (queue_is old h.table q.tenant) ∙ ap (map head_of) q.waiting
      ∙ ap (λ (x : JobHead). x ∷ map head_of q.jobs) (ap (λ (x : Held). x.head) (sym q.held_is));
  actor_is = ap (λ (x : Held). x.actor) q.held_is;
  leaves = record {
    queue_is = record {
      here = changed.here ∙ (λ i. record { waiting = map head_of q.jobs; hands = (sym (queue_is old h.table q.tenant) i).hands ++ hand_of held ∷ [] });
      others = changed.others;
      ring_is = changed.ring_is ∙ ap (λ (b : Bool). cond b q.tenants (q.tenants ++ q.tenant ∷ [])) (sym (empty_heads q.jobs));
    };
    history = history_same old new k;
    failed = ap (λ (v : _). v.items) f.failed;
    progress_is = progress_same old new k taken.entries taken.tried;
    kept_is = f.results;
  };
  stands = subst (λ (x : Held). StandsForAsk (core_of new) x) (sym q.held_is)
      (subst (λ (js : List Entry). IsForAsk js new.limits q.job.head (arc_value q.job.legs) q.job.run (arc_value q.job.snap))
      (sym (ap (λ (v : _). map entry_of v.items) k.journal))
      (subst (λ (l : Limits). IsForAsk (map entry_of old.journal.items) l q.job.head (arc_value q.job.legs) q.job.run (arc_value q.job.snap)) (sym k.limits) all.0));
  whole = open_still (core_of old) (core_of new) held.head.query None (ap (λ (v : _). map entry_of v.items) k.journal) (progress_same old new k taken.entries taken.tried)
      (open_with old held.head.query d None a there refl);
  own = ap (λ (x : Held). x.head.tenant) q.held_is ∙ taken.waited.tenant_is;
  owner = sym a.is.tenant;
  few = let same = ap (λ (x : Held). x.head.tries) q.held_is in let few = taken.waited.head.tries in omega (arith, same, few);
  tries = let tries = taken.tries in let before = tries_table old.table h.table in let after = tries_table new.table t in omega (arith, tries, before, after);
} where
  q : queues.IsTaken old.table.queues actor held new.table.queues
  q = taken.taken

  all : Each (JobStands (map entry_of old.journal.items) old.limits) (q.job ∷ q.jobs)
  all = subst (λ (js : List Job). Each (JobStands (map entry_of old.journal.items) old.limits) js) q.waiting (h.jobs.waiting_for q.tenant)

  changed : HasQueue (core_of old) q.tenant (record { waiting = map head_of q.jobs; hands = hands_of old.table q.tenant ++ hand_of held ∷ [] })
      (cond (is_empty q.jobs) q.tenants (q.tenants ++ q.tenant ∷ [])) (core_of new)
  changed = has_queue old new q.tenant q.jobs _ _ h.table t q.left

  d : EntryData
  d = record { tenant = q.tenant; stop = None; work = Some taken.waited.work }

  there : entry_in old.table held.head.query ≡ Some d
  there = subst (λ (x : Held). entry_in old.table x.head.query ≡ Some d) (sym q.held_is) taken.waited.entry

  a : HasAsk old held.head.query d
  a = ask_of old held.head.query d h there

-- whether a job is in hand
pub in_hand_as : (s : State) (held : Held) (b : Bool) → IsState s → has_hand (hand_of held) (hands_of s.table held.head.tenant) ≡ b → is_in_hand (core_of s) held ≡ b
in_hand_as s held b h e = ap (λ (q : QueueHeads). has_hand (hand_of held) q.hands) (queue_is s h.table held.head.tenant) ∙ e

-- ---- a job is in hand no more

pub released : (old new : State) (held : Held) (far : List QueryProgress) → IsState old → KeepsHistory old new → KeepsFailures old new → IsTable new.table
    → queues.IsReleased old.table.queues held new.table.queues → (core_of new).progress ≡ far → Releases (core_of old) held far (core_of new)
released old new held far h k f t r same =
    let u = held.head.tenant in
    let changed = has_queue old new u (waiting_of old.table u) (without_hand (hand_of held) (hands_of old.table u)) (ring_of old.table) h.table t r in
    let was = queue_is old h.table u in
    record {
      queue_is = record {
        here = changed.here ∙ (λ i. record { waiting = (sym was i).waiting; hands = without_hand (hand_of held) (sym was i).hands });
        others = changed.others;
        ring_is = changed.ring_is;
      };
      history = history_same old new k;
      failed = ap (λ (v : _). v.items) f.failed;
      progress_is = same;
      kept_is = f.results;
    }

-- of a stopped query
pub gone_released : (old new : State) (held : Held) (why : Stop) → IsState old → KeepsHistory old new → KeepsFailures old new → IsTable new.table
    → table.Goes old.table held why false new.table → IsReleased (core_of old) held (core_of new)
gone_released old new held why h k f t goes =
    released old new held (core_of old).progress h k f t goes.queues (progress_same old new k goes.entries goes.tried)

-- by a failed try, which is counted if it is in hand
far_tried : (old new : State) (query : ℕ) (b : Bool) → KeepsHistory old new
    → ((q : ℕ) → entry_in new.table q ≡ entry_in old.table q) → CountsTryIf b old.table query new.table
    → (core_of new).progress ≡ cond b (with_progress query tried_once (core_of old).progress) (core_of old).progress
far_tried old new query false k entries c = progress_same old new k entries c
far_tried old new query true k entries c =
    progress_once old new query tried_once (entry_in old.table query) (entry_in old.table query) k refl (λ q. entries q ∙ sets q) c
    (once (entry_in old.table query)) where
      sets : (q : ℕ) → entry_in old.table q ≡ cond (nat_eq query q) (entry_in old.table query) (entry_in old.table q)
      sets q = elim (bool_cases (nat_eq query q)) [
        | inl t ↦ let same : query ≡ q = grind (arith, nat_tests, t) in rw t (ap (entry_in old.table) (sym same))
        | inr t ↦ rw t refl
      ]

      once : (e : Option EntryData) (n : ℕ) → far_of query e (one_more n) ≡ tried_once (far_of query e n)
      once None n = refl
      once (Some d) n = refl

pub tried_released : (old new : State) (held : Held) (why : Stop) → IsState old → KeepsHistory old new → KeepsFailures old new → IsTable new.table
    → table.Goes old.table held why (has_hand (hand_of held) (hands_of old.table held.head.tenant)) new.table
    → Releases (core_of old) held (cond (is_in_hand (core_of old) held) (tried_after (core_of old) held) (core_of old).progress) (core_of new)
tried_released old new held why h k f t goes =
    released old new held _ h k f t goes.queues
    (far_tried old new held.head.query (has_hand (hand_of held) (hands_of old.table held.head.tenant)) k goes.entries goes.tried
    ∙ ap (λ (b : Bool). cond b (tried_after (core_of old) held) (core_of old).progress)
    (sym (in_hand_as old held (has_hand (hand_of held) (hands_of old.table held.head.tenant)) h refl)))

-- whose part is stored
pub stored_released : (old new : State) (held : Held) (part : Part) → IsState old → KeepsHistory old new → KeepsFailures old new → IsTable new.table
    → table.IsStored old.table held part new.table → IsReleased (core_of old) held (core_of new)
stored_released old new held part h k f t stored =
    released old new held (core_of old).progress h k f t stored.queues
    (progress_kept old new held.head.query _ _ k stored.held_of.entry stored.entries stored.tried (λ n. refl))

-- its state, where only that changed
pub released_state : (old new : State) (held : Held) → IsState old → KeepsHistory old new → KeepsFailures old new → IsTable new.table
    → ((q : ℕ) → entry_in new.table q ≡ entry_in old.table q) → queues.IsReleased old.table.queues held new.table.queues → AreCovered (core_of new) → IsState new
released_state old new held h k f t entries r covered =
    state_beside old new h k f.results t (counts_as old new f h.counts)
    (outstanding_same old.limits (machine_in old).queries (entry_in old.table) (entry_in new.table) h.jobs.outstanding entries)
    (jobs_with (map entry_of old.journal.items) old.limits held.head.tenant (waiting_of old.table) (waiting_of new.table) (waiting_of old.table held.head.tenant)
    h.jobs.waiting_for r.waiting (h.jobs.waiting_for held.head.tenant) (λ v d. (r.others v d).waiting)) covered

-- tries are covered whether one is counted or not
pub covered_if : (old new : State) (query : ℕ) (b : Bool) → IsState old → KeepsHistory old new → KeepsFailures old new → IsAhead (core_of old)
    → CountsTryIf b old.table query new.table → AreCovered (core_of new)
covered_if old new query true h k f ahead c = covered_once old new query h k f ahead c
covered_if old new query false h k f ahead c = covered_beside old new h k f c

-- why a job isn't held
pub not_held : (s : State) (held : Held) → IsState s → table.IsNotHeld s.table held (entry_in s.table held.head.query) → IsNotHeld (core_of s) held
not_held s held h n = by (entry_in s.table held.head.query) refl n where
  by : (e : Option EntryData) → entry_in s.table held.head.query ≡ e → table.IsNotHeld s.table held e → IsNotHeld (core_of s) held
  by None e n = inl (closed_there s.limits (open_at held.head.query (machine_in s).queries) (entry_in s.table held.head.query)
      (h.jobs.outstanding held.head.query) e)
  by (Some d) e n = inr (open_with s held.head.query d None (ask_of s held.head.query d h e) e n.0, in_hand_as s held false h n.1)

-- a query is stopped
pub gone_by : (s : State) (query : ℕ) (why : Stop) → IsState s → table.IsGone (entry_in s.table query) why → IsStoppedBy (core_of s) query why
gone_by s query why h g = by (entry_in s.table query) refl g where
  by : (e : Option EntryData) → entry_in s.table query ≡ e → table.IsGone e why → IsStoppedBy (core_of s) query why
  by None e g = absurd g
  by (Some d) e g = open_with s query d (Some why) (ask_of s query d h e) e g

-- and isn't
pub whole_of : (s : State) (held : Held) (w : WorkData) → IsState s → IsHeldOf s.table held w → IsWhole (core_of s) held.head.query
whole_of s held w h is = open_with s held.head.query _ None (ask_of s held.head.query _ h is.entry) is.entry refl

-- ---- a part is stored

-- the legs of a held job are those of its query
same_legs : (l : Limits) (held : Held) (w : WorkData) (at o : Open) (snap : SnapData) → IsLegsOf l at (arc_value held.legs) snap → at ≡ as_opened o → IsWorkOf l o w
    → legs_data (arc_value held.legs) ≡ legs_data w.legs
same_legs l held w at o snap is same work = is.legs_are ∙ ap (legs_asked l.shards) same ∙ sym work.legs_are

-- its run and its leg too
pub stored_value : (s : State) (held : Held) (part : Part) (w : WorkData) (o : Open) → (stands : StandsForAsk (core_of s) held) → IsPartOf (core_of s) held part
    → stands.at ≡ as_opened o → IsHeldOf s.table held w → IsWorkOf s.limits o w
    → (run : GridData) → slice_get w.runs (held.head.job / legs_in w.legs) ≡ Some run
    → IsValueOver (store_of (rules_of s.limits) o.log).samples (legs_data w.legs) (held.head.job % legs_in w.legs) run part
stored_value s held part w o stands is same of work run there =
    let runs : Some of.run ≡ Some run = sym of.head.run_is ∙ there in
    let same_one : of.run ≡ run = cc in
    let grid = ap (λ (x : Open). x.asked.query.grid) same in
    let job_run : IsRunOf o.asked.query.grid held.run = subst (λ (g : GridData). IsRunOf g held.run) grid stands.job_of.run_is in
    let own_one : IsRunOf o.asked.query.grid of.run = run_at o.asked.query.grid w.runs (held.head.job / legs_in w.legs) of.run work.runs.each of.head.run_is in
    let first : held.run.start ≡ of.run.start = sym stands.job_of.first ∙ of.head.first in
    let last : last_of held.run ≡ last_of of.run = sym stands.job_of.last ∙ of.head.last in
    let equal : held.run ≡ run = same_run o.asked.query.grid held.run of.run job_run own_one first last ∙ same_one in
    let samples = (store_of (rules_of s.limits) o.log).samples in
    let value : IsValueOver samples (legs_data (arc_value held.legs)) held.head.leg held.run part =
    subst (λ (x : Open). IsValueOver (store_of (rules_of s.limits) x.log).samples (legs_data (arc_value held.legs)) held.head.leg held.run part) same
    (is.value stands.at stands.asked) in
    subst (λ (r : GridData). IsValueOver samples (legs_data w.legs) (held.head.job % legs_in w.legs) r part) equal
    (subst (λ k. IsValueOver samples (legs_data w.legs) k held.run part) of.head.leg
    (subst (λ (d : LegsData). IsValueOver samples d held.head.leg held.run part) (same_legs s.limits held w stands.at o (arc_value held.snap) stands.legs_of same work) value))

-- and its kind
pub stored_fits : (s : State) (held : Held) (part : Part) (w : WorkData) (o : Open) → (stands : StandsForAsk (core_of s) held) → IsPartOf (core_of s) held part
    → stands.at ≡ as_opened o → IsWorkOf s.limits o w → FitsNodes w.legs.nodes part
stored_fits s held part w o stands is same work =
    subst (λ (ns : List ℕ). FitsNodes ns part)
    (ap (λ (d : LegsData). d.nodes) (same_legs s.limits held w stands.at o (arc_value held.snap) stands.legs_of same work)) is.fits

work_filled : (l : Limits) (o : Open) (w : WorkData) (job : ℕ) (part : Part) → IsWorkOf l o w → job < length w.slots → FitsNodes w.legs.nodes part
    → ((run : GridData) → slice_get w.runs (job / legs_in w.legs) ≡ Some run
    → IsValueOver (store_of (rules_of l) o.log).samples (legs_data w.legs) (job % legs_in w.legs) run part)
    → IsWorkOf l o (filled job part w)
work_filled l o w job part h inside fits new = record {
  legs_are = h.legs_are;
  evaluable = h.evaluable;
  runs = h.runs;
  divided = h.divided;
  few = h.few;
  reused = h.reused;
  once = h.once;
  fits = λ i p g. elim (filled_at w.slots job i part p inside g) [
    | inl both ↦ subst (λ (x : Part). FitsNodes w.legs.nodes x) both.1 fits
    | inr was ↦ h.fits i p was
  ];
  values = λ i run p there g. elim (filled_at w.slots job i part p inside g) [
    | inl both ↦
        subst (λ (x : Part). IsValueOver (store_of (rules_of l) o.log).samples (legs_data w.legs) (i % legs_in w.legs) run x) both.1
        (subst (λ x. IsValueOver (store_of (rules_of l) o.log).samples (legs_data w.legs) (x % legs_in w.legs) run part) (sym both.0)
        (new run (subst (λ x. slice_get w.runs (x / legs_in w.legs) ≡ Some run) both.0 there)))
    | inr was ↦ h.values i run p there was
  ];
}

pub stored_state : (old new : State) (held : Held) (part : Part) → IsState old → KeepsHistory old new → KeepsFailures old new → IsTable new.table
    → StandsForAsk (core_of old) held → IsPartOf (core_of old) held part → table.IsStored old.table held part new.table → IsState new
stored_state old new held part h k f t stands is stored =
    let l = old.limits in
    let a = ask_of old held.head.query _ h stored.held_of.entry in
    let both : Some stands.at ≡ Some (as_opened a.opened) = sym stands.asked ∙ a.asked in
    let same : stands.at ≡ as_opened a.opened = cc in
    let inside = slice_get_within stored.work.slots held.head.job Empty stored.held_of.empty in
    let work = work_filled l a.opened stored.work held.head.job part a.is.work inside (stored_fits old held part stored.work a.opened stands is same a.is.work)
    (stored_value old held part stored.work a.opened stands is same stored.held_of a.is.work) in
    state_beside old new h k f.results t (counts_as old new f h.counts)
    (outstanding_set l held.head.query (machine_in old).queries a.opened _ (entry_in old.table) (entry_in new.table) h.jobs.outstanding a.there
    (record { tenant = a.is.tenant; stop = a.is.stop; stopped_when = a.is.stopped_when; work = work }) stored.entries)
    (jobs_with (map entry_of old.journal.items) l held.head.tenant (waiting_of old.table) (waiting_of new.table) (waiting_of old.table held.head.tenant)
    h.jobs.waiting_for stored.queues.waiting (h.jobs.waiting_for held.head.tenant) (λ v d. (stored.queues.others v d).waiting))
    (covered_beside old new h k f stored.tried)

-- ---- a query is stopped for another cause than a cancel

-- a stop that is no cancel tells of none where none was
pub stop_other : (stop : Option Stop) (why : Stop) → cancel_in (Some why) ≡ None → cancel_in (Some (stop_after stop why)) ≡ cancel_in stop
stop_other stop (Cancelled place) e = cc
stop_other None (Exhausted job) e = refl
stop_other (Some first) (Exhausted job) e = refl
stop_other None Starved e = refl
stop_other (Some first) Starved e = refl

-- a stop behind another one is the other one, but for a cancel
goes_after : (stop : Option Stop) (why : Stop) (planned : Bool) → cancel_in (Some why) ≡ None → GoesWithPlan stop planned → GoesWithPlan (Some why) planned
    → GoesWithPlan (Some (stop_after stop why)) planned
goes_after stop (Cancelled place) planned e g h = cc
goes_after None (Exhausted job) planned e g h = h
goes_after (Some first) (Exhausted job) planned e g h = g
goes_after None Starved planned e g h = tt
goes_after (Some first) Starved planned e g h = g

pub stopped_state : (old new : State) (query : ℕ) (why : Stop) (d : EntryData) (hands : List Hand) → IsState old → KeepsHistory old new → new.results ≡ old.results → IsTable new.table
    → AreCounts new.failed.items new.total
    → entry_in old.table query ≡ Some d → cancel_in (Some why) ≡ None → GoesWithPlan (Some why) (is_planned d.work)
    → ((q : ℕ) → entry_in new.table q ≡ cond (nat_eq query q) (Some (stopped why d)) (entry_in old.table q))
    → table.AreLeft old.table d.tenant query hands new.table → AreCovered (core_of new) → IsState new
stopped_state old new query why d hands h k same t counts there other when entries left covered =
    let l = old.limits in
    let a = ask_of old query d h there in
    state_beside old new h k same t counts
    (outstanding_set l query (machine_in old).queries a.opened (stopped why d) (entry_in old.table) (entry_in new.table) h.jobs.outstanding a.there
    (record {
      tenant = a.is.tenant;
      stop = stop_other d.stop why other ∙ a.is.stop;
      stopped_when = goes_after d.stop why (is_planned d.work) other a.is.stopped_when when;
      work = a.is.work;
    }) entries)
    (jobs_with (map entry_of old.journal.items) l d.tenant (waiting_of old.table) (waiting_of new.table) _ h.jobs.waiting_for left.waiting
    (each_filter _ (is_other_job query) (waiting_of old.table d.tenant) (h.jobs.waiting_for d.tenant)) (λ v x. (left.others v x).waiting)) covered

stopped_progress : (old new : State) (query : ℕ) (why : Stop) (d : EntryData) → KeepsHistory old new → entry_in old.table query ≡ Some d
    → ((q : ℕ) → entry_in new.table q ≡ cond (nat_eq query q) (Some (stopped why d)) (entry_in old.table q)) → KeepsTried old.table new.table
    → (core_of new).progress ≡ with_progress query (progress.stopped why) (core_of old).progress
stopped_progress old new query why d k there sets n = progress_set old new query (progress.stopped why) _ _ k there sets n (λ n. refl)

pub stops_query : (old new : State) (query : ℕ) (why : Stop) (d : EntryData) (hands : List Hand) → IsState old → KeepsHistory old new → KeepsFailures old new → IsTable new.table
    → entry_in old.table query ≡ Some d → Stops old.table query why d hands new.table → StopsQuery (core_of old) d.tenant query (progress.stopped why) hands (core_of new)
stops_query old new query why d hands h k f t there stops = record {
  left = left_by old new d.tenant query hands h.table t stops.queues;
  history = history_same old new k;
  failed = ap (λ (v : _). v.items) f.failed;
  kept = f.results;
  progress_is = stopped_progress old new query why d k there stops.entries stops.tried;
}

-- ---- a job failed

pub counted_core : (old new : State) (actor : ℕ) → KeepsHistory old new → new.results ≡ old.results → new.table ≡ old.table → new.failed.items ≡ failures_after old.failed.items actor
    → core_of new ≡ counted (core_of old) actor
counted_core old new actor k same table failed = λ i. record {
  limits = k.limits i;
  names = (k.tenants i).names;
  journal = map entry_of (k.journal i).items;
  progress = progress_of (machine_after started (map entry_of (k.journal i).items)).queries (entry_in (table i)) (tried_of (table i));
  queues = by_tenant (heads_in (table i));
  ring = ring_of (table i);
  failed = failed i;
  kept = same i;
}

-- the table tells of as many tries as before
counted_tries : (old new : State) → KeepsHistory old new → new.table ≡ old.table → tried_in (core_of new).progress ≡ tried_in (core_of old).progress
counted_tries old new k table = λ i.
    tried_in (progress_of (machine_after started (map entry_of (k.journal i).items)).queries (entry_in (table i)) (tried_of (table i)))

answers_same : (old new : State) → KeepsHistory old new → failed_answers (core_of new).journal ≡ failed_answers (core_of old).journal
answers_same old new k = ap (λ (v : _). failed_answers (map entry_of v.items)) k.journal

-- a try is counted, or as many are as may be
pub counted_ahead : (old new : State) → IsState old → KeepsHistory old new → new.table ≡ old.table
    → (sum new.failed.items ≡ 18446744073709551615) ⊎ (sum old.failed.items + 1 ≡ sum new.failed.items) → AreCounts old.failed.items old.total
    → old.total < 18446744073709551615 ⊎ (sum new.failed.items ≡ 18446744073709551615) → IsAhead (core_of new)
counted_ahead old new h k table one counts below = by one below h.stands.covered where
  by : (sum new.failed.items ≡ 18446744073709551615) ⊎ (sum old.failed.items + 1 ≡ sum new.failed.items)
      → old.total < 18446744073709551615 ⊎ (sum new.failed.items ≡ 18446744073709551615) → AreCovered (core_of old) → IsAhead (core_of new)
  by (inl most) below covered = inl most
  by (inr one) (inr most) covered = inl most
  by (inr one) (inl below) (inl most) = let total = counts.summed in absurd (omega (arith, below, most, total))
  by (inr one) (inl below) (inr covered) =
      inr (let tries = counted_tries old new k table in let answers = answers_same old new k in omega (arith, covered, one, tries, answers))

ahead_covered : (c : CoreData) → IsAhead c → AreCovered c
ahead_covered c (inl most) = inl most
ahead_covered c (inr more) = inr (omega (arith, more))

pub counted_state : (old new : State) → IsState old → KeepsHistory old new → new.results ≡ old.results → new.table ≡ old.table → AreCounts new.failed.items new.total → IsAhead (core_of new)
    → IsState new
counted_state old new h k same table counts ahead =
    state_beside old new h k same (subst IsTable (sym table) h.table) counts
    (λ p. subst (λ (t : Table). IsOutstanding old.limits (open_at p (machine_in old).queries) (entry_in t p)) (sym table) (h.jobs.outstanding p))
    (λ u. subst (λ (t : Table). Each (JobStands (map entry_of old.journal.items) old.limits) (waiting_of t u)) (sym table) (h.jobs.waiting_for u))
    (ahead_covered (core_of new) ahead)

again_job : (s : State) (held : Held) → StandsForAsk (core_of s) held
    → JobStands (map entry_of s.journal.items) s.limits (job_of_held (held.head.tries + 1) held)
again_job s held h = record {
  at = h.at;
  asked = h.asked;
  legs_of = h.legs_of;
  job_of = record { tenant = h.job_of.tenant; leg = h.job_of.leg; run_is = h.job_of.run_is; first = h.job_of.first; last = h.job_of.last };
}

pub again_state : (old new : State) (held : Held) (tries : ℕ) → IsState old → KeepsHistory old new → KeepsFailures old new → IsTable new.table
    → IsAhead (core_of old) → StandsForAsk (core_of old) held → table.WaitsAgain old.table held tries new.table → IsState new
again_state old new held tries h k f t ahead stands again =
    let l = old.limits in
    let u = held.head.tenant in
    state_beside old new h k f.results t (counts_as old new f h.counts)
    (outstanding_same l (machine_in old).queries (entry_in old.table) (entry_in new.table) h.jobs.outstanding again.entries)
    (jobs_with (map entry_of old.journal.items) l u (waiting_of old.table) (waiting_of new.table) _ h.jobs.waiting_for again.queues.waiting
    (each_front _ (waiting_of old.table u) (job_of_held (held.head.tries + 1) held ∷ []) (h.jobs.waiting_for u) (again_job old held stands, tt))
    (λ v d. (again.queues.others v d).waiting))
    (covered_once old new held.head.query h k f ahead again.tried)

pub again_core : (old new : State) (held : Held) (tries : ℕ) → IsState old → KeepsHistory old new → KeepsFailures old new → IsTable new.table
    → table.WaitsAgain old.table held tries new.table → IsTried (core_of old) held (failed.Again tries) (core_of new)
again_core old new held tries h k f t again =
    let u = held.head.tenant in
    let changed = has_queue old new u (waiting_of old.table u ++ job_of_held (held.head.tries + 1) held ∷ []) (without_hand (hand_of held) (hands_of old.table u))
    (cond (is_empty (waiting_of old.table u)) (put_last u (ring_of old.table)) (ring_of old.table)) h.table t again.queues in
    let was = queue_is old h.table u in
    let heads = map_front head_of (waiting_of old.table u) (job_of_held (held.head.tries + 1) held ∷ []) in (
      whole_of old held again.work h again.held_of,
      (
        in_hand_as old held true h again.held_of.in_hand,
        (
          again.tries_are,
          (
            again.few,
            record {
              queue_is = record {
                here = changed.here
                    ∙ (λ i. record { waiting = heads i; hands = without_hand (hand_of held) (hands_of old.table u) })
                    ∙ (λ i. record {
                      waiting = (sym was i).waiting ++ tried (held.head.tries + 1) held.head ∷ [];
                      hands = without_hand (hand_of held) (sym was i).hands;
                    });
                others = changed.others;
                ring_is = changed.ring_is
                    ∙ ap (λ (b : Bool). cond b (put_last u (ring_of old.table)) (ring_of old.table))
                    (sym (empty_heads (waiting_of old.table u)) ∙ ap (λ (q : QueueHeads). is_empty q.waiting) (sym was));
              };
              history = history_same old new k;
              failed = ap (λ (v : _). v.items) f.failed;
              progress_is = far_tried old new held.head.query true k again.entries again.tried;
              kept_is = f.results;
            },
          ),
        ),
      ),
    )

-- for the fifth time
pub exhausted_state : (old new : State) (held : Held) (job : ℕ) → IsState old → KeepsHistory old new → KeepsFailures old new → IsTable new.table
    → IsAhead (core_of old) → table.IsExhausted old.table held job new.table → IsState new
exhausted_state old new held job h k f t ahead e =
    stopped_state old new held.head.query (Exhausted job) _ (without_hand (hand_of held) (hands_of old.table held.head.tenant)) h k f.results t (counts_as old new f h.counts)
    e.held_of.entry refl refl e.entries e.queues (covered_once old new held.head.query h k f ahead e.tried)

pub exhausted_core : (old new : State) (held : Held) (job : ℕ) → IsState old → KeepsHistory old new → KeepsFailures old new → IsTable new.table
    → table.IsExhausted old.table held job new.table → IsTried (core_of old) held (failed.Exhausted job) (core_of new)
exhausted_core old new held job h k f t e =
    let u = held.head.tenant in
    let left : StopsQuery (core_of old) u held.head.query (exhausted job) (without_hand (hand_of held) (hands_of old.table u)) (core_of new) = record {
      left = left_by old new u held.head.query (without_hand (hand_of held) (hands_of old.table u)) h.table t e.queues;
      history = history_same old new k;
      failed = ap (λ (v : _). v.items) f.failed;
      kept = f.results;
      progress_is = progress_once old new held.head.query (exhausted job) _ _ k e.held_of.entry e.entries e.tried (λ n. refl);
    } in (
      whole_of old held e.work h e.held_of,
      (
        in_hand_as old held true h e.held_of.in_hand,
        (
          e.job_is,
          (
            e.last_try,
            subst (λ (hs : List Hand). StopsQuery (core_of old) u held.head.query (exhausted job) (without_hand (hand_of held) hs) (core_of new))
                (sym (ap (λ (q : QueueHeads). q.hands) (queue_is old h.table u))) left,
          ),
        ),
      ),
    )

-- ---- want of memory

pub lacked_state : (old new : State) (query : ℕ) (entry : Option EntryData) (hands : EntryData → List Hand) → IsState old → KeepsHistory old new → KeepsFailures old new
    → IsTable new.table → entry_in old.table query ≡ entry
    → MatchOption entry (IsSameTable old.table new.table) (λ d. Stops old.table query Starved d (hands d) new.table) → IsState new
lacked_state old new query None hands h k f t there s = state_same old new h k f t s
lacked_state old new query (Some d) hands h k f t there s =
    stopped_state old new query Starved d (hands d) h k f.results t (counts_as old new f h.counts) there refl tt s.entries s.queues
    (covered_beside old new h k f s.tried)

pub lacked_none : (old new : State) (query : ℕ) (hands : EntryData → List Hand) → IsState old → KeepsHistory old new → KeepsFailures old new
    → MatchOption (entry_in old.table query) (IsSameTable old.table new.table) (λ d. Stops old.table query Starved d (hands d) new.table)
    → open_at query (machine_in old).queries ≡ None → core_of new ≡ core_of old
lacked_none old new query hands h k f s e =
    let none = none_there old.limits (open_at query (machine_in old).queries) (entry_in old.table query) (h.jobs.outstanding query) e in
    core_same old new k f (subst (λ (x : Option EntryData). MatchOption x (IsSameTable old.table new.table)
    (λ d. Stops old.table query Starved d (hands d) new.table)) none s)

pub lacked_some : (old new : State) (query : ℕ) (hands : ℕ → List Hand) (told : ℕ → List Hand) → IsState old → KeepsHistory old new → KeepsFailures old new → IsTable new.table
    → MatchOption (entry_in old.table query) (IsSameTable old.table new.table) (λ (d : EntryData). Stops old.table query Starved d (hands d.tenant) new.table)
    → ((u : ℕ) → hands u ≡ told u)
    → (o : Open) → open_at query (machine_in old).queries ≡ Some o → StopsQuery (core_of old) o.tenant query (progress.stopped Starved) (told o.tenant) (core_of new)
lacked_some old new query hands told h k f t s same o e =
    let entry = entry_there old.limits (open_at query (machine_in old).queries) (entry_in old.table query) o (h.jobs.outstanding query) e in
    let stops : Stops old.table query Starved entry.kept (hands entry.kept.tenant) new.table =
    subst (λ (x : Option EntryData). MatchOption x (IsSameTable old.table new.table)
    (λ (d : EntryData). Stops old.table query Starved d (hands d.tenant) new.table)) entry.there s in
    let left = stops_query old new query Starved entry.kept (hands entry.kept.tenant) h k f t entry.there stops in
    subst (λ u. StopsQuery (core_of old) u query (progress.stopped Starved) (told u) (core_of new)) entry.is.tenant
    (subst (λ (hs : List Hand). StopsQuery (core_of old) entry.kept.tenant query (progress.stopped Starved) hs (core_of new)) (same entry.kept.tenant) left)

-- ---- a query is planned

work_planned : (l : Limits) (o : Open) (legs : ResolvedLegs) (snap : SnapData) (cached : List DoneCells) (rs : List GridData) (offered : Bool) → IsLegsOf l o legs snap
    → AreDivided l o cached rs → steps_in cached ≤ length (points o.asked.query.grid) → CanBeCached l o (steps_in cached) → (o.asked.instant ≡ true → offered ≡ true)
    → IsWorkOf l o (planned_work legs rs cached offered)
work_planned l o legs snap cached rs offered h divided few reused once = record {
  legs_are = h.legs_are;
  evaluable = record { evaluated = h.bound.resolved.evaluated; low = h.bound.resolved.low; patterns = h.bound.resolved.patterns };
  runs = record { others = cached; woven = divided.woven; each = divided.each; alone = λ e. (divided.alone e).1 };
  divided = λ _. divided;
  few = few;
  reused = reused;
  once = once;
  fits = λ i part g. absurd (empty_unfilled (length rs * legs_in legs) i part g);
  values = λ i run part there g. absurd (empty_unfilled (length rs * legs_in legs) i part g);
}

-- how far it is then
planned_progress : (old new : State) (query count : ℕ) (legs : ResolvedLegs) (rs : List GridData) (cached : List DoneCells) (offered : Bool) (snap : SnapData)
    → KeepsHistory old new → table.IsPlannedOver old.table query legs rs cached offered snap count new.table
    → (core_of new).progress ≡ with_progress query (planned rs (steps_in cached) offered) (core_of old).progress
planned_progress old new query count legs rs cached offered snap k p =
    progress_set old new query (planned rs (steps_in cached) offered) _ _ k p.was p.entries p.tried (λ n. refl)

pub planned_state : (old new : State) (query count : ℕ) (legs : ResolvedLegs) (cached : List DoneCells) (rs : List GridData) (offered : Bool) (snap : SnapData) (o : Open)
    → IsState old → KeepsHistory old new
    → KeepsFailures old new → IsTable new.table → open_at query (machine_in old).queries ≡ Some o → IsLegsOf old.limits o legs snap
    → AreDivided old.limits o cached rs → steps_in cached ≤ length (points o.asked.query.grid) → CanBeCached old.limits o (steps_in cached) → (o.asked.instant ≡ true → offered ≡ true)
    → table.IsPlannedOver old.table query legs rs cached offered snap count new.table → IsState new
planned_state old new query count legs cached rs offered snap o h k f t there is divided few reused once p =
    let l = old.limits in
    let a = ask_of old query _ h p.was in
    let both : Some a.opened ≡ Some o = sym a.there ∙ there in
    let same : a.opened ≡ o = cc in
    let entry = subst (λ (x : Open). IsEntryOf l x (record { tenant = p.tenant; stop = None; work = None })) same a.is in
    let J = map entry_of old.journal.items in
    state_beside old new h k f.results t (counts_as old new f h.counts)
    (outstanding_set l query (machine_in old).queries o _ (entry_in old.table) (entry_in new.table) h.jobs.outstanding there
    (record { tenant = entry.tenant; stop = entry.stop; stopped_when = tt; work = work_planned l o legs snap cached rs offered is divided few reused once }) p.entries)
    (jobs_with J l p.tenant (waiting_of old.table) (waiting_of new.table) _ h.jobs.waiting_for p.queues.waiting
    (each_front _ (waiting_of old.table p.tenant) p.jobs (h.jobs.waiting_for p.tenant)
    (jobs_planned J l p.tenant query (as_opened o) legs rs snap 0 p.jobs (asked_open J query o there) (sym entry.tenant)
    (record { legs_are = is.legs_are; lawful = is.lawful; bound = is.bound; stands = is.stands; apart = is.apart }) divided.each p.planned.each))
    (λ v d. (p.queues.others v d).waiting))
    (covered_beside old new h k f p.tried)

pub planned_core : (old new : State) (query : ℕ) (told : Planned) (legs : ResolvedLegs) (cached : List DoneCells) (rs : List GridData) (offered : Bool) (snap : SnapData) (o : Open)
    → IsState old → KeepsHistory old new
    → KeepsFailures old new → IsTable new.table → open_at query (machine_in old).queries ≡ Some o → IsLegsOf old.limits o legs snap
    → rs ≡ wanted_runs old.limits old.results o → offered ≡ is_offered_at_once old.limits old.results o
    → told.cached ≡ steps_in cached → steps_in cached ≡ length (cached_steps old.limits old.results o)
    → table.IsPlannedOver old.table query legs rs cached offered snap told.jobs new.table → IsPlannedFirst (core_of old) query told (core_of new)
planned_core old new query told legs cached rs offered snap o h k f t there is runs once steps found p =
    let a = ask_of old query _ h p.was in
    let both : Some a.opened ≡ Some o = sym a.there ∙ there in
    let same : a.opened ≡ o = cc in
    let owner : p.tenant ≡ o.tenant = a.is.tenant ∙ ap (λ (x : Open). x.tenant) same in
    let legs_count : legs_in legs ≡ leg_count_of (core_of old) o = ap leg_count is.legs_are in
    let heads : map head_of p.jobs ≡ planned_for (core_of old) query o =
    heads_planned p.tenant query legs rs snap p.jobs p.planned
    ∙ (λ i. planned_heads (owner i) query 0 (legs_count i) (runs i)) in
    let far : (core_of new).progress ≡ with_progress query (planned_by (core_of old) told.cached o) (core_of old).progress =
    planned_progress old new query told.jobs legs rs cached offered snap k p
    ∙ (λ i. with_progress query (planned (runs i) (sym steps i) (once i)) (core_of old).progress) in
    let changed = has_queue old new p.tenant (waiting_of old.table p.tenant ++ p.jobs) (hands_of old.table p.tenant)
    (cond (is_empty p.jobs) (ring_of old.table) (cond (is_empty (waiting_of old.table p.tenant)) (put_last p.tenant (ring_of old.table)) (ring_of old.table)))
    h.table t p.queues in
    let was = queue_is old h.table p.tenant in
    let front = map_front head_of (waiting_of old.table p.tenant) p.jobs in
    let told_so : ChangesQueue (core_of old) p.tenant
    (record { waiting = (queue_at (core_of old) p.tenant).waiting ++ map head_of p.jobs; hands = (queue_at (core_of old) p.tenant).hands })
    (ring_with (core_of old) p.tenant (map head_of p.jobs)) (with_progress query (planned_by (core_of old) told.cached o) (core_of old).progress) (core_of old).kept
    (core_of new) = record {
      queue_is = record {
        here = changed.here
            ∙ (λ i. record { waiting = front i; hands = hands_of old.table p.tenant })
            ∙ (λ i. record { waiting = (sym was i).waiting ++ map head_of p.jobs; hands = (sym was i).hands });
        others = changed.others;
        ring_is = changed.ring_is
            ∙ (λ i. cond (sym (empty_heads p.jobs) i) (ring_of old.table)
            (cond ((sym (empty_heads (waiting_of old.table p.tenant)) ∙ ap (λ (q : QueueHeads). is_empty q.waiting) (sym was)) i)
            (put_last p.tenant (ring_of old.table)) (ring_of old.table)));
      };
      history = history_same old new k;
      failed = ap (λ (v : _). v.items) f.failed;
      progress_is = far;
      kept_is = f.results;
    } in
    record {
      whole = record {
        opened = o;
        is_open = there;
        cancelled_at = sym (ap (λ (x : Open). x.cancelled) same) ∙ sym a.is.stop;
        far = record (begun query) { tried = tried_of old.table query };
        is_far = far_at query (machine_in old).queries (entry_in old.table) (tried_of old.table) o there
            ∙ ap (λ (x : Option EntryData). Some (far_of query x (tried_of old.table query))) p.was;
        stop_is = refl;
      };
      unplanned = refl;
      cached_is = steps ∙ found;
      count_is = p.count_is ∙ p.planned.many ∙ (λ i. length (runs i) * legs_count i);
      leaves = subst (λ u. ChangesQueue (core_of old) u
          (record { waiting = (queue_at (core_of old) u).waiting ++ planned_for (core_of old) query o; hands = (queue_at (core_of old) u).hands })
          (ring_with (core_of old) u (planned_for (core_of old) query o))
          (with_progress query (planned_by (core_of old) told.cached o) (core_of old).progress) (core_of old).kept (core_of new)) owner
          (subst (λ (hs : List JobHead). ChangesQueue (core_of old) p.tenant
          (record { waiting = (queue_at (core_of old) p.tenant).waiting ++ hs; hands = (queue_at (core_of old) p.tenant).hands })
          (ring_with (core_of old) p.tenant hs) (with_progress query (planned_by (core_of old) told.cached o) (core_of old).progress) (core_of old).kept (core_of new))
          heads told_so);
    }

-- why it isn't
pub unplanned : (old new : State) (query : ℕ) (error : PlanError) → IsState old → KeepsHistory old new → KeepsFailures old new
    → table.IsUnplanned (entry_in old.table query) error → IsSameTable old.table new.table → IsUnplanned (core_of old) query error (core_of new)
unplanned old new query plan_error.PlannedBefore h k f u e = (planned_before (entry_in old.table query) refl u, core_same old new k f e) where
  planned_before : (x : Option EntryData) → entry_in old.table query ≡ x → table.IsUnplanned x plan_error.PlannedBefore → IsPlannedBefore (core_of old) query
  planned_before None e u = absurd u
  planned_before (Some d) e u = record {
    stop = d.stop;
    opened = open_with old query d d.stop (ask_of old query d h e) e refl;
    was_planned = ap is_planned u.1;
  }
unplanned old new query (plan_error.Stopped why) h k f u e = (gone_by old query why h (stop_of (entry_in old.table query) u), core_same old new k f e) where
  stop_of : (x : Option EntryData) → table.IsUnplanned x (plan_error.Stopped why) → table.IsGone x why
  stop_of None u = absurd u
  stop_of (Some d) u = u.1
unplanned old new query plan_error.OutOfMemory h k f u e = core_same old new k f e
