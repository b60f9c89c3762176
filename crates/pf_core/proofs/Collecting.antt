-- What is collected of a query is what the core promises.
use Rattle.std.proofs.Common.{◌≡◌, ℕ, false, map, Option, Some, None, List, length, sym, ap, ◌∙◌, subst, slice_get}
use Rattle.std.specs.Arc.{arc_value}
use Rattle.std.specs.Prelude.{IfSome}
use Rattle.pf_base.specs.GridLists.{GridData}
use Rattle.pf_base.specs.declared.plain.Limits.{Limits}
use Rattle.pf_extent.specs.declared.done.DoneCells.{DoneCells}
use Rattle.pf_journal.specs.Machine.{Open, open_at}
use Rattle.pf_model.specs.Lists.{Each}
use Rattle.pf_shard.specs.declared.parts.Part.{Part}
use Rattle.pf_query.specs.Tables as table
use Rattle.pf_query.specs.Tables.{EntryData, IsTable, entry_in, hands_of, hands_with, jobs_in, waiting_of}
use Rattle.pf_query.specs.Entries.{cached_steps_of, is_given_out, is_offered, is_planned}
use Rattle.pf_query.specs.Works.{IsWork, WorkData, handed_out}
use Rattle.pf_query.specs.declared.answers.Collected.{Collected}
use Rattle.pf_query.specs.declared.answers.Collected.TheVariants as collected
use Rattle.pf_query.specs.declared.gathered.Gathered.{Gathered}
use Rattle.pf_query.specs.declared.job.Job.{Job}
use Rattle.pf_query.specs.declared.slot.Slot.{Slot}
use Rattle.pf_query.specs.declared.slot.Slot.TheVariants.{Filled}
use Rattle.pf_shard.specs.Lawful.{ResolvedLegs}
use Rattle.pf_shard.specs.LegParts.{FitsNodes}
use Rattle.pf_core.specs.Calls.{AreCountedOf, IsCollected, IsHandedOut, IsTold}
use Rattle.pf_core.specs.Cores.{in_hand_of, queued_of}
use Rattle.pf_core.specs.Entries.{entry_of}
use Rattle.pf_core.specs.Jobs.{AreParts, by_tenant}
use Rattle.pf_core.specs.Progress as progress
use Rattle.pf_core.specs.Progress.{GoesWithPlan, planned, with_progress}
use Rattle.pf_core.specs.States.{IsEntryOf, IsState, IsWorkOf, JobStands, KeepsFailures, KeepsHistory, core_of, machine_in, runs_of}
use Rattle.pf_core.specs.declared.state.State.{State}
use Rattle.pf_core.proofs.Calling.{HasAsk, ask_of, core_same, covered_beside, gone_by, history_same, open_with, progress_set, state_same}
use Rattle.pf_core.proofs.Outstanding.{closed_there, outstanding_set}
use Rattle.pf_core.proofs.Runs.{each_placed, handed_unfilled, length_filled, part_in}
use Rattle.pf_core.proofs.Standing.{counts_as, state_beside}
use Rattle.pf_core.proofs.Tenanted.{head_of, in_hand_is, queued_is}

-- ---- what is collected

counts_at : (s : State) (query : ℕ) (d : EntryData) (a : HasAsk s query d) (queued in_hand : ℕ) → IsState s → table.AreOpen s.table query d queued in_hand
    → (queued ≡ queued_of (core_of s) a.opened.tenant query) × (in_hand ≡ in_hand_of (core_of s) a.opened.tenant query)
counts_at s query d a queued in_hand h counts = (
  counts.0 ∙ ap (λ u. jobs_in query (waiting_of s.table u)) a.is.tenant ∙ sym (queued_is s h.table a.opened.tenant query),
  counts.1 ∙ ap (λ u. hands_with query (hands_of s.table u)) a.is.tenant ∙ sym (in_hand_is s h.table a.opened.tenant query),
)

abbrev counts_of : (s : State) (query : ℕ) (d : EntryData) (a : HasAsk s query d) (w : WorkData) (queued in_hand : ℕ) → IsState s
    → entry_in s.table query ≡ Some d → d.stop ≡ None → d.work ≡ Some w → table.AreOpen s.table query d queued in_hand
    → AreCountedOf (core_of s) query queued in_hand
counts_of s query d a w queued in_hand h there whole planned_as counts =
    let both = counts_at s query d a queued in_hand h counts in
    record {
      whole = open_with s query d None a there whole;
      was_planned = ap is_planned planned_as;
      queued_is = both.0;
      in_hand_is = both.1;
    }

parts_of : (l : Limits) (o : Open) (w : WorkData) (g : Gathered) → IsWorkOf l o w → IsWork w → w.given ≡ false → arc_value g.legs ≡ w.legs → g.cached.items ≡ w.cached
    → g.runs.items ≡ w.runs → map (λ (p : Part). Filled p) g.parts.items ≡ w.slots → AreParts l o (arc_value g.legs) g.cached.items g.runs.items g.parts.items
parts_of l o w g h k first legs cached runs parts =
    let filled : (i : ℕ) (part : Part) → slice_get g.parts.items i ≡ Some part → slice_get w.slots i ≡ Some (Filled part) =
    λ i part e. subst (λ (ss : List Slot). slice_get ss i ≡ Some (Filled part)) parts (part_in g.parts.items i part e) in
    subst (λ (ls : ResolvedLegs). AreParts l o ls g.cached.items g.runs.items g.parts.items) (sym legs)
    (subst (λ (ds : List DoneCells). AreParts l o w.legs ds g.runs.items g.parts.items) (sym cached)
    (subst (λ (rs : List GridData). AreParts l o w.legs w.cached rs g.parts.items) (sym runs) (record {
      legs_are = h.legs_are;
      lawful = k.lawful;
      evaluable = h.evaluable;
      divided = h.divided first;
      many = sym (length_filled g.parts.items) ∙ ap (λ (ss : List Slot). length ss) parts ∙ k.many;
      fits = each_placed (FitsNodes w.legs.nodes) g.parts.items (λ i part e. h.fits i part (filled i part e));
      values = λ i run part there e. h.values i run part there (filled i part e);
    })))

work_handed : (l : Limits) (o : Open) (w : WorkData) → IsWorkOf l o w → IsWorkOf l o (handed_out w)
work_handed l o w h = record {
  legs_are = h.legs_are;
  evaluable = h.evaluable;
  runs = h.runs;
  divided = λ g. cc;
  few = h.few;
  reused = h.reused;
  once = h.once;
  fits = λ i part g. absurd (handed_unfilled w.slots i part g);
  values = λ i run part there g. absurd (handed_unfilled w.slots i part g);
}

-- the work of an entry
record HasWork (s : State) (query : ℕ) (w : WorkData) (o : Open) : Type 0 where
  of : IsWorkOf s.limits o w
  lawful : IsWork w

work_of : (s : State) (query : ℕ) (d : EntryData) (w : WorkData) (o : Open) → IsState s → entry_in s.table query ≡ Some d → d.work ≡ Some w
    → IsEntryOf s.limits o d → HasWork s query w o
work_of s query d w o h there planned is = record {
  of = subst (λ (x : Option WorkData). IfSome x (IsWorkOf s.limits o)) planned is.work;
  lawful = subst (λ (x : Option WorkData). IfSome x IsWork) planned (h.table.agree.all_kept query d there).work;
}

-- all its parts are handed out
gathered_progress : (old new : State) (query : ℕ) (d : EntryData) (w : WorkData) (g : Gathered) → KeepsHistory old new
    → entry_in old.table query ≡ Some d → d.work ≡ Some w → table.IsGathered old.table query d w g new.table
    → (core_of new).progress ≡ with_progress query progress.handed_out (core_of old).progress
gathered_progress old new query d w g k there work is =
    progress_set old new query progress.handed_out (Some d) _ k there is.entries is.tried
    (λ n. ap (λ (x : Option WorkData). progress.handed_out (record {
      query = query;
      stop = d.stop;
      planned = is_planned x;
      given = is_given_out x;
      runs = runs_of x;
      cached = cached_steps_of x;
      offered = is_offered x;
      tried = n;
    })) (sym work))

pub gathered_state : (old new : State) (query : ℕ) (d : EntryData) (w : WorkData) (g : Gathered) → IsState old → KeepsHistory old new → KeepsFailures old new → IsTable new.table
    → entry_in old.table query ≡ Some d → d.work ≡ Some w → table.IsGathered old.table query d w g new.table → IsState new
gathered_state old new query d w g h k f t there planned is =
    let a = ask_of old query d h there in
    let work = work_of old query d w a.opened h there planned a.is in
    state_beside old new h k f.results t (counts_as old new f h.counts)
    (outstanding_set old.limits query (machine_in old).queries a.opened _ (entry_in old.table) (entry_in new.table) h.jobs.outstanding a.there
    (record {
      tenant = a.is.tenant;
      stop = a.is.stop;
      stopped_when = subst (λ (x : Option WorkData). GoesWithPlan d.stop (is_planned x)) planned a.is.stopped_when;
      work = work_handed old.limits a.opened w work.of;
    }) is.entries)
    (λ u. subst (λ (js : List Job). Each (JobStands (map entry_of old.journal.items) old.limits) js) (sym (is.queues.queues u).waiting) (h.jobs.waiting_for u))
    (covered_beside old new h k f is.tried)

collected_state : (old new : State) (query : ℕ) (d : EntryData) (c : Collected) → IsState old → KeepsHistory old new → KeepsFailures old new → IsTable new.table
    → entry_in old.table query ≡ Some d → table.IsCollectedOf old.table query d c new.table → IsState new
collected_state old new query d (collected.Stopped why) h k f t there x = state_same old new h k f t x.1
collected_state old new query d collected.Unplanned h k f t there x = state_same old new h k f t x.2
collected_state old new query d (collected.Waiting queued in_hand) h k f t there x = state_same old new h k f t x.5
collected_state old new query d collected.Given h k f t there x = state_same old new h k f t x.5
collected_state old new query d (collected.Parts g) h k f t there x = gathered_state old new query d x.0 g h k f t there x.2 x.5

pub collect_state : (old new : State) (query : ℕ) (c : Option Collected) → IsState old → KeepsHistory old new → KeepsFailures old new → IsTable new.table
    → table.IsCollected old.table query c new.table → IsState new
collect_state old new query None h k f t x = state_same old new h k f t x.1
collect_state old new query (Some c) h k f t x = collected_state old new query x.0 c h k f t x.1 x.2

-- nothing but that the parts are handed out is changed
handed_core : (old new : State) (query : ℕ) (d : EntryData) (w : WorkData) (g : Gathered) → KeepsHistory old new → KeepsFailures old new
    → entry_in old.table query ≡ Some d → d.work ≡ Some w → table.IsGathered old.table query d w g new.table → IsHandedOut (core_of old) query (core_of new)
handed_core old new query d w g k f there work is = record {
  history = history_same old new k;
  jobs = record {
    queues = λ i. by_tenant (λ u. record { waiting = map head_of ((is.queues.queues u).waiting i); hands = (is.queues.queues u).hands i });
    ring = is.queues.ring;
    failed = ap (λ (v : _). v.items) f.failed;
    kept = f.results;
  };
  progress_is = gathered_progress old new query d w g k there work is;
}

told_core : (old new : State) (query : ℕ) (d : EntryData) (c : Collected) → IsState old → KeepsHistory old new → KeepsFailures old new
    → entry_in old.table query ≡ Some d → table.IsCollectedOf old.table query d c new.table → IsTold (core_of old) query c (core_of new)
told_core old new query d (collected.Stopped why) h k f there x =
    (gone_by old query why h (subst (λ (e : Option EntryData). table.IsGone e why) (sym there) x.0), core_same old new k f x.1)
told_core old new query d collected.Unplanned h k f there x = (
  record { whole = open_with old query d None (ask_of old query d h there) there x.0; unplanned = ap is_planned x.1 },
  core_same old new k f x.2,
)
told_core old new query d (collected.Waiting queued in_hand) h k f there x =
    (counts_of old query d (ask_of old query d h there) x.0 queued in_hand h there x.1 x.2 x.3, (x.4, core_same old new k f x.5))
told_core old new query d collected.Given h k f there x = (
  record { counts = counts_of old query d (ask_of old query d h there) x.0 0 0 h there x.1 x.2 x.3; given = ap is_given_out x.2 ∙ x.4 },
  core_same old new k f x.5,
)
told_core old new query d (collected.Parts g) h k f there x =
    let a = ask_of old query d h there in
    let work = work_of old query d x.0 a.opened h there x.2 a.is in (
      record {
        counts = counts_of old query d a x.0 0 0 h there x.1 x.2 x.3;
        first = ap is_given_out x.2 ∙ x.4;
        runs_are = x.5.runs_are ∙ sym (ap runs_of x.2);
        parts = parts_of old.limits a.opened x.0 g work.of work.lawful x.4 x.5.legs_are x.5.cached_are x.5.runs_are x.5.parts_are;
      },
      handed_core old new query d x.0 g k f there x.2 x.5,
    )

pub collect_core : (old new : State) (query : ℕ) (c : Option Collected) → IsState old → KeepsHistory old new → KeepsFailures old new
    → table.IsCollected old.table query c new.table → IsCollected (core_of old) query c (core_of new)
collect_core old new query None h k f x = (
  closed_there old.limits (open_at query (machine_in old).queries) (entry_in old.table query) (h.jobs.outstanding query) x.0,
  core_same old new k f x.1,
)
collect_core old new query (Some c) h k f x = told_core old new query x.0 c h k f x.1 x.2
