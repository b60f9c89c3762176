-- A state stands after each call on its journal.
use Rattle.std.proofs.Common.{◌≡◌, ◌⊎◌, ℕ, ◌+◌, ◌*◌, ◌<◌, ◌≤◌, inl, inr, Bool, true, false, not, cond, map, nat_eq, Option, Some, None, List, [], ◌∷◌, ◌++◌, filter, length, refl, sym, ap, ◌∙◌, arith, subst}
use Rattle.std.proofs.lemmas.List.Sums.{sum_by-cons}
use Rattle.std.specs.HashMap.{get}
use Rattle.std.specs.Option.{option_map}
use Rattle.std.specs.Prelude.{MatchOption, sum, vec_capacity, ◌==◌}
use Rattle.std.proofs.lemmas.Bool.Decides.{nat_tests}
use Rattle.pf_base.specs.declared.plain.By.{By}
use Rattle.pf_base.specs.declared.plain.Limits.{Limits}
use Rattle.pf_journal.specs.Legal.{machine_after}
use Rattle.pf_journal.specs.Machine.{Entry, Machine, Open, What, answer, answer_of, cancel, cancelled_at, closed, code_of, log_of, logs_after, open_at, queries_after, started}
use Rattle.pf_journal.specs.Weave.{is_500}
use Rattle.pf_model.specs.Direct.{Answer, gathered, failed}
use Rattle.pf_model.specs.Lists.{Each}
use Rattle.pf_model.specs.Log.{Change, rules_of}
use Rattle.pf_queue.specs.Rings.{waits, without}
use Rattle.pf_query.specs.Jobs.{is_empty, is_other_hand, is_other_job}
use Rattle.pf_query.specs.Tables as table
use Rattle.pf_query.specs.Entries.{most_tries}
use Rattle.pf_query.specs.Tables.{AreLeft, Ends, EntryData, IsClosed, IsInHand, IsSameTable, IsStopped, IsTable, IsWaiting, Stops, entry_in, hands_of, last_tries, ring_of, tried_by, tried_of, tries_in_hand, tries_waiting, tries_with, waiting_of}
use Rattle.pf_query.specs.declared.entry.Entry as table_entry
use Rattle.pf_query.specs.declared.job.Hand.{Hand}
use Rattle.pf_query.specs.declared.job.Job.{Job}
use Rattle.pf_query.specs.declared.stop.Stop.{Stop}
use Rattle.pf_query.specs.declared.stop.Stop.TheVariants.{Cancelled, Exhausted, Starved}
use Rattle.pf_query.specs.declared.table.Table.{Table}
use Rattle.pf_results.specs.Truth.{AreTrue, HaveGrown, StayTrue}
use Rattle.pf_core.specs.Cached.{KeptData}
use Rattle.pf_core.specs.Calls.{IsAnswerable, IsCodeBy}
use Rattle.pf_core.specs.Cores.{AllAreTried, AreBegun, AreClosed, AreCovered, AreSameJobs, AreSameWork, AreTried, CoreData, Enters, IsLeft, KeepsTruth, Stands, machine_of, others_waiting, queue_at}
use Rattle.pf_core.specs.Entries.{entry_of}
use Rattle.pf_core.specs.Jobs.{QueueHeads, by_tenant, is_other_head, tries_in, tries_queued}
use Rattle.pf_core.specs.Progress.{QueryProgress, begun, progress_at, stopped, tried_in, with_progress, without_progress}
use Rattle.pf_core.specs.States.{AreCounts, AreJobs, HasHistory, IsOutstanding, IsSame, IsSameButCache, IsState, JobStands, KeepsFailures, KeepsHistory, KeepsJobs, core_of, far_of, heads_in, machine_in, progress_of}
use Rattle.pf_core.specs.declared.state.State.{State}
use Rattle.pf_core.proofs.Covered.{covered_entered}
use Rattle.pf_core.proofs.Logs.{logs_grown}
use Rattle.pf_core.proofs.Machines.{after_push, bool_cases}
use Rattle.pf_core.proofs.Outstanding.{each_filter, entry_there, jobs_grow, jobs_with, none_there, outstanding_answered, outstanding_cancelled, outstanding_opened, outstanding_same}
use Rattle.pf_core.proofs.Progressing.{far_at, far_cancelled, far_closed, far_opened, far_set, goes_with, over_gone, tried_begun, tried_over, tries_over}
use Rattle.pf_core.proofs.Stepped.{counted, history_as, same_core, same_history}
use Rattle.pf_core.proofs.Tenanted.{empty_heads, has_queue, head_of, other_heads, queue_is, served, tries_table}
use Rattle.pf_query.proofs.Naming.{eq_apart as apart}

-- ---- what is kept of evaluated steps

-- it stays true after an entry
truth_by : (l l' : Limits) (logs logs' : List (List Change)) (kept kept' : KeptData) → l' ≡ l → kept' ≡ kept
    → (AreTrue (rules_of l) l.interval (log_of logs) kept.entries → AreTrue (rules_of l) l.interval (log_of logs') kept.entries)
    → AreTrue (rules_of l) l.interval (log_of logs) kept.entries → AreTrue (rules_of l') l'.interval (log_of logs') kept'.entries
truth_by l l' logs logs' kept kept' el ek f h =
    subst (λ (x : Limits). AreTrue (rules_of x) x.interval (log_of logs') kept'.entries) (sym el)
    (subst (λ (x : KeptData). AreTrue (rules_of l) l.interval (log_of logs') x.entries) (sym ek) (f h))

logs_entered : (old new : CoreData) (by : By) (what : What) → Enters old by what new → (machine_of new).logs ≡ logs_after (machine_of old).logs what
logs_entered old new by what e =
    ap (λ (js : List Entry). (machine_after started js).logs) e.journal ∙ ap (λ (m : Machine). m.logs) (after_push started old.journal _)

-- the logs grew by it
pub truth_grown : (old new : State) (by : By) (what : What) → StayTrue → Enters (core_of old) by what (core_of new) → new.results ≡ old.results
    → KeepsTruth (core_of old) → KeepsTruth (core_of new)
truth_grown old new by what law e same h =
    truth_by old.limits new.limits (machine_in old).logs (machine_in new).logs old.results new.results e.limits same
    (λ h. law (rules_of old.limits) old.limits.interval (log_of (machine_in old).logs) (log_of (machine_in new).logs) old.results.entries
    (subst (λ (ls : List (List Change)). HaveGrown (log_of (machine_in old).logs) (log_of ls)) (sym (logs_entered (core_of old) (core_of new) by what e))
    (logs_grown (machine_in old).logs what)) h) h

-- or are as they were
pub truth_kept : (old new : State) (by : By) (what : What) → Enters (core_of old) by what (core_of new) → logs_after (machine_in old).logs what ≡ (machine_in old).logs
    → new.results ≡ old.results → KeepsTruth (core_of old) → KeepsTruth (core_of new)
truth_kept old new by what e alike same h =
    truth_by old.limits new.limits (machine_in old).logs (machine_in new).logs old.results new.results e.limits same
    (λ h. subst (λ (ls : List (List Change)). AreTrue (rules_of old.limits) old.limits.interval (log_of ls) old.results.entries)
    (sym (logs_entered (core_of old) (core_of new) by what e ∙ alike)) h) h

-- after a call that leaves the journal
pub truth_beside : (old new : State) → KeepsHistory old new
    → AreTrue (rules_of old.limits) old.limits.interval (log_of (machine_in old).logs) new.results.entries → KeepsTruth (core_of new)
truth_beside old new k h =
    subst (λ (l : Limits). AreTrue (rules_of l) l.interval (log_of (machine_in new).logs) new.results.entries) (sym k.limits)
    (subst (λ (ls : List (List Change)). AreTrue (rules_of old.limits) old.limits.interval (log_of ls) new.results.entries)
    (sym (ap (λ (v : _). (machine_after started (map entry_of v.items)).logs) k.journal)) h)

truth_same : (old new : State) → KeepsHistory old new → new.results ≡ old.results → KeepsTruth (core_of old) → KeepsTruth (core_of new)
truth_same old new k same h =
    truth_beside old new k (subst (λ (x : KeptData). AreTrue (rules_of old.limits) old.limits.interval (log_of (machine_in old).logs) x.entries) (sym same) h)

-- what is counted of an open query's failed tries covers its jobs

queued_tries : (query : ℕ) (js : List Job) → tries_queued query (map head_of js) ≡ tries_waiting query js
queued_tries query [] = refl
queued_tries query (j ∷ js) =
    let now = sum_by-cons (tries_with query) j.head (map head_of js) in
    let was = sum_by-cons (λ (x : Job). tries_with query x.head) j js in
    let rest = queued_tries query js in
    omega (arith, now, was, rest)

tried_at : (s : State) (query : ℕ) (o : Open) (d : EntryData) → IsTable s.table → d.tenant ≡ o.tenant → entry_in s.table query ≡ Some d
    → AreTried (core_of s) query o (far_of query (Some d) (tried_of s.table query))
tried_at s query o d t owner there = by (get nat_eq s.table.entries query) refl there where
  queued : (u : ℕ) → tries_queued query (queue_at (core_of s) u).waiting ≡ tries_waiting query (waiting_of s.table u)
  queued u = ap (λ (q : QueueHeads). tries_queued query q.waiting) (queue_is s t u) ∙ queued_tries query (waiting_of s.table u)

  held : (u : ℕ) → tries_in_hand query (queue_at (core_of s) u).hands ≡ tries_in_hand query (hands_of s.table u)
  held u = ap (λ (q : QueueHeads). tries_in_hand query q.hands) (queue_is s t u)

  told : (e : table_entry.Entry) → table.data_of e ≡ d → table.AreTried query (waiting_of s.table) (hands_of s.table) e
      → (most_tries ≤ e.tried) ⊎ (tries_queued query (queue_at (core_of s) o.tenant).waiting + tries_in_hand query (queue_at (core_of s) o.tenant).hands
      + last_tries d.stop ≤ e.tried)
  told e is (inl most) = inl most
  told e is (inr few) =
      let tenant : e.tenant ≡ o.tenant = ap (λ (x : EntryData). x.tenant) is ∙ owner in
      let stop = ap (λ (x : EntryData). last_tries x.stop) is in
      let jobs = queued o.tenant ∙ sym (ap (λ u. tries_waiting query (waiting_of s.table u)) tenant) in
      let hands = held o.tenant ∙ sym (ap (λ u. tries_in_hand query (hands_of s.table u)) tenant) in
      inr (omega (arith, few, stop, jobs, hands))

  by : (raw : Option table_entry.Entry) → get nat_eq s.table.entries query ≡ raw → option_map table.data_of raw ≡ Some d
      → (most_tries ≤ tried_by raw) ⊎ (tries_queued query (queue_at (core_of s) o.tenant).waiting + tries_in_hand query (queue_at (core_of s) o.tenant).hands
      + last_tries d.stop ≤ tried_by raw)
  by None e h = cc
  by (Some x) e h = let is : table.data_of x ≡ d = cc in told x is (t.tried query x e)

tried_all : (s : State) → IsTable s.table → ((p : ℕ) → IsOutstanding s.limits (open_at p (machine_in s).queries) (entry_in s.table p)) → AllAreTried (core_of s)
tried_all s t outstanding query o p there is =
    let entry = entry_there s.limits (open_at query (machine_in s).queries) (entry_in s.table query) o (outstanding query) there in
    let far : Some p ≡ Some (far_of query (Some entry.kept) (tried_of s.table query)) =
    sym is ∙ far_at query (machine_in s).queries (entry_in s.table) (tried_of s.table) o there
    ∙ ap (λ (x : Option EntryData). Some (far_of query x (tried_of s.table query))) entry.there in
    let same : p ≡ far_of query (Some entry.kept) (tried_of s.table query) = cc in
    subst (AreTried (core_of s) query o) (sym same) (tried_at s query o entry.kept t entry.is.tenant entry.there)

-- at least five of one that a job stopped
five_tried : (t : Table) (query : ℕ) (d : EntryData) → IsTable t → entry_in t query ≡ Some d → last_tries d.stop ≤ tried_of t query
five_tried t query d h there = by (get nat_eq t.entries query) refl there where
  few : (stop : Option Stop) → last_tries stop ≤ 5
  few None = omega arith
  few (Some (Cancelled place)) = omega arith
  few (Some (Exhausted job)) = omega arith
  few (Some Starved) = omega arith

  told : (e : table_entry.Entry) → table.data_of e ≡ d → table.AreTried query (waiting_of t) (hands_of t) e → last_tries d.stop ≤ e.tried
  told e is (inl most) = let five = few d.stop in omega (arith, most, five)
  told e is (inr few) = let stop = ap (λ (x : EntryData). last_tries x.stop) is in omega (arith, few, stop)

  by : (raw : Option table_entry.Entry) → get nat_eq t.entries query ≡ raw → option_map table.data_of raw ≡ Some d → last_tries d.stop ≤ tried_by raw
  by None e k = cc
  by (Some x) e k = let is : table.data_of x ≡ d = cc in told x is (h.tried query x e)

-- what every core keeps
pub stands : (s : State) → HasHistory s → IsTable s.table → AreCounts s.failed.items s.total
    → ((p : ℕ) → IsOutstanding s.limits (open_at p (machine_in s).queries) (entry_in s.table p)) → AreCovered (core_of s) → KeepsTruth (core_of s) → Stands (core_of s)
stands s h t k outstanding covered truth = record {
  limits = h.stands.limits;
  legal = h.stands.legal;
  names = h.stands.names;
  served = served s t;
  actors = k.actors;
  progressing = goes_with s.limits (machine_in s).queries (entry_in s.table) (tried_of s.table) h.keeps.are_open.apart outstanding;
  tried = tried_all s t outstanding;
  covered = covered;
  kept = truth;
}

-- ---- a state whose journal, limits and table are these

jobs_as : (journal journal' : List Entry) (l l' : Limits) (qs qs' : List Open) (entries : ℕ → Option EntryData) (waiting : ℕ → List Job)
    → journal' ≡ journal → l' ≡ l → qs' ≡ qs → AreJobs journal l qs entries waiting → AreJobs journal' l' qs' entries waiting
jobs_as journal journal' l l' qs qs' entries waiting ej el eq h =
    subst (λ (js : List Entry). AreJobs js l' qs' entries waiting) (sym ej)
    (subst (λ (x : Limits). AreJobs journal x qs' entries waiting) (sym el)
    (subst (λ (os : List Open). AreJobs journal l os entries waiting) (sym eq) h))

pub queries_entered : (old new : CoreData) (by : By) (what : What) → Enters old by what new
    → (machine_of new).queries ≡ queries_after (machine_of old) what
queries_entered old new by what e =
    ap (λ (js : List Entry). (machine_after started js).queries) e.journal ∙ ap (λ (m : Machine). m.queries) (after_push started old.journal _)

pub counts_as : (old new : State) → KeepsFailures old new → AreCounts old.failed.items old.total → AreCounts new.failed.items new.total
counts_as old new k h = record {
  actors = ap (λ (v : _). length v.items) k.failed ∙ h.actors;
  summed = ap (λ (v : _). sum v.items) k.failed ∙ h.summed ∙ sym k.total;
}

-- after an entry
pub state_entered : (old new : State) (by : By) (what : What) → IsState old → HasHistory new → Enters (core_of old) by what (core_of new)
    → IsTable new.table → KeepsFailures old new
    → ((p : ℕ) → IsOutstanding old.limits (open_at p (queries_after (machine_in old) what)) (entry_in new.table p))
    → ((u : ℕ) → Each (JobStands (map entry_of old.journal.items) old.limits) (waiting_of new.table u))
    → 5 * is_500 what + tried_in (core_of new).progress ≤ tried_in (core_of old).progress → KeepsTruth (core_of new)
    → IsState new
state_entered old new by what h history e t k outstanding waiting tries truth =
    let jobs : AreJobs (map entry_of new.journal.items) new.limits (machine_in new).queries (entry_in new.table) (waiting_of new.table) =
    jobs_as _ (map entry_of new.journal.items) old.limits new.limits (queries_after (machine_in old) what) (machine_in new).queries
    (entry_in new.table) (waiting_of new.table) e.journal e.limits (queries_entered (core_of old) (core_of new) by what e)
    (record { outstanding = outstanding; waiting_for = jobs_grow (map entry_of old.journal.items) _ old.limits (waiting_of new.table) waiting }) in
    record {
      stands = stands new history t (counts_as old new k h.counts) jobs.outstanding
          (covered_entered (core_of old) (core_of new) _ (ap (λ (v : _). v.items) k.failed) e.journal tries h.stands.covered) truth;
      history = history;
      table = t;
      jobs = jobs;
      counts = counts_as old new k h.counts;
    }

kept_jobs : (old new : State) → KeepsJobs old new → AreSameJobs (core_of old) (core_of new)
kept_jobs old new k = record {
  queues = ap (λ (t : Table). by_tenant (heads_in t)) k.table;
  ring = ap ring_of k.table;
  failed = ap (λ (v : _). v.items) k.failed;
  kept = k.results;
}

-- the work on open queries, after an entry that leaves them and their jobs
pub work_kept : (old new : State) (by : By) (what : What) → Enters (core_of old) by what (core_of new) → KeepsJobs old new
    → queries_after (machine_in old) what ≡ (machine_in old).queries → AreSameWork (core_of old) (core_of new)
work_kept old new by what e k same = (
  kept_jobs old new k,
  (λ i. progress_of ((queries_entered (core_of old) (core_of new) by what e ∙ same) i) (entry_in (k.table i)) (tried_of (k.table i))),
)

-- after an entry that leaves the jobs
pub state_kept : (old new : State) (by : By) (what : What) → StayTrue → IsState old → HasHistory new → Enters (core_of old) by what (core_of new)
    → KeepsJobs old new → queries_after (machine_in old) what ≡ (machine_in old).queries → is_500 what ≡ 0 → IsState new
state_kept old new by what law h history e k same none =
    state_entered old new by what h history e (subst IsTable (sym k.table) h.table) (record { results = k.results; failed = k.failed; total = k.total })
    (λ p. subst (λ (t : Table). IsOutstanding old.limits (open_at p (queries_after (machine_in old) what)) (entry_in t p)) (sym k.table)
    (subst (λ (qs : List Open). IsOutstanding old.limits (open_at p qs) (entry_in old.table p)) (sym same) (h.jobs.outstanding p)))
    (λ u. subst (λ (t : Table). Each (JobStands (map entry_of old.journal.items) old.limits) (waiting_of t u)) (sym k.table) (h.jobs.waiting_for u))
    (let work = work_kept old new by what e k same in
    let far = ap tried_in work.1 in
    omega (arith, none, far))
    (truth_grown old new by what law e k.results h.stands.kept)

-- after a call that leaves the journal
state_with : (old new : State) → IsState old → KeepsHistory old new → KeepsTruth (core_of new) → IsTable new.table → AreCounts new.failed.items new.total
    → ((p : ℕ) → IsOutstanding old.limits (open_at p (machine_in old).queries) (entry_in new.table p))
    → ((u : ℕ) → Each (JobStands (map entry_of old.journal.items) old.limits) (waiting_of new.table u))
    → AreCovered (core_of new)
    → IsState new
state_with old new h k truth t counts outstanding waiting covered =
    let history = history_as old new h.history k.limits k.tenants (λ place. ap (λ (q : _). get nat_eq q place) k.queries) k.reserved (ap (λ (v : _). v.items) k.journal)
    (let e = ap vec_capacity k.journal in omega (arith, e)) in
    let jobs : AreJobs (map entry_of new.journal.items) new.limits (machine_in new).queries (entry_in new.table) (waiting_of new.table) =
    jobs_as (map entry_of old.journal.items) (map entry_of new.journal.items) old.limits new.limits (machine_in old).queries (machine_in new).queries
    (entry_in new.table) (waiting_of new.table) (ap (λ (v : _). map entry_of v.items) k.journal) k.limits
    (ap (λ (v : _). (machine_after started (map entry_of v.items)).queries) k.journal)
    (record { outstanding = outstanding; waiting_for = waiting }) in
    record {
      stands = stands new history t counts jobs.outstanding covered truth;
      history = history;
      table = t;
      jobs = jobs;
      counts = counts;
    }

-- and what is kept
pub state_beside : (old new : State) → IsState old → KeepsHistory old new → new.results ≡ old.results → IsTable new.table → AreCounts new.failed.items new.total
    → ((p : ℕ) → IsOutstanding old.limits (open_at p (machine_in old).queries) (entry_in new.table p))
    → ((u : ℕ) → Each (JobStands (map entry_of old.journal.items) old.limits) (waiting_of new.table u))
    → AreCovered (core_of new)
    → IsState new
state_beside old new h k same t counts outstanding waiting covered =
    state_with old new h k (truth_same old new k same h.stands.kept) t counts outstanding waiting covered

-- a core of which nothing but what is kept changed
pub core_cached : (old new : State) → IsSameButCache old new → core_of new ≡ record (core_of old) { kept = new.results }
core_cached old new e = λ i. record {
  limits = e.history.limits i;
  names = (e.history.tenants i).names;
  journal = map entry_of (e.history.journal i).items;
  progress = progress_of (machine_after started (map entry_of (e.history.journal i).items)).queries (entry_in (e.table i)) (tried_of (e.table i));
  queues = by_tenant (heads_in (e.table i));
  ring = ring_of (e.table i);
  failed = (e.failed i).items;
  kept = new.results;
}

pub state_cached : (old new : State) → IsState old → IsSameButCache old new
    → AreTrue (rules_of old.limits) old.limits.interval (log_of (machine_in old).logs) new.results.entries → IsState new
state_cached old new h e truth =
    state_with old new h e.history (truth_beside old new e.history truth) (subst IsTable (sym e.table) h.table)
    (record { actors = ap (λ (v : _). length v.items) e.failed ∙ h.counts.actors; summed = ap (λ (v : _). sum v.items) e.failed ∙ h.counts.summed ∙ sym e.total })
    (λ p. subst (λ (t : Table). IsOutstanding old.limits (open_at p (machine_in old).queries) (entry_in t p)) (sym e.table) (h.jobs.outstanding p))
    (λ u. subst (λ (t : Table). Each (JobStands (map entry_of old.journal.items) old.limits) (waiting_of t u)) (sym e.table) (h.jobs.waiting_for u))
    (subst AreCovered (sym (core_cached old new e)) h.stands.covered)

-- ---- nothing changed

pub same_work : (old new : State) → IsSame old new → AreSameWork (core_of old) (core_of new)
same_work old new e = let same = same_core old new e in (
  record {
    queues = ap (λ (c : CoreData). c.queues) same;
    ring = ap (λ (c : CoreData). c.ring) same;
    failed = ap (λ (c : CoreData). c.failed) same;
    kept = ap (λ (c : CoreData). c.kept) same;
  },
  ap (λ (c : CoreData). c.progress) same,
)

pub same_state : (old new : State) → IsState old → IsSame old new → IsState new
same_state old new h e = record {
  stands = subst Stands (sym (same_core old new e)) h.stands;
  history = same_history old new h.history e;
  table = e.jobs.lawful h.table;
  jobs = jobs_as (map entry_of old.journal.items) (map entry_of new.journal.items) old.limits new.limits (machine_in old).queries (machine_in new).queries
      (entry_in new.table) (waiting_of new.table) (ap (map entry_of) e.journal) e.limits
      (ap (λ (js : List _). (machine_after started (map entry_of js)).queries) e.journal)
      (record {
        outstanding = outstanding_same old.limits (machine_in old).queries (entry_in old.table) (entry_in new.table) h.jobs.outstanding e.jobs.table.entries;
        waiting_for = λ u. subst (λ (js : List Job). Each (JobStands (map entry_of old.journal.items) old.limits) js) (sym (e.jobs.table.queues.queues u).waiting)
            (h.jobs.waiting_for u);
      });
  counts = counts_as old new (record { results = e.jobs.results; failed = e.jobs.failed; total = e.jobs.total }) h.counts;
}

pub same_table : (t u : Table) → u ≡ t → IsSameTable t u
same_table t u e = subst (λ (x : Table). IsSameTable t x) (sym e) (record {
  entries = λ q. refl;
  queues = record { queues = λ v. record { waiting = refl; hands = refl }; ring = refl };
  tries = refl;
  tried = λ q. refl;
})

-- ---- jobs of a query leave

pub left_by : (old new : State) (u query : ℕ) (hands : List Hand) → IsTable old.table → IsTable new.table → AreLeft old.table u query hands new.table
    → IsLeft (core_of old) u query hands (core_of new)
left_by old new u query hands h k a =
    let others : map head_of (filter (is_other_job query) (waiting_of old.table u)) ≡ others_waiting (core_of old) u query =
    other_heads query (waiting_of old.table u) ∙ ap (λ (q : QueueHeads). filter (is_other_head query) q.waiting) (sym (queue_is old h u)) in
    let all = has_queue old new u _ hands _ h k a in
    record {
      here = all.here ∙ (λ i. record { waiting = others i; hands = hands });
      others = all.others;
      ring_is = all.ring_is ∙ ap (λ (b : Bool). cond b (without u (ring_of old.table)) (ring_of old.table))
          (sym (empty_heads (filter (is_other_job query) (waiting_of old.table u))) ∙ ap is_empty others);
    }

-- how far the work on open queries is, once one is cancelled
cancelled_progress : (old new : State) (by : By) (query : ℕ) (d : EntryData) (hands : List Hand) → Enters (core_of old) by (cancel query) (core_of new)
    → entry_in old.table query ≡ Some d → Stops old.table query (Cancelled (length old.journal.items)) d hands new.table
    → (core_of new).progress ≡ with_progress query (stopped (Cancelled (machine_in old).count)) (core_of old).progress
cancelled_progress old new by query d hands e there stops =
    ap (λ (qs : List Open). progress_of qs (entry_in new.table) (tried_of new.table)) (queries_entered (core_of old) (core_of new) by (cancel query) e)
    ∙ far_cancelled (machine_in old).count query (machine_in old).queries (entry_in new.table) (tried_of new.table)
    ∙ far_set query (stopped (Cancelled (length old.journal.items))) (machine_in old).queries (entry_in old.table) (entry_in new.table) (tried_of old.table)
    (tried_of new.table) (Some d) _ there stops.entries (λ q x. stops.tried q) (ap (far_of query (Some (table.stopped (Cancelled (length old.journal.items)) d))) (stops.tried query))
    ∙ ap (λ n. with_progress query (stopped (Cancelled n)) (core_of old).progress) (sym (counted old))

-- a query is cancelled
pub cancelled_state : (old new : State) (by : By) (query : ℕ) (o : Open) → IsState old → HasHistory new → Enters (core_of old) by (cancel query) (core_of new)
    → open_at query (machine_in old).queries ≡ Some o
    → IsStopped old.table query (Cancelled (length old.journal.items)) new.table → IsTable new.table → KeepsFailures old new → IsState new
cancelled_state old new by query o h history e found s t k =
    let l = old.limits in
    let entry = entry_there l (open_at query (machine_in old).queries) (entry_in old.table query) o (h.jobs.outstanding query) found in
    let stops : Stops old.table query (Cancelled (length old.journal.items)) entry.kept (hands_of old.table entry.kept.tenant) new.table =
    subst (λ (x : Option EntryData). MatchOption x (IsSameTable old.table new.table)
    (λ d. Stops old.table query (Cancelled (length old.journal.items)) d (hands_of old.table d.tenant) new.table)) entry.there s in
    state_entered old new by (cancel query) h history e t k
    (subst (λ n. (p : ℕ) → IsOutstanding l (open_at p (cancelled_at n query (machine_in old).queries)) (entry_in new.table p)) (sym (counted old))
    (outstanding_cancelled l query (length old.journal.items) (machine_in old).queries o entry.kept (entry_in old.table) (entry_in new.table)
    h.jobs.outstanding found entry.is stops.entries))
    (jobs_with (map entry_of old.journal.items) l entry.kept.tenant (waiting_of old.table) (waiting_of new.table) _ h.jobs.waiting_for stops.queues.waiting
    (each_filter _ (is_other_job query) (waiting_of old.table entry.kept.tenant) (h.jobs.waiting_for entry.kept.tenant))
    (λ v d. (stops.queues.others v d).waiting))
    (let far : tried_in (core_of new).progress ≡ tried_in (progress_of (machine_in old).queries (entry_in new.table) (tried_of new.table)) =
    ap tried_in
    (ap (λ (qs : List Open). progress_of qs (entry_in new.table) (tried_of new.table)) (queries_entered (core_of old) (core_of new) by (cancel query) e)
    ∙ far_cancelled (machine_in old).count query (machine_in old).queries (entry_in new.table) (tried_of new.table)) in
    let now = tried_over (machine_in old).queries (entry_in new.table) (tried_of new.table) in
    let same : tries_over (tried_of new.table) (machine_in old).queries ≡ tries_over (tried_of old.table) (machine_in old).queries =
    λ i. tries_over (λ q. stops.tried q i) (machine_in old).queries in
    let was = tried_over (machine_in old).queries (entry_in old.table) (tried_of old.table) in
    omega (arith, far, now, same, was))
    (truth_kept old new by (cancel query) e refl k.results h.stands.kept)

pub cancelled_jobs : (old new : State) (by : By) (query : ℕ) (o : Open) → IsState old → Enters (core_of old) by (cancel query) (core_of new)
    → open_at query (machine_in old).queries ≡ Some o
    → IsStopped old.table query (Cancelled (length old.journal.items)) new.table → IsTable new.table → KeepsFailures old new
    → ((p : Open) → open_at query (machine_in old).queries ≡ Some p → IsLeft (core_of old) p.tenant query (queue_at (core_of old) p.tenant).hands (core_of new))
    × (((core_of new).failed ≡ (core_of old).failed)
    × (((core_of new).kept ≡ (core_of old).kept)
    × ((core_of new).progress ≡ with_progress query (stopped (Cancelled (machine_in old).count)) (core_of old).progress)))
cancelled_jobs old new by query o h e found s t k = (
  λ p there.
      let entry = entry_there old.limits (open_at query (machine_in old).queries) (entry_in old.table query) p (h.jobs.outstanding query) there in
      let stops : Stops old.table query (Cancelled (length old.journal.items)) entry.kept (hands_of old.table entry.kept.tenant) new.table =
      subst (λ (x : Option EntryData). MatchOption x (IsSameTable old.table new.table)
      (λ d. Stops old.table query (Cancelled (length old.journal.items)) d (hands_of old.table d.tenant) new.table)) entry.there s in
      let left = left_by old new entry.kept.tenant query (hands_of old.table entry.kept.tenant) h.table t stops.queues in
      subst (λ u. IsLeft (core_of old) u query (queue_at (core_of old) u).hands (core_of new)) entry.is.tenant
      (subst (λ (hs : List Hand). IsLeft (core_of old) entry.kept.tenant query hs (core_of new))
      (sym (ap (λ (q : QueueHeads). q.hands) (queue_is old h.table entry.kept.tenant))) left),
  (
    ap (λ (v : _). v.items) k.failed,
    (
      k.results,
      let entry = entry_there old.limits (open_at query (machine_in old).queries) (entry_in old.table query) o (h.jobs.outstanding query) found in
          let stops : Stops old.table query (Cancelled (length old.journal.items)) entry.kept (hands_of old.table entry.kept.tenant) new.table =
          subst (λ (x : Option EntryData). MatchOption x (IsSameTable old.table new.table)
          (λ d. Stops old.table query (Cancelled (length old.journal.items)) d (hands_of old.table d.tenant) new.table)) entry.there s in
          cancelled_progress old new by query entry.kept _ e entry.there stops,
    ),
  ),
)

-- how far the work on open queries is, once one is answered
closed_progress : (old new : State) (by : By) (query code cached evaluated : ℕ) → Enters (core_of old) by (answer query code cached evaluated) (core_of new)
    → ((q : ℕ) → entry_in new.table q ≡ cond (nat_eq query q) None (entry_in old.table q))
    → ((q : ℕ) → tried_of new.table q ≡ cond (nat_eq query q) 0 (tried_of old.table q))
    → (core_of new).progress ≡ without_progress query (core_of old).progress
closed_progress old new by query code cached evaluated e sets left =
    ap (λ (qs : List Open). progress_of qs (entry_in new.table) (tried_of new.table))
    (queries_entered (core_of old) (core_of new) by (answer query code cached evaluated) e)
    ∙ far_closed query (machine_in old).queries (entry_in old.table) (entry_in new.table) (tried_of old.table) (tried_of new.table) sets left

-- only the code of a query that a failed job stopped is 500
code_500 : (l : Limits) (o : Open) (given : Bool) (stop : Option Stop) (code : ℕ) → IsCodeBy l o given stop code → 5 * cond (nat_eq code 500) 1 0 ≤ last_tries stop
code_500 l o given None code h = by (answer_of l o) h.1 where
  by : (a : Answer) → code ≡ code_of a → 5 * cond (nat_eq code 500) 1 0 ≤ 0
  by (gathered rows) e = subst (λ n. 5 * cond (nat_eq n 500) 1 0 ≤ 0) (sym e) (omega arith)
  by (failed step kind) e = subst (λ n. 5 * cond (nat_eq n 500) 1 0 ≤ 0) (sym e) (omega arith)
code_500 l o given (Some (Cancelled place)) code h = subst (λ n. 5 * cond (nat_eq n 500) 1 0 ≤ 0) (sym h) (omega arith)
code_500 l o given (Some (Exhausted job)) code h = subst (λ n. 5 * cond (nat_eq n 500) 1 0 ≤ 5) (sym h) (omega arith)
code_500 l o given (Some Starved) code h = subst (λ n. 5 * cond (nat_eq n 500) 1 0 ≤ 0) (sym h) (omega arith)

-- how an open query is stopped, by the table
stop_told : (s : State) (query : ℕ) (o : Open) (p : QueryProgress) (d : EntryData) → open_at query (machine_in s).queries ≡ Some o
    → progress_at query (core_of s).progress ≡ Some p → entry_in s.table query ≡ Some d → p.stop ≡ d.stop
stop_told s query o p d there is entry =
    let far : Some p ≡ Some (far_of query (Some d) (tried_of s.table query)) =
    sym is ∙ far_at query (machine_in s).queries (entry_in s.table) (tried_of s.table) o there
    ∙ ap (λ (x : Option EntryData). Some (far_of query x (tried_of s.table query))) entry in
    let same : p ≡ far_of query (Some d) (tried_of s.table query) = cc in
    ap (λ (x : QueryProgress). x.stop) same

-- a query is answered
pub answered_state : (old new : State) (by : By) (query code cached evaluated : ℕ) (o : Open) → IsState old → HasHistory new
    → Enters (core_of old) by (answer query code cached evaluated) (core_of new)
    → open_at query (machine_in old).queries ≡ Some o → IsAnswerable (core_of old) query code
    → IsClosed old.table query new.table → IsTable new.table → KeepsFailures old new → IsState new
answered_state old new by query code cached evaluated o h history e found may s t k =
    let l = old.limits in
    let entry = entry_there l (open_at query (machine_in old).queries) (entry_in old.table query) o (h.jobs.outstanding query) found in
    let ends : Ends old.table query entry.kept new.table =
    subst (λ (x : Option EntryData). MatchOption x (IsSameTable old.table new.table) (λ d. Ends old.table query d new.table)) entry.there s in
    state_entered old new by (answer query code cached evaluated) h history e t k
    (outstanding_answered l query (machine_in old).queries (entry_in old.table) (entry_in new.table) h.jobs.outstanding ends.entries)
    (jobs_with (map entry_of old.journal.items) l entry.kept.tenant (waiting_of old.table) (waiting_of new.table) _ h.jobs.waiting_for ends.queues.waiting
    (each_filter _ (is_other_job query) (waiting_of old.table entry.kept.tenant) (h.jobs.waiting_for entry.kept.tenant))
    (λ v d. (ends.queues.others v d).waiting))
    (let far : tried_in (core_of new).progress ≡ tried_in (progress_of (closed query (machine_in old).queries) (entry_in new.table) (tried_of new.table)) =
    ap tried_in
    (ap (λ (qs : List Open). progress_of qs (entry_in new.table) (tried_of new.table))
    (queries_entered (core_of old) (core_of new) by (answer query code cached evaluated) e)) in
    let now = tried_over (closed query (machine_in old).queries) (entry_in new.table) (tried_of new.table) in
    let was = tried_over (machine_in old).queries (entry_in old.table) (tried_of old.table) in
    let others : (q : ℕ) → (q ≡ query → ⊥) → tried_of new.table q ≡ tried_of old.table q = λ q d.
    (let other : nat_eq query q ≡ false = apart query q (λ x. d (sym x)) in rw other at (ends.tried q)) in
    let gone = over_gone query (tried_of old.table) (tried_of new.table) others (machine_in old).queries o found in
    let stop = ap last_tries (sym may.opened.stop_is ∙ stop_told old query may.opened.opened may.opened.far entry.kept may.opened.is_open may.opened.is_far entry.there) in
    let one = code_500 old.limits may.opened.opened may.opened.far.given may.stop code may.coded in
    let five = five_tried old.table query entry.kept h.table entry.there in
    omega (arith, far, now, was, gone, stop, one, five))
    (truth_kept old new by (answer query code cached evaluated) e refl k.results h.stands.kept)

pub closed_jobs : (old new : State) (by : By) (query code cached evaluated : ℕ) (o : Open) → IsState old
    → Enters (core_of old) by (answer query code cached evaluated) (core_of new) → open_at query (machine_in old).queries ≡ Some o
    → IsClosed old.table query new.table → IsTable new.table → KeepsFailures old new → AreClosed (core_of old) query (core_of new)
closed_jobs old new by query code cached evaluated o h e found s t k = record {
  left = λ p there.
      let entry = entry_there old.limits (open_at query (machine_in old).queries) (entry_in old.table query) p (h.jobs.outstanding query) there in
      let ends : Ends old.table query entry.kept new.table =
      subst (λ (x : Option EntryData). MatchOption x (IsSameTable old.table new.table) (λ d. Ends old.table query d new.table)) entry.there s in
      let left = left_by old new entry.kept.tenant query (filter (is_other_hand query) (hands_of old.table entry.kept.tenant)) h.table t ends.queues in
      subst (λ u. IsLeft (core_of old) u query (filter (is_other_hand query) (queue_at (core_of old) u).hands) (core_of new)) entry.is.tenant
      (subst (λ (hs : List Hand). IsLeft (core_of old) entry.kept.tenant query (filter (is_other_hand query) hs) (core_of new))
      (sym (ap (λ (q : QueueHeads). q.hands) (queue_is old h.table entry.kept.tenant))) left);
  failed = ap (λ (v : _). v.items) k.failed;
  kept = k.results;
  progress =
      let entry = entry_there old.limits (open_at query (machine_in old).queries) (entry_in old.table query) o (h.jobs.outstanding query) found in
      let ends : Ends old.table query entry.kept new.table =
      subst (λ (x : Option EntryData). MatchOption x (IsSameTable old.table new.table) (λ d. Ends old.table query d new.table)) entry.there s in
      closed_progress old new by query code cached evaluated e ends.entries ends.tried;
}

-- ---- a query is opened

-- what is asked of the table
pub unopened : (s : State) → IsState s → entry_in s.table (length s.journal.items) ≡ None
unopened s h =
    none_there s.limits (open_at (length s.journal.items) (machine_in s).queries) (entry_in s.table (length s.journal.items))
    (h.jobs.outstanding (length s.journal.items)) (later (machine_in s).queries
    (subst (λ k. Each (λ q. q.place < k) (machine_in s).queries) (counted s) h.history.keeps.are_open.below)) where
      later : (qs : List Open) → Each (λ q. q.place < length s.journal.items) qs → open_at (length s.journal.items) qs ≡ None
      later [] below = refl
      later (q ∷ qs) below =
          let low = below.0 in
          let other : nat_eq q.place (length s.journal.items) ≡ false = grind (arith, nat_tests, low) in
          rw other (later qs below.1)

never_tried : (t : Table) (query : ℕ) → entry_in t query ≡ None → tried_of t query ≡ 0
never_tried t query h = by (get nat_eq t.entries query) h where
  by : (raw : Option table_entry.Entry) → option_map table.data_of raw ≡ None → tried_by raw ≡ 0
  by None h = refl
  by (Some e) h = cc

opened_jobs : (old new : State) (u : ℕ) → table.IsOpened old.table (length old.journal.items) u new.table → KeepsFailures old new
    → AreSameJobs (core_of old) (core_of new)
opened_jobs old new u o k = record {
  queues = λ i. by_tenant (λ v. record {
    waiting = map head_of ((o.queues.queues v).waiting i);
    hands = (o.queues.queues v).hands i;
  });
  ring = o.queues.ring;
  failed = ap (λ (v : _). v.items) k.failed;
  kept = k.results;
}

-- the work on it is not begun
pub opened_work : (old new : State) (by : By) (what : What) (o : Open) (place : ℕ) → IsState old → Enters (core_of old) by what (core_of new)
    → queries_after (machine_in old) what ≡ (machine_in old).queries ++ o ∷ []
    → o.place ≡ length old.journal.items → place ≡ length old.journal.items
    → table.IsOpened old.table (length old.journal.items) o.tenant new.table → KeepsFailures old new → AreBegun (core_of old) place (core_of new)
opened_work old new by what o place h e more here at_end opened k = (
  opened_jobs old new o.tenant opened k,
  (λ i. progress_of ((queries_entered (core_of old) (core_of new) by what e ∙ more) i) (entry_in new.table) (tried_of new.table))
      ∙ far_opened (length old.journal.items) (machine_in old).queries o (entry_in old.table) (entry_in new.table) (tried_of old.table) (tried_of new.table) _
      opened.entries opened.tried
      (subst (λ n. Each (λ q. q.place < n) (machine_in old).queries) (counted old) h.history.keeps.are_open.below) here
      (ap (far_of (length old.journal.items) (Some (record { tenant = o.tenant; stop = None; work = None })))
      (opened.tried (length old.journal.items) ∙ never_tried old.table (length old.journal.items) (unopened old h)))
      ∙ ap (λ n. (core_of old).progress ++ begun n ∷ []) (sym at_end),
)

pub opened_state : (old new : State) (by : By) (what : What) (o : Open) → StayTrue → IsState old → HasHistory new → Enters (core_of old) by what (core_of new)
    → queries_after (machine_in old) what ≡ (machine_in old).queries ++ o ∷ []
    → o.place ≡ length old.journal.items → o.cancelled ≡ None → is_500 what ≡ 0
    → table.IsOpened old.table (length old.journal.items) o.tenant new.table → IsTable new.table → KeepsFailures old new → IsState new
opened_state old new by what o law h history e more place whole none opened t k =
    state_entered old new by what h history e t k
    (λ p. subst (λ (qs : List Open). IsOutstanding old.limits (open_at p qs) (entry_in new.table p)) (sym more)
    (outstanding_opened old.limits (length old.journal.items) (machine_in old).queries o (entry_in old.table) (entry_in new.table)
    h.jobs.outstanding opened.entries
    (subst (λ n. Each (λ q. q.place < n) (machine_in old).queries) (counted old) h.history.keeps.are_open.below) place whole p))
    (λ u. subst (λ (js : List Job). Each (JobStands (map entry_of old.journal.items) old.limits) js) (sym (opened.queues.queues u).waiting)
    (h.jobs.waiting_for u))
    (let work = opened_work old new by what o (length old.journal.items) h e more place refl opened k in
    let far = ap tried_in work.1 in
    let one = tried_begun (length old.journal.items) (core_of old).progress in
    omega (arith, none, far, one))
    (truth_grown old new by what law e k.results h.stands.kept)

-- a query that was opened and ended again left nothing behind

same_filter : {X : Type 0} (p : X → Bool) (xs : List X) → Each (λ x. p x ≡ true) xs → filter p xs ≡ xs
same_filter p [] h = refl
same_filter p (x ∷ xs) h = let t = h.0 in rw t (ap (λ (ys : List _). x ∷ ys) (same_filter p xs h.1))

each_so : {X : Type 0} (P Q : X → Type 0) → ((x : X) → P x → Q x) → (xs : List X) → Each P xs → Each Q xs
each_so P Q f [] h = tt
each_so P Q f (x ∷ xs) h = (f x h.0, each_so P Q f xs h.1)

without_absent : (u : ℕ) (us : List ℕ) → waits u us ≡ false → without u us ≡ us
without_absent u [] h = refl
without_absent u (v ∷ us) h = elim (bool_cases (v == u)) [
  | inl t ↦ let f : true ≡ false = rw t at h in cc
  | inr t ↦ let f : waits u us ≡ false = rw t at h in rw t (ap (λ (xs : List ℕ). v ∷ xs) (without_absent u us f))
]

other_job : (t : Table) (place u : ℕ) → entry_in t place ≡ None → (j : Job) → IsWaiting (entry_in t) u j → is_other_job place j ≡ true
other_job t place u none j h = elim (bool_cases (nat_eq j.head.query place)) [
  | inl e ↦
      let same : j.head.query ≡ place = grind (arith, nat_tests, e) in
      let gone : entry_in t j.head.query ≡ None = subst (λ q. entry_in t q ≡ None) (sym same) none in
      let there = h.entry in cc
  | inr e ↦ rw e refl
]

other_hand : (t : Table) (place u : ℕ) → entry_in t place ≡ None → (x : Hand) → IsInHand (entry_in t) u x → is_other_hand place x ≡ true
other_hand t place u none x h = elim (bool_cases (nat_eq x.head.query place)) [
  | inl e ↦
      let same : x.head.query ≡ place = grind (arith, nat_tests, e) in
      let gone : entry_in t x.head.query ≡ None = subst (λ q. entry_in t q ≡ None) (sym same) none in
      let there = h.entry in cc
  | inr e ↦ rw e refl
]

ring_stays : (ring : List ℕ) (u : ℕ) (js : List Job) → waits u ring ≡ not (is_empty js) → cond (is_empty js) (without u ring) ring ≡ ring
ring_stays ring u [] h = without_absent u ring h
ring_stays ring u (j ∷ js) h = refl

pub undone : (before mid after : Table) (place u : ℕ) → IsTable before → IsTable after → entry_in before place ≡ None
    → table.IsOpened before place u mid → IsClosed mid place after → IsSameTable before after
undone before mid after place u h k none opened closed = record {
  entries = λ q. elim (bool_cases (nat_eq place q)) [
    | inl t ↦
        let same : place ≡ q = grind (arith, nat_tests, t) in
        let gone : entry_in after q ≡ None = rw t at (ends.entries q) in
        gone ∙ sym (subst (λ x. entry_in before x ≡ None) same none)
    | inr t ↦
        let first : entry_in after q ≡ entry_in mid q = rw t at (ends.entries q) in
        let then : entry_in mid q ≡ entry_in before q = rw t at (opened.entries q) in
        first ∙ then
  ];
  queues = record { queues = λ v. record { waiting = waiting v; hands = hands v }; ring = ring };
  tries = sym (tries_table after k)
      ∙ ap (λ (f : ℕ → QueueHeads). tries_in (by_tenant f)) (λ i v. record { waiting = map head_of (waiting v i); hands = hands v i })
      ∙ tries_table before h;
  tried = λ q. elim (bool_cases (nat_eq place q)) [
    | inl t ↦
        let same : place ≡ q = grind (arith, nat_tests, t) in
        let gone : tried_of after q ≡ 0 = rw t at (ends.tried q) in
        gone ∙ sym (subst (λ x. tried_of before x ≡ 0) same (never_tried before place none))
    | inr t ↦
        let first : tried_of after q ≡ tried_of mid q = rw t at (ends.tried q) in
        first ∙ opened.tried q
  ];
} where
  kept : EntryData
  kept = record { tenant = u; stop = None; work = None }

  own : nat_eq place place ≡ true
  own = grind (arith, nat_tests)

  now : entry_in mid place ≡ Some kept
  now = rw own at (opened.entries place)

  ends : Ends mid place kept after
  ends = subst (λ (x : Option EntryData). MatchOption x (IsSameTable mid after) (λ d. Ends mid place d after)) now closed

  left : filter (is_other_job place) (waiting_of mid u) ≡ waiting_of before u
  left = ap (filter (is_other_job place)) ((opened.queues.queues u).waiting)
      ∙ same_filter (is_other_job place) (waiting_of before u) (each_so _ _ (other_job before place u none) (waiting_of before u) (h.agree.all_waiting u))

  held : filter (is_other_hand place) (hands_of mid u) ≡ hands_of before u
  held = ap (filter (is_other_hand place)) ((opened.queues.queues u).hands)
      ∙ same_filter (is_other_hand place) (hands_of before u) (each_so _ _ (other_hand before place u none) (hands_of before u) (h.agree.all_in_hand u))

  waiting : (v : ℕ) → waiting_of after v ≡ waiting_of before v
  waiting v = elim (bool_cases (nat_eq v u)) [
    | inl t ↦
        let same : v ≡ u = grind (arith, nat_tests, t) in
        subst (λ x. waiting_of after x ≡ waiting_of before x) (sym same) (ends.queues.waiting ∙ left)
    | inr t ↦ (ends.queues.others v (λ e. grind (arith, nat_tests, t, e))).waiting ∙ (opened.queues.queues v).waiting
  ]

  hands : (v : ℕ) → hands_of after v ≡ hands_of before v
  hands v = elim (bool_cases (nat_eq v u)) [
    | inl t ↦
        let same : v ≡ u = grind (arith, nat_tests, t) in
        subst (λ x. hands_of after x ≡ hands_of before x) (sym same) (ends.queues.hands ∙ held)
    | inr t ↦ (ends.queues.others v (λ e. grind (arith, nat_tests, t, e))).hands ∙ (opened.queues.queues v).hands
  ]

  ring : ring_of after ≡ ring_of before
  ring = ends.queues.ring
      ∙ (λ i. cond (is_empty (left i)) (without u (opened.queues.ring i)) (opened.queues.ring i))
      ∙ ring_stays (ring_of before) u (waiting_of before u) (h.queues.in_ring u)
