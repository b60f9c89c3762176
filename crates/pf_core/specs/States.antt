-- What a core keeps beside its journal, and how its steps change it. This project's own.
use Rattle.std.specs.Arc.{arc_value}
use Rattle.std.specs.HashMap.{get}
use Rattle.std.specs.Prelude.{◌≡◌, ◌⊎◌, ℕ, ◌+◌, ◌-◌, ◌*◌, ◌/◌, ◌%◌, ◌<◌, ◌≤◌, true, false, cond, map, nat_eq, IfSome, Option, Some, None, List, [], ◌∷◌, ◌++◌, length, slice_get, sum, vec_capacity}
use Rattle.pf_base.specs.Batches.{BatchData}
use Rattle.pf_base.specs.GridLists.{GridData}
use Rattle.pf_base.specs.Grids.{points}
use Rattle.pf_base.specs.declared.plain.By.{By}
use Rattle.pf_base.specs.declared.plain.Limits.{Limits}
use Rattle.pf_journal.specs.Asking.{Asked}
use Rattle.pf_journal.specs.Legal.{AreNames, Legal, machine_after}
use Rattle.pf_journal.specs.Machine as machine
use Rattle.pf_journal.specs.Weave.{failed_answers}
use Rattle.pf_journal.specs.Machine.{CanBeCached, Machine, Open, What, append, ask, cancel, delete, log_of, open_at, open_of, reserved, started}
use Rattle.pf_model.specs.Lists.{Each}
use Rattle.pf_model.specs.Log.{Change, Rules, log_with, log_without, rules_of, store_of, verdicts_of}
use Rattle.pf_model.specs.declared.expr.Matcher.{Matcher}
use Rattle.pf_shard.specs.declared.parts.Part.{Part}
use Rattle.pf_query.specs.Entries.{cached_steps_of, is_given_out, is_offered, is_planned}
use Rattle.pf_query.specs.Tables.{EntryData, IsClosed, IsSameTable, IsTable, entry_in, hands_of, ring_of, tried_of, waiting_of}
use Rattle.pf_query.specs.Works.{WorkData, legs_in}
use Rattle.pf_query.specs.declared.job.Job.{Job}
use Rattle.pf_query.specs.declared.slot.Slot.TheVariants.{Filled}
use Rattle.pf_query.specs.declared.table.Table.{Table}
use Rattle.pf_shard.specs.Bound.{AreEvaluable}
use Rattle.pf_shard.specs.Lawful.{legs_data}
use Rattle.pf_shard.specs.LegParts.{FitsNodes}
use Rattle.pf_store.specs.Standing.{IsLog, IsPin, LogData, deleted_after, verdicts_after}
use Rattle.pf_store.specs.Verdicts.{VerdictsData}
use Rattle.pf_store.specs.declared.tenant_log.Deleted.{Deleted}
use Rattle.pf_core.specs.Cores.{AreLimits, CoreData, Stands}
use Rattle.pf_core.specs.Entries.{entry_of, what_of}
use Rattle.pf_core.specs.Jobs.{AreDivided, AreRunsOf, IsForAsk, IsValueOver, QueueHeads, by_tenant, legs_asked}
use Rattle.pf_core.specs.Progress.{GoesWithPlan, QueryProgress, begun, cancel_in, tried_in}
use Rattle.pf_core.specs.Seats.{TenantsData, counted_as, settled}
use Rattle.pf_core.specs.declared.query.Query.{Query}
use Rattle.pf_core.specs.declared.state.Opening.{Opening}
use Rattle.pf_core.specs.declared.state.State.{State}
use Rattle.pf_core.specs.declared.tenants.Seat.{Seat}

-- each log that is kept is that of its tenant
abbrev pub KeepsLogs : Rules → List LogData → List (List Change) → Type 0
KeepsLogs rules kept logs =
    (u : ℕ) (d : LogData) → slice_get kept u ≡ Some d → IsLog rules d (log_of logs u)

-- each count that is kept is that of its tenant's open queries
abbrev pub KeepsCounts : List ℕ → List Open → Type 0
KeepsCounts kept qs = (u n : ℕ) → slice_get kept u ≡ Some n → n ≡ open_of u qs

-- no count that is kept is over a number
abbrev pub AreWithin : ℕ → List ℕ → Type 0
AreWithin limit kept = (u n : ℕ) → slice_get kept u ≡ Some n → n ≤ limit

-- open queries stand in the order of their places, from a least one on
abbrev pub Above : ℕ → List Open → Type 0
Above least [] = Unit {0}
Above least (o ∷ os) = (least ≤ o.place) × Above (o.place + 1) os

pub record AreOpen (m : Machine) : Type 0 where
  pub apart : Above 0 m.queries
  pub below : Each (λ o. o.place < m.count) m.queries
  pub known : Each (λ o. o.tenant < length m.logs) m.queries

-- a query that is kept is that of the machine, and its pin is that of its tenant's log at the ask
pub record IsQuery (rules : Rules) (q : Query) (o : Open) : Type 0 where
  pub tenant : o.tenant ≡ q.tenant
  pub asked : o.asked ≡ arc_value q.asked
  pub pinned : IsPin q.pin rules o.log
  pub cancelled : o.cancelled ≡ q.cancelled

-- what is kept at a place is what the machine has there
abbrev pub IsKept : Rules → Option Query → Option Open → Type 0
IsKept rules None None = Unit {0}
IsKept rules None (Some o) = ⊥
IsKept rules (Some q) None = ⊥
IsKept rules (Some q) (Some o) = IsQuery rules q o

-- a query that is kept, cancelled at a place
abbrev pub cancelled_query : (place : ℕ) → Option Query → Option Query
cancelled_query place None = None
cancelled_query place (Some q) = Some (record { tenant = q.tenant; asked = q.asked; pin = q.pin; cancelled = Some place })

abbrev pub KeepsQueries : Rules → (ℕ → Option Query) → List Open → Type 0
KeepsQueries rules kept qs = (place : ℕ) → IsKept rules (kept place) (open_at place qs)

-- what is kept beside the journal is what the machine has
pub record Keeps (l : Limits) (t : TenantsData) (kept : ℕ → Option Query) (room : ℕ) (m : Machine) : Type 0 where
  pub keeps_logs : KeepsLogs (rules_of l) t.logs m.logs
  pub keeps_counts : KeepsCounts t.counts m.queries
  pub within : AreWithin l.journal t.counts
  pub keeps_queries : KeepsQueries (rules_of l) kept m.queries
  pub keeps_room : room ≡ reserved m.queries
  pub are_open : AreOpen m

abbrev pub kept_in : State → ℕ → Option Query
kept_in s place = get nat_eq s.queries place

-- what is said of a tenant's jobs
abbrev pub heads_in : Table → ℕ → QueueHeads
heads_in t u = record { waiting = map (λ j. j.head) (waiting_of t u); hands = hands_of t u }

-- the runs of a query's jobs
abbrev pub runs_of : Option WorkData → List GridData
runs_of None = []
runs_of (Some w) = w.runs

-- how far the work on a query is, by what the table keeps of it, and how often its jobs failed
abbrev pub far_of : ℕ → Option EntryData → (tried : ℕ) → QueryProgress
far_of query None tried = record (begun query) { tried = tried }
far_of query (Some e) tried = record {
  query = query;
  stop = e.stop;
  planned = is_planned e.work;
  given = is_given_out e.work;
  runs = runs_of e.work;
  cached = cached_steps_of e.work;
  offered = is_offered e.work;
  tried = tried;
}

-- and on each of these open queries
abbrev pub progress_of : List Open → (ℕ → Option EntryData) → (tried : ℕ → ℕ) → List QueryProgress
progress_of qs entries tried = map (λ o. far_of o.place (entries o.place) (tried o.place)) qs

abbrev pub machine_in : State → Machine
machine_in s = machine_after started (map entry_of s.journal.items)

abbrev pub core_of : State → CoreData
core_of s = record {
  limits = s.limits;
  names = s.tenants.names;
  journal = map entry_of s.journal.items;
  progress = progress_of (machine_in s).queries (entry_in s.table) (tried_of s.table);
  queues = by_tenant (heads_in s.table);
  ring = ring_of s.table;
  failed = s.failed.items;
  kept = s.results;
}

-- the entries have room in memory for what open queries keep
abbrev pub HasCapacity : State → Type 0
HasCapacity s = length s.journal.items + s.reserved ≤ vec_capacity s.journal

-- a journal is legal, and names are those of its tenants
pub record IsLegal (c : CoreData) : Type 0 where
  pub limits : AreLimits c.limits
  pub legal : Legal c.limits c.names c.journal
  pub names : AreNames c.names c.journal

-- a state stands for its journal, whose entries have room for what open queries keep
pub record HasHistory (s : State) : Type 0 where
  pub stands : IsLegal (core_of s)
  pub keeps : Keeps s.limits s.tenants (kept_in s) s.reserved (machine_in s)
  pub fits : length s.journal.items + s.reserved ≤ s.limits.journal
  pub capacity : HasCapacity s

-- ---- jobs

-- what is kept of a planned query: its legs are those of what was asked; its runs are its steps but those of some cells, which are
-- the cached ones while the parts aren't handed out; these are at most all steps, and no more than may be cached; an instant query is
-- offered; and each part that is stored is of the legs' kind, and the value of its leg over its run
pub record IsWorkOf (l : Limits) (o : Open) (w : WorkData) : Type 0 where
  pub legs_are : legs_data w.legs ≡ legs_asked l.shards o
  pub evaluable : AreEvaluable w.legs.resolved
  pub runs : AreRunsOf l o w.runs
  pub divided : w.given ≡ false → AreDivided l o w.cached w.runs
  pub few : w.cached_steps ≤ length (points o.asked.query.grid)
  pub reused : CanBeCached l o w.cached_steps
  pub once : o.asked.instant ≡ true → w.offered ≡ true
  pub fits : (i : ℕ) (part : Part) → slice_get w.slots i ≡ Some (Filled part) → FitsNodes w.legs.nodes part
  pub values : (i : ℕ) (run : GridData) (part : Part) → slice_get w.runs (i / legs_in w.legs) ≡ Some run → slice_get w.slots i ≡ Some (Filled part)
      → IsValueOver (store_of (rules_of l) o.log).samples (legs_data w.legs) (i % legs_in w.legs) run part

-- what the table keeps of an open query
pub record IsEntryOf (l : Limits) (o : Open) (e : EntryData) : Type 0 where
  pub tenant : e.tenant ≡ o.tenant
  pub stop : cancel_in e.stop ≡ o.cancelled
  pub stopped_when : GoesWithPlan e.stop (is_planned e.work)
  pub work : IfSome e.work (IsWorkOf l o)

-- the table keeps an entry of each open query, and of no other
abbrev pub IsOutstanding : Limits → Option Open → Option EntryData → Type 0
IsOutstanding l None None = Unit {0}
IsOutstanding l None (Some e) = ⊥
IsOutstanding l (Some o) None = ⊥
IsOutstanding l (Some o) (Some e) = IsEntryOf l o e

abbrev pub JobStands : List machine.Entry → Limits → Job → Type 0
JobStands journal l j = IsForAsk journal l j.head (arc_value j.legs) j.run (arc_value j.snap)

-- what the table keeps goes with the open queries, and each job that waits is one of its query's
pub record AreJobs (journal : List machine.Entry) (l : Limits) (qs : List Open) (entries : ℕ → Option EntryData) (waiting : ℕ → List Job) : Type 0 where
  pub outstanding : (place : ℕ) → IsOutstanding l (open_at place qs) (entries place)
  pub waiting_for : (u : ℕ) → Each (JobStands journal l) (waiting u)

-- the counts of failed tries
pub record AreCounts (failed : List ℕ) (total : ℕ) : Type 0 where
  pub actors : length failed ≡ 32
  pub summed : sum failed ≡ total

-- a failed try more is counted than is told of jobs, unless the total stands at its greatest value
abbrev pub IsAhead : CoreData → Type 0
IsAhead c = (sum c.failed ≡ 18446744073709551615) ⊎ (5 * failed_answers c.journal + tried_in c.progress + 1 ≤ sum c.failed)

-- a state stands for its journal, and its table for the open queries
pub record IsState (s : State) : Type 0 where
  pub stands : Stands (core_of s)
  pub history : HasHistory s
  pub table : IsTable s.table
  pub jobs : AreJobs (map entry_of s.journal.items) s.limits (machine_in s).queries (entry_in s.table) (waiting_of s.table)
  pub counts : AreCounts s.failed.items s.total

-- the table, the counts and the cache are as they were
pub record KeepsJobs (old new : State) : Type 0 where
  pub table : new.table ≡ old.table
  pub results : new.results ≡ old.results
  pub failed : new.failed ≡ old.failed
  pub total : new.total ≡ old.total

-- the counts of failed tries and the cache are as they were
pub record KeepsFailures (old new : State) : Type 0 where
  pub results : new.results ≡ old.results
  pub failed : new.failed ≡ old.failed
  pub total : new.total ≡ old.total

-- all but the table, the counts and the cache is as it was
pub record KeepsHistory (old new : State) : Type 0 where
  pub limits : new.limits ≡ old.limits
  pub tenants : new.tenants ≡ old.tenants
  pub queries : new.queries ≡ old.queries
  pub reserved : new.reserved ≡ old.reserved
  pub journal : new.journal ≡ old.journal

-- all but the cache is as it was
pub record IsSameButCache (old new : State) : Type 0 where
  pub history : KeepsHistory old new
  pub table : new.table ≡ old.table
  pub failed : new.failed ≡ old.failed
  pub total : new.total ≡ old.total

-- the table is as it was, as far as contracts see it
pub record IsSameJobs (old new : State) : Type 0 where
  pub table : IsSameTable old.table new.table
  pub results : new.results ≡ old.results
  pub lawful : IsTable old.table → IsTable new.table
  pub failed : new.failed ≡ old.failed
  pub total : new.total ≡ old.total

-- ---- what steps leave

-- nothing changed but room in memory
pub record IsSame (old new : State) : Type 0 where
  pub limits : new.limits ≡ old.limits
  pub tenants : new.tenants ≡ old.tenants
  pub queries : (place : ℕ) → kept_in new place ≡ kept_in old place
  pub reserved : new.reserved ≡ old.reserved
  pub journal : new.journal.items ≡ old.journal.items
  pub capacity : vec_capacity old.journal ≤ vec_capacity new.journal
  pub jobs : IsSameJobs old new

-- an entry stands at the journal's end, and nothing else changed
pub record IsNoted (old : State) (by : By) (what : What) (new : State) : Type 0 where
  pub limits : new.limits ≡ old.limits
  pub tenants : new.tenants ≡ old.tenants
  pub queries : new.queries ≡ old.queries
  pub reserved : new.reserved ≡ old.reserved
  pub journal : map entry_of new.journal.items ≡ map entry_of old.journal.items ++ record { client = by.client; line = by.line; what = what } ∷ []
  pub many : length new.journal.items ≡ length old.journal.items + 1
  pub capacity : vec_capacity new.journal ≡ vec_capacity old.journal
  pub jobs : KeepsJobs old new

-- a step: an entry, with the tenants, the open queries and the room for these behind it
pub record Steps (old : State) (by : By) (what : What) (t : TenantsData) (kept : ℕ → Option Query) (room : ℕ) (new : State) : Type 0 where
  pub limits : new.limits ≡ old.limits
  pub tenants : new.tenants ≡ t
  pub queries : (place : ℕ) → kept_in new place ≡ kept place
  pub reserved : new.reserved ≡ room
  pub journal : map entry_of new.journal.items ≡ map entry_of old.journal.items ++ record { client = by.client; line = by.line; what = what } ∷ []
  pub many : length new.journal.items ≡ length old.journal.items + 1
  pub capacity : HasCapacity new

-- an entry that changes nothing else
abbrev pub IsTold : State → By → What → State → Type 0
IsTold old by what new = Steps old by what old.tenants (kept_in old) old.reserved new

-- an entry with a seat's log
abbrev pub IsEntered : State → By → Seat → What → State → Type 0
IsEntered old by seat what new =
    Steps old by what (settled old.tenants seat.number seat.log seat.newcomer) (kept_in old) old.reserved new

-- the open queries with one more
abbrev pub with_query : (ℕ → Option Query) → ℕ → Query → ℕ → Option Query
with_query kept place query p = cond (nat_eq place p) (Some query) (kept p)

-- with one cancelled
abbrev pub with_cancel : (ℕ → Option Query) → (query place : ℕ) → ℕ → Option Query
with_cancel kept query place p = cond (nat_eq query p) (cancelled_query place (kept p)) (kept p)

-- and without one
abbrev pub without_query : (ℕ → Option Query) → ℕ → ℕ → Option Query
without_query kept query p = cond (nat_eq query p) None (kept p)

-- a query was opened for a seat, whose tenant had so many
abbrev pub IsOpenedFor : State → By → Seat → ℕ → Query → What → State → Type 0
IsOpenedFor old by seat outstanding query what new =
    Steps old by what (counted_as (settled old.tenants seat.number seat.log seat.newcomer) seat.number (outstanding + 1))
    (with_query (kept_in old) (length old.journal.items) query) (old.reserved + 2) new

-- an open query was cancelled
abbrev pub IsCancelledAt : State → By → ℕ → State → Type 0
IsCancelledAt old by query new =
    Steps old by (cancel query) old.tenants (with_cancel (kept_in old) query (length old.journal.items)) (old.reserved - 1) new

-- a batch was taken into a seat's log
pub record TakesIn (old : Seat) (batch : BatchData) (verdicts : VerdictsData) (said : What) (new : Seat) : Type 0 where
  pub number : new.number ≡ old.number
  pub newcomer : new.newcomer ≡ old.newcomer
  pub judged : (rules : Rules) (log : List Change) → IsLog rules old.log log → verdicts ≡ verdicts_after rules log batch.rows
  pub stands : (rules : Rules) (log : List Change) → IsLog rules old.log log
      → IsLog rules new.log (log_with log batch.rows (verdicts_of rules log batch.rows))
  pub what : said ≡ append old.number batch verdicts.list verdicts.entry

-- samples of a seat's log were deleted
pub record CutsOut (old : Seat) (matchers : List Matcher) (from to : ℕ) (deleted : Deleted) (said : What) (new : Seat) : Type 0 where
  pub number : new.number ≡ old.number
  pub newcomer : new.newcomer ≡ old.newcomer
  pub told : (rules : Rules) (log : List Change) → IsLog rules old.log log → deleted ≡ deleted_after rules (log_without log matchers from to)
  pub stands : (rules : Rules) (log : List Change) → IsLog rules old.log log → IsLog rules new.log (log_without log matchers from to)
  pub what : said ≡ delete old.number matchers from to deleted.generation deleted.entry

-- what an ask of a seat opens
pub record IsOpening (seat : Seat) (wanted : Asked) (o : Opening) : Type 0 where
  pub tenant : o.query.tenant ≡ seat.number
  pub asked : arc_value o.query.asked ≡ wanted
  pub kept : (rules : Rules) (log : List Change) → IsLog rules seat.log log → IsPin o.query.pin rules log
  pub uncancelled : o.query.cancelled ≡ None
  pub pinned : (rules : Rules) (log : List Change) → IsLog rules seat.log log → IsPin o.pin rules log
  pub what : what_of o.what ≡ ask seat.number wanted o.pin.number o.pin.generation o.pin.floor

-- a seat was put in, and nothing else changed
pub record IsSettledFor (old : State) (seat : Seat) (new : State) : Type 0 where
  pub limits : new.limits ≡ old.limits
  pub tenants : new.tenants ≡ settled old.tenants seat.number seat.log seat.newcomer
  pub queries : new.queries ≡ old.queries
  pub reserved : new.reserved ≡ old.reserved
  pub journal : new.journal ≡ old.journal
  pub jobs : KeepsJobs old new

-- a query ended in the table, and nothing else changed
pub record IsUnsettled (old : State) (query : ℕ) (new : State) : Type 0 where
  pub limits : new.limits ≡ old.limits
  pub tenants : new.tenants ≡ old.tenants
  pub queries : new.queries ≡ old.queries
  pub reserved : new.reserved ≡ old.reserved
  pub journal : new.journal ≡ old.journal
  pub closed : IsClosed old.table query new.table
  pub table : IsTable new.table
  pub failures : KeepsFailures old new
