-- A core as contracts see it: its limits, its tenants' names and its journal, the jobs of its tenants and the failed tries of its
-- actors, and what its calls leave. This project's own.
use Rattle.std.specs.Arc.{arc_value}
use Rattle.std.specs.Prelude.{◌≡◌, ℕ, ◌+◌, ◌*◌, ◌<◌, ◌≤◌, ◌⊎◌, true, not, cond, Option, Some, None, List, [], ◌∷◌, ◌++◌, filter, length, slice_get, slice_index_or, sum}
use Rattle.pf_base.specs.Batches.{BatchData}
use Rattle.pf_base.specs.Limits.{most_entries}
use Rattle.pf_base.specs.declared.plain.By.{By}
use Rattle.pf_base.specs.declared.plain.JobHead.{JobHead}
use Rattle.pf_base.specs.declared.plain.Limits.{Limits}
use Rattle.pf_journal.specs.Asking.{Asked}
use Rattle.pf_journal.specs.Legal.{AreNames, Legal, machine_after}
use Rattle.lru.specs.LruCache.{LruCache, lru_cache}
use Rattle.pf_extent.specs.Steps.{Extents}
use Rattle.pf_extent.specs.declared.key.Key.{Key}
use Rattle.pf_model.specs.Log.{rules_of}
use Rattle.pf_results.specs.Truth.{AreTrue}
use Rattle.pf_journal.specs.Machine.{Entry, Machine, Open, What, append, ask, cancel, delete, full, no_tenant, log_of, most_tenants, open_at, reserved, started}
use Rattle.pf_model.specs.declared.expr.Matcher.{Matcher}
use Rattle.pf_query.specs.Jobs.{is_empty, is_other_hand}
use Rattle.pf_query.specs.Entries.{most_tries}
use Rattle.pf_query.specs.Tables.{hands_with, last_tries, tries_in_hand}
use Rattle.pf_journal.specs.Weave.{failed_answers}
use Rattle.pf_query.specs.declared.job.Hand.{Hand}
use Rattle.pf_query.specs.declared.stop.Stop.TheVariants.{Cancelled}
use Rattle.pf_queue.specs.Rings.{AreDifferent, waits, without}
use Rattle.pf_store.specs.Standing.{IsPin, PinData}
use Rattle.pf_store.specs.Verdicts.{VerdictsData}
use Rattle.pf_store.specs.declared.tenant_log.Deleted.{Deleted}
use Rattle.pf_core.specs.Jobs.{QueueHeads, by_tenant, heads_with, is_other_head, no_failures, no_heads, tries_in, tries_queued}
use Rattle.pf_core.specs.Progress.{GoesWith, QueryProgress, begun, cancel_in, progress_at, stopped, tried_in, with_progress, without_progress}
use Rattle.pf_core.specs.declared.error.AskError.{AskError}
use Rattle.pf_core.specs.declared.error.AskError.TheVariants as ask_error
use Rattle.pf_core.specs.declared.error.CoreError.{CoreError}
use Rattle.pf_core.specs.declared.error.CoreError.TheVariants as core_error
use Rattle.pf_core.specs.declared.answers.Admitted.{Admitted}
use Rattle.pf_core.specs.declared.answers.CancelAnswer.{CancelAnswer}
use Rattle.pf_core.specs.declared.answers.CancelAnswer.TheVariants.{Done, NotOutstanding, OtherTenant, Already}
use Rattle.pf_core.specs.declared.answers.Opened.{Opened}

-- the names and the queues stand by tenant, the counts of failed tries by actor; how far the work on open queries is stands in the
-- order of their asks; the ring has the tenants whose jobs wait, in the order in which they are served; extents are kept under
-- keys, the key used last first
pub record CoreData : Type 0 where
  pub limits : Limits
  pub names : List (List ℕ)
  pub journal : List Entry
  pub progress : List QueryProgress
  pub queues : List QueueHeads
  pub ring : List ℕ
  pub failed : List ℕ
  pub kept : LruCache Key Extents

-- a core in which nothing was done
abbrev pub started_core : Limits → CoreData
started_core l =
    record {
      limits = l;
      names = [];
      journal = [];
      progress = [];
      queues = by_tenant (λ _. no_heads);
      ring = [];
      failed = no_failures;
      kept = lru_cache [] l.extents;
    }

-- a tenant's queue
abbrev pub queue_at : CoreData → ℕ → QueueHeads
queue_at c u = slice_index_or c.queues u no_heads

-- how many jobs of a query wait, and how many are in hand
abbrev pub queued_of : CoreData → (tenant query : ℕ) → ℕ
queued_of c u query = heads_with query (queue_at c u).waiting

abbrev pub in_hand_of : CoreData → (tenant query : ℕ) → ℕ
in_hand_of c u query = hands_with query (queue_at c u).hands

-- how often the jobs that wait may be tried still, all together
abbrev pub tries_left : CoreData → ℕ
tries_left c = tries_in c.queues

-- the machine behind the journal
abbrev pub machine_of : CoreData → Machine
machine_of c = machine_after started c.journal

-- the limits that a core has
pub record AreLimits (l : Limits) : Type 0 where
  pub some : 1 ≤ l.outstanding
  pub interval : 1000 ≤ l.interval
  pub bounded : l.journal ≤ most_entries
  pub shards : 1 ≤ l.shards
  pub most_shards : l.shards ≤ 64
  pub extents : 1 ≤ l.extents

-- each tenant with a job that waits is in the ring once, and no other is
pub record AreServed (c : CoreData) : Type 0 where
  pub in_ring : (u : ℕ) → waits u c.ring ≡ not (is_empty (queue_at c u).waiting)
  pub different : AreDifferent c.ring
  pub known : (u : ℕ) → waits u c.ring ≡ true → u < most_tenants

-- the failed tries that are counted of an open query cover those of its jobs that wait or are in hand, and five of the job that
-- stopped it, unless they stand at their greatest number
abbrev pub AreTried : CoreData → (query : ℕ) → Open → QueryProgress → Type 0
AreTried c query o p =
    (most_tries ≤ p.tried)
    ⊎ (tries_queued query (queue_at c o.tenant).waiting + tries_in_hand query (queue_at c o.tenant).hands + last_tries p.stop ≤ p.tried)

abbrev pub AllAreTried : CoreData → Type 0
AllAreTried c =
    (query : ℕ) (o : Open) (p : QueryProgress) → open_at query (machine_of c).queries ≡ Some o → progress_at query c.progress ≡ Some p → AreTried c query o p

-- the failed tries of the actors are at least five for each answer with 500 and those of all jobs of open queries, unless their
-- total stands at its greatest value
abbrev pub AreCovered : CoreData → Type 0
AreCovered c = (sum c.failed ≡ 18446744073709551615) ⊎ (5 * failed_answers c.journal + tried_in c.progress ≤ sum c.failed)

-- each extent that is kept is what its query is over the samples after the first changes of its tenant's log, and frozen there
-- (pf_results: Truth), in the interval of its key
abbrev pub KeepsTruth : CoreData → Type 0
KeepsTruth c = AreTrue (rules_of c.limits) c.limits.interval (log_of (machine_of c).logs) c.kept.entries

-- what every core keeps: its journal is legal, its names are those of the known tenants, all different, the tenants are served in
-- turn, there are 32 actors, their failed tries cover what is told of them, and what is kept of evaluated steps is true
pub record Stands (c : CoreData) : Type 0 where
  pub limits : AreLimits c.limits
  pub legal : Legal c.limits c.names c.journal
  pub names : AreNames c.names c.journal
  pub served : AreServed c
  pub actors : length c.failed ≡ 32
  pub progressing : GoesWith c.limits (machine_of c).queries c.progress
  pub tried : AllAreTried c
  pub covered : AreCovered c
  pub kept : KeepsTruth c

-- so many entries more find room beside those that open queries keep
abbrev pub HasRoomFor : CoreData → ℕ → Type 0
HasRoomFor c n = (machine_of c).count + reserved (machine_of c).queries + n ≤ c.limits.journal

-- so many entries more find no room
abbrev pub IsFull : CoreData → ℕ → Type 0
IsFull c n = c.limits.journal < (machine_of c).count + reserved (machine_of c).queries + n

-- an entry was added at the journal's end, and names for whom it made known
pub record Enters (old : CoreData) (by : By) (what : What) (new : CoreData) : Type 0 where
  pub journal : new.journal ≡ old.journal ++ record { client = by.client; line = by.line; what = what } ∷ []
  pub limits : new.limits ≡ old.limits
  pub more : List (List ℕ)
  pub grown : new.names ≡ old.names ++ more

-- an entry of a tenant by this name was added
pub record EntersFor (old : CoreData) (by : By) (tenant : List ℕ) (what : ℕ → What) (new : CoreData) : Type 0 where
  pub number : ℕ
  pub named : slice_get new.names number ≡ Some tenant
  pub entered : Enters old by (what number) new

-- an append was entered with its verdicts
abbrev pub IsAppended : CoreData → By → List ℕ → BatchData → VerdictsData → CoreData → Type 0
IsAppended old by tenant batch verdicts new =
    HasRoomFor old 1 × EntersFor old by tenant (λ u. append u batch verdicts.list verdicts.entry) new

-- a deletion was entered
abbrev pub IsDeleted : CoreData → By → List ℕ → List Matcher → ℕ → ℕ → Deleted → CoreData → Type 0
IsDeleted old by tenant matchers from to d new =
    HasRoomFor old 1 × EntersFor old by tenant (λ u. delete u matchers from to d.generation d.entry) new

-- why an append or a deletion was refused, and what that leaves
abbrev pub IsRefused : CoreData → By → List ℕ → CoreError → CoreData → Type 0
IsRefused old by tenant (core_error.JournalFull entries) new = (entries ≡ length old.journal) × (IsFull old 1 × (new ≡ old))
IsRefused old by tenant (core_error.TooManyTenants) new = HasRoomFor old 1 × Enters old by (no_tenant tenant) new
IsRefused old by tenant (core_error.OutOfMemory) new = new ≡ old

-- an ask was entered at this place, with this pin
pub record AsksAt (old : CoreData) (by : By) (tenant : List ℕ) (wanted : Asked) (place : ℕ) (pin : PinData) (new : CoreData) : Type 0 where
  pub room : HasRoomFor old 3
  pub entered : EntersFor old by tenant (λ u. ask u wanted pin.number pin.generation pin.floor) new
  pub here : place ≡ (machine_of old).count
  pub opened : Open
  pub is_open : open_at place (machine_of new).queries ≡ Some opened
  pub owner : opened.tenant ≡ entered.number
  pub asked : opened.asked ≡ wanted
  pub pinned : IsPin pin (rules_of new.limits) opened.log
  pub uncancelled : opened.cancelled ≡ None

abbrev pub IsAsked : CoreData → By → List ℕ → Asked → Admitted → CoreData → Type 0
IsAsked old by tenant wanted a new = AsksAt old by tenant wanted a.query a.pin new

-- why an ask was refused, and what that leaves
abbrev pub IsUnasked : CoreData → By → List ℕ → AskError → CoreData → Type 0
IsUnasked old by tenant (ask_error.JournalFull entries) new = (entries ≡ length old.journal) × (IsFull old 3 × (new ≡ old))
IsUnasked old by tenant (ask_error.TooManyTenants) new = HasRoomFor old 3 × Enters old by (no_tenant tenant) new
IsUnasked old by tenant (ask_error.Full outstanding) new =
    (outstanding ≡ old.limits.outstanding) × (HasRoomFor old 3 × EntersFor old by tenant (λ u. full u outstanding) new)
IsUnasked old by tenant (ask_error.OutOfMemory) new = new ≡ old

-- what is told of an open query
pub record IsOpened (c : CoreData) (query : ℕ) (o : Opened) : Type 0 where
  pub opened : Open
  pub is_open : open_at query (machine_of c).queries ≡ Some opened
  pub tenant : opened.tenant ≡ o.tenant
  pub asked : opened.asked ≡ arc_value o.asked.now
  pub pinned : IsPin o.pin.now (rules_of c.limits) opened.log
  pub cancelled : opened.cancelled ≡ o.cancelled
  pub far : QueryProgress
  pub is_far : progress_at query c.progress ≡ Some far
  pub planned : far.planned ≡ o.planned
  pub stop : far.stop ≡ o.stop
  pub cached : far.cached ≡ o.cached
  pub offered : far.offered ≡ o.offered
  -- a stop by a cancel is that of the machine
  pub by_cancel : cancel_in o.stop ≡ opened.cancelled

-- a query is open, and its tenant has this name
pub record IsOwned (c : CoreData) (query : ℕ) (tenant : List ℕ) (cancelled : Option ℕ) : Type 0 where
  pub opened : Open
  pub is_open : open_at query (machine_of c).queries ≡ Some opened
  pub named : slice_get c.names opened.tenant ≡ Some tenant
  pub cancelled_at : opened.cancelled ≡ cancelled

-- a query is open, and its tenant has another name
pub record IsOthers (c : CoreData) (query : ℕ) (tenant : List ℕ) (owner : ℕ) : Type 0 where
  pub opened : Open
  pub is_open : open_at query (machine_of c).queries ≡ Some opened
  pub owned : opened.tenant ≡ owner
  pub name : List ℕ
  pub named : slice_get c.names owner ≡ Some name
  pub other : name ≡ tenant → ⊥

-- what is told of a cancel, and what it leaves
abbrev pub IsCancelled : CoreData → By → ℕ → List ℕ → CancelAnswer → CoreData → Type 0
IsCancelled old by query tenant Done new = IsOwned old query tenant None × Enters old by (cancel query) new
IsCancelled old by query tenant NotOutstanding new = (open_at query (machine_of old).queries ≡ None) × (new ≡ old)
IsCancelled old by query tenant (OtherTenant owner) new = IsOthers old query tenant owner × (new ≡ old)
IsCancelled old by query tenant (Already place) new = IsOwned old query tenant (Some place) × (new ≡ old)

-- ---- jobs

-- no job, no count, and nothing that is kept of evaluated steps is changed
pub record AreSameJobs (old new : CoreData) : Type 0 where
  pub queues : new.queues ≡ old.queues
  pub ring : new.ring ≡ old.ring
  pub failed : new.failed ≡ old.failed
  pub kept : new.kept ≡ old.kept

-- nor is how far queries are
abbrev pub AreSameWork : CoreData → CoreData → Type 0
AreSameWork old new = AreSameJobs old new × (new.progress ≡ old.progress)

-- the work on a query that was just asked is not begun
abbrev pub AreBegun : CoreData → ℕ → CoreData → Type 0
AreBegun old query new = AreSameJobs old new × (new.progress ≡ old.progress ++ begun query ∷ [])

-- the limits, the names and the journal are as they were
pub record IsSameHistory (old new : CoreData) : Type 0 where
  pub limits : new.limits ≡ old.limits
  pub names : new.names ≡ old.names
  pub journal : new.journal ≡ old.journal

-- a tenant's queue and the ring are these, and the other queues are as they were
pub record HasQueue (old : CoreData) (u : ℕ) (queue : QueueHeads) (ring : List ℕ) (new : CoreData) : Type 0 where
  pub here : queue_at new u ≡ queue
  pub others : (v : ℕ) → (v ≡ u → ⊥) → queue_at new v ≡ queue_at old v
  pub ring_is : new.ring ≡ ring

-- the jobs of other queries that wait
abbrev pub others_waiting : CoreData → ℕ → ℕ → List JobHead
others_waiting c u query = filter (is_other_head query) (queue_at c u).waiting

-- the ring once a tenant has these jobs that wait
abbrev pub ring_left : List ℕ → ℕ → List JobHead → List ℕ
ring_left ring u waiting = cond (is_empty waiting) (without u ring) ring

-- none of a query's jobs waits any more, and these of its tenant's jobs are in hand
abbrev pub IsLeft : CoreData → (u query : ℕ) → List Hand → CoreData → Type 0
IsLeft old u query hands new =
    HasQueue old u (record { waiting = others_waiting old u query; hands = hands }) (ring_left old.ring u (others_waiting old u query)) new

-- the jobs once a query was cancelled: none of it waits any more
abbrev pub AreCancelled : CoreData → ℕ → CancelAnswer → CoreData → Type 0
AreCancelled old query Done new =
    ((o : Open) → open_at query (machine_of old).queries ≡ Some o → IsLeft old o.tenant query (queue_at old o.tenant).hands new)
    × ((new.failed ≡ old.failed)
    × ((new.kept ≡ old.kept) × (new.progress ≡ with_progress query (stopped (Cancelled (machine_of old).count)) old.progress)))
AreCancelled old query NotOutstanding new = AreSameWork old new
AreCancelled old query (OtherTenant owner) new = AreSameWork old new
AreCancelled old query (Already place) new = AreSameWork old new

-- the jobs once a query was answered: none of it waits or is in hand any more
pub record AreClosed (old : CoreData) (query : ℕ) (new : CoreData) : Type 0 where
  pub left : (o : Open) → open_at query (machine_of old).queries ≡ Some o
      → IsLeft old o.tenant query (filter (is_other_hand query) (queue_at old o.tenant).hands) new
  pub failed : new.failed ≡ old.failed
  pub kept : new.kept ≡ old.kept
  pub progress : new.progress ≡ without_progress query old.progress
