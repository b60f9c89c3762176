-- The table of the outstanding queries, as contracts see it: what is kept of each query, and the queues of the jobs. This project's
-- own.
use Rattle.std.specs.Arc.{arc_value}
use Rattle.std.specs.HashMap.{get}
use Rattle.std.specs.Option.{option_map}
use Rattle.std.specs.Prelude.{◌≡◌, ℕ, ◌+◌, ◌-◌, ◌<◌, ◌≤◌, ◌⊎◌, Bool, true, false, Option, Some, None, MatchOption, IfSome, cond, List, [], count_by, filter, length, map, nat_eq, slice_get, sum_by}
use Rattle.pf_base.specs.GridLists.{GridData}
use Rattle.pf_base.specs.declared.plain.JobHead.{JobHead}
use Rattle.pf_block.specs.Snaps.{SnapData}
use Rattle.pf_journal.specs.Machine.{most_tenants}
use Rattle.pf_model.specs.Lists.{Each}
use Rattle.pf_queue.specs.Rings.{without}
use Rattle.pf_shard.specs.Lawful.{ResolvedLegs}
use Rattle.pf_query.specs.Jobs.{hand_of, has_hand, is_empty, is_other_hand, is_other_job, tries_left_in, without_hand}
use Rattle.pf_query.specs.Covers.{is_covered_by}
use Rattle.pf_query.specs.Entries.{cached_steps_of, is_given_out, is_offered, is_planned, most_tries, one_more, stop_after}
use Rattle.pf_shard.specs.declared.parts.Part.{Part}
use Rattle.pf_query.specs.Queueing as queues
use Rattle.pf_query.specs.Queueing.{AreAdded, AreEmpty, AreQueues, AreSame, AreWith, IsPutBack, IsReleased, IsTaken, hands_in, ring_in, waiting_in}
use Rattle.pf_query.specs.Works.{ArePlanned, IsHeadOf, IsWork, WorkData, filled, handed_out, offered, planned_work}
use Rattle.pf_extent.specs.declared.done.DoneCells.{DoneCells}
use Rattle.pf_query.specs.declared.job.Hand.{Hand}
use Rattle.pf_query.specs.declared.job.Held.{Held}
use Rattle.pf_query.specs.declared.job.Job.{Job}
use Rattle.pf_query.specs.declared.queues.Queues.{Queues}
use Rattle.pf_query.specs.declared.slot.Slot.{Slot}
use Rattle.pf_query.specs.declared.slot.Slot.TheVariants.{Empty, Filled, Handed}
use Rattle.pf_query.specs.declared.stop.Stop.{Stop}
use Rattle.pf_query.specs.declared.stop.Stop.TheVariants.{Cancelled, Exhausted, Starved}
use Rattle.pf_query.specs.declared.entry.Entry.{Entry}
use Rattle.pf_query.specs.declared.answers.Collected.{Collected}
use Rattle.pf_query.specs.declared.answers.Collected.TheVariants as collected
use Rattle.pf_query.specs.declared.answers.FailedTry.{FailedTry}
use Rattle.pf_query.specs.declared.answers.FailedTry.TheVariants as failed
use Rattle.pf_query.specs.declared.answers.Finished.{Finished}
use Rattle.pf_query.specs.declared.answers.Finished.TheVariants as finished
use Rattle.pf_query.specs.declared.answers.PlanError.{PlanError}
use Rattle.pf_query.specs.declared.answers.PlanError.TheVariants as plan_error
use Rattle.pf_query.specs.declared.answers.Progress.{Progress}
use Rattle.pf_query.specs.declared.gathered.Gathered.{Gathered}
use Rattle.pf_query.specs.declared.table.Table.{Table}

-- ---- what is kept of queries

-- a query's tenant, why it was stopped, if it was, and what is kept of it once it is planned
pub record EntryData : Type 0 where
  pub tenant : ℕ
  pub stop : Option Stop
  pub work : Option WorkData

abbrev pub data_of : Entry → EntryData
data_of e = record { tenant = e.tenant; stop = e.stop; work = e.work }

-- what is kept of a query
abbrev pub entry_in : Table → ℕ → Option EntryData
entry_in t query = option_map data_of (get nat_eq t.entries query)

-- how often jobs of a query failed, all together; never where nothing is kept of it
abbrev pub tried_by : Option Entry → ℕ
tried_by None = 0
tried_by (Some e) = e.tried

abbrev pub tried_of : Table → ℕ → ℕ
tried_of t query = tried_by (get nat_eq t.entries query)

-- the queues of all tenants
abbrev pub queues_of : Table → Queues
queues_of t = t.queues

-- a tenant's jobs that wait, first to last, what is kept of its jobs in hand, the tenants in turn, and the tries that are left
abbrev pub waiting_of : Table → ℕ → List Job
waiting_of t u = waiting_in t.queues u

abbrev pub hands_of : Table → ℕ → List Hand
hands_of t u = hands_in t.queues u

abbrev pub ring_of : Table → List ℕ
ring_of t = ring_in t.queues

abbrev pub tries_left_of : Table → ℕ
tries_left_of t = queues.tries_left t.queues

-- ---- the facts of every table

-- whether a job is that of a query and this number, and whether it is one of the query at all
abbrev pub is_named : (query number : ℕ) → JobHead → Bool
is_named query number h = cond (nat_eq h.query query) (nat_eq h.job number) false

abbrev pub is_of : (query : ℕ) → JobHead → Bool
is_of query h = nat_eq h.query query

-- how many of a list are
abbrev pub jobs_named : (query number : ℕ) → List Job → ℕ
jobs_named query number jobs = count_by (λ j. is_named query number j.head) jobs

abbrev pub hands_named : (query number : ℕ) → List Hand → ℕ
hands_named query number hands = count_by (λ h. is_named query number h.head) hands

abbrev pub jobs_in : (query : ℕ) → List Job → ℕ
jobs_in query jobs = count_by (λ j. is_of query j.head) jobs

abbrev pub hands_with : (query : ℕ) → List Hand → ℕ
hands_with query hands = count_by (λ h. is_of query h.head) hands

-- a waiting job is of a planned query of this tenant that isn't stopped
pub record IsWaiting (entries : ℕ → Option EntryData) (u : ℕ) (j : Job) : Type 0 where
  pub work : WorkData
  pub entry : entries j.head.query ≡ Some (record { tenant = u; stop = None; work = Some work })
  pub tenant_is : j.head.tenant ≡ u
  pub run : GridData
  pub head : IsHeadOf work.legs work.runs run j.head

-- a job in hand is of a planned query of this tenant, which may be stopped
pub record IsInHand (entries : ℕ → Option EntryData) (u : ℕ) (h : Hand) : Type 0 where
  pub stop : Option Stop
  pub work : WorkData
  pub entry : entries h.head.query ≡ Some (record { tenant = u; stop = stop; work = Some work })
  pub tenant_is : h.head.tenant ≡ u
  pub run : GridData
  pub head : IsHeadOf work.legs work.runs run h.head

-- one for an empty slot, none else
abbrev pub one_if_empty : Option Slot → ℕ
one_if_empty None = 0
one_if_empty (Some Empty) = 1
one_if_empty (Some (Filled part)) = 0
one_if_empty (Some Handed) = 0

abbrev pub wanted : Option WorkData → ℕ → ℕ
wanted None number = 0
wanted (Some w) number = one_if_empty (slice_get w.slots number)

-- a job that isn't stopped waits or is in hand exactly once where its slot is empty, and else not at all; a job of a stopped query
-- doesn't wait, and is in hand once at most
abbrev pub IsPlaced : Option Stop → Option WorkData → (number jobs hands : ℕ) → Type 0
IsPlaced None work number jobs hands = jobs + hands ≡ wanted work number
IsPlaced (Some why) work number jobs hands = (jobs ≡ 0) × (hands ≤ 1)

-- what is kept of a query
pub record IsEntry (query : ℕ) (waiting : ℕ → List Job) (hands : ℕ → List Hand) (e : EntryData) : Type 0 where
  pub known : e.tenant < most_tenants
  pub work : IfSome e.work IsWork
  pub placed : (number : ℕ) → IsPlaced e.stop e.work number (jobs_named query number (waiting e.tenant)) (hands_named query number (hands e.tenant))

-- what is kept of queries and what waits or is in hand agree
pub record Agree (entries : ℕ → Option EntryData) (waiting : ℕ → List Job) (hands : ℕ → List Hand) : Type 0 where
  pub all_waiting : (u : ℕ) → Each (IsWaiting entries u) (waiting u)
  pub all_in_hand : (u : ℕ) → Each (IsInHand entries u) (hands u)
  pub all_kept : (query : ℕ) (e : EntryData) → entries query ≡ Some e → IsEntry query waiting hands e

-- the numbers of waiting jobs and of jobs in hand, which are kept of a query that isn't stopped
pub record IsCounted (query : ℕ) (waiting : ℕ → List Job) (hands : ℕ → List Hand) (e : Entry) : Type 0 where
  pub queued : e.queued ≡ jobs_in query (waiting e.tenant)
  pub in_hand : e.in_hand ≡ hands_with query (hands e.tenant)
  pub few : e.queued + e.in_hand ≤ 4294967295

-- how often a job was tried, if it is one of a query
abbrev pub tries_with : (query : ℕ) → JobHead → ℕ
tries_with query h = cond (is_of query h) h.tries 0

-- how often the jobs of a query that wait, and those in hand, were tried, all together
abbrev pub tries_waiting : (query : ℕ) → List Job → ℕ
tries_waiting query jobs = sum_by (λ j. tries_with query j.head) jobs

abbrev pub tries_in_hand : (query : ℕ) → List Hand → ℕ
tries_in_hand query hands = sum_by (λ h. tries_with query h.head) hands

-- and those of the job that stopped it
abbrev pub last_tries : Option Stop → ℕ
last_tries None = 0
last_tries (Some (Cancelled place)) = 0
last_tries (Some (Exhausted job)) = 5
last_tries (Some Starved) = 0

-- the failed tries that are kept of a query cover these, unless they stand at their greatest number
abbrev pub AreTried : (query : ℕ) → (waiting : ℕ → List Job) → (hands : ℕ → List Hand) → Entry → Type 0
AreTried query waiting hands e =
    (most_tries ≤ e.tried)
    ⊎ (tries_waiting query (waiting e.tenant) + tries_in_hand query (hands e.tenant) + last_tries e.stop ≤ e.tried)

pub record IsTable (t : Table) : Type 0 where
  pub queues : AreQueues t.queues
  pub agree : Agree (entry_in t) (waiting_of t) (hands_of t)
  pub counted : (query : ℕ) (e : Entry) → get nat_eq t.entries query ≡ Some e → e.stop ≡ None → IsCounted query (waiting_of t) (hands_of t) e
  pub tried : (query : ℕ) (e : Entry) → get nat_eq t.entries query ≡ Some e → AreTried query (waiting_of t) (hands_of t) e

-- ---- what calls leave

abbrev pub KeepsEntries : Table → Table → Type 0
KeepsEntries old new = (query : ℕ) → entry_in new query ≡ entry_in old query

-- this is kept of one query, and of the others what was
abbrev pub SetsEntry : Table → ℕ → Option EntryData → Table → Type 0
SetsEntry old query entry new = (q : ℕ) → entry_in new q ≡ cond (nat_eq query q) entry (entry_in old q)

-- no failed try is counted, or one more of a query
abbrev pub KeepsTried : Table → Table → Type 0
KeepsTried old new = (query : ℕ) → tried_of new query ≡ tried_of old query

abbrev pub CountsTry : Table → ℕ → Table → Type 0
CountsTry old query new = (q : ℕ) → tried_of new q ≡ cond (nat_eq query q) (one_more (tried_of old q)) (tried_of old q)

-- one more if it was one
abbrev pub CountsTryIf : Bool → Table → ℕ → Table → Type 0
CountsTryIf true old query new = CountsTry old query new
CountsTryIf false old query new = KeepsTried old new

-- no query is outstanding
pub record IsNew (t : Table) : Type 0 where
  pub entries : (query : ℕ) → entry_in t query ≡ None
  pub queues : AreEmpty t.queues

-- nothing that contracts see is changed
pub record IsSameTable (old new : Table) : Type 0 where
  pub entries : KeepsEntries old new
  pub queues : AreSame old.queues new.queues
  pub tries : tries_left_of new ≡ tries_left_of old
  pub tried : KeepsTried old new

-- the ring once a tenant has no waiting job of a query
abbrev pub ring_without : Queues → ℕ → ℕ → List ℕ
ring_without q u query = cond (is_empty (filter (is_other_job query) (waiting_in q u))) (without u (ring_in q)) (ring_in q)

-- a tenant's jobs of a query wait no more, and these of its jobs are in hand
abbrev pub AreLeft : Table → ℕ → ℕ → List Hand → Table → Type 0
AreLeft old u query hands new =
    AreWith old.queues u (filter (is_other_job query) (waiting_of old u)) hands (ring_without old.queues u query) new.queues

-- a query is opened
pub record IsOpened (old : Table) (query tenant : ℕ) (new : Table) : Type 0 where
  pub entries : SetsEntry old query (Some (record { tenant = tenant; stop = None; work = None })) new
  pub queues : AreSame old.queues new.queues
  pub tries : tries_left_of new ≡ tries_left_of old
  pub tried : KeepsTried old new

-- nothing is kept of a query any more, and none of its jobs waits or is in hand
pub record Ends (old : Table) (query : ℕ) (e : EntryData) (new : Table) : Type 0 where
  pub entries : SetsEntry old query None new
  pub queues : AreLeft old e.tenant query (filter (is_other_hand query) (hands_of old e.tenant)) new
  pub tries : tries_left_of new ≤ tries_left_of old
  pub tried : (q : ℕ) → tried_of new q ≡ cond (nat_eq query q) 0 (tried_of old q)

abbrev pub IsClosed : Table → ℕ → Table → Type 0
IsClosed old query new = MatchOption (entry_in old query) (IsSameTable old new) (λ e. Ends old query e new)

-- a query is planned: all its jobs wait
pub record IsPlannedOver (old : Table) (query : ℕ) (legs : ResolvedLegs) (runs : List GridData) (cached : List DoneCells) (offered : Bool) (snap : SnapData) (count : ℕ) (new : Table) : Type 0 where
  pub tenant : ℕ
  pub was : entry_in old query ≡ Some (record { tenant = tenant; stop = None; work = None })
  pub jobs : List Job
  pub planned : ArePlanned tenant query legs runs snap jobs
  pub count_is : count ≡ length jobs
  pub entries : SetsEntry old query (Some (record { tenant = tenant; stop = None; work = Some (planned_work legs runs cached offered) })) new
  pub queues : AreAdded old.queues tenant jobs new.queues
  pub tries : tries_left_of new ≡ tries_left_of old + tries_left_in jobs
  pub tried : KeepsTried old new

-- why it isn't
abbrev pub IsUnplanned : Option EntryData → PlanError → Type 0
IsUnplanned None error = ⊥
IsUnplanned (Some e) plan_error.PlannedBefore = (w : WorkData) × (e.work ≡ Some w)
IsUnplanned (Some e) (plan_error.Stopped why) = (e.work ≡ None) × (e.stop ≡ Some why)
IsUnplanned (Some e) plan_error.OutOfMemory = (e.work ≡ None) × (e.stop ≡ None)

-- the first tenant's first job is in an actor's hand
pub record IsTakenFrom (old : Table) (actor : ℕ) (held : Held) (new : Table) : Type 0 where
  pub taken : IsTaken old.queues actor held new.queues
  pub waited : IsWaiting (entry_in old) taken.tenant taken.job
  pub entries : KeepsEntries old new
  pub tries : tries_left_of new + (5 - held.head.tries) ≡ tries_left_of old
  pub fewer : tries_left_of new < tries_left_of old
  pub tried : KeepsTried old new

abbrev pub TakesFrom : Table → ℕ → Option Held → Table → Type 0
TakesFrom old actor taken new =
    MatchOption taken ((ring_of old ≡ []) × IsSameTable old new) (λ held. IsTakenFrom old actor held new)

-- a job is in hand, its query isn't stopped, and its slot is empty
pub record IsHeldOf (t : Table) (held : Held) (w : WorkData) : Type 0 where
  pub entry : entry_in t held.head.query ≡ Some (record { tenant = held.head.tenant; stop = None; work = Some w })
  pub in_hand : has_hand (hand_of held) (hands_of t held.head.tenant) ≡ true
  pub run : GridData
  pub head : IsHeadOf w.legs w.runs run held.head
  pub empty : slice_get w.slots held.head.job ≡ Some Empty

-- a job isn't in hand, or nothing is kept of its query
abbrev pub IsNotHeld : Table → Held → Option EntryData → Type 0
IsNotHeld t held None = Unit {0}
IsNotHeld t held (Some e) = (e.stop ≡ None) × (has_hand (hand_of held) (hands_of t held.head.tenant) ≡ false)

-- its query is stopped
abbrev pub IsGone : Option EntryData → Stop → Type 0
IsGone None why = ⊥
IsGone (Some e) why = e.stop ≡ Some why

-- a job of a stopped query is in hand no more, whether by a failed try that is counted or not
pub record Goes (old : Table) (held : Held) (why : Stop) (failed : Bool) (new : Table) : Type 0 where
  pub stopped : IsGone (entry_in old held.head.query) why
  pub entries : KeepsEntries old new
  pub queues : IsReleased old.queues held new.queues
  pub tries : tries_left_of new ≡ tries_left_of old
  pub tried : CountsTryIf failed old held.head.query new

-- a job that isn't held changes nothing
pub record IsNothing (old : Table) (held : Held) (new : Table) : Type 0 where
  pub not_held : IsNotHeld old held (entry_in old held.head.query)
  pub same : IsSameTable old new

-- a job's part is stored
pub record IsStored (old : Table) (held : Held) (part : Part) (new : Table) : Type 0 where
  pub work : WorkData
  pub held_of : IsHeldOf old held work
  pub entries : SetsEntry old held.head.query (Some (record { tenant = held.head.tenant; stop = None; work = Some (filled held.head.job part work) })) new
  pub queues : IsReleased old.queues held new.queues
  pub tries : tries_left_of new ≡ tries_left_of old
  pub tried : KeepsTried old new

abbrev pub IsFinished : Table → Held → Part → Finished → Table → Type 0
IsFinished old held part finished.Stored new = IsStored old held part new
IsFinished old held part (finished.Gone why) new = Goes old held why false new
IsFinished old held part finished.NotHeld new = IsNothing old held new

-- a job waits again, tried once more
pub record WaitsAgain (old : Table) (held : Held) (tries : ℕ) (new : Table) : Type 0 where
  pub work : WorkData
  pub held_of : IsHeldOf old held work
  pub tries_are : tries ≡ held.head.tries + 1
  pub few : tries < 5
  pub entries : KeepsEntries old new
  pub queues : IsPutBack old.queues held new.queues
  pub tries_left : tries_left_of new ≡ tries_left_of old + (5 - tries)
  pub tried : CountsTry old held.head.query new

-- a job was tried five times: its query is stopped
pub record IsExhausted (old : Table) (held : Held) (job : ℕ) (new : Table) : Type 0 where
  pub work : WorkData
  pub held_of : IsHeldOf old held work
  pub job_is : job ≡ held.head.job
  pub last_try : held.head.tries ≡ 4
  pub entries : SetsEntry old held.head.query (Some (record { tenant = held.head.tenant; stop = Some (Exhausted job); work = Some work })) new
  pub queues : AreLeft old held.head.tenant held.head.query (without_hand (hand_of held) (hands_of old held.head.tenant)) new
  pub tries : tries_left_of new ≤ tries_left_of old
  pub tried : CountsTry old held.head.query new

abbrev pub IsFailed : Table → Held → FailedTry → Table → Type 0
IsFailed old held (failed.Again tries) new = WaitsAgain old held tries new
IsFailed old held (failed.Exhausted job) new = IsExhausted old held job new
IsFailed old held (failed.Gone why) new = Goes old held why (has_hand (hand_of held) (hands_of old held.head.tenant)) new
IsFailed old held failed.NotHeld new = IsNothing old held new

-- a query's entry once it is stopped
abbrev pub stopped : Stop → EntryData → EntryData
stopped why e = record e { stop = Some (stop_after e.stop why) }

-- a query is stopped, and none of its jobs waits
pub record Stops (old : Table) (query : ℕ) (why : Stop) (e : EntryData) (hands : List Hand) (new : Table) : Type 0 where
  pub entries : SetsEntry old query (Some (stopped why e)) new
  pub queues : AreLeft old e.tenant query hands new
  pub tries : tries_left_of new ≤ tries_left_of old
  pub tried : KeepsTried old new

abbrev pub IsStopped : Table → ℕ → Stop → Table → Type 0
IsStopped old query why new =
    MatchOption (entry_in old query) (IsSameTable old new) (λ e. Stops old query why e (hands_of old e.tenant) new)

-- and a job of it is in hand no more
abbrev pub IsLacking : Table → Held → Table → Type 0
IsLacking old held new =
    MatchOption (entry_in old held.head.query) (IsSameTable old new)
    (λ e. Stops old held.head.query Starved e (without_hand (hand_of held) (hands_of old e.tenant)) new)

-- what is told of a planned query: how many of its jobs wait and are in hand
abbrev pub AreOpen : Table → ℕ → EntryData → (queued in_hand : ℕ) → Type 0
AreOpen t query e queued in_hand = (queued ≡ jobs_in query (waiting_of t e.tenant)) × (in_hand ≡ hands_with query (hands_of t e.tenant))

-- all parts are handed out
pub record IsGathered (old : Table) (query : ℕ) (e : EntryData) (w : WorkData) (g : Gathered) (new : Table) : Type 0 where
  pub legs_are : arc_value g.legs ≡ w.legs
  pub runs_are : g.runs.items ≡ w.runs
  pub parts_are : map (λ p. Filled p) g.parts.items ≡ w.slots
  pub cached_are : g.cached.items ≡ w.cached
  pub entries : SetsEntry old query (Some (record e { work = Some (handed_out w) })) new
  pub queues : AreSame old.queues new.queues
  pub tries : tries_left_of new ≡ tries_left_of old
  pub tried : KeepsTried old new

abbrev pub IsCollectedOf : Table → ℕ → EntryData → Collected → Table → Type 0
IsCollectedOf old query e (collected.Stopped why) new = (e.stop ≡ Some why) × IsSameTable old new
IsCollectedOf old query e collected.Unplanned new = (e.stop ≡ None) × (e.work ≡ None) × IsSameTable old new
IsCollectedOf old query e (collected.Waiting queued in_hand) new =
    (w : WorkData) × (e.stop ≡ None) × (e.work ≡ Some w) × AreOpen old query e queued in_hand × (0 < queued + in_hand) × IsSameTable old new
IsCollectedOf old query e collected.Given new =
    (w : WorkData) × (e.stop ≡ None) × (e.work ≡ Some w) × AreOpen old query e 0 0 × (w.given ≡ true) × IsSameTable old new
IsCollectedOf old query e (collected.Parts g) new =
    (w : WorkData) × (e.stop ≡ None) × (e.work ≡ Some w) × AreOpen old query e 0 0 × (w.given ≡ false) × IsGathered old query e w g new

abbrev pub IsCollected : Table → ℕ → Option Collected → Table → Type 0
IsCollected old query None new = (entry_in old query ≡ None) × IsSameTable old new
IsCollected old query (Some c) new = (e : EntryData) × (entry_in old query ≡ Some e) × IsCollectedOf old query e c new

-- what is told of a query
abbrev pub progress_of : EntryData → Progress
progress_of e = record {
  tenant = e.tenant;
  planned = is_planned e.work;
  given = is_given_out e.work;
  offered = is_offered e.work;
  cached = cached_steps_of e.work;
  stop = e.stop;
}

-- a query is offered, if it is planned
pub record Offers (old : Table) (query : ℕ) (e : EntryData) (new : Table) : Type 0 where
  pub entries : SetsEntry old query (Some (record e { work = option_map offered e.work })) new
  pub queues : AreSame old.queues new.queues
  pub tries : tries_left_of new ≡ tries_left_of old
  pub tried : KeepsTried old new

abbrev pub IsOffered : Table → ℕ → Table → Type 0
IsOffered old query new = MatchOption (entry_in old query) (IsSameTable old new) (λ e. Offers old query e new)

-- whether cells cover the runs of a query's jobs
abbrev pub is_covered_in : Option EntryData → List DoneCells → Bool
is_covered_in None ds = false
is_covered_in (Some e) ds = is_covered_by e.work ds
