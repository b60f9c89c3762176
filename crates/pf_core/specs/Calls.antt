-- What the calls on jobs answer and leave: this project's own.
use Rattle.std.specs.Arc.{arc_value}
use Rattle.std.specs.Prelude.{◌≡◌, ◌⊎◌, ℕ, ◌+◌, ◌-◌, ◌*◌, ◌/◌, ◌<◌, ◌≤◌, Bool, true, false, ◌&&◌, cond, pos, Option, Some, None, List, [], ◌∷◌, ◌++◌, length, slice_index_or, take}
use Rattle.pf_base.specs.Limits.{most_steps}
use Rattle.pf_base.specs.declared.plain.JobHead.{JobHead}
use Rattle.pf_block.specs.Snaps.{SnapData}
use Rattle.pf_base.specs.GridLists.{GridData}
use Rattle.pf_base.specs.Grids.{points}
use Rattle.pf_base.specs.declared.plain.Limits.{Limits}
use Rattle.pf_extent.specs.Done.{steps_in}
use Rattle.pf_extent.specs.declared.done.DoneCells.{DoneCells}
use Rattle.pf_journal.specs.Machine.{Open, answer_of, code_of, log_of, open_at}
use Rattle.pf_model.specs.Evaluation.{eval}
use Rattle.pf_model.specs.Lists.{Each}
use Rattle.pf_model.specs.Log.{rules_of, store_of}
use Rattle.pf_model.specs.declared.cell.StepCell.TheVariants.{Good}
use Rattle.pf_query.specs.Covers.{covers}
use Rattle.pf_query.specs.Jobs.{has_hand, hand_of, is_empty, tried, without_hand}
use Rattle.pf_query.specs.Queueing.{put_last}
use Rattle.pf_shard.specs.declared.parts.Part.{Part}
use Rattle.pf_query.specs.declared.answers.Collected.{Collected}
use Rattle.pf_query.specs.declared.answers.Collected.TheVariants as collected
use Rattle.pf_query.specs.declared.answers.FailedTry.{FailedTry}
use Rattle.pf_query.specs.declared.answers.FailedTry.TheVariants as failed
use Rattle.pf_query.specs.declared.answers.Finished.{Finished}
use Rattle.pf_query.specs.declared.answers.Finished.TheVariants as finished
use Rattle.pf_query.specs.declared.answers.PlanError.{PlanError}
use Rattle.pf_query.specs.declared.answers.PlanError.TheVariants as plan_error
use Rattle.pf_query.specs.declared.answers.Planned.{Planned}
use Rattle.pf_query.specs.declared.gathered.Gathered.{Gathered}
use Rattle.pf_query.specs.declared.job.Hand.{Hand}
use Rattle.pf_query.specs.declared.job.Held.{Held}
use Rattle.pf_query.specs.declared.stop.Stop.{Stop}
use Rattle.pf_query.specs.declared.stop.Stop.TheVariants.{Cancelled, Exhausted, Starved}
use Rattle.pf_shard.specs.Lawful.{ResolvedLegs, leg_count, legs_data}
use Rattle.pf_shard.specs.LegParts.{FitsNodes}
use Rattle.pf_core.specs.Asks.{opened_at}
use Rattle.pf_core.specs.Cached.{KeptData, asker_of, cached_steps, fixed_by, is_offered_at_once, kept_by, used_by, wanted_runs}
use Rattle.pf_core.specs.Cores.{AreSameJobs, CoreData, HasQueue, IsLeft, IsSameHistory, in_hand_of, machine_of, queue_at, queued_of, tries_left}
use Rattle.pf_core.specs.Jobs.{AreParts, IsForAsk, IsLegsOf, IsRunOf, IsValueOver, QueueHeads, failures_after, legs_asked, planned_heads}
use Rattle.pf_core.specs.Progress.{QueryProgress, cancel_in, exhausted, handed_out, offered, planned, progress_at, stopped, tried_once, with_progress}
use Rattle.pf_core.specs.declared.answers.Kept.{Kept}
use Rattle.pf_core.specs.declared.answers.Kept.TheVariants.{NoMemory, Outdated, Steps}

-- ---- conditions

-- legs over a snapshot are those of a query, if it is open
abbrev pub BindsOpen : Limits → Option Open → ResolvedLegs → SnapData → Type 0
BindsOpen l None legs snap = ⊥
BindsOpen l (Some o) legs snap = IsLegsOf l o legs snap

-- a held job is one of a query that was asked in this journal
abbrev pub StandsForAsk : CoreData → Held → Type 0
StandsForAsk c h = IsForAsk c.journal c.limits h.head (arc_value h.legs) h.run (arc_value h.snap)

-- a part is of the kind of a held job's leg, and its value over the job's run
pub record IsPartOf (c : CoreData) (h : Held) (part : Part) : Type 0 where
  pub fits : FitsNodes (arc_value h.legs).nodes part
  pub value : (at : Open) → opened_at c.journal h.head.query ≡ Some at
      → IsValueOver (store_of (rules_of c.limits) at.log).samples (legs_data (arc_value h.legs)) h.head.leg h.run part

-- ---- what calls leave

-- a query is open, and stopped for this, if it is
pub record IsOpenWith (c : CoreData) (query : ℕ) (stop : Option Stop) : Type 0 where
  pub opened : Open
  pub is_open : open_at query (machine_of c).queries ≡ Some opened
  pub cancelled_at : opened.cancelled ≡ cancel_in stop
  pub far : QueryProgress
  pub is_far : progress_at query c.progress ≡ Some far
  pub stop_is : far.stop ≡ stop

-- a query is open and stopped
abbrev pub IsStoppedBy : CoreData → ℕ → Stop → Type 0
IsStoppedBy c query why = IsOpenWith c query (Some why)

-- a query is open, and isn't stopped
abbrev pub IsWhole : CoreData → ℕ → Type 0
IsWhole c query = IsOpenWith c query None

-- one tenant's jobs, the ring, how far queries are, and what is kept of evaluated steps, are these, and nothing else is changed
pub record ChangesQueue (old : CoreData) (u : ℕ) (queue : QueueHeads) (ring : List ℕ) (progress : List QueryProgress) (kept : KeptData) (new : CoreData) : Type 0 where
  pub queue_is : HasQueue old u queue ring new
  pub history : IsSameHistory old new
  pub failed : new.failed ≡ old.failed
  pub progress_is : new.progress ≡ progress
  pub kept_is : new.kept ≡ kept

-- the first tenant's first job is in an actor's hand, and the tenant is last if it has more
pub record IsTaken (old : CoreData) (actor : ℕ) (held : Held) (new : CoreData) : Type 0 where
  pub tenant : ℕ
  pub tenants : List ℕ
  pub heads : List JobHead
  pub ring : old.ring ≡ tenant ∷ tenants
  pub waiting : (queue_at old tenant).waiting ≡ held.head ∷ heads
  pub actor_is : held.actor ≡ actor
  pub leaves : ChangesQueue old tenant (record { waiting = heads; hands = (queue_at old tenant).hands ++ hand_of held ∷ [] })
      (cond (is_empty heads) tenants (put_last tenant tenants)) old.progress old.kept new
  pub stands : StandsForAsk new held
  pub whole : IsWhole new held.head.query
  pub own : held.head.tenant ≡ tenant
  pub owner : whole.opened.tenant ≡ tenant
  pub few : held.head.tries < 5
  pub tries : tries_left new + (5 - held.head.tries) ≡ tries_left old

abbrev pub Takes : CoreData → ℕ → Option Held → CoreData → Type 0
Takes old actor None new = (old.ring ≡ []) × (new ≡ old)
Takes old actor (Some held) new = IsTaken old actor held new

-- a tenant's jobs in hand but for one
abbrev pub hands_left : CoreData → Held → List Hand
hands_left c held = without_hand (hand_of held) (queue_at c held.head.tenant).hands

-- a job is in hand no more, and queries are as far as this
abbrev pub Releases : CoreData → Held → List QueryProgress → CoreData → Type 0
Releases old held progress new =
    ChangesQueue old held.head.tenant
    (record { waiting = (queue_at old held.head.tenant).waiting; hands = hands_left old held }) old.ring progress old.kept new

abbrev pub IsReleased : CoreData → Held → CoreData → Type 0
IsReleased old held new = Releases old held old.progress new

abbrev pub is_in_hand : CoreData → Held → Bool
is_in_hand c held = has_hand (hand_of held) (queue_at c held.head.tenant).hands

-- a job's query isn't open, or it is and the job isn't in hand
abbrev pub IsNotHeld : CoreData → Held → Type 0
IsNotHeld c held =
    (open_at held.head.query (machine_of c).queries ≡ None) ⊎ (IsWhole c held.head.query × (is_in_hand c held ≡ false))

abbrev pub IsFinished : CoreData → Held → Finished → CoreData → Type 0
IsFinished old held finished.Stored new = IsWhole old held.head.query × ((is_in_hand old held ≡ true) × IsReleased old held new)
IsFinished old held (finished.Gone why) new = IsStoppedBy old held.head.query why × IsReleased old held new
IsFinished old held finished.NotHeld new = IsNotHeld old held × (new ≡ old)

-- a failed try of an actor is counted
abbrev pub counted : CoreData → ℕ → CoreData
counted c actor = record c { failed = failures_after c.failed actor }

-- how far queries are once a job's failed try is counted for its query
abbrev pub tried_after : CoreData → Held → List QueryProgress
tried_after c held = with_progress held.head.query tried_once c.progress

-- a job waits last of its tenant's, tried once more
abbrev pub IsPutBack : CoreData → Held → CoreData → Type 0
IsPutBack old held new =
    ChangesQueue old held.head.tenant
    (record {
      waiting = (queue_at old held.head.tenant).waiting ++ tried (held.head.tries + 1) held.head ∷ [];
      hands = hands_left old held;
    })
    (cond (is_empty (queue_at old held.head.tenant).waiting) (put_last held.head.tenant old.ring) old.ring) (tried_after old held)
    old.kept new

-- a query is stopped, as this tells: none of its jobs waits any more, and these of its tenant's jobs are in hand
pub record StopsQuery (old : CoreData) (u query : ℕ) (stop : QueryProgress → QueryProgress) (hands : List Hand) (new : CoreData) : Type 0 where
  pub left : IsLeft old u query hands new
  pub history : IsSameHistory old new
  pub failed : new.failed ≡ old.failed
  pub kept : new.kept ≡ old.kept
  pub progress_is : new.progress ≡ with_progress query stop old.progress

-- what became of a failed job, over the core in which the try is counted
abbrev pub IsTried : CoreData → Held → FailedTry → CoreData → Type 0
IsTried old held (failed.Again tries) new =
    IsWhole old held.head.query × ((is_in_hand old held ≡ true) × ((tries ≡ held.head.tries + 1) × ((tries < 5) × IsPutBack old held new)))
IsTried old held (failed.Exhausted job) new =
    IsWhole old held.head.query
    × ((is_in_hand old held ≡ true) × ((job ≡ held.head.job) × ((held.head.tries ≡ 4) × StopsQuery old held.head.tenant held.head.query (exhausted job) (hands_left old held) new)))
IsTried old held (failed.Gone why) new =
    IsStoppedBy old held.head.query why × Releases old held (cond (is_in_hand old held) (tried_after old held) old.progress) new
IsTried old held failed.NotHeld new = IsNotHeld old held × (new ≡ old)

abbrev pub IsFailed : CoreData → Held → FailedTry → CoreData → Type 0
IsFailed old held answer new = IsTried (counted old held.actor) held answer new

-- how often waiting jobs may be tried, once a try failed
abbrev pub TriesAfter : CoreData → FailedTry → CoreData → Type 0
TriesAfter old (failed.Again tries) new = tries_left new ≡ tries_left old + (5 - tries)
TriesAfter old _ new = tries_left new ≤ tries_left old

-- a query is stopped, if it is open, and one of its jobs is in hand no more
pub record IsLackedBy (old : CoreData) (held : Held) (new : CoreData) : Type 0 where
  pub none : open_at held.head.query (machine_of old).queries ≡ None → new ≡ old
  pub some : (o : Open) → open_at held.head.query (machine_of old).queries ≡ Some o
      → StopsQuery old o.tenant held.head.query (stopped Starved) (without_hand (hand_of held) (queue_at old o.tenant).hands) new

-- a query is stopped, if it is open
pub record IsLacked (old : CoreData) (query : ℕ) (new : CoreData) : Type 0 where
  pub none : open_at query (machine_of old).queries ≡ None → new ≡ old
  pub some : (o : Open) → open_at query (machine_of old).queries ≡ Some o
      → StopsQuery old o.tenant query (stopped Starved) (queue_at old o.tenant).hands new

-- the ring once these jobs of a tenant wait behind its others
abbrev pub ring_with : CoreData → ℕ → List JobHead → List ℕ
ring_with c u heads = cond (is_empty heads) c.ring (cond (is_empty (queue_at c u).waiting) (put_last u c.ring) c.ring)

-- how many legs an open query has, and the runs that are left of its steps by what is cached
abbrev pub leg_count_of : CoreData → Open → ℕ
leg_count_of c o = leg_count (legs_asked c.limits.shards o)

abbrev pub runs_in : CoreData → Open → List GridData
runs_in c o = wanted_runs c.limits c.kept o

-- what is said of an open query's jobs once it is planned
abbrev pub planned_for : CoreData → (query : ℕ) → Open → List JobHead
planned_for c query o = planned_heads o.tenant query 0 (leg_count_of c o) (runs_in c o)

-- how far it is then
abbrev pub planned_by : CoreData → (cached : ℕ) → Open → QueryProgress → QueryProgress
planned_by c cached o p = planned (runs_in c o) cached (is_offered_at_once c.limits c.kept o) p

-- a query is planned: so many of its steps are cached, and a job for each run of the others and each leg waits, last of its tenant's;
-- of what is kept, the keys of its intervals are the ones used last
pub record IsPlanned (old : CoreData) (query : ℕ) (told : Planned) (new : CoreData) : Type 0 where
  pub whole : IsWhole old query
  pub unplanned : whole.far.planned ≡ false
  pub cached_is : told.cached ≡ length (cached_steps old.limits old.kept whole.opened)
  pub count_is : told.jobs ≡ length (runs_in old whole.opened) * leg_count_of old whole.opened
  pub leaves : ChangesQueue old whole.opened.tenant
      (record {
        waiting = (queue_at old whole.opened.tenant).waiting ++ planned_for old query whole.opened;
        hands = (queue_at old whole.opened.tenant).hands;
      })
      (ring_with old whole.opened.tenant (planned_for old query whole.opened))
      (with_progress query (planned_by old told.cached whole.opened) old.progress) (used_by old.limits old.kept whole.opened) new

-- a query is open, and was planned
pub record IsPlannedBefore (c : CoreData) (query : ℕ) : Type 0 where
  pub stop : Option Stop
  pub opened : IsOpenWith c query stop
  pub was_planned : opened.far.planned ≡ true

-- why a query isn't planned
abbrev pub IsUnplanned : CoreData → ℕ → PlanError → CoreData → Type 0
IsUnplanned old query plan_error.PlannedBefore new = IsPlannedBefore old query × (new ≡ old)
IsUnplanned old query (plan_error.Stopped why) new = IsStoppedBy old query why × (new ≡ old)
IsUnplanned old query plan_error.OutOfMemory new = new ≡ old

-- a query is planned, and so many of its jobs wait and are in hand
pub record AreCountedOf (c : CoreData) (query queued in_hand : ℕ) : Type 0 where
  pub whole : IsWhole c query
  pub was_planned : whole.far.planned ≡ true
  pub queued_is : queued ≡ queued_of c whole.opened.tenant query
  pub in_hand_is : in_hand ≡ in_hand_of c whole.opened.tenant query

-- what is handed out of a query
pub record IsGathered (c : CoreData) (query : ℕ) (g : Gathered) : Type 0 where
  pub counts : AreCountedOf c query 0 0
  pub first : counts.whole.far.given ≡ false
  pub runs_are : g.runs.items ≡ counts.whole.far.runs
  pub parts : AreParts c.limits counts.whole.opened (arc_value g.legs) g.cached.items g.runs.items g.parts.items

-- a query's parts were handed out before
pub record IsGivenBefore (c : CoreData) (query : ℕ) : Type 0 where
  pub counts : AreCountedOf c query 0 0
  pub given : counts.whole.far.given ≡ true

-- a query is open and isn't planned
pub record IsUnbegun (c : CoreData) (query : ℕ) : Type 0 where
  pub whole : IsWhole c query
  pub unplanned : whole.far.planned ≡ false

-- a query's parts are handed out, and nothing else is changed
pub record IsHandedOut (old : CoreData) (query : ℕ) (new : CoreData) : Type 0 where
  pub history : IsSameHistory old new
  pub jobs : AreSameJobs old new
  pub progress_is : new.progress ≡ with_progress query handed_out old.progress

-- what is told of an open query
abbrev pub IsTold : CoreData → ℕ → Collected → CoreData → Type 0
IsTold old query (collected.Stopped why) new = IsStoppedBy old query why × (new ≡ old)
IsTold old query collected.Unplanned new = IsUnbegun old query × (new ≡ old)
IsTold old query (collected.Waiting queued in_hand) new = AreCountedOf old query queued in_hand × ((0 < queued + in_hand) × (new ≡ old))
IsTold old query collected.Given new = IsGivenBefore old query × (new ≡ old)
IsTold old query (collected.Parts g) new = IsGathered old query g × IsHandedOut old query new

-- none exactly where it isn't open
abbrev pub IsCollected : CoreData → ℕ → Option Collected → CoreData → Type 0
IsCollected old query None new = (open_at query (machine_of old).queries ≡ None) × (new ≡ old)
IsCollected old query (Some told) new = IsTold old query told new

-- ---- keeps

-- evaluated cells of steps of a query's grid, all in one interval, without error
pub record AreCellsOf (l : Limits) (o : Open) (d : DoneCells) : Type 0 where
  pub run_is : IsRunOf o.asked.query.grid d.run
  pub whole : length d.cells ≡ d.run.len
  pub place : (k : ℕ) → k < d.run.len → (d.run.start + k * d.run.step) / l.interval ≡ d.run.start / l.interval
  pub values : (k : ℕ) → k < d.run.len
      → eval (store_of (rules_of l) o.log).samples o.asked.query.tree (pos (d.run.start + k * d.run.step)) ≡ Good (slice_index_or d.cells k [])

-- cells that may be kept of an open range query
pub record IsKeepable (c : CoreData) (query : ℕ) (cells : List DoneCells) : Type 0 where
  pub opened : Open
  pub is_open : open_at query (machine_of c).queries ≡ Some opened
  pub ranged : opened.asked.instant ≡ false
  pub few : steps_in cells ≤ most_steps + 1
  pub each : Each (AreCellsOf c.limits opened) cells

-- how often a tenant's samples were deleted
abbrev pub generation_of : CoreData → (tenant : ℕ) → ℕ
generation_of c u = (store_of (rules_of c.limits) (log_of (machine_of c).logs u)).generation

-- what is kept then: nothing more where samples were deleted since the ask; the fixed steps of the cells; or those of the first
-- cells, where memory ran out
abbrev pub KeepsCells : CoreData → Open → List DoneCells → Kept → KeptData → Type 0
KeepsCells c o cells (Outdated generation) kept =
    (generation ≡ generation_of c o.tenant) × ((generation ≡ (asker_of (rules_of c.limits) o).generation → ⊥) × (kept ≡ c.kept))
KeepsCells c o cells (Steps count) kept =
    (generation_of c o.tenant ≡ (asker_of (rules_of c.limits) o).generation)
    × ((count ≡ fixed_by c.limits o cells) × (kept ≡ kept_by c.limits o cells c.kept))
KeepsCells c o cells NoMemory kept = (count : ℕ) × (kept ≡ kept_by c.limits o (take count cells) c.kept)

-- whether cells have the steps of all jobs' runs of a planned query
abbrev pub is_offered_by : QueryProgress → List DoneCells → Bool
is_offered_by far cells = far.planned && covers far.runs cells

-- cells are kept, the query is offered where they have the steps of its jobs' runs, and nothing else is changed
pub record IsKeptOf (old : CoreData) (query : ℕ) (cells : List DoneCells) (answer : Kept) (new : CoreData) : Type 0 where
  pub opened : Open
  pub is_open : open_at query (machine_of old).queries ≡ Some opened
  pub far : QueryProgress
  pub is_far : progress_at query old.progress ≡ Some far
  pub keeps : KeepsCells old opened cells answer new.kept
  pub progress_is : new.progress ≡ cond (is_offered_by far cells) (with_progress query offered old.progress) old.progress
  pub history : IsSameHistory old new
  pub queues : new.queues ≡ old.queues
  pub ring : new.ring ≡ old.ring
  pub failed : new.failed ≡ old.failed

-- ---- answers

-- the code of an open query's answer: 503, 500 or 507 by why it is stopped, and else that of its direct evaluation, once its parts
-- were handed out
abbrev pub IsCodeBy : Limits → Open → (given : Bool) → Option Stop → (code : ℕ) → Type 0
IsCodeBy l o given None code = (given ≡ true) × (code ≡ code_of (answer_of l o))
IsCodeBy l o given (Some (Cancelled place)) code = code ≡ 503
IsCodeBy l o given (Some (Exhausted job)) code = code ≡ 500
IsCodeBy l o given (Some Starved) code = code ≡ 507

-- an open query may be answered with this code; with 200 once it is offered
pub record IsAnswerable (c : CoreData) (query code : ℕ) : Type 0 where
  pub stop : Option Stop
  pub opened : IsOpenWith c query stop
  pub coded : IsCodeBy c.limits opened.opened opened.far.given stop code
  pub offered : code ≡ 200 → opened.far.offered ≡ true

-- how many steps of a query were cached at its plan
abbrev pub cached_by : Option QueryProgress → ℕ
cached_by None = 0
cached_by (Some far) = far.cached

abbrev pub cached_of : CoreData → ℕ → ℕ
cached_of c query = cached_by (progress_at query c.progress)

-- and how many were evaluated: all others, once it is planned
abbrev pub evaluated_by : Option Open → Option QueryProgress → ℕ
evaluated_by None far = 0
evaluated_by (Some o) None = 0
evaluated_by (Some o) (Some far) = cond far.planned (length (points o.asked.query.grid) - far.cached) 0

abbrev pub evaluated_of : CoreData → ℕ → ℕ
evaluated_of c query = evaluated_by (open_at query (machine_of c).queries) (progress_at query c.progress)
