-- How far the work on an open query is, as contracts inside of this crate see it: this project's own.
use Rattle.std.specs.Arc.{arc_value}
use Rattle.std.specs.List.{slice_get}
use Rattle.std.specs.Prelude.{◌≡◌, ◌⊎◌, ℕ, ◌+◌, ◌*◌, ◌/◌, ◌%◌, ◌≤◌, Bool, true, false, cond, nat_lt, Option, None, Some, List, length}
use Rattle.pf_base.specs.GridLists.{GridData}
use Rattle.pf_base.specs.Grids.{points}
use Rattle.pf_base.specs.Limits.{most_steps}
use Rattle.pf_base.specs.declared.plain.Limits.{Limits}
use Rattle.pf_base.specs.declared.plain.Row.{Row}
use Rattle.pf_block.specs.Snaps.{SnapData}
use Rattle.pf_core.specs.Calls.{AreCellsOf, IsAnswerable, IsStoppedBy, IsWhole, cached_of, evaluated_of}
use Rattle.pf_core.specs.Cores.{CoreData, machine_of}
use Rattle.pf_core.specs.Jobs.{AreParts, IsValueOver, pieces_in}
use Rattle.pf_extent.specs.Done.{steps_in}
use Rattle.pf_extent.specs.declared.done.DoneCells.{DoneCells}
use Rattle.pf_core.specs.Progress.{QueryProgress, progress_at}
use Rattle.pf_front.specs.Answers.{GoesWithStop, IsInHands, IsOutcomeOf, code_in}
use Rattle.pf_front.specs.Spans.{AllCells, AreCellsAt, AreNotedOf, all_of, piece_runs, runs_in}
use Rattle.pf_front.specs.Works.{WorksOn}
use Rattle.pf_front.specs.declared.outcome.Found.{Found}
use Rattle.pf_front.specs.declared.outcome.Found.TheVariants as found
use Rattle.pf_front.specs.declared.outcome.Outcome.{Outcome}
use Rattle.pf_front.specs.declared.outcome.Outcome.TheVariants as outcome
use Rattle.pf_journal.specs.Machine.{AreSteps, Open, answer_of, open_at}
use Rattle.pf_model.specs.Direct.{Answer, failed, gathered}
use Rattle.pf_model.specs.Lists.{Each}
use Rattle.pf_model.specs.Log.{AreApart, rules_of, store_of}
use Rattle.pf_query.specs.Covers.{covers}
use Rattle.pf_query.specs.declared.answers.Collected.{Collected}
use Rattle.pf_query.specs.declared.answers.Collected.TheVariants as collected
use Rattle.pf_query.specs.declared.gathered.Gathered.{Gathered}
use Rattle.pf_query.specs.declared.stop.Stop.{Stop}
use Rattle.pf_query.specs.declared.stop.Stop.TheVariants.{Cancelled, Exhausted, Starved}
use Rattle.pf_shard.specs.Bound.{AreEvaluable}
use Rattle.pf_shard.specs.Lawful.{IsLawful, ResolvedLegs, leg_count, legs_data}
use Rattle.pf_shard.specs.LegParts.{FitsNodes}
use Rattle.pf_shard.specs.declared.parts.Part.{Part}
use Rattle.pf_store.specs.Standing.{StandsFor}

-- a query is planned or stopped
pub record IsBegun (c : CoreData) (query : ℕ) : Type 0 where
  pub far : QueryProgress
  pub is_far : progress_at query c.progress ≡ Some far
  pub begun : (far.planned ≡ true) ⊎ ((why : Stop) × (far.stop ≡ Some why))

-- a query's parts were handed out, and it isn't stopped
pub record IsEvaluable (c : CoreData) (query : ℕ) : Type 0 where
  pub whole : IsWhole c query
  pub was_planned : whole.far.planned ≡ true
  pub given : whole.far.given ≡ true

-- legs and parts are those of a query that is open
abbrev pub HasParts : CoreData → Option Open → Gathered → Type 0
HasParts c None g = ⊥
HasParts c (Some o) g = AreParts c.limits o (arc_value g.legs) g.cached.items g.runs.items g.parts.items

-- parts can be merged: they are of their legs' kind, as many a run as there are legs
pub record AreMergeable (legs : ResolvedLegs) (runs : List GridData) (parts : List Part) : Type 0 where
  pub lawful : IsLawful (legs_data legs)
  pub evaluable : AreEvaluable legs.resolved
  pub many : length parts ≡ length runs * leg_count (legs_data legs)
  pub fits : Each (FitsNodes legs.nodes) parts

-- parts are what the legs of a query are over a run
abbrev pub AreOfLegs : List Row → ResolvedLegs → GridData → List Part → Type 0
AreOfLegs samples legs run parts = (i : ℕ) (part : Part) → slice_get parts i ≡ Some part → IsValueOver samples (legs_data legs) i run part

-- parts are what legs are over runs, run by run and leg by leg
abbrev pub AreLegValues : List Row → ResolvedLegs → List GridData → List Part → Type 0
AreLegValues samples legs runs parts =
    (i : ℕ) (run : GridData) (part : Part) → slice_get runs (i / leg_count (legs_data legs)) ≡ Some run → slice_get parts i ≡ Some part
    → IsValueOver samples (legs_data legs) (i % leg_count (legs_data legs)) run part

-- parts are what the first legs are over a run, so many
pub record AreFirstParts (legs : ResolvedLegs) (snap : SnapData) (run : GridData) (count : ℕ) (parts : List Part) : Type 0 where
  pub many : length parts ≡ count
  pub fits : Each (FitsNodes legs.nodes) parts
  pub values : (samples : List Row) → StandsFor snap samples → AreApart samples → AreOfLegs samples legs run parts

-- parts are what all legs are over runs
pub record AreAllParts (legs : ResolvedLegs) (snap : SnapData) (runs : List GridData) (parts : List Part) : Type 0 where
  pub many : length parts ≡ length runs * leg_count (legs_data legs)
  pub fits : Each (FitsNodes legs.nodes) parts
  pub values : (samples : List Row) → StandsFor snap samples → AreApart samples → AreLegValues samples legs runs parts

-- one of a query's jobs waits
abbrev pub some_waits : Collected → Bool
some_waits (collected.Stopped why) = false
some_waits collected.Unplanned = false
some_waits (collected.Waiting queued in_hand) = nat_lt 0 queued
some_waits collected.Given = false
some_waits (collected.Parts g) = false

-- what is told of a query once none of its jobs waits
abbrev pub IsWorkedOff : (before after : ℕ) → CoreData → (query : ℕ) → Collected → CoreData → Type 0
IsWorkedOff before after old query (collected.Stopped why) new = WorksOn before after old new × IsStoppedBy new query why
IsWorkedOff before after old query collected.Unplanned new = ⊥
IsWorkedOff before after old query (collected.Waiting queued in_hand) new = IsInHands before after old query in_hand new
IsWorkedOff before after old query collected.Given new = WorksOn before after old new × IsEvaluable new query
IsWorkedOff before after old query (collected.Parts g) new =
    WorksOn before after old new × ((e : IsEvaluable new query) × (g.runs.items ≡ e.whole.far.runs) × HasParts new (open_at query (machine_of new).queries) g)

-- what comes out of a query that is stopped
abbrev pub stopped_as : Stop → Outcome
stopped_as (Cancelled place) = outcome.Cancelled
stopped_as (Exhausted job) = outcome.Exhausted job
stopped_as Starved = outcome.Starved

-- an answer as what came out
abbrev pub IsFound : Answer → Outcome → Type 0
IsFound a (outcome.Matrix rows) = a ≡ gathered rows
IsFound a (outcome.Failed step kind) = a ≡ failed step kind
IsFound a outcome.Cancelled = ⊥
IsFound a (outcome.Exhausted job) = ⊥
IsFound a outcome.Starved = ⊥

-- ---- what was found of an open query

-- the runs of its pieces
abbrev pub whole_runs : Limits → Open → List GridData
whole_runs l o = piece_runs (pieces_in l o)

-- cells are what it is at its steps
abbrev pub AreCellsOver : Limits → Open → AllCells → Type 0
AreCellsOver l o cells = AreCellsAt (store_of (rules_of l) o.log).samples o.asked.query.tree (points o.asked.query.grid) cells

-- cells may be kept of it: those of each of its pieces in which one of some runs lies
pub record AreNoted (l : Limits) (o : Open) (runs : List GridData) (cells : List DoneCells) : Type 0 where
  pub pieces : AreNotedOf (pieces_in l o) runs cells
  pub few : steps_in cells ≤ most_steps + 1
  pub each : Each (AreCellsOf l o) cells

abbrev pub IsFoundOf : Limits → Open → List GridData → Found → Type 0
IsFoundOf l o runs (found.Cells pieces noted) = AreCellsOver l o (all_of pieces.items) × AreNoted l o runs noted.items
IsFoundOf l o runs (found.Failed step kind) = answer_of l o ≡ failed step kind

-- the cells of all its pieces may be kept
abbrev pub IsWholeFound : Limits → Open → Found → Type 0
IsWholeFound l o (found.Cells pieces noted) = runs_in noted.items ≡ whole_runs l o
IsWholeFound l o (found.Failed step kind) = Unit {0}

-- the runs that it is evaluated over: those of its jobs, or all its pieces where its parts were handed out before
abbrev pub runs_over : Limits → Open → QueryProgress → List GridData
runs_over l o far = cond far.given (whole_runs l o) far.runs

-- a query whose parts were handed out is offered
abbrev pub IsOffered : CoreData → (query : ℕ) → Type 0
IsOffered c query = (e : IsEvaluable c query) × (e.whole.far.offered ≡ true)

-- cells of an open query may be kept, and cover the runs of its jobs
pub record AreOfferable (c : CoreData) (query : ℕ) (cells : List DoneCells) : Type 0 where
  pub opened : Open
  pub is_open : open_at query (machine_of c).queries ≡ Some opened
  pub far : QueryProgress
  pub is_far : progress_at query c.progress ≡ Some far
  pub few : steps_in cells ≤ most_steps + 1
  pub each : Each (AreCellsOf c.limits opened) cells
  pub cover : covers far.runs cells ≡ true

-- what was found of an open query is what it is; its cells may be kept
pub record AreFoundCells (c : CoreData) (query : ℕ) (pieces : AllCells) (noted : List DoneCells) : Type 0 where
  pub offerable : AreOfferable c query noted
  pub cells : AreCellsOver c.limits offerable.opened pieces

abbrev pub IsFoundFor : CoreData → (query : ℕ) → Found → Type 0
IsFoundFor c query (found.Cells pieces noted) = AreFoundCells c query (all_of pieces.items) noted.items
IsFoundFor c query (found.Failed step kind) = (o : Open) × (open_at query (machine_of c).queries ≡ Some o) × (answer_of c.limits o ≡ failed step kind)

-- an open query may be answered with what came out of it
pub record IsSettled (c : CoreData) (query : ℕ) (found : Outcome) : Type 0 where
  pub opened : Open
  pub is_open : open_at query (machine_of c).queries ≡ Some opened
  pub outcome_of : IsOutcomeOf c.limits opened found
  pub stop : GoesWithStop c query found
  pub answerable : IsAnswerable c query (code_in found)
  pub steps : AreSteps (length (points opened.asked.query.grid)) (code_in found) (cached_of c query + evaluated_of c query)
