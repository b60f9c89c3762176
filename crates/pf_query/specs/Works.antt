-- What is kept of a planned query: its legs, its runs, a slot for each of its jobs, and the cells that were cached. This project's own.
use Rattle.std.specs.Arc.{arc_value}
use Rattle.std.specs.Prelude.{◌≡◌, ℕ, zero, suc, ◌+◌, ◌-◌, ◌*◌, ◌/◌, ◌%◌, ◌<◌, ◌≤◌, Bool, true, false, Some, List, [], ◌∷◌, length, slice_get, slice_set, map}
use Rattle.pf_base.specs.GridLists.{GridData}
use Rattle.pf_base.specs.Limits.{most_steps}
use Rattle.pf_base.specs.declared.plain.JobHead.{JobHead}
use Rattle.pf_block.specs.Snaps.{SnapData}
use Rattle.pf_model.specs.Lists.{Each}
use Rattle.pf_shard.specs.Lawful.{IsLawful, ResolvedLegs, leg_count, legs_data}
use Rattle.pf_shard.specs.declared.parts.Part.{Part}
use Rattle.pf_extent.specs.Done.{steps_in}
use Rattle.pf_extent.specs.declared.done.DoneCells.{DoneCells}
use Rattle.pf_query.specs.declared.job.Job.{Job}
use Rattle.pf_query.specs.declared.slot.Slot.{Slot}
use Rattle.pf_query.specs.declared.slot.Slot.TheVariants.{Empty, Filled, Handed}

-- the legs, the runs, the slots run by run and leg by leg, the cells that were cached, until they are handed out with the parts, of
-- how many steps they were, whether the query is offered, and whether all parts were handed out
pub record WorkData : Type 0 where
  pub legs : ResolvedLegs
  pub runs : List GridData
  pub slots : List Slot
  pub cached : List DoneCells
  pub cached_steps : ℕ
  pub offered : Bool
  pub given : Bool

-- how many legs these are
abbrev pub legs_in : ResolvedLegs → ℕ
legs_in legs = leg_count (legs_data legs)

abbrev pub is_handed : Slot → Bool
is_handed Empty = false
is_handed (Filled part) = false
is_handed Handed = true

-- a part is there
abbrev pub IsFilled : Slot → Type 0
IsFilled Empty = ⊥
IsFilled (Filled part) = Unit {0}
IsFilled Handed = ⊥

-- so many empty slots
abbrev pub empty_slots : ℕ → List Slot
empty_slots zero = []
empty_slots (suc n) = Empty ∷ empty_slots n

-- a slot for each run and each of the lawful legs; each is handed out where all are
pub record IsWork (w : WorkData) : Type 0 where
  pub lawful : IsLawful (legs_data w.legs)
  pub few : length w.runs ≤ most_steps + 1
  pub many : length w.slots ≡ length w.runs * legs_in w.legs
  pub handed : Each (λ s. is_handed s ≡ w.given) w.slots

-- that of a query that was planned
abbrev pub planned_work : ResolvedLegs → List GridData → List DoneCells → (offered : Bool) → WorkData
planned_work legs runs cached offered = record {
  legs = legs;
  runs = runs;
  slots = empty_slots (length runs * legs_in legs);
  cached = cached;
  cached_steps = steps_in cached;
  offered = offered;
  given = false;
}

-- with a job's part
abbrev pub filled : (job : ℕ) → Part → WorkData → WorkData
filled job part w = record w { slots = slice_set w.slots job (Filled part) }

-- with all parts and the cached cells handed out
abbrev pub handed_out : WorkData → WorkData
handed_out w = record w { slots = map (λ s. Handed) w.slots; cached = []; given = true }

-- offered
abbrev pub offered : WorkData → WorkData
offered w = record w { offered = true }

-- the last time of a run
abbrev pub last_of : GridData → ℕ
last_of run = run.start + (run.len - 1) * run.step

-- a job's number tells its run and its leg, and its times are those of the run; it was tried less than five times
pub record IsHeadOf (legs : ResolvedLegs) (runs : List GridData) (run : GridData) (h : JobHead) : Type 0 where
  pub run_is : slice_get runs (h.job / legs_in legs) ≡ Some run
  pub leg : h.leg ≡ h.job % legs_in legs
  pub first : h.first ≡ run.start
  pub last : h.last ≡ last_of run
  pub tries : h.tries < 5

-- a fact of each element and its number, from one on
abbrev pub EachAt : {X : Type 0} → (ℕ → X → Type 0) → ℕ → List X → Type 0
EachAt P k [] = Unit {0}
EachAt P k (x ∷ xs) = P k x × EachAt P (k + 1) xs

-- the job of this number, not tried yet
pub record IsPlanned (tenant query : ℕ) (legs : ResolvedLegs) (runs : List GridData) (snap : SnapData) (number : ℕ) (j : Job) : Type 0 where
  pub tenant_is : j.head.tenant ≡ tenant
  pub query_is : j.head.query ≡ query
  pub number_is : j.head.job ≡ number
  pub untried : j.head.tries ≡ 0
  pub head : IsHeadOf legs runs j.run j.head
  pub legs_are : arc_value j.legs ≡ legs
  pub snap_is : arc_value j.snap ≡ snap

-- the job of this number over a run, where there are so many legs
pub record IsJobOver (tenant query : ℕ) (legs : ResolvedLegs) (count : ℕ) (run : GridData) (number : ℕ) (snap : SnapData) (j : Job) : Type 0 where
  pub head : j.head ≡ record { tenant = tenant; query = query; job = number; leg = number % count; first = run.start; last = last_of run; tries = 0 }
  pub run_is : j.run ≡ run
  pub legs_are : arc_value j.legs ≡ legs
  pub snap_is : arc_value j.snap ≡ snap

-- the jobs of a query, run by run and leg by leg
pub record ArePlanned (tenant query : ℕ) (legs : ResolvedLegs) (runs : List GridData) (snap : SnapData) (jobs : List Job) : Type 0 where
  pub many : length jobs ≡ length runs * legs_in legs
  pub each : EachAt (IsPlanned tenant query legs runs snap) 0 jobs
