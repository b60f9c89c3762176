-- How a plan divides the steps of a query that is kept, and what a keep asks of it: this project's own.
use Rattle.std.specs.Arc.{arc_value}
use Rattle.std.specs.Prelude.{◌≡◌, ◌≤◌, ℕ, ◌+◌, ◌*◌, Bool, true, false, cond, Option, Some, None, List, [], ◌∷◌, ◌++◌, filter, length, nat_eq}
use Rattle.pf_base.specs.GridLists.{GridData, IsGrid}
use Rattle.pf_base.specs.Grids.{points}
use Rattle.pf_base.specs.Limits.{most_steps}
use Rattle.pf_base.specs.declared.plain.Limits.{Limits}
use Rattle.pf_extent.specs.Done.{AreWhole, steps_in}
use Rattle.pf_extent.specs.declared.extent.Asker.{Asker}
use Rattle.pf_extent.specs.declared.key.Key.{Key}
use Rattle.pf_extent.specs.declared.done.DoneCells.{DoneCells}
use Rattle.pf_journal.specs.Machine.{CanBeCached, Open, open_at}
use Rattle.pf_model.specs.Lists.{Each}
use Rattle.pf_model.specs.Log.{Rules, rules_of}
use Rattle.pf_query.specs.declared.answers.Planned.{Planned}
use Rattle.pf_results.specs.Keeping.{is_fixed}
use Rattle.pf_results.specs.Pieces.{AreOfOneQuery, missing_over, served_over, touched_over}
use Rattle.pf_results.specs.Runs.{lengths}
use Rattle.pf_results.specs.Serving.{steps_of}
use Rattle.pf_results.specs.Truth.{AreTrue, IsAsker, IsValue, Logs}
use Rattle.pf_results.specs.Woven.{AreWoven}
use Rattle.pf_results.specs.declared.serving.Found.{Found}
use Rattle.pf_split.specs.Pieces.{pieces_of, steps_of as steps_of_pieces}
use Rattle.pf_split.specs.declared.splitting.Piece.{Piece}
use Rattle.pf_store.specs.Standing.{PinData}
use Rattle.pf_core.specs.Cached.{KeptData, asker_of, cached_steps, wanted_runs}
use Rattle.pf_core.specs.Calls.{ChangesQueue, IsWhole, generation_of, is_offered_by, leg_count_of, planned_by, planned_for, ring_with, runs_in}
use Rattle.pf_core.specs.Cores.{CoreData, IsSameHistory, machine_of, queue_at}
use Rattle.pf_core.specs.Jobs.{AreDivided}
use Rattle.pf_core.specs.Progress.{QueryProgress, offered, progress_at, with_progress}
use Rattle.pf_core.specs.declared.plan.Division.{Division}
use Rattle.pf_core.specs.declared.query.Query.{Query}

-- ---- of a query that is kept

abbrev pub asker_by : PinData → Asker
asker_by p = record { pin = p.number; floor = p.floor; generation = p.generation }

abbrev pub key_by : Query → Key
key_by q = record { tenant = q.tenant; text = (arc_value q.asked).text; step = (arc_value q.asked).query.grid.step; interval = 0 }

abbrev pub pieces_by : (interval : ℕ) → GridData → List Piece
pieces_by interval grid = pieces_of interval grid.step (points grid)

-- an instant query's one step
pub record IsUndivided (grid : GridData) (d : Division) : Type 0 where
  pub cached : d.found.cached.items ≡ []
  pub runs : d.found.runs.items ≡ grid ∷ []
  pub key : d.key ≡ None
  pub grid_is : d.grid ≡ grid

-- what the cache has of a range query's steps
pub record IsFoundBy (kept : KeptData) (interval : ℕ) (q : Query) (found : Found) (key : Key) : Type 0 where
  pub one : AreOfOneQuery (key_by q) key
  pub woven : AreWoven (pieces_by interval (arc_value q.asked).query.grid) found.cached.items found.runs.items
  pub whole : AreWhole found.cached.items
  pub cached : steps_of found.cached.items ≡ served_over kept (key_by q) (arc_value q.asked).query.tree (asker_by q.pin) (pieces_by interval (arc_value q.asked).query.grid)
  pub runs : found.runs.items ≡ missing_over kept (key_by q) (arc_value q.asked).query.tree (asker_by q.pin) (pieces_by interval (arc_value q.asked).query.grid)
  pub all : steps_in found.cached.items + lengths found.runs.items ≡ (arc_value q.asked).query.grid.len
  pub values : (rules : Rules) (logs : Logs) → AreTrue rules interval logs kept.entries → IsAsker rules (logs q.tenant) (asker_by q.pin)
      → Each (IsValue rules (logs q.tenant) (asker_by q.pin) (arc_value q.asked).query.tree) (steps_of found.cached.items)
  pub few : (rules : Rules) (logs : Logs) → AreTrue rules interval logs kept.entries → IsAsker rules (logs q.tenant) (asker_by q.pin)
      → steps_in found.cached.items ≤ length (filter (is_fixed (arc_value q.asked).query.tree (asker_by q.pin)) (points (arc_value q.asked).query.grid))

abbrev pub IsDividedBy : KeptData → (interval : ℕ) → Query → Found → Option Key → Type 0
IsDividedBy kept interval q found None = ((arc_value q.asked).instant ≡ true) × (found.cached.items ≡ []) × (found.runs.items ≡ (arc_value q.asked).query.grid ∷ [])
IsDividedBy kept interval q found (Some key) = ((arc_value q.asked).instant ≡ false) × IsFoundBy kept interval q found key

pub record Divides (kept : KeptData) (interval : ℕ) (q : Query) (d : Division) : Type 0 where
  pub grid : d.grid ≡ (arc_value q.asked).query.grid
  pub lawful : IsGrid d.grid
  pub instant_is : (arc_value q.asked).instant ≡ nat_eq (arc_value q.asked).query.grid.step 0
  pub steps : steps_of_pieces (pieces_by interval (arc_value q.asked).query.grid) ≡ points (arc_value q.asked).query.grid
  pub parts : IsDividedBy kept interval q d.found d.key

-- ---- of an open query

-- what is found is the query's division
pub record IsDivisionFor (l : Limits) (kept : KeptData) (o : Open) (found : Found) (instant : Bool) : Type 0 where
  pub divided : AreDivided l o found.cached.items found.runs.items
  pub cached : steps_in found.cached.items ≡ length (cached_steps l kept o)
  pub runs : found.runs.items ≡ wanted_runs l kept o
  pub few_cached : steps_in found.cached.items ≤ length (points o.asked.query.grid)
  pub reused : CanBeCached l o (steps_in found.cached.items)
  pub few_runs : length found.runs.items ≤ most_steps + 1
  pub most : length (points o.asked.query.grid) ≤ most_steps + 1
  pub instant_is : instant ≡ o.asked.instant

-- what is kept once these keys are used
abbrev pub used_with : (interval : ℕ) → GridData → Option Key → KeptData → KeptData
used_with interval grid None kept = kept
used_with interval grid (Some key) kept = touched_over key (pieces_by interval grid) kept

-- a query is planned, and its keys aren't used yet
pub record IsPlannedFirst (old : CoreData) (query : ℕ) (told : Planned) (new : CoreData) : Type 0 where
  pub whole : IsWhole old query
  pub unplanned : whole.far.planned ≡ false
  pub cached_is : told.cached ≡ length (cached_steps old.limits old.kept whole.opened)
  pub count_is : told.jobs ≡ length (runs_in old whole.opened) * leg_count_of old whole.opened
  pub leaves : ChangesQueue old whole.opened.tenant
      (record {
        waiting = (queue_at old whole.opened.tenant).waiting ++ planned_for old query whole.opened;
        hands = (queue_at old whole.opened.tenant).hands;
      })
      (ring_with old whole.opened.tenant (planned_for old query whole.opened))
      (with_progress query (planned_by old told.cached whole.opened) old.progress) old.kept new

-- the generation of an open query's tenant, where that is another one than at the ask
abbrev pub IsNewer : CoreData → Open → Option ℕ → Type 0
IsNewer c o None = generation_of c o.tenant ≡ (asker_of (rules_of c.limits) o).generation
IsNewer c o (Some generation) =
    (generation ≡ generation_of c o.tenant) × (generation ≡ (asker_of (rules_of c.limits) o).generation → ⊥)

-- an open query is offered where cells have the steps of its jobs' runs, and nothing else is changed
pub record IsOfferedIf (old : CoreData) (query : ℕ) (cells : List DoneCells) (new : CoreData) : Type 0 where
  pub progress_is : (o : Open) (far : QueryProgress) → open_at query (machine_of old).queries ≡ Some o → progress_at query old.progress ≡ Some far
      → new.progress ≡ cond (is_offered_by far cells) (with_progress query offered old.progress) old.progress
  pub history : IsSameHistory old new
  pub queues : new.queues ≡ old.queues
  pub ring : new.ring ≡ old.ring
  pub failed : new.failed ≡ old.failed
  pub kept : new.kept ≡ old.kept
