-- What is kept of evaluated steps, as a core's open queries see it: who asks, under which keys, what each finds, and what is kept of
-- it. This project's own.
use Rattle.std.specs.Prelude.{ℕ, Bool, ◌||◌, cond, List, [], ◌∷◌, length}
use Rattle.lru.specs.LruCache.{LruCache}
use Rattle.pf_base.specs.GridLists.{GridData}
use Rattle.pf_base.specs.declared.plain.Limits.{Limits}
use Rattle.pf_extent.specs.Steps.{Extents}
use Rattle.pf_extent.specs.declared.done.DoneCells.{DoneCells}
use Rattle.pf_extent.specs.declared.extent.Asker.{Asker}
use Rattle.pf_extent.specs.declared.key.Key.{Key}
use Rattle.pf_journal.specs.Machine.{Open}
use Rattle.pf_model.specs.Direct.{Step}
use Rattle.pf_model.specs.Log.{Rules, floor_of, rules_of, store_of}
use Rattle.pf_query.specs.Jobs.{is_empty}
use Rattle.pf_results.specs.Pieces.{fixed_over, kept_over, missing_over, served_over, touched_over}
use Rattle.pf_core.specs.Jobs.{pieces_in}

-- extents under keys, the key used last first
abbrev pub KeptData : Type 0
KeptData = LruCache Key Extents

-- an open query, over its tenant's log at the ask
abbrev pub asker_of : (rules : Rules) → Open → Asker
asker_of rules o = record { pin = length o.log; floor = floor_of rules o.log; generation = (store_of rules o.log).generation }

-- the key of its steps in an interval
abbrev pub key_in : Open → (interval : ℕ) → Key
key_in o interval = record { tenant = o.tenant; text = o.asked.text; step = o.asked.query.grid.step; interval = interval }

-- its steps that are cached, with their cells; an instant query has none
abbrev pub cached_steps : Limits → KeptData → Open → List Step
cached_steps l kept o =
    cond o.asked.instant [] (served_over kept (key_in o 0) o.asked.query.tree (asker_of (rules_of l) o) (pieces_in l o))

-- the longest runs of the others in each interval
abbrev pub wanted_runs : Limits → KeptData → Open → List GridData
wanted_runs l kept o =
    cond o.asked.instant (o.asked.query.grid ∷ []) (missing_over kept (key_in o 0) o.asked.query.tree (asker_of (rules_of l) o) (pieces_in l o))

-- whether it is offered by its plan: there is nothing to keep
abbrev pub is_offered_at_once : Limits → KeptData → Open → Bool
is_offered_at_once l kept o = o.asked.instant || is_empty (wanted_runs l kept o)

-- what is kept once its keys were used
abbrev pub used_by : Limits → KeptData → Open → KeptData
used_by l kept o = cond o.asked.instant kept (touched_over (key_in o 0) (pieces_in l o) kept)

-- what is kept once its fixed steps of evaluated cells are, and how many these are
abbrev pub kept_by : Limits → Open → List DoneCells → KeptData → KeptData
kept_by l o cells kept = kept_over (key_in o 0) o.asked.query.tree (asker_of (rules_of l) o) l.interval cells kept

abbrev pub fixed_by : Limits → Open → List DoneCells → ℕ
fixed_by l o cells = fixed_over o.asked.query.tree (asker_of (rules_of l) o) cells
