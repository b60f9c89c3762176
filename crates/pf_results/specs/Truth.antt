-- What is kept is true: it is what the query is over the samples after the first changes of its tenant's log, and stays so however
-- the log grows. This project's own.
use Rattle.std.specs.Prelude.{◌≡◌, ◌≤◌, ◌<◌, ℕ, pos, ◌+◌, ◌*◌, ◌/◌, true, Some, List, ◌++◌, Contains, length, slice_index_or, [], take}
use Rattle.pf_base.specs.GridLists.{GridData}
use Rattle.pf_extent.specs.Steps.{AreSpaced, Extents, Known, known_at}
use Rattle.pf_extent.specs.declared.extent.Asker.{Asker}
use Rattle.pf_extent.specs.declared.key.Key.{Key}
use Rattle.pf_model.specs.Canonical.{canonical}
use Rattle.pf_model.specs.declared.cell.Element.{Element}
use Rattle.pf_model.specs.declared.cell.StepCell.TheVariants.{Good}
use Rattle.pf_model.specs.Direct.{Step}
use Rattle.pf_model.specs.Evaluation.{eval}
use Rattle.pf_model.specs.Log.{Change, Rules, floor_of, store_of}
use Rattle.pf_model.specs.Reach.{may_be_kept}
use Rattle.pf_model.specs.Trees.{Tree}
use Rattle.pf_print.specs.OwnTexts.{HasText}

-- the steps of each key's extents are at the key's distance
abbrev pub AreAllSpaced : List (Key × Extents) → Type 0
AreAllSpaced entries = (key : Key) (es : Extents) → Contains entries (key, es) → AreSpaced key.step es

-- what is known of a step is what the query is there after the first `pin` changes of a log, without error; the step may be kept
-- by the floor there, and is in the key's interval
pub record IsTrueStep (rules : Rules) (interval : ℕ) (log : List Change) (key : Key) (query : Tree) (t : ℕ) (k : Known) : Type 0 where
  pub pin : k.pin ≤ length log
  pub generation : k.generation ≡ (store_of rules (take k.pin log)).generation
  pub value : eval (store_of rules (take k.pin log)).samples query (pos t) ≡ Good k.cell
  pub frozen : may_be_kept query (pos t) (floor_of rules (take k.pin log)) ≡ true
  pub place : t / interval ≡ key.interval

-- all that is kept under a key, of the query whose canonical text is the key's
abbrev pub IsTrueList : (rules : Rules) (interval : ℕ) → List Change → Key → Extents → Type 0
IsTrueList rules interval log key es =
    (query : Tree) → HasText query → canonical query ≡ key.text → (t : ℕ) (k : Known) → known_at t es ≡ Some k
    → IsTrueStep rules interval log key query t k

-- the logs of tenants
abbrev pub Logs : Type 0
Logs = ℕ → List Change

-- all that is kept, where these are the tenants' logs
abbrev pub AreTrue : (rules : Rules) (interval : ℕ) → Logs → List (Key × Extents) → Type 0
AreTrue rules interval logs entries =
    (key : Key) (es : Extents) → Contains entries (key, es) → IsTrueList rules interval (logs key.tenant) key es

-- logs that grew
abbrev pub HaveGrown : (old new : Logs) → Type 0
HaveGrown old new = (u : ℕ) → (more : List Change) × (new u ≡ old u ++ more)

-- the law: it stays true
abbrev pub StayTrue : Type 0
StayTrue =
    (rules : Rules) (interval : ℕ) (old new : Logs) (entries : List (Key × Extents)) → HaveGrown old new
    → AreTrue rules interval old entries → AreTrue rules interval new entries

-- who asks, or has evaluated, after the first `pin` changes of a log
pub record IsAsker (rules : Rules) (log : List Change) (asker : Asker) : Type 0 where
  pub pin : asker.pin ≤ length log
  pub generation : asker.generation ≡ (store_of rules (take asker.pin log)).generation
  pub floor : asker.floor ≡ floor_of rules (take asker.pin log)

-- a step's cell is what the query is there for the asker
abbrev pub IsValue : (rules : Rules) → List Change → Asker → Tree → Step → Type 0
IsValue rules log asker query s = eval (store_of rules (take asker.pin log)).samples query (pos s.time) ≡ Good s.elements

-- the cells of a run are what the query is at its steps, which are all in one interval
pub record IsEvaluated (rules : Rules) (interval : ℕ) (log : List Change) (key : Key) (asker : Asker) (query : Tree) (run : GridData) (cells : List (List Element)) : Type 0 where
  pub asker_is : IsAsker rules log asker
  pub values : (k : ℕ) → k < run.len
      → eval (store_of rules (take asker.pin log)).samples query (pos (run.start + k * run.step)) ≡ Good (slice_index_or cells k [])
  pub place : (k : ℕ) → k < run.len → (run.start + k * run.step) / interval ≡ key.interval
