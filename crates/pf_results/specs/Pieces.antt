-- What is found, used and kept of a query's steps, piece by piece: each piece is under its own key. This project's own.
use Rattle.std.specs.Prelude.{◌≡◌, ℕ, ◌+◌, ◌/◌, not, List, [], ◌∷◌, ◌++◌, length}
use Rattle.lru.specs.LruCache.{LruCache}
use Rattle.pf_base.specs.GridLists.{GridData}
use Rattle.pf_base.specs.Grids.{points}
use Rattle.pf_extent.specs.Steps.{Extents}
use Rattle.pf_extent.specs.declared.done.DoneCells.{DoneCells}
use Rattle.pf_extent.specs.declared.extent.Asker.{Asker}
use Rattle.pf_extent.specs.declared.key.Key.{Key}
use Rattle.pf_model.specs.Direct.{Step}
use Rattle.pf_model.specs.Lists.{Each}
use Rattle.pf_model.specs.Log.{Rules}
use Rattle.pf_model.specs.Trees.{Tree}
use Rattle.pf_split.specs.declared.splitting.Piece.{Piece}
use Rattle.pf_results.specs.Entries.{kept_under, put_under, touched}
use Rattle.pf_results.specs.Keeping.{extents_of, fixed_count, kept_list}
use Rattle.pf_results.specs.Runs.{runs_of}
use Rattle.pf_results.specs.Serving.{is_served, served_steps}
use Rattle.pf_results.specs.Truth.{IsEvaluated, Logs}

-- the key of an interval
abbrev pub key_at : Key → ℕ → Key
key_at key i = record key { interval = i }

-- keys of one tenant's query at one distance
pub record AreOfOneQuery (old new : Key) : Type 0 where
  pub tenant : new.tenant ≡ old.tenant
  pub text : new.text ≡ old.text
  pub step : new.step ≡ old.step

-- ---- what is found

-- the steps that are served, with their cells
abbrev pub served_over : LruCache Key Extents → Key → Tree → Asker → List Piece → List Step
served_over c key query asker [] = []
served_over c key query asker (p ∷ ps) =
    served_steps (kept_under (key_at key p.interval) c) query asker (points p.run) ++ served_over c key query asker ps

-- the longest runs of the others
abbrev pub missing_over : LruCache Key Extents → Key → Tree → Asker → List Piece → List GridData
missing_over c key query asker [] = []
missing_over c key query asker (p ∷ ps) =
    runs_of p.run.step (λ t. not (is_served (kept_under (key_at key p.interval) c) query asker t)) (points p.run) ++ missing_over c key query asker ps

-- ---- what is used

-- the keys of pieces are the ones used last, in order
abbrev pub touched_over : Key → List Piece → LruCache Key Extents → LruCache Key Extents
touched_over key [] c = c
touched_over key (p ∷ ps) c = touched_over key ps (touched (key_at key p.interval) c)

-- ---- what is kept

-- the key of cells that lie in one interval of a length
abbrev pub key_of : Key → (interval : ℕ) → DoneCells → Key
key_of key interval d = key_at key (d.run.start / interval)

-- the fixed steps of evaluated cells are kept
abbrev pub kept_with : Key → Tree → Asker → (interval : ℕ) → DoneCells → LruCache Key Extents → LruCache Key Extents
kept_with key query asker interval d c =
    put_under (key_of key interval d) (kept_list (kept_under (key_of key interval d) c) (extents_of query asker d.run d.cells (points d.run))) c

abbrev pub kept_over : Key → Tree → Asker → (interval : ℕ) → List DoneCells → LruCache Key Extents → LruCache Key Extents
kept_over key query asker interval [] c = c
kept_over key query asker interval (d ∷ ds) c = kept_over key query asker interval ds (kept_with key query asker interval d c)

-- how many steps these are
abbrev pub fixed_over : Tree → Asker → List DoneCells → ℕ
fixed_over query asker [] = 0
fixed_over query asker (d ∷ ds) = fixed_count query asker d.run + fixed_over query asker ds

-- cells of steps at a distance, one for each
pub record IsDoneAt (step : ℕ) (d : DoneCells) : Type 0 where
  pub step_is : d.run.step ≡ step
  pub whole : length d.cells ≡ d.run.len

-- the cells are what the query is for the asker, each of one interval
abbrev pub AreEvaluated : (rules : Rules) (interval : ℕ) → Logs → Key → Asker → Tree → List DoneCells → Type 0
AreEvaluated rules interval logs key asker query ds =
    Each (λ d. IsEvaluated rules interval (logs key.tenant) (key_of key interval d) asker query d.run d.cells) ds
