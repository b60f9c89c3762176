-- Which steps of a query an asker can use of what is kept, as Cortex and Mimir do: this project's own.
use Rattle.std.specs.Prelude.{◌≡◌, ◌≤◌, ◌<◌, ℕ, ◌+◌, pos, Bool, true, false, cond, Option, Some, None, List, [], ◌∷◌, length, slice_index_or}
use Rattle.pf_base.specs.GridLists.{GridData}
use Rattle.pf_base.specs.Grids.{points}
use Rattle.pf_columns.specs.Columns.{timed}
use Rattle.pf_extent.specs.Steps.{extent_at, known_of}
use Rattle.pf_extent.specs.Uses.{is_usable}
use Rattle.pf_extent.specs.declared.extent.Asker.{Asker}
use Rattle.pf_extent.specs.declared.extent.Extent.{Extent}
use Rattle.pf_model.specs.Direct.{Step}
use Rattle.pf_model.specs.Lists.{joined}
use Rattle.pf_model.specs.Reach.{reach}
use Rattle.pf_model.specs.Trees.{Tree}
use Rattle.pf_extent.specs.declared.done.DoneCells.{DoneCells}
use Rattle.pf_results.specs.Runs.{part_of, time_of}

-- an asker can use a step of an extent
abbrev pub serves : Option Extent → Tree → Asker → ℕ → Bool
serves None query asker t = false
serves (Some e) query asker t = is_usable e (reach query (pos t)) asker

-- some extent of a list has the step, and the asker can use it
abbrev pub is_served : List Extent → Tree → Asker → ℕ → Bool
is_served es query asker t = serves (extent_at t es) query asker t

-- the step, with its cell
abbrev pub step_of : ℕ → Option Extent → List Step
step_of t None = []
step_of t (Some e) = record { time = t; elements = (known_of t e).cell } ∷ []

-- those of the times that are served, with their cells
abbrev pub served_steps : List Extent → Tree → Asker → List ℕ → List Step
served_steps es query asker ts = joined (λ t. cond (is_served es query asker t) (step_of t (extent_at t es)) []) ts

-- the steps that cells are of, with these
abbrev pub steps_of : List DoneCells → List Step
steps_of ds = joined (λ d. timed (points d.run) d.cells) ds

-- cells of the steps of a run from one on, all of which are served
pub record IsServedPart (es : List Extent) (query : Tree) (asker : Asker) (run : GridData) (from : ℕ) (d : DoneCells) : Type 0 where
  pub some : 1 ≤ d.run.len
  pub within : from + d.run.len ≤ run.len
  pub run_is : d.run ≡ part_of run from d.run.len
  pub whole : length d.cells ≡ d.run.len
  pub served : (k : ℕ) → k < d.run.len → is_served es query asker (time_of run (from + k)) ≡ true
  pub cells : (k : ℕ) → k < d.run.len
      → step_of (time_of run (from + k)) (extent_at (time_of run (from + k)) es) ≡ record { time = time_of run (from + k); elements = slice_index_or d.cells k [] } ∷ []
