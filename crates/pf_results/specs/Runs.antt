-- Runs of neighbouring steps: this project's own.
use Rattle.std.specs.Prelude.{◌≡◌, ◌≤◌, ℕ, ◌+◌, ◌*◌, Bool, true, cond, List, [], ◌∷◌, nat_eq}
use Rattle.pf_base.specs.GridLists.{GridData}
use Rattle.pf_model.specs.Trees.{Tree, height}
use Rattle.pf_resolve.specs.Bounds.{is_small}

abbrev pub one_step : (step t : ℕ) → GridData
one_step step t = record { start = t; step = step; len = 1 }

-- a step before runs: it joins the first one where that begins with the next step
abbrev pub with_step : (step t : ℕ) → List GridData → List GridData
with_step step t [] = one_step step t ∷ []
with_step step t (r ∷ rs) =
    cond (nat_eq r.start (t + step)) (record { start = t; step = step; len = r.len + 1 } ∷ rs) (one_step step t ∷ r ∷ rs)

-- the longest runs of those of the times that are so
abbrev pub runs_of : (step : ℕ) → (ℕ → Bool) → List ℕ → List GridData
runs_of step p [] = []
runs_of step p (t ∷ ts) = cond (p t) (with_step step t (runs_of step p ts)) (runs_of step p ts)

-- so many of a run's steps from one on
abbrev pub part_of : GridData → (from len : ℕ) → GridData
part_of run from len = record { start = run.start + from * run.step; step = run.step; len = len }

-- how many steps runs have
abbrev pub lengths : List GridData → ℕ
lengths [] = 0
lengths (r ∷ rs) = r.len + lengths rs

-- the time of a step of a run, counted from 0
abbrev pub time_of : GridData → ℕ → ℕ
time_of run k = run.start + k * run.step

-- the times that a query reads can be asked
pub record CanBeAsked (query : Tree) : Type 0 where
  pub tall : height query ≤ 64
  pub small : is_small query ≡ true
