-- What is kept of a run that was evaluated: its frozen steps. This project's own; Cortex and Mimir do not keep very recent results.
use Rattle.std.specs.Prelude.{◌≡◌, ◌⊎◌, ◌≤◌, ℕ, zero, suc, pos, ◌+◌, ◌-◌, ◌*◌, ◌/◌, ◌<◌, Bool, true, Option, Some, None, List, [], ◌∷◌, map, take, drop, slice_index_or, nat_lt}
use Rattle.pf_base.specs.GridLists.{GridData}
use Rattle.pf_base.specs.Grids.{points}
use Rattle.pf_extent.specs.Combining.{combined}
use Rattle.pf_extent.specs.Steps.{Known, has_step, known_at, known_of}
use Rattle.pf_extent.specs.declared.extent.Asker.{Asker}
use Rattle.pf_extent.specs.declared.extent.Extent.{Extent}
use Rattle.pf_model.specs.declared.cell.Element.{Element}
use Rattle.pf_model.specs.Reach.{may_be_kept}
use Rattle.pf_model.specs.Trees.{Tree}
use Rattle.pf_results.specs.Runs.{lengths, part_of, runs_of, time_of}

-- no later sample changes what the query is at the time, as the asker's floor says
abbrev pub is_fixed : Tree → Asker → ℕ → Bool
is_fixed query asker t = may_be_kept query (pos t) asker.floor

-- the fixed steps of a run are those before one
abbrev pub IsEdge : Tree → Asker → GridData → ℕ → Type 0
IsEdge query asker run edge = (k : ℕ) → k < run.len → is_fixed query asker (time_of run k) ≡ nat_lt k edge

-- the extent of a part of an evaluated run
abbrev pub extent_of : Asker → GridData → List (List Element) → GridData → Extent
extent_of asker run cells r = record {
  first = r.start;
  last = r.start + (r.len - 1) * r.step;
  step = r.step;
  pin = asker.pin;
  generation = asker.generation;
  cells = take r.len (drop ((r.start - run.start) / run.step) cells);
}

-- those of the longest runs of its fixed steps
abbrev pub extents_of : Tree → Asker → GridData → List (List Element) → List ℕ → List Extent
extents_of query asker run cells times = map (extent_of asker run cells) (runs_of run.step (is_fixed query asker) times)

-- a list with extents, one by one
abbrev pub combined_all : List Extent → List Extent → List Extent
combined_all es [] = es
combined_all es (n ∷ ns) = combined_all (combined es n) ns

-- what is kept then: nothing where there is no extent
abbrev pub kept_list : List Extent → List Extent → Option (List Extent)
kept_list es [] = None
kept_list es (n ∷ ns) = Some (combined_all es (n ∷ ns))

-- what is kept so far, or else the list that was there
abbrev pub now_list : List Extent → Option (List Extent) → List Extent
now_list es None = es
now_list es (Some kept) = kept

-- with further extents
abbrev pub with_kept : Option (List Extent) → List Extent → List Extent → Option (List Extent)
with_kept None es ns = kept_list es ns
with_kept (Some kept) es ns = Some (combined_all kept ns)

-- the extent of a part of a run, if it has a step
abbrev pub part_extents : Asker → GridData → List (List Element) → (from count : ℕ) → List Extent
part_extents asker run cells from zero = []
part_extents asker run cells from (suc n) = extent_of asker run cells (part_of run from (suc n)) ∷ []

-- how many of a run's steps are fixed
abbrev pub fixed_count : Tree → Asker → GridData → ℕ
fixed_count query asker run = lengths (runs_of run.step (is_fixed query asker) (points run))

-- a list knows nothing but what an extent knows and another list knew
abbrev pub KnowsNoOthers : List Extent → Extent → List Extent → Type 0
KnowsNoOthers es e new =
    (t : ℕ) (k : Known) → known_at t new ≡ Some k → (known_at t es ≡ Some k) ⊎ ((has_step t e ≡ true) × (k ≡ known_of t e))

-- and nothing but what a part of a run has
abbrev pub KnowsParts : Asker → GridData → List (List Element) → (from count : ℕ) → List Extent → List Extent → Type 0
KnowsParts asker run cells from count es new =
    (t : ℕ) (k : Known) → known_at t new ≡ Some k
    → (known_at t es ≡ Some k)
    ⊎ ((has_step t (extent_of asker run cells (part_of run from count)) ≡ true) × (1 ≤ count) × (k ≡ known_of t (extent_of asker run cells (part_of run from count))))

-- what is known of a fixed step of the run
pub record IsFixedStep (query : Tree) (asker : Asker) (run : GridData) (cells : List (List Element)) (t : ℕ) (k : Known) : Type 0 where
  pub place : ℕ
  pub within : place < run.len
  pub time : t ≡ run.start + place * run.step
  pub fixed : is_fixed query asker t ≡ true
  pub known : k ≡ record { pin = asker.pin; generation = asker.generation; cell = slice_index_or cells place [] }

-- a list knows nothing but the run's fixed steps and what another list knew
abbrev pub KeepsOthers : Tree → Asker → GridData → List (List Element) → List Extent → List Extent → Type 0
KeepsOthers query asker run cells old new =
    (t : ℕ) (k : Known) → known_at t new ≡ Some k → (known_at t old ≡ Some k) ⊎ IsFixedStep query asker run cells t k
