-- Extents of a results cache, the cells of consecutive steps, as Cortex and Mimir keep them, and what they have at a step:
-- this project's own.
use Rattle.std.specs.Prelude.{◌≡◌, ◌≤◌, ◌<◌, ℕ, suc, ◌+◌, ◌-◌, ◌/◌, ◌%◌, Bool, false, ◌&&◌, cond, Option, Some, None, List, [], ◌∷◌, length, nat_eq, nat_le, nat_lt, slice_index_or}
use Rattle.pf_model.specs.declared.cell.Element.{Element}
use Rattle.pf_model.specs.Lists.{Each}
use Rattle.pf_extent.specs.declared.extent.Extent.{Extent}

-- the first and the last step are multiples of the distance, and there is a cell for each of the steps from the one to the
-- other
pub record IsLawful (e : Extent) : Type 0 where
  pub distance : 1 ≤ e.step
  pub first : e.first % e.step ≡ 0
  pub last : e.last % e.step ≡ 0
  pub order : e.first ≤ e.last
  pub count : length e.cells ≡ (e.last - e.first) / e.step + 1

-- an extent has the distance of another, and begins behind its last step
pub record IsBehind (e f : Extent) : Type 0 where
  pub step : f.step ≡ e.step
  pub apart : e.last < f.first

abbrev pub Extents : Type 0
Extents = List Extent

-- each is lawful, and all after it are behind it
abbrev pub AreApart : List Extent → Type 0
AreApart [] = Unit {0}
AreApart (e ∷ es) = IsLawful e × Each (IsBehind e) es × AreApart es

-- what a list keeps
pub record IsKept (es : List Extent) : Type 0 where
  pub apart : AreApart es
  pub few : length es ≤ 64

-- a lawful extent, of whose distance a time is a multiple
abbrev pub Divides : ℕ → Extent → Type 0
Divides t e = IsLawful e × (t % e.step ≡ 0)

-- extents of one distance
abbrev pub AreSpaced : ℕ → List Extent → Type 0
AreSpaced step es = Each (λ e. e.step ≡ step) es

-- a time that is a step of the extent
abbrev pub has_step : ℕ → Extent → Bool
has_step t e = nat_le e.first t && nat_le t e.last && nat_eq (t % e.step) 0

-- what is known of a step: its cell, with the pin and the generation of the samples that it is of
pub record Known : Type 0 where
  pub pin : ℕ
  pub generation : ℕ
  pub cell : List Element

abbrev pub known_of : ℕ → Extent → Known
known_of t e = record { pin = e.pin; generation = e.generation; cell = slice_index_or e.cells ((t - e.first) / e.step) [] }

-- what the first extent that has the step knows of it
abbrev pub known_at : ℕ → List Extent → Option Known
known_at t [] = None
known_at t (e ∷ es) = cond (has_step t e) (Some (known_of t e)) (known_at t es)

-- the first extent begins at the time or before it
abbrev pub has_begun : ℕ → List Extent → Bool
has_begun t [] = false
has_begun t (e ∷ es) = nat_le e.first t

-- the first extent that has the step
abbrev pub extent_at : ℕ → List Extent → Option Extent
extent_at t [] = None
extent_at t (e ∷ es) = cond (has_step t e) (Some e) (extent_at t es)

-- how many extents end before a time, one behind another
abbrev pub ended : ℕ → List Extent → ℕ
ended t [] = 0
ended t (e ∷ es) = cond (nat_lt e.last t) (suc (ended t es)) 0
