-- Cells of consecutive steps as columns, a label set with its value at each step, and the matrix that they make: this
-- project's own.
use Rattle.std.specs.Prelude.{◌≡◌, ℕ, zero, suc, ◌+◌, ℤ, pos, Bool, true, false, cond, Option, Some, None, List, [], ◌∷◌, ◌++◌, map, take, drop, slice_index_or}
use Rattle.std.specs.declared.cmp.Ordering.TheVariants.{Less}
use Rattle.pf_base.specs.declared.plain.Sample.{Sample}
use Rattle.pf_base.specs.LabelSets.{Pairs}
use Rattle.pf_base.specs.LabelOrder.{labels_cmp}
use Rattle.pf_model.specs.declared.cell.Element.{Element}
use Rattle.pf_model.specs.Cells.{element}
use Rattle.pf_model.specs.Direct.{MatrixRow, Step}
use Rattle.pf_model.specs.Lists.{Each, joined}

-- a label set, and its value at each step, if it has one there
pub record ColumnData : Type 0 where
  pub labels : Pairs
  pub values : List (Option ℤ)

-- the value of a step; a step behind the last value has none
abbrev pub value_in : List (Option ℤ) → ℕ → Option ℤ
value_in vs k = slice_index_or vs k None

-- the elements of a step
abbrev pub cell_at : List ColumnData → ℕ → List Element
cell_at cs k = joined (λ c. element c.labels (value_in c.values k)) cs

-- the cells of so many steps from one on
abbrev pub cells_from : List ColumnData → ℕ → ℕ → List (List Element)
cells_from cs from zero = []
cells_from cs from (suc n) = cell_at cs from ∷ cells_from cs (from + 1) n

-- each label set is below those behind it
abbrev pub AreRising : List Pairs → Type 0
AreRising [] = Unit {0}
AreRising (l ∷ ls) = Each (λ m. labels_cmp l m ≡ Less) ls × AreRising ls

abbrev pub columns_labels : List ColumnData → List Pairs
columns_labels cs = map (λ c. c.labels) cs

-- some step has a value
abbrev pub has_value : List (Option ℤ) → Bool
has_value [] = false
has_value (None ∷ vs) = has_value vs
has_value (Some v ∷ vs) = true

-- a column with the values of so many steps from one on, none where none of them has a value
abbrev pub cut_column : ℕ → ℕ → ColumnData → List ColumnData
cut_column from len c =
    let values = take len (drop from c.values) in
    cond (has_value values) (record { labels = c.labels; values = values } ∷ []) []

-- cells with their times
abbrev pub timed : List ℕ → List (List Element) → List Step
timed [] cells = []
timed (t ∷ ts) [] = []
timed (t ∷ ts) (c ∷ cells) = record { time = t; elements = c } ∷ timed ts cells

-- the points of a column over times, the first of which is that of the step k
abbrev pub point_at : ℕ → Option ℤ → List Sample
point_at t None = []
point_at t (Some v) = record { time = pos t; value = v } ∷ []

abbrev pub points_in : List ℕ → ℕ → List (Option ℤ) → List Sample
points_in [] k vs = []
points_in (t ∷ ts) k vs = point_at t (value_in vs k) ++ points_in ts (k + 1) vs

-- a row for each column that has a point
abbrev pub row_with : Pairs → List Sample → List MatrixRow
row_with l [] = []
row_with l (p ∷ ps) = record { labels = l; points = p ∷ ps } ∷ []

abbrev pub rows_in : List ℕ → ℕ → List ColumnData → List MatrixRow
rows_in ts k cs = joined (λ c. row_with c.labels (points_in ts k c.values)) cs
