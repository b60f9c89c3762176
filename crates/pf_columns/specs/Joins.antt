-- Columns of steps, and of those behind them, as columns of both: this project's own.
use Rattle.std.specs.Prelude.{◌≡◌, ℕ, zero, suc, ◌≤◌, ℤ, Option, None, List, [], ◌∷◌, ◌++◌, length, map}
use Rattle.std.specs.declared.cmp.Ordering.{Ordering}
use Rattle.std.specs.declared.cmp.Ordering.TheVariants.{Less, Equal, Greater}
use Rattle.pf_base.specs.LabelOrder.{labels_cmp}
use Rattle.pf_model.specs.declared.cell.Element.{Element}
use Rattle.pf_model.specs.Lists.{Each}
use Rattle.pf_columns.specs.Columns.{AreRising, ColumnData, cells_from, columns_labels}

-- values of so many steps at least: a step behind the last value has none
abbrev pub filled : ℕ → List (Option ℤ) → List (Option ℤ)
filled zero vs = vs
filled (suc n) [] = None ∷ filled n []
filled (suc n) (v ∷ vs) = v ∷ filled n vs

-- two columns of one label set, the first of so many steps
abbrev pub column_of_both : ℕ → ColumnData → ColumnData → ColumnData
column_of_both n a b = record { labels = a.labels; values = filled n a.values ++ b.values }

-- a column so many steps later
abbrev pub later_column : ℕ → ColumnData → ColumnData
later_column n b = record { labels = b.labels; values = filled n [] ++ b.values }

-- which of two lists has the lesser label set in front
abbrev pub fronts_cmp : List ColumnData → List ColumnData → Ordering
fronts_cmp xs [] = Less
fronts_cmp [] (b ∷ ys) = Greater
fronts_cmp (a ∷ xs) (b ∷ ys) = labels_cmp a.labels b.labels

abbrev pub by_labels : Ordering → ℕ → ColumnData → ColumnData → List ColumnData → List ColumnData → List ColumnData → List ColumnData
by_labels Less n a b less equal greater = a ∷ less
by_labels Equal n a b less equal greater = column_of_both n a b ∷ equal
by_labels Greater n a b less equal greater = later_column n b ∷ greater

-- a column and those behind it, where `rest` joins the latter with others
abbrev pub into_columns : ℕ → ColumnData → List ColumnData → (List ColumnData → List ColumnData) → List ColumnData → List ColumnData
into_columns n a xs rest [] = a ∷ xs
into_columns n a xs rest (b ∷ ys) = by_labels (labels_cmp a.labels b.labels) n a b (rest (b ∷ ys)) (rest ys) (into_columns n a xs rest ys)

-- the columns of so many steps and of those behind them, in label order
abbrev pub joined_columns : ℕ → List ColumnData → List ColumnData → List ColumnData
joined_columns n [] ys = map (later_column n) ys
joined_columns n (a ∷ xs) ys = into_columns n a xs (joined_columns n xs) ys

-- columns in label order of cells, none with a value behind the last of them
pub record AreColumnsOf (cells : List (List Element)) (cs : List ColumnData) : Type 0 where
  pub rising : AreRising (columns_labels cs)
  pub within : Each (λ c. length c.values ≤ length cells) cs
  pub cells_are : cells_from cs 0 (length cells) ≡ cells
