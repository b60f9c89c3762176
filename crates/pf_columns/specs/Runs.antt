-- Runs of steps, one after another, and the rows of a matrix that they make: this project's own.
use Rattle.std.specs.Prelude.{◌≡◌, ℕ, cond, List, [], ◌∷◌, ◌++◌, map}
use Rattle.std.specs.declared.cmp.Ordering.{Ordering}
use Rattle.std.specs.declared.cmp.Ordering.TheVariants.{Less, Equal, Greater}
use Rattle.pf_base.specs.declared.plain.Sample.{Sample}
use Rattle.pf_base.specs.GridLists.{GridData}
use Rattle.pf_base.specs.Grids.{points}
use Rattle.pf_base.specs.LabelOrder.{labels_cmp}
use Rattle.pf_base.specs.LabelSets.{Pairs}
use Rattle.pf_model.specs.Direct.{MatrixRow, Step, points_of}
use Rattle.pf_model.specs.Lists.{joined}
use Rattle.pf_model.specs.Selection.{same_labels}
use Rattle.pf_columns.specs.Columns.{AreRising, ColumnData, cells_from, points_in, row_with, timed}
use Rattle.pf_columns.specs.Steps.{StepsData}

-- the times of runs
abbrev pub points_over : List GridData → List ℕ
points_over [] = []
points_over (run ∷ runs) = points run ++ points_over runs

-- the cells of runs with their times
abbrev pub steps_over : List GridData → List StepsData → List Step
steps_over [] steps = []
steps_over (run ∷ runs) [] = []
steps_over (run ∷ runs) (s ∷ steps) = timed (points run) (cells_from s.columns 0 run.len) ++ steps_over runs steps

-- ---- rows, some of them without points

abbrev pub rows_labels : List MatrixRow → List Pairs
rows_labels rows = map (λ r. r.labels) rows

-- those of columns over a run
abbrev pub rows_of_columns : List ℕ → List ColumnData → List MatrixRow
rows_of_columns ts cs = map (λ c. record { labels = c.labels; points = points_in ts 0 c.values }) cs

-- the points of a label set, none where it has no row
abbrev pub points_for : Pairs → List MatrixRow → List Sample
points_for l [] = []
points_for l (r ∷ rs) = cond (same_labels r.labels l) r.points (points_for l rs)

-- those that have a point
abbrev pub full_rows : List MatrixRow → List MatrixRow
full_rows rows = joined (λ r. row_with r.labels r.points) rows

-- two rows of one label set, the points of the second behind those of the first
abbrev pub row_of_both : MatrixRow → MatrixRow → MatrixRow
row_of_both a b = record { labels = a.labels; points = a.points ++ b.points }

-- which of two lists has the lesser label set in front
abbrev pub heads_cmp : List MatrixRow → List MatrixRow → Ordering
heads_cmp xs [] = Less
heads_cmp [] (b ∷ ys) = Greater
heads_cmp (a ∷ xs) (b ∷ ys) = labels_cmp a.labels b.labels

abbrev pub by_order : Ordering → MatrixRow → MatrixRow → List MatrixRow → List MatrixRow → List MatrixRow → List MatrixRow
by_order Less a b less equal greater = a ∷ less
by_order Equal a b less equal greater = row_of_both a b ∷ equal
by_order Greater a b less equal greater = b ∷ greater

-- a row and those behind it, where `rest` joins the latter with others
abbrev pub into_rows : MatrixRow → List MatrixRow → (List MatrixRow → List MatrixRow) → List MatrixRow → List MatrixRow
into_rows a xs rest [] = a ∷ xs
into_rows a xs rest (b ∷ ys) = by_order (labels_cmp a.labels b.labels) a b (rest (b ∷ ys)) (rest ys) (into_rows a xs rest ys)

-- two lists in label order, the rows of one label set joined
abbrev pub joined_rows : List MatrixRow → List MatrixRow → List MatrixRow
joined_rows [] ys = ys
joined_rows (a ∷ xs) ys = into_rows a xs (joined_rows xs) ys

-- rows in label order with the points of runs
pub record AreRowsOver (runs : List GridData) (steps : List StepsData) (rows : List MatrixRow) : Type 0 where
  pub rising : AreRising (rows_labels rows)
  pub points : (l : Pairs) → points_for l rows ≡ points_of l (steps_over runs steps)
