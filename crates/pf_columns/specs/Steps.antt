-- What a vector is at each step of a run, as columns and the errors of steps: this project's own.
use Rattle.std.specs.Prelude.{◌≡◌, ◌<◌, ℕ, ℤ, Option, Some, None, Bool, true, ◌&&◌, List, [], ◌∷◌, slice_index_or}
use Rattle.std.specs.declared.cmp.Ordering.{Ordering}
use Rattle.std.specs.Ordering.{is_lt}
use Rattle.pf_base.specs.LabelSets.{Pairs}
use Rattle.pf_base.specs.LabelOrder.{labels_cmp}
use Rattle.pf_model.specs.declared.cell.ErrorKind.{ErrorKind}
use Rattle.pf_model.specs.declared.cell.ErrorKind.TheVariants.{DoubleLabels}
use Rattle.pf_model.specs.declared.cell.StepCell.{StepCell}
use Rattle.pf_model.specs.declared.cell.StepCell.TheVariants.{Good, Bad}
use Rattle.pf_columns.specs.declared.steps.BadStep.{BadStep}
use Rattle.pf_columns.specs.Columns.{ColumnData, cell_at, value_in}

-- the error of a step, if it has one; a step behind the last error has none
abbrev pub bad_in : List (Option ErrorKind) → ℕ → Option ErrorKind
bad_in bs k = slice_index_or bs k None

-- an error, or else a cell
abbrev pub unless_bad : Option ErrorKind → StepCell → StepCell
unless_bad None cell = cell
unless_bad (Some kind) cell = Bad kind

-- columns, and the errors of steps
pub record StepsData : Type 0 where
  pub columns : List ColumnData
  pub bads : List (Option ErrorKind)

-- what a step is
abbrev pub step_at : StepsData → ℕ → StepCell
step_at s k = unless_bad (bad_in s.bads k) (Good (cell_at s.columns k))

-- none of so many steps has an error
abbrev pub NoneBad : List (Option ErrorKind) → ℕ → Type 0
NoneBad bads len = (k : ℕ) → k < len → bad_in bads k ≡ None

-- the first of so many steps that has one
abbrev pub IsFirstBad : List (Option ErrorKind) → ℕ → BadStep → Type 0
IsFirstBad bads len bad = (bad.step < len) × (bad_in bads bad.step ≡ Some bad.kind) × NoneBad bads bad.step

-- the order of columns is that of their labels
abbrev pub column_cmp : ColumnData → ColumnData → Ordering
column_cmp c d = labels_cmp c.labels d.labels

-- each label set is below the next
abbrev pub is_above : Option Pairs → Pairs → Bool
is_above None l = true
is_above (Some m) l = is_lt (labels_cmp m l)

abbrev pub rise_above : Option Pairs → List Pairs → Bool
rise_above o [] = true
rise_above o (l ∷ ls) = is_above o l && rise_above (Some l) ls

-- of two columns with equal labels: the value that either has, and the error where both have one
abbrev pub either : Option ℤ → Option ℤ → Option ℤ
either None b = b
either (Some a) b = Some a

abbrev pub clash : Option ErrorKind → Option ℤ → Option ℤ → Option ErrorKind
clash (Some kind) a b = Some kind
clash None (Some a) (Some b) = Some DoubleLabels
clash None a b = None

-- a column has the labels of one and the values of two
pub record IsFusion (len : ℕ) (a b fusion : ColumnData) : Type 0 where
  pub labels : fusion.labels ≡ a.labels
  pub values : (k : ℕ) → k < len → value_in fusion.values k ≡ either (value_in a.values k) (value_in b.values k)

-- errors with those of two columns of equal labels
abbrev pub AddsClashes : ℕ → List (Option ErrorKind) → ColumnData → ColumnData → List (Option ErrorKind) → Type 0
AddsClashes len bads a b more = (k : ℕ) → k < len → bad_in more k ≡ clash (bad_in bads k) (value_in a.values k) (value_in b.values k)
