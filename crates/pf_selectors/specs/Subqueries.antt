-- The times at which the inner expression of a subquery is evaluated, once for all steps of a run, and what a function makes
-- of its values there: this project's own.
use Rattle.std.specs.Prelude.{◌≡◌, ◌<◌, ℕ, zero, suc, ℤ, pos, ◌+ℤ◌, ◌-ℤ◌, ◌*ℤ◌, ◌≤ℤ◌, ◌<ℤ◌, int_le, int_lt, Bool, false, ◌&&◌, ◌||◌, ◌-◌, cond, Option, None, Some, List, [], ◌∷◌, ◌++◌, filter, length, map}
use Rattle.pf_base.specs.declared.plain.Sample.{Sample}
use Rattle.pf_columns.specs.Columns.{ColumnData, value_in}
use Rattle.pf_columns.specs.Steps.{StepsData, bad_in, step_at}
use Rattle.pf_model.specs.declared.cell.ErrorKind.{ErrorKind}
use Rattle.pf_model.specs.declared.cell.StepCell.{StepCell}
use Rattle.pf_model.specs.declared.cell.StepCell.TheVariants.{Good, Bad}
use Rattle.pf_model.specs.declared.functions.RangeFn.{RangeFn}
use Rattle.pf_model.specs.Evaluation.{multiples}
use Rattle.pf_model.specs.Lists.{Each}
use Rattle.pf_model.specs.Merging.{below}
use Rattle.pf_model.specs.Micros.{cut_down}
use Rattle.pf_model.specs.Outcomes.{Outcome, Series, bad, elements, ranged_labels, ranges, scalar, text}
use Rattle.pf_selectors.specs.declared.moments.BadMoment.{BadMoment}
use Rattle.pf_selectors.specs.declared.times.Times.{Times}
use Rattle.pf_selectors.specs.SeriesColumns.{unless_some, values_over, window_at}
use Rattle.pf_selectors.specs.Times.{AreTimes, time_at}

-- ---- the times

-- a time in (from, to]
abbrev pub lies_in : ℤ → ℤ → ℤ → Bool
lies_in from to u = int_lt from u && int_le u to

-- each time is below the next
abbrev pub AreRising : Times → Type 0
AreRising at = (j : ℕ) → suc j < at.len → time_at at j <ℤ time_at at (suc j)

-- no time is below the one before it
abbrev pub AreOrdered : Times → Type 0
AreOrdered times = (k : ℕ) → suc k < times.len → time_at times k ≤ℤ time_at times (suc k)

-- no window of so many milliseconds before a time begins behind the time before it
abbrev pub AreTouching : ℕ → Times → Type 0
AreTouching range times = (k : ℕ) → suc k < times.len → (time_at times (suc k) -ℤ pos range) ≤ℤ time_at times k

-- a time in the window of so many milliseconds before one of the first n times
abbrev pub is_read : ℕ → Times → ℕ → ℤ → Bool
is_read range times zero u = false
is_read range times (suc n) u = is_read range times n u || lies_in (time_at times n -ℤ pos range) (time_at times n) u

-- from `low` to `high` stand 0, the start of a run and all windows of so many milliseconds before its times
pub record HoldWindows (low high : ℤ) (range : ℕ) (times : Times) : Type 0 where
  pub zero : (low ≤ℤ pos 0) × (pos 0 ≤ℤ high)
  pub start : (low ≤ℤ times.start) × (times.start ≤ℤ high)
  pub windows : (k : ℕ) → k < times.len → (low ≤ℤ (time_at times k -ℤ pos range)) × (time_at times k ≤ℤ high)

-- the multiples of a resolution in these windows, in order and each once; and no others where the times are in order
pub record AreMultiplesOver (range resolution : ℕ) (at times : Times) : Type 0 where
  pub bounded : AreTimes at
  pub rising : AreRising at
  pub windows : (k : ℕ) → k < times.len
      → filter (lies_in (time_at times k -ℤ pos range) (time_at times k)) (below (time_at at) at.len)
      ≡ multiples resolution (time_at times k -ℤ pos range) (time_at times k)
  pub read : AreOrdered times → (low high : ℤ) → HoldWindows low high range times
      → below (time_at at) at.len ≡ filter (is_read range times times.len) (multiples resolution low high)
  pub start : (low high : ℤ) → HoldWindows low high range times → (low ≤ℤ at.start) × (at.start ≤ℤ high)
  pub within : (low high : ℤ) → HoldWindows low high range times → (j : ℕ) → j < at.len → (low ≤ℤ time_at at j) × (time_at at j ≤ℤ high)

-- a list of the multiples of a step in the windows before times in order
pub record IsListOver (range step : ℕ) (at times : Times) : Type 0 where
  pub start : at.start ≡ pos 0
  pub len : at.len ≡ length at.list.now
  pub list : at.list.now ≡ filter (is_read range times times.len) (multiples step (time_at times 0 -ℤ pos range) (time_at times (times.len - 1)))

-- the multiples of a step in (from, to]
pub record AreBetween (from to : ℤ) (step : ℕ) (at : Times) : Type 0 where
  pub len : cut_down from step +ℤ pos at.len ≡ cut_down to step
  pub times : (j : ℕ) → j < at.len → time_at at j ≡ (cut_down from step +ℤ pos (suc j)) *ℤ pos step
  pub start : (from ≤ℤ at.start) × (at.start ≤ℤ to)

-- ---- what the inner expression is there

-- a vector's elements, or an error; nothing of a scalar, as in `moment_elements`
abbrev pub moment_cell : Outcome → StepCell
moment_cell (scalar v) = Good []
moment_cell (elements es) = Good es
moment_cell (ranges from to ss) = Good []
moment_cell (text bytes) = Good []
moment_cell (bad kind) = Bad kind

-- the columns of a run are what an inner expression is at its times
abbrev pub AreMoments : (ℤ → Outcome) → Times → StepsData → Type 0
AreMoments o at moments = (j : ℕ) → j < at.len → moment_cell (o (time_at at j)) ≡ step_at moments j

-- the lists that f makes of the numbers below a number, one after another
abbrev pub joined_below : {X : Type 0} → (ℕ → List X) → ℕ → List X
joined_below f zero = []
joined_below f (suc n) = joined_below f n ++ f n

-- a column as samples
abbrev pub sample_at : ℤ → Option ℤ → List Sample
sample_at t None = []
sample_at t (Some v) = record { time = t; value = v } ∷ []

abbrev pub moment_samples : Times → List (Option ℤ) → List Sample
moment_samples at vs = joined_below (λ j. sample_at (time_at at j) (value_in vs j)) at.len

-- the errors with their times
abbrev pub bad_moment : ℤ → Option ErrorKind → List BadMoment
bad_moment t None = []
bad_moment t (Some kind) = record { time = t; kind = kind } ∷ []

abbrev pub bad_moments : Times → List (Option ErrorKind) → List BadMoment
bad_moments at bs = joined_below (λ j. bad_moment (time_at at j) (bad_in bs j)) at.len

-- each error is before those behind it
abbrev pub AreInOrder : List BadMoment → Type 0
AreInOrder [] = Unit {0}
AreInOrder (b ∷ bs) = Each (λ c. b.time <ℤ c.time) bs × AreInOrder bs

-- the earliest error in (from, to]
abbrev pub earliest : ℤ → ℤ → List BadMoment → Option ErrorKind
earliest from to [] = None
earliest from to (b ∷ bs) = cond (lies_in from to b.time) (Some b.kind) (earliest from to bs)

-- that of the window of so many milliseconds before a step
abbrev pub bad_over : ℕ → Times → Times → List (Option ErrorKind) → ℕ → Option ErrorKind
bad_over range at times bs k = earliest (time_at times k -ℤ pos range) (time_at times k) (bad_moments at bs)

-- a function of a column's samples over the windows before the steps
abbrev pub moment_column : RangeFn → ℕ → Times → Times → ColumnData → ColumnData
moment_column f range at times c =
    record { labels = ranged_labels f c.labels; values = values_over f range (moment_samples at c.values) times }

-- a value, unless some column has samples in the window before a step
abbrev pub unless_sampled : ℕ → Times → Times → ℕ → List ColumnData → Option ℤ → Option ℤ
unless_sampled range at times k [] v = v
unless_sampled range at times k (c ∷ cs) v =
    unless_sampled range at times k cs (unless_some (window_at range (moment_samples at c.values) times k) v)

-- the columns as series in the window before a step
abbrev pub column_series : ℕ → Times → Times → List ColumnData → ℕ → List Series
column_series range at times cs k =
    map (λ c. record { labels = c.labels; samples = window_at range (moment_samples at c.values) times k }) cs
