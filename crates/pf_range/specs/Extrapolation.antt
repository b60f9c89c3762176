-- What the samples of a window changed by, and the times that it is stretched over.
use Rattle.std.specs.Prelude.{ℕ, ◌≤◌, ◌-◌, ℤ, pos, ◌≤ℤ◌, ◌<ℤ◌, ◌+ℤ◌, ◌-ℤ◌, ◌*ℤ◌, int_div, int_le, int_lt, ◌&&◌, cond, List}
use Rattle.std.specs.Int.{int_min}
use Rattle.pf_base.specs.declared.plain.Sample.{Sample}
use Rattle.pf_base.specs.Arithmetic.{IsValue}
use Rattle.pf_model.specs.RangeFunctions.{change, counter_covered, covered, gap, growth, span}
use Rattle.pf_range.specs.Windows.{IsTime}
use Rattle.pf_range.specs.declared.extrapolation.Change.{Change}
use Rattle.pf_range.specs.declared.extrapolation.Stretch.{Stretch}

-- the span and the gaps of the definitions, of so many samples from a first time to a last
abbrev pub stretch_of : ℤ → ℤ → ℕ → ℤ → ℤ → Stretch
stretch_of first last count from to =
    let span = last -ℤ first in
    let average = int_div span (pos (count - 1)) in
    record { span = span; start = gap average (first -ℤ from); end = gap average (to -ℤ last) }

abbrev pub limited : ℤ → ℤ → ℤ → ℤ → ℤ
limited value growth span gap =
    cond (int_lt (pos 0) growth && int_le (pos 0) value) (int_min gap (int_div (span *ℤ value) growth)) gap

abbrev pub growth_of : List Sample → ℤ → ℤ → Change
growth_of ss from to = record { value = growth ss; span = span ss; covered = counter_covered ss from to }

abbrev pub change_of : List Sample → ℤ → ℤ → Change
change_of ss from to = record { value = change ss; span = span ss; covered = covered ss from to }

-- at least two samples in (after, upto], each later than the one before
pub record Extends (after upto first last : ℤ) (count : ℕ) : Type 0 where
  pub left : IsTime after
  pub right : IsTime upto
  pub low : after <ℤ first
  pub high : last ≤ℤ upto
  pub many : 2 ≤ count
  pub apart : (first +ℤ pos count) ≤ℤ (last +ℤ pos 1)

-- a length of time within a window
abbrev pub IsLength : ℤ → Type 0
IsLength z = (pos 0 ≤ℤ z) × (z ≤ℤ pos 2251799813685248)

-- a change by a value, whose times are those of a window
pub record IsStretched (c : Change) : Type 0 where
  pub value : IsValue c.value
  pub span : pos 0 <ℤ c.span
  pub short : c.span ≤ℤ pos 2251799813685248
  pub covered : pos 0 ≤ℤ c.covered
  pub wide : c.covered ≤ℤ pos 9007199254740992
