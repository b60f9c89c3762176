-- The times of a run, and where the windows before them begin, in milliseconds: this project's own.
use Rattle.std.specs.Prelude.{◌≡◌, ℕ, ◌<◌, ℤ, pos, ◌+ℤ◌, ◌-ℤ◌, ◌*ℤ◌, ◌≤ℤ◌, List, [], ◌∷◌, slice_index_or}
use Rattle.pf_range.specs.Windows.{IsTime}
use Rattle.pf_selectors.specs.declared.times.Times.{Times}

-- how far the time of a step is from the start: so many steps, or what a list says
abbrev pub away : List ℤ → ℤ → ℕ → ℤ
away [] step k = pos k *ℤ step
away (u ∷ us) step k = slice_index_or (u ∷ us) k (pos 0)

-- the time of a step, counted from 0
abbrev pub time_at : Times → ℕ → ℤ
time_at times k = times.start +ℤ away times.list.now times.step k

-- each time of a run is at most 2^50 in size
abbrev pub AreTimes : Times → Type 0
AreTimes times = (k : ℕ) → k < times.len → IsTime (time_at times k)

-- and so is where the window of so many milliseconds before it begins
abbrev pub AreStarts : ℕ → Times → Type 0
AreStarts range times = (k : ℕ) → k < times.len → IsTime (time_at times k -ℤ pos range)

-- the first and the last time, and their windows
pub record AreEnds (range : ℕ) (a b : ℤ) : Type 0 where
  pub first : IsTime a
  pub last : IsTime b
  pub first_start : IsTime (a -ℤ pos range)
  pub last_start : IsTime (b -ℤ pos range)

-- one of the first n times
pub record IsAmong (t : ℤ) (n : ℕ) (times : Times) : Type 0 where
  pub step : ℕ
  pub below : step < n
  pub is : t ≡ time_at times step

-- the least and the greatest of the first n times
pub record Spans (first last : ℤ) (n : ℕ) (times : Times) : Type 0 where
  pub low : (k : ℕ) → k < n → first ≤ℤ time_at times k
  pub high : (k : ℕ) → k < n → time_at times k ≤ℤ last
  pub least : IsAmong first n times
  pub greatest : IsAmong last n times
