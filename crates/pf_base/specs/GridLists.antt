-- A grid as numbers, and the times that it stands for: this project's own.
use Rattle.std.specs.Prelude.{◌≡◌, ◌↔◌, ℕ, zero, suc, ◌+◌, ◌-◌, ◌*◌, ◌%◌, ◌≤◌, ◌<◌, List, [], ◌∷◌, length, slice_index, Contains}
use Rattle.pf_base.specs.Limits.{greatest_time, most_steps}

-- the first time, the distance (0 where there is one time alone), and the number of times
pub record GridData : Type 0 where
  pub start : ℕ
  pub step : ℕ
  pub len : ℕ

-- a grid has a time, at most 11,001, none past the greatest, nor a greater step; without a step one time alone, and
-- with one multiples of it
pub record IsGrid (g : GridData) : Type 0 where
  pub some : 1 ≤ g.len
  pub most : g.len ≤ most_steps + 1
  pub last : g.start + (g.len - 1) * g.step ≤ greatest_time
  pub near : g.step ≤ greatest_time
  pub alone : g.step ≡ 0 → g.len ≡ 1
  pub multiple : 0 < g.step → g.start % g.step ≡ 0

-- n times from a first one on
abbrev pub times_from : ℕ → ℕ → ℕ → List ℕ
times_from t step zero = []
times_from t step (suc n) = t ∷ times_from (t + step) step n

-- the times rise, and are the multiples of the step from the start, cut down to one, to the end
pub record AreMultiples (start end step : ℕ) (times : List ℕ) : Type 0 where
  pub rising : (i j : ℕ) → i < j → j < length times → slice_index times i < slice_index times j
  pub multiples : (t : ℕ) → Contains times t ↔ ((t % step ≡ 0) × (start - start % step ≤ t) × (t ≤ end))
