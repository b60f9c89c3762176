-- The steps that are left to be split, as numbers.
use Rattle.std.specs.Prelude.{ℕ, ◌+◌, ◌-◌, ◌/◌, ◌%◌, ◌<◌, ◌≤◌, nat_lt, nat_eq, cond}
use Rattle.pf_base.specs.GridLists.{GridData, IsGrid}

-- none, or a grid's
pub record AreLeft (length start step len : ℕ) : Type 0 where
  pub some : 1 ≤ length
  pub grid : 0 < len → IsGrid (record { start = start; step = step; len = len })

abbrev pub run_data : ℕ → ℕ → ℕ → GridData
run_data start step len = record { start = start; step = step; len = len }

-- how many of the steps from one on lie in its interval
abbrev pub steps_within : ℕ → ℕ → ℕ → ℕ → ℕ
steps_within length start step len =
    cond (nat_eq step 0) len
    (cond (nat_lt ((length - 1 - start % length) / step) len) ((length - 1 - start % length) / step + 1) len)
