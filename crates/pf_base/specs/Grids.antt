-- The steps of a query: the multiples of its step from its start to its end, both cut down. Prometheus, HTTP API: Range
-- queries; that both ends are cut down to multiples is Mimir's alignment of steps. The limits are this project's own.
use Rattle.std.specs.Prelude.{ℕ, ◌+◌, ◌-◌, ◌*◌, ◌/◌, List, Result, Ok, Err, cond, ◌||◌, nat_lt, nat_eq}
use Rattle.pf_base.specs.GridLists.{GridData, times_from}
use Rattle.pf_base.specs.Limits.{greatest_time, most_steps}
use Rattle.pf_base.specs.declared.grid.GridError.{GridError}
use Rattle.pf_base.specs.declared.grid.GridError.TheVariants.{ZeroStep, TimeTooLarge, EndBeforeStart, TooManySteps}

-- the times of a grid
abbrev pub points : GridData → List ℕ
points g = times_from g.start g.step g.len

-- the grid of a start, an end and a step, or the first refusal
abbrev pub grid_of : ℕ → ℕ → ℕ → Result GridData GridError
grid_of start end step =
    cond (nat_eq step 0) (Err ZeroStep)
    (cond (nat_lt greatest_time start || nat_lt greatest_time end || nat_lt greatest_time step) (Err TimeTooLarge)
    (cond (nat_lt end start) (Err EndBeforeStart)
    (cond (nat_lt most_steps (end / step - start / step)) (Err TooManySteps)
    (Ok (record { start = (start / step) * step; step = step; len = end / step - start / step + 1 })))))

-- the grid of one time
abbrev pub single_of : ℕ → Result GridData GridError
single_of time = cond (nat_lt greatest_time time) (Err TimeTooLarge) (Ok (record { start = time; step = 0; len = 1 }))
