-- The grid of a range has a step.
use Rattle.std.proofs.Common.{◌≡◌, ℕ, ◌+◌, ◌-◌, ◌*◌, ◌/◌, ◌<◌, Bool, true, false, ◌||◌, cond, nat_eq, nat_lt, Ok, Err, arith, refl, subst}
use Rattle.std.proofs.lemmas.Bool.Decides.{nat_tests}
use Rattle.pf_base.specs.GridLists.{GridData}
use Rattle.pf_base.specs.Grids.{grid_of}
use Rattle.pf_base.specs.Limits.{greatest_time}
use Rattle.pf_base.specs.declared.grid.GridError.TheVariants.{ZeroStep, TimeTooLarge, EndBeforeStart, TooManySteps}

is_some : (step : ℕ) → nat_eq step 0 ≡ false → 0 < step
is_some step h = grind (arith, nat_tests, h)

stepped : (z a b c : Bool) (step : ℕ) (r g : GridData) → (z ≡ false → 0 < step) → r.step ≡ step
    → cond z (Err ZeroStep) (cond a (Err TimeTooLarge) (cond b (Err EndBeforeStart) (cond c (Err TooManySteps) (Ok r)))) ≡ Ok g → 0 < g.step
stepped true a b c step r g some is h = cc
stepped false true b c step r g some is h = cc
stepped false false true c step r g some is h = cc
stepped false false false true step r g some is h = cc
stepped false false false false step r g some is h =
    let same : r ≡ g = cc in
    let positive = some refl in
    subst (λ (x : GridData). 0 < x.step) same (omega (arith, is, positive))

pub has_step : (start end step : ℕ) (g : GridData) → grid_of start end step ≡ Ok g → 0 < g.step
has_step start end step g h =
    stepped (nat_eq step 0) (nat_lt greatest_time start || nat_lt greatest_time end || nat_lt greatest_time step) (nat_lt end start) (nat_lt 11000 (end / step - start / step)) step
    (record { start = (start / step) * step; step = step; len = end / step - start / step + 1 }) g (is_some step) refl h
