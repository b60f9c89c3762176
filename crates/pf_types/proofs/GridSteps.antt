-- The grid of a start, an end and a step has a step, and that of one time has none.
use Rattle.std.proofs.Common.{◌≡◌, ◌<◌, ◌||◌, ◌-◌, ◌/◌, ℕ, Bool, true, false, cond, Result, Ok, Err, refl, sym, ap, subst, arith}
use Rattle.std.specs.Prelude.{nat_eq, nat_lt}
use Rattle.std.proofs.lemmas.Bool.Decides.{nat_tests}
use Rattle.pf_base.specs.GridLists.{GridData}
use Rattle.pf_base.specs.Grids.{grid_of, single_of}
use Rattle.pf_base.specs.Limits.{greatest_time}
use Rattle.pf_base.specs.declared.grid.GridError.{GridError}
use Rattle.pf_base.specs.declared.grid.GridError.TheVariants.{ZeroStep, TimeTooLarge, EndBeforeStart, TooManySteps}
use Rattle.pf_types.specs.Asking.{IsWhen}
use Rattle.pf_types.specs.declared.asking.When.TheVariants as when

not_refused : (b : Bool) (e : GridError) (r : Result GridData GridError) (g : GridData) → cond b (Err e) r ≡ Ok g → (b ≡ false) × (r ≡ Ok g)
not_refused true e r g h = absurd (no_grid h) where
  no_grid : Err e ≡ Ok g → ⊥
  no_grid p = cc
not_refused false e r g h = (refl, h)

abbrev made : GridData → Result GridData GridError
made g = Ok g

same_grid : (g d : GridData) → made g ≡ made d → g ≡ d
same_grid g d h = cc

some_step : (n : ℕ) → nat_eq n 0 ≡ false → 0 < n
some_step n h = grind (arith, nat_tests)

pub ranged : (start end step : ℕ) (g : GridData) → grid_of start end step ≡ Ok g → IsWhen (when.Range g)
ranged start end step g h =
    let stepped = not_refused (nat_eq step 0) ZeroStep _ g h in
    let small = not_refused (nat_lt greatest_time start || nat_lt greatest_time end || nat_lt greatest_time step) TimeTooLarge _ g stepped.1 in
    let forward = not_refused (nat_lt end start) EndBeforeStart _ g small.1 in
    let few = not_refused (nat_lt 11000 (end / step - start / step)) TooManySteps _ g forward.1 in
    subst (λ n. 0 < n) (ap (λ (d : GridData). d.step) (same_grid _ g few.1)) (some_step step stepped.0)

pub at_once : (time : ℕ) (g : GridData) → single_of time ≡ Ok g → IsWhen (when.Instant g)
at_once time g h =
    let small = not_refused (nat_lt greatest_time time) TimeTooLarge _ g h in
    sym (ap (λ (d : GridData). d.step) (same_grid _ g small.1))
