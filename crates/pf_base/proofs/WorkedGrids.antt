-- Grids and tenants' names, worked by hand.
use Rattle.std.proofs.Common.{◌≡◌, [], ◌∷◌, true, false, refl}
use Rattle.std.specs.Prelude.{Ok, Err, codes}
use Rattle.pf_base.specs.declared.grid.GridError.TheVariants.{ZeroStep, TimeTooLarge, EndBeforeStart, TooManySteps}
use Rattle.pf_base.specs.Grids.{grid_of, single_of, points}
use Rattle.pf_base.specs.Tenants.{is_tenant}

-- both ends are cut down
three_minutes : grid_of 119999 180500 60000 ≡ Ok (record { start = 60000; step = 60000; len = 3 })
three_minutes = refl

their_times : points (record { start = 60000; step = 60000; len = 3 }) ≡ 60000 ∷ 120000 ∷ 180000 ∷ []
their_times = refl

-- one time is not cut down
one_time : single_of 359999 ≡ Ok (record { start = 359999; step = 0; len = 1 })
one_time = refl

most_steps : grid_of 0 11000 1 ≡ Ok (record { start = 0; step = 1; len = 11001 })
most_steps = refl

a_step_more : grid_of 0 11001 1 ≡ Err TooManySteps
a_step_more = refl

-- the first refusal of several
no_step : grid_of 4398046511104 0 0 ≡ Err ZeroStep
no_step = refl

too_late : grid_of 4398046511104 0 1 ≡ Err TimeTooLarge
too_late = refl

-- though both would be cut down to the same time
turned : grid_of 60001 60000 60000 ≡ Err EndBeforeStart
turned = refl

every_sign : is_tenant (codes "aZ9!-_.*'()") ≡ true
every_sign = refl

no_name : is_tenant [] ≡ false
no_name = refl

two_dots : is_tenant (codes "..") ≡ false
two_dots = refl

three_dots : is_tenant (codes "...") ≡ true
three_dots = refl

a_slash : is_tenant (codes "a/b") ≡ false
a_slash = refl
