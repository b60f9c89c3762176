-- Pieces, worked by hand: by days, and by intervals of a thousand milliseconds.
use Rattle.std.proofs.Common.{◌≡◌, ◌∷◌, [], refl}
use Rattle.pf_base.specs.Grids.{points}
use Rattle.pf_split.specs.Lefts.{run_data, steps_within}
use Rattle.pf_split.specs.Pieces.{pieces_of, steps_of}

-- a step at the edge belongs to the interval that begins there
two_days :
    pieces_of 86400000 43200000 (points (run_data 43200000 43200000 4))
    ≡ record { interval = 0; run = run_data 43200000 43200000 1 }
    ∷ record { interval = 1; run = run_data 86400000 43200000 2 }
    ∷ record { interval = 2; run = run_data 172800000 43200000 1 } ∷ []
two_days = refl

-- an interval without a step has no piece
far_apart :
    pieces_of 1000 2500 (points (run_data 0 2500 3))
    ≡ record { interval = 0; run = run_data 0 2500 1 }
    ∷ record { interval = 2; run = run_data 2500 2500 1 }
    ∷ record { interval = 5; run = run_data 5000 2500 1 } ∷ []
far_apart = refl

one_time : pieces_of 1000 0 (points (run_data 1999 0 1)) ≡ record { interval = 1; run = run_data 1999 0 1 } ∷ []
one_time = refl

their_steps : steps_of (pieces_of 1000 400 (points (run_data 400 400 4))) ≡ 400 ∷ 800 ∷ 1200 ∷ 1600 ∷ []
their_steps = refl

first_two : steps_within 1000 400 400 4 ≡ 2
first_two = refl

only_one : steps_within 1000 400 600 4 ≡ 1
only_one = refl
