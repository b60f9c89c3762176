-- The steps of a query by the interval that each lies in: its time divided by the interval's length, cut down. Mimir, query
-- frontend: Splitting queries by interval.
use Rattle.std.specs.Prelude.{◌≡◌, ℕ, ◌+◌, ◌/◌, ◌<◌, ◌==◌, cond, List, [], ◌∷◌, ◌++◌}
use Rattle.std.specs.List.{AllByRecursion}
use Rattle.pf_base.specs.GridLists.{times_from}
use Rattle.pf_split.specs.declared.splitting.Piece.{Piece}

-- a step before pieces: it joins the first one where that is of its interval
abbrev pub put_before : ℕ → ℕ → ℕ → List Piece → List Piece
put_before length step t [] = record { interval = t / length; run = record { start = t; step = step; len = 1 } } ∷ []
put_before length step t (p ∷ ps) =
    cond (p.interval == t / length)
    (record { interval = p.interval; run = record { start = t; step = step; len = p.run.len + 1 } } ∷ ps)
    (record { interval = t / length; run = record { start = t; step = step; len = 1 } } ∷ p ∷ ps)

-- the runs of neighbours that lie in one interval, of steps at this distance
abbrev pub pieces_of : ℕ → ℕ → List ℕ → List Piece
pieces_of length step [] = []
pieces_of length step (t ∷ ts) = put_before length step t (pieces_of length step ts)

abbrev pub points_of : Piece → List ℕ
points_of p = times_from p.run.start p.run.step p.run.len

-- the steps of pieces, one after another
abbrev pub steps_of : List Piece → List ℕ
steps_of [] = []
steps_of (p ∷ ps) = points_of p ++ steps_of ps

-- each piece has the steps of its interval, and the intervals rise
abbrev pub AreIntervals : ℕ → List Piece → Type 0
AreIntervals length [] = Unit {0}
AreIntervals length (p ∷ ps) =
    AllByRecursion (λ t. t / length ≡ p.interval) (points_of p) × AllByRecursion (λ t. p.interval < t / length) (steps_of ps) × AreIntervals length ps
