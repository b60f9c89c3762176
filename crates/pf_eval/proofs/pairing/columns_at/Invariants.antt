use Rattle.std.proofs.Common.{◌≡◌, ◌++◌, map, drop}
use Rattle.pf_join.specs.KeyPlaces.{those_at}
use Rattle.pf_eval.proofs.pairing.columns_at.Given as goal

abbrev pub invariant-loop-place : goal.invariant-loop-place
invariant-loop-place l =
    map (λ c. c.now) l.found.items ++ those_at l.columns (drop l.place-index l.places) ≡ those_at l.columns l.places
