use Rattle.std.proofs.Common.{◌≡◌, ◌++◌, drop, map}
use Rattle.pf_eval.specs.Ranked.{bare_at}
use Rattle.pf_eval.proofs.ranked.columns_at.Given as goal

abbrev pub invariant-loop-place : goal.invariant-loop-place
invariant-loop-place l =
    l.found.items ++ map (bare_at l.snap l.times l.ids) (drop l.place-index l.places) ≡ map (bare_at l.snap l.times l.ids) l.places
