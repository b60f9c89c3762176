use Rattle.std.proofs.Common.{◌≡◌, ◌++◌, drop, map}
use Rattle.pf_eval.specs.Ranked.{each_first}
use Rattle.pf_eval.proofs.ranked.each_group.Given as goal

abbrev pub invariant-loop-places : goal.invariant-loop-places
invariant-loop-places l =
    l.found.items ++ each_first l.rank l.params l.snap l.times l.ids (map (λ b. b.items) (drop l.places-index l.buckets))
    ≡ each_first l.rank l.params l.snap l.times l.ids (map (λ b. b.items) l.buckets)
