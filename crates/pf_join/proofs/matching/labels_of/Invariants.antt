use Rattle.std.proofs.Common.{◌≡◌, map, take}
use Rattle.pf_join.proofs.matching.labels_of.Given as goal

abbrev pub invariant-loop-joined : goal.invariant-loop-joined
invariant-loop-joined l = l.found.items ≡ map (λ j. j.labels) (take l.joined-index l.results)
