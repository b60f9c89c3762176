use Rattle.std.proofs.Common.{◌≡◌, map, take}
use Rattle.pf_model.specs.Merging.{below}
use Rattle.pf_agg.specs.Buckets.{those_of}
use Rattle.pf_agg.proofs.groups.buckets_of.Given as goal

abbrev pub invariant-loop-i : goal.invariant-loop-i
invariant-loop-i l = map (λ b. map (λ c. c.now) b.items) l.found.items ≡ below (λ g. those_of g (take l.i l.places) (take l.i l.elements)) l.count
