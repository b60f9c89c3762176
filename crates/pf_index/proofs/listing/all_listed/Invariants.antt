use Rattle.std.proofs.Common.{◌≡◌, ◌++◌, map, drop}
use Rattle.pf_index.specs.Listing.{all_listed}
use Rattle.pf_index.proofs.listing.all_listed.Given as goal

abbrev pub invariant-loop-value : goal.invariant-loop-value
invariant-loop-value l =
    l.ids.items ++ all_listed l.name (map (λ x. x.now) (drop l.value-index l.values)) l.snap.labels
    ≡ all_listed l.name (map (λ x. x.now) l.values) l.snap.labels
