use Rattle.std.proofs.Common.{◌≡◌, map, drop}
use Rattle.std.specs.List.{list_any}
use Rattle.pf_base.specs.LabelSets.{is_empty}
use Rattle.pf_index.proofs.listing.has_empty.Given as goal

abbrev pub invariant-loop-value : goal.invariant-loop-value
invariant-loop-value l =
    list_any is_empty (map (λ x. x.now) (drop l.value-index l.values)) ≡ list_any is_empty (map (λ x. x.now) l.values)
