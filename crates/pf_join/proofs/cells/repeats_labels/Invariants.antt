use Rattle.std.proofs.Common.{◌≡◌, drop}
use Rattle.std.specs.Option.{option_copied}
use Rattle.pf_join.specs.Neighbours.{repeats, repeats_after}
use Rattle.pf_join.proofs.cells.repeats_labels.Given as goal

abbrev pub invariant-loop-element : goal.invariant-loop-element
invariant-loop-element l = repeats_after (λ x. x.labels) (option_copied l.last) (drop l.element-index l.elements) ≡ repeats (λ x. x.labels) l.elements
