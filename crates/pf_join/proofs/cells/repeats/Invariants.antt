use Rattle.std.proofs.Common.{◌≡◌, drop}
use Rattle.std.specs.Option.{option_copied}
use Rattle.pf_join.specs.Neighbours.{repeats, repeats_after}
use Rattle.pf_join.proofs.cells.repeats.Given as goal

abbrev pub invariant-loop-labels : goal.invariant-loop-labels
invariant-loop-labels l = repeats_after (λ x. x) (option_copied l.last) (drop l.labels-index l.sets) ≡ repeats (λ x. x) l.sets
