use Rattle.std.proofs.Common.{◌≡◌, Some}
use Rattle.pf_model.specs.Merging.{below}
use Rattle.pf_eval.proofs.node.number.Given as goal

abbrev pub invariant-loop : goal.invariant-loop
invariant-loop l = l.values.items ≡ below (λ k. Some l.value) l.counter
