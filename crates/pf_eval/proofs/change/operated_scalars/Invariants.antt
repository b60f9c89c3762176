use Rattle.std.proofs.Common.{◌≡◌}
use Rattle.pf_model.specs.Matching.{of_scalars}
use Rattle.pf_model.specs.Merging.{below}
use Rattle.pf_columns.specs.Columns.{value_in}
use Rattle.pf_eval.proofs.change.operated_scalars.Given as goal

abbrev pub invariant-loop-i : goal.invariant-loop-i
invariant-loop-i l = l.found.items ≡ below (λ k. of_scalars l.op (value_in l.lefts k) (value_in l.rights k)) l.i
