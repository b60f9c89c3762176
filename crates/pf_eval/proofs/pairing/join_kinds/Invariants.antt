use Rattle.std.proofs.Common.{◌≡◌}
use Rattle.pf_model.specs.Merging.{below}
use Rattle.pf_model.specs.Outcomes.{of_cell, operation}
use Rattle.pf_columns.specs.Steps.{step_at}
use Rattle.pf_eval.specs.Zipped.{kind_of}
use Rattle.pf_eval.proofs.pairing.join_kinds.Given as goal

abbrev pub invariant-loop-i : goal.invariant-loop-i
invariant-loop-i l =
    l.found.items ≡ below (λ k. kind_of (operation l.op l.matching (of_cell (step_at l.left k)) (of_cell (step_at l.right k)))) l.i
