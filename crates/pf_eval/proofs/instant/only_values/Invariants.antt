use Rattle.std.proofs.Common.{◌≡◌}
use Rattle.pf_model.specs.InstantFunctions.{only_value}
use Rattle.pf_model.specs.Merging.{below}
use Rattle.pf_columns.specs.Columns.{cell_at}
use Rattle.pf_eval.proofs.instant.only_values.Given as goal

abbrev pub invariant-loop-step : goal.invariant-loop-step
invariant-loop-step l = l.found.items ≡ below (λ k. only_value (cell_at l.columns k)) l.step
