use Rattle.std.proofs.Common.{◌≡◌}
use Rattle.pf_model.specs.Merging.{below}
use Rattle.pf_columns.specs.Columns.{cell_at}
use Rattle.pf_eval.specs.Calls.{absent_value}
use Rattle.pf_eval.proofs.instant.absent_values.Given as goal

abbrev pub invariant-loop-step : goal.invariant-loop-step
invariant-loop-step l = l.found.items ≡ below (λ k. absent_value (cell_at l.columns k)) l.step
