use Rattle.pf_columns.specs.Steps.{NoneBad}
use Rattle.pf_columns.proofs.steps.StepCells.first_bad.Given as goal

abbrev pub invariant-loop-step : goal.invariant-loop-step
invariant-loop-step l = NoneBad l.self.bads l.step
