use Rattle.std.proofs.Common.{◌≡◌, ◌<◌, ℕ}
use Rattle.pf_columns.specs.Columns.{value_in}
use Rattle.pf_eval.proofs.instant.is_constant.Given as goal

abbrev pub invariant-loop-step : goal.invariant-loop-step
invariant-loop-step l = (k : ℕ) → k < l.step → value_in l.values k ≡ value_in l.values 0
