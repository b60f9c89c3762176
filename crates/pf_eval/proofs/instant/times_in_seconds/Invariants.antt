use Rattle.std.proofs.Common.{◌≡◌, Some}
use Rattle.pf_model.specs.Merging.{below}
use Rattle.pf_model.specs.Micros.{seconds}
use Rattle.pf_selectors.specs.Times.{time_at}
use Rattle.pf_eval.proofs.instant.times_in_seconds.Given as goal

abbrev pub invariant-loop-step : goal.invariant-loop-step
invariant-loop-step l = l.found.items ≡ below (λ k. Some (seconds (time_at l.times k))) l.step
