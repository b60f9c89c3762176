use Rattle.std.proofs.Common.{◌≡◌, ◌<◌, ℕ, ℤ, length}
use Rattle.std.specs.Prelude.{slice_index_or}
use Rattle.pf_math.specs.declared.values.Change.TheVariants.{Remove}
use Rattle.pf_math.specs.EachValue.{changed, value_by}
use Rattle.pf_selectors.specs.Times.{time_at}
use Rattle.pf_eval.specs.Calls.{scalars_at}
use Rattle.pf_eval.proofs.instant.changes_by_step.Given as goal

abbrev pub invariant-loop-step : goal.invariant-loop-step
invariant-loop-step l = record {
  many : length l.found.items ≡ l.step;
  each : (k : ℕ) → k < l.step → (v : ℤ) → changed (slice_index_or l.found.items k Remove) v ≡ value_by l.f (scalars_at l.scalars k) (time_at l.times k) v;
}
