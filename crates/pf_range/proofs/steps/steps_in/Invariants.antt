use Rattle.std.proofs.Common.{◌≡◌, ◌≤◌, ◌+◌, ◌∷◌, length}
use Rattle.std.specs.Prelude.{int_lt, not}
use Rattle.std.specs.Ordering.{int_eq}
use Rattle.pf_model.specs.RangeFunctions.{steps_with}
use Rattle.pf_range.proofs.steps.steps_in.Given as goal

abbrev pub invariant-loop-sample : goal.invariant-loop-sample
invariant-loop-sample l = record {
  goes : goal.iterator-loop-sample.can_next l.sample-iterator × goal.iterator-loop-sample.is_finite l.sample-iterator;
  changes : l.steps.changes + steps_with (λ v w. not (int_eq v w)) (l.last ∷ l.sample-iterator) ≡ steps_with (λ v w. not (int_eq v w)) l.fn.window;
  resets : l.steps.resets + steps_with (λ v w. int_lt w v) (l.last ∷ l.sample-iterator) ≡ steps_with (λ v w. int_lt w v) l.fn.window;
  few_changes : l.steps.changes + length l.sample-iterator + 1 ≤ length l.fn.window;
  few_resets : l.steps.resets + length l.sample-iterator + 1 ≤ length l.fn.window;
}
