use Rattle.std.proofs.Common.{◌≡◌, ◌∷◌}
use Rattle.pf_model.specs.RangeFunctions.{but_last, last}
use Rattle.pf_range.proofs.last_steps.two_walked.Given as goal

abbrev pub invariant-loop-sample : goal.invariant-loop-sample
invariant-loop-sample l = record {
  goes : goal.iterator-loop-sample.can_next l.sample-iterator × goal.iterator-loop-sample.is_finite l.sample-iterator;
  before : last (but_last (l.before ∷ l.last ∷ l.sample-iterator)) ≡ last (but_last l.fn.window);
  last : last (l.last ∷ l.sample-iterator) ≡ last l.fn.window;
}
