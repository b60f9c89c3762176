use Rattle.std.proofs.Common.{◌≡◌, ◌≤◌, ◌+◌, ◌∷◌, length}
use Rattle.pf_model.specs.RangeFunctions.{first, last}
use Rattle.pf_range.proofs.ends.ends_walked.Given as goal

abbrev pub invariant-loop-sample : goal.invariant-loop-sample
invariant-loop-sample l = record {
  goes : goal.iterator-loop-sample.can_next l.sample-iterator × goal.iterator-loop-sample.is_finite l.sample-iterator;
  first : l.first ≡ first l.fn.window;
  last : last (l.last ∷ l.sample-iterator) ≡ last l.fn.window;
  count : l.count + length l.sample-iterator ≡ length l.fn.window;
  some : 1 ≤ l.count;
}
