use Rattle.std.proofs.Common.{◌≡◌, ◌≤◌, ◌+◌, ◌*◌, ◌+ℤ◌, ◌∷◌, length}
use Rattle.std.specs.Prelude.{unsigned_abs}
use Rattle.pf_model.specs.RangeFunctions.{first, last, lost}
use Rattle.pf_range.proofs.ends.counter_in.Given as goal

-- each value that is lost is at most a greatest value
abbrev pub invariant-loop-sample : goal.invariant-loop-sample
invariant-loop-sample l = record {
  goes : goal.iterator-loop-sample.can_next l.sample-iterator × goal.iterator-loop-sample.is_finite l.sample-iterator;
  first : l.first ≡ first l.fn.window;
  last : last (l.last ∷ l.sample-iterator) ≡ last l.fn.window;
  count : l.count + length l.sample-iterator ≡ length l.fn.window;
  some : 1 ≤ l.count;
  lost : l.lost +ℤ lost (l.last ∷ l.sample-iterator) ≡ lost l.fn.window;
  small : unsigned_abs l.lost ≤ l.count * 1000000000000000000;
}
