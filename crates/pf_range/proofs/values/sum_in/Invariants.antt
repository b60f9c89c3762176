use Rattle.std.proofs.Common.{◌≡◌, ◌≤◌, ◌+◌, ◌*◌, ◌+ℤ◌, length}
use Rattle.std.specs.Prelude.{unsigned_abs}
use Rattle.pf_model.specs.Micros.{total}
use Rattle.pf_model.specs.RangeFunctions.{values}
use Rattle.pf_range.proofs.values.sum_in.Given as goal

-- what is summed is not more than a greatest value for each sample
abbrev pub invariant-loop-sample : goal.invariant-loop-sample
invariant-loop-sample l = record {
  goes : goal.iterator-loop-sample.can_next l.sample-iterator × goal.iterator-loop-sample.is_finite l.sample-iterator;
  total : l.total +ℤ total (values l.sample-iterator) ≡ total (values l.fn.window);
  count : l.count + length l.sample-iterator ≡ length l.fn.window;
  small : unsigned_abs l.total ≤ l.count * 1000000000000000000;
}
