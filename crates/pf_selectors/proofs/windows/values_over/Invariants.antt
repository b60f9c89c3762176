use Rattle.std.proofs.Common.{◌≡◌, ◌≤◌, ◌-ℤ◌, length, pos}
use Rattle.pf_model.specs.Merging.{below}
use Rattle.pf_model.specs.RangeFunctions.{range_function}
use Rattle.pf_selectors.specs.SeriesColumns.{window_at}
use Rattle.pf_selectors.specs.Times.{time_at}
use Rattle.pf_selectors.proofs.windows.values_over.Given as goal

abbrev pub invariant-loop-i : goal.invariant-loop-i
invariant-loop-i l = record {
  start : l.start ≤ length l.samples;
  end : l.end ≤ length l.samples;
  found :
      l.found.items
      ≡ below (λ k. range_function l.f (window_at l.range l.samples l.times k) (time_at l.times k -ℤ pos l.range) (time_at l.times k)) l.i;
}
