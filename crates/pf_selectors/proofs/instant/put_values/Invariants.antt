use Rattle.std.proofs.Common.{◌≡◌, ◌≤◌, length, option_map}
use Rattle.pf_model.specs.Merging.{below}
use Rattle.pf_selectors.specs.SeriesColumns.{read_at, value_read}
use Rattle.pf_selectors.specs.Times.{time_at}
use Rattle.pf_selectors.proofs.instant.put_values.Given as goal

abbrev pub invariant-loop-i : goal.invariant-loop-i
invariant-loop-i l = record {
  within : l.count ≤ length l.samples;
  found : l.found.items ≡ below (λ k. option_map (value_read l.reading) (read_at l.samples (time_at l.times k))) l.i;
}
