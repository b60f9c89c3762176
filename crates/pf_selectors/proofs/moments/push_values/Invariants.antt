use Rattle.std.proofs.Common.{◌≡◌}
use Rattle.pf_columns.specs.Columns.{value_in}
use Rattle.pf_selectors.specs.Subqueries.{joined_below, sample_at}
use Rattle.pf_selectors.specs.Times.{time_at}
use Rattle.pf_selectors.proofs.moments.push_values.Given as goal

abbrev pub invariant-loop-i : goal.invariant-loop-i
invariant-loop-i l = l.samples.items ≡ joined_below (λ j. sample_at (time_at l.at j) (value_in l.values j)) l.i
