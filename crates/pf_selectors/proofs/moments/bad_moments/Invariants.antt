use Rattle.std.proofs.Common.{◌≡◌}
use Rattle.pf_columns.specs.Steps.{bad_in}
use Rattle.pf_selectors.specs.Subqueries.{bad_moment, joined_below}
use Rattle.pf_selectors.specs.Times.{time_at}
use Rattle.pf_selectors.proofs.moments.bad_moments.Given as goal

abbrev pub invariant-loop-i : goal.invariant-loop-i
invariant-loop-i l = l.found.items ≡ joined_below (λ j. bad_moment (time_at l.at j) (bad_in l.bads j)) l.i
