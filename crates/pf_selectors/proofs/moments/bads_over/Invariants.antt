use Rattle.std.proofs.Common.{◌≡◌}
use Rattle.pf_model.specs.Merging.{below}
use Rattle.pf_selectors.specs.Subqueries.{bad_over}
use Rattle.pf_selectors.proofs.moments.bads_over.Given as goal

abbrev pub invariant-loop-i : goal.invariant-loop-i
invariant-loop-i l = l.found.items ≡ below (bad_over l.range l.at l.times l.bads) l.i
