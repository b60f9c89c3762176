use Rattle.std.proofs.Common.{◌≡◌, ◌++◌}
use Rattle.pf_model.specs.Merging.{below}
use Rattle.pf_selectors.specs.Times.{time_at}
use Rattle.pf_selectors.proofs.multiples.push_between.Given as goal

abbrev pub invariant-loop-i : goal.invariant-loop-i
invariant-loop-i l = l.list.items ≡ l.fn.list.items ++ below (time_at l.run) l.i
