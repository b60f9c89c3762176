use Rattle.std.proofs.Common.{◌≡◌, ◌+◌, ◌++◌, length}
use Rattle.pf_columns.specs.Joins.{joined_columns}
use Rattle.pf_columns.proofs.joining.joined.Given as goal

abbrev pub invariant-loop-others : goal.invariant-loop-others
invariant-loop-others l = l.found.items ++ joined_columns l.len l.ones.items l.others.items ≡ joined_columns l.len l.fn.first.items l.fn.second.items

abbrev pub decreases-loop-others : goal.decreases-loop-others
decreases-loop-others l = length l.ones.items + length l.others.items
