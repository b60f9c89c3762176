use Rattle.std.proofs.Common.{◌≡◌, ◌-◌, length}
use Rattle.pf_columns.specs.Joins.{filled}
use Rattle.pf_columns.proofs.joining.fill.Given as goal

abbrev pub invariant-loop-values : goal.invariant-loop-values
invariant-loop-values l = filled l.len l.values.items ≡ filled l.len l.initial.values.items

abbrev pub decreases-loop-values : goal.decreases-loop-values
decreases-loop-values l = l.len - length l.values.items
