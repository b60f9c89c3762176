use Rattle.std.proofs.Common.{◌≡◌, drop}
use Rattle.pf_columns.specs.Columns.{has_value}
use Rattle.pf_columns.proofs.column.has_value.Given as goal

abbrev pub invariant-loop-value : goal.invariant-loop-value
invariant-loop-value l = has_value (drop l.value-index l.values) ≡ has_value l.values
