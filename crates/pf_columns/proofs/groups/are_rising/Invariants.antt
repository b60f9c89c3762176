use Rattle.std.proofs.Common.{◌≡◌, drop, None}
use Rattle.std.specs.Option.{option_copied}
use Rattle.pf_columns.specs.Steps.{rise_above}
use Rattle.pf_columns.proofs.groups.are_rising.Given as goal

abbrev pub invariant-loop-labels : goal.invariant-loop-labels
invariant-loop-labels l = rise_above (option_copied l.last) (drop l.labels-index l.sets) ≡ rise_above None l.sets
