use Rattle.std.proofs.Common.{◌≡◌, ◌++◌, drop, None}
use Rattle.std.specs.Option.{option_copied}
use Rattle.pf_columns.specs.Groups.{unrepeated}
use Rattle.pf_columns.proofs.groups.unrepeated.Given as goal

abbrev pub invariant-loop-labels : goal.invariant-loop-labels
invariant-loop-labels l =
    l.found.items ++ unrepeated (option_copied l.last) (drop l.labels-index l.all) ≡ unrepeated None l.all
