use Rattle.std.proofs.Common.{◌≡◌, drop}
use Rattle.pf_base.specs.LabelSets.{value_of}
use Rattle.pf_base.proofs.labels.Labels.get.Given as goal

abbrev pub invariant-loop-i : goal.invariant-loop-i
invariant-loop-i l = value_of (drop l.i l.self) l.name ≡ value_of l.self l.name
