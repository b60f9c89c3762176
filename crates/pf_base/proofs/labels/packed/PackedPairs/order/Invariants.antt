use Rattle.std.proofs.Common.{◌≡◌, drop}
use Rattle.pf_base.specs.LabelOrder.{labels_cmp}
use Rattle.pf_base.proofs.labels.packed.PackedPairs.order.Given as goal

abbrev pub invariant-loop-i : goal.invariant-loop-i
invariant-loop-i l = labels_cmp (drop l.i l.self) (drop l.i l.other) ≡ labels_cmp l.self l.other
