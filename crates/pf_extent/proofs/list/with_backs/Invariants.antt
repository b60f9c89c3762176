use Rattle.std.proofs.Common.{◌≡◌, ◌++◌, drop}
use Rattle.pf_model.specs.Lists.{Each, joined}
use Rattle.pf_extent.specs.Combining.{back_part, of_generation}
use Rattle.pf_extent.specs.Steps.{Divides}
use Rattle.pf_extent.proofs.list.with_backs.Given as goal

abbrev pub invariant-loop-extent : goal.invariant-loop-extent
invariant-loop-extent l = record {
  done : l.parts.items ++ joined (back_part l.last) (of_generation l.generation (drop l.extent-index l.extents)) ≡ l.initial.parts.items ++ joined (back_part l.last) (of_generation l.generation l.extents);
  left : Each (Divides l.last) (drop l.extent-index l.extents);
}
