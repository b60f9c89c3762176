use Rattle.std.proofs.Common.{◌≡◌, ◌++◌, drop}
use Rattle.pf_model.specs.Lists.{Each, joined}
use Rattle.pf_extent.specs.Combining.{front_part, of_generation}
use Rattle.pf_extent.specs.Steps.{Divides}
use Rattle.pf_extent.proofs.list.fronts.Given as goal

abbrev pub invariant-loop-extent : goal.invariant-loop-extent
invariant-loop-extent l = record {
  done : l.parts.items ++ joined (front_part l.new.first) (of_generation l.new.generation (drop l.extent-index l.extents)) ≡ joined (front_part l.new.first) (of_generation l.new.generation l.extents);
  left : Each (Divides l.new.first) (drop l.extent-index l.extents);
}
