use Rattle.std.proofs.Common.{◌≡◌, length}
use Rattle.pf_extent.specs.Combining.{last_of}
use Rattle.pf_extent.proofs.list.last_ones.Given as goal

abbrev pub invariant-loop-extents : goal.invariant-loop-extents
invariant-loop-extents l = last_of 64 l.extents.items ≡ last_of 64 l.initial.extents.items

abbrev pub decreases-loop-extents : goal.decreases-loop-extents
decreases-loop-extents l = length l.extents.items
