use Rattle.std.proofs.Common.{◌≡◌, take}
use Rattle.pf_join.proofs.matching.copies_of.Given as goal

abbrev pub invariant-loop-element : goal.invariant-loop-element
invariant-loop-element l = l.found.items ≡ take l.element-index l.elements
