use Rattle.std.proofs.Common.{◌≡◌, take}
use Rattle.pf_join.specs.KeyedElements.{those_with}
use Rattle.pf_join.proofs.matching.those_with.Given as goal

abbrev pub invariant-loop-element : goal.invariant-loop-element
invariant-loop-element l = l.found.items ≡ those_with l.matching l.others (take l.element-index l.elements)
