use Rattle.std.proofs.Common.{◌≡◌, ◌++◌, take}
use Rattle.pf_join.specs.KeyedElements.{those_without}
use Rattle.pf_join.proofs.matching.push_those_without.Given as goal

abbrev pub invariant-loop-element : goal.invariant-loop-element
invariant-loop-element l =
    l.found.items ≡ l.initial.found.items ++ those_without l.matching l.others (take l.element-index l.elements)
