use Rattle.std.proofs.Common.{◌≡◌, map, take}
use Rattle.pf_join.specs.KeyedElements.{keyed_of}
use Rattle.pf_join.proofs.matching.keyed.Given as goal

abbrev pub invariant-loop-element : goal.invariant-loop-element
invariant-loop-element l = l.found.items ≡ map (keyed_of l.matching) (take l.element-index l.elements)
