use Rattle.std.proofs.Common.{◌≡◌, ◌++◌, drop}
use Rattle.pf_join.specs.KeyedElements.{shared_keys}
use Rattle.pf_join.proofs.matching.shared_keys.Given as goal

abbrev pub invariant-loop-left : goal.invariant-loop-left
invariant-loop-left l = l.found.items ++ shared_keys (drop l.left-index l.lefts) l.rights ≡ shared_keys l.lefts l.rights
