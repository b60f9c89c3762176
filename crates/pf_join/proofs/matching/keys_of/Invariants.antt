use Rattle.std.proofs.Common.{◌≡◌, map, take}
use Rattle.pf_join.specs.KeyedElements.{key_of}
use Rattle.pf_join.proofs.matching.keys_of.Given as goal

abbrev pub invariant-loop-entry : goal.invariant-loop-entry
invariant-loop-entry l = l.found.items ≡ map key_of (take l.entry-index l.entries)
