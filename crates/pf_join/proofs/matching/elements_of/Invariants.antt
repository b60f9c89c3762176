use Rattle.std.proofs.Common.{◌≡◌, ◌++◌, drop}
use Rattle.pf_join.specs.Results.{elements_of}
use Rattle.pf_join.proofs.matching.elements_of.Given as goal

abbrev pub invariant-loop-joined : goal.invariant-loop-joined
invariant-loop-joined l = l.found.items ++ elements_of (drop l.joined-index l.results) ≡ elements_of l.results
