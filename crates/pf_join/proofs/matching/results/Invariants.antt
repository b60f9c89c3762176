use Rattle.std.proofs.Common.{◌≡◌, ◌++◌, drop}
use Rattle.pf_model.specs.Lists.{joined}
use Rattle.pf_join.specs.KeyedElements.{keyed_results}
use Rattle.pf_join.proofs.matching.results.Given as goal

abbrev pub invariant-loop-left : goal.invariant-loop-left
invariant-loop-left l =
    l.found.items ++ joined (keyed_results l.op l.matching l.rights) (drop l.left-index l.lefts)
    ≡ joined (keyed_results l.op l.matching l.rights) l.lefts
