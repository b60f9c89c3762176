use Rattle.std.proofs.Common.{◌≡◌, ◌++◌, map, drop}
use Rattle.pf_join.specs.Results.{result_of}
use Rattle.pf_join.proofs.matching.push_results.Given as goal

abbrev pub invariant-loop-right : goal.invariant-loop-right
invariant-loop-right l =
    l.found.items ++ map (λ r. result_of l.op l.matching l.left r.element) (drop l.right-index l.rights)
    ≡ l.initial.found.items ++ map (λ r. result_of l.op l.matching l.left r.element) l.rights
