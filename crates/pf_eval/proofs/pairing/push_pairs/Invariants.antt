use Rattle.std.proofs.Common.{◌≡◌, ◌++◌, map, take}
use Rattle.pf_eval.specs.Zipped.{between, pair_by}
use Rattle.pf_eval.proofs.pairing.push_pairs.Given as goal

abbrev pub invariant-loop-right : goal.invariant-loop-right
invariant-loop-right l =
    l.found.items ≡ l.initial.found.items ++ map (pair_by (between l.op) l.op l.matching l.len l.left) (map (λ c. c.now) (take l.right-index l.rights))
