use Rattle.std.proofs.Common.{◌≡◌, map, drop}
use Rattle.pf_eval.specs.Zipped.{are_there}
use Rattle.pf_eval.proofs.pairing.are_there.Given as goal

abbrev pub invariant-loop-column : goal.invariant-loop-column
invariant-loop-column l = are_there (map (λ c. c.now) (drop l.column-index l.columns)) l.step ≡ are_there (map (λ c. c.now) l.columns) l.step
