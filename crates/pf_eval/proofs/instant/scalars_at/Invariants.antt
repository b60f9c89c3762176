use Rattle.std.proofs.Common.{◌≡◌, ◌++◌, drop}
use Rattle.pf_eval.specs.Calls.{scalars_at}
use Rattle.pf_eval.proofs.instant.scalars_at.Given as goal

abbrev pub invariant-loop-values : goal.invariant-loop-values
invariant-loop-values l = l.found.items ++ scalars_at (drop l.values-index l.scalars) l.step ≡ scalars_at l.scalars l.step
