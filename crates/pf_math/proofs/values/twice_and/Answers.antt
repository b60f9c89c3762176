use Rattle.std.proofs.Common.{arith}
use Rattle.std.proofs.lemmas.Grind.{common_steps}
use Rattle.pf_math.proofs.values.twice_and.Goals as goal

pub returns-clause-sum : goal.returns-clause-sum
returns-clause-sum c = grind (arith, common_steps)

pub returns-clause-bound : goal.returns-clause-bound
returns-clause-bound c = grind (arith, common_steps)
