use Rattle.std.proofs.Common.{arith}
use Rattle.std.proofs.lemmas.Grind.{common_steps}
use Rattle.pf_math.proofs.values.by_twice.Goals as goal

pub returns-clause-quotient : goal.returns-clause-quotient
returns-clause-quotient c = grind (arith, common_steps)

pub returns-clause-within : goal.returns-clause-within
returns-clause-within c = grind (arith, common_steps)
