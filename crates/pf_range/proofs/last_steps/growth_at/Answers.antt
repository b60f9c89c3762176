use Rattle.std.proofs.Common.{arith}
use Rattle.std.proofs.lemmas.Grind.{common_steps}
use Rattle.pf_range.proofs.last_steps.growth_at.Goals as goal

pub returns-then-micros-clause-value : goal.returns-then-micros-clause-value
returns-then-micros-clause-value c = grind (arith, common_steps)

pub returns-then-micros-clause-within : goal.returns-then-micros-clause-within
returns-then-micros-clause-within c = grind (arith, common_steps)

pub returns-else-micros-clause-value : goal.returns-else-micros-clause-value
returns-else-micros-clause-value c = grind (arith, common_steps)

pub returns-else-micros-clause-within : goal.returns-else-micros-clause-within
returns-else-micros-clause-within c = grind (arith, common_steps)
