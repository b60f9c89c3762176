use Rattle.std.proofs.Common.{arith}
use Rattle.std.proofs.lemmas.Grind.{common_steps}
use Rattle.pf_range.proofs.extrapolation.limited.Goals as goal

pub returns-then-micros-ge0-clause-value : goal.returns-then-micros-ge0-clause-value
returns-then-micros-ge0-clause-value c = grind (arith, common_steps)

pub returns-then-micros-ge0-clause-within : goal.returns-then-micros-ge0-clause-within
returns-then-micros-ge0-clause-within c = grind (arith, common_steps)

pub returns-else-micros-gt0-clause-value : goal.returns-else-micros-gt0-clause-value
returns-else-micros-gt0-clause-value c = grind (arith, common_steps)

pub returns-else-micros-gt0-clause-within : goal.returns-else-micros-gt0-clause-within
returns-else-micros-gt0-clause-within c = grind (arith, common_steps)
