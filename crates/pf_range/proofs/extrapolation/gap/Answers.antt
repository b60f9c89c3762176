use Rattle.std.proofs.Common.{arith}
use Rattle.std.proofs.lemmas.Grind.{common_steps}
use Rattle.pf_range.proofs.extrapolation.gap.Goals as goal

pub returns-then-distance-average-clause-value : goal.returns-then-distance-average-clause-value
returns-then-distance-average-clause-value c = grind (arith, common_steps)

pub returns-then-distance-average-clause-within : goal.returns-then-distance-average-clause-within
returns-then-distance-average-clause-within c = grind (arith, common_steps)

pub returns-else-distance-average-clause-value : goal.returns-else-distance-average-clause-value
returns-else-distance-average-clause-value c = grind (arith, common_steps)

pub returns-else-distance-average-clause-within : goal.returns-else-distance-average-clause-within
returns-else-distance-average-clause-within c = grind (arith, common_steps)
