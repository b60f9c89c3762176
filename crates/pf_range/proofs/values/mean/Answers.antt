use Rattle.std.proofs.Common.{arith}
use Rattle.std.proofs.lemmas.Grind.{common_steps}
use Rattle.pf_range.proofs.values.mean.Goals as goal

pub returns-then-sum-eq0 : goal.returns-then-sum-eq0
returns-then-sum-eq0 c = grind (arith, common_steps)

pub returns : goal.returns
returns c = grind (arith, common_steps)
