use Rattle.std.proofs.Common.{arith}
use Rattle.std.proofs.lemmas.Grind.{common_steps}
use Rattle.pf_io.proofs.disk.fill.Goals as goal

pub returns-clause-contents : goal.returns-clause-contents
returns-clause-contents c = grind (arith, common_steps)

pub returns-clause-within : goal.returns-clause-within
returns-clause-within c = grind (arith, common_steps)

pub returns-clause-too_long : goal.returns-clause-too_long
returns-clause-too_long c = grind (arith, common_steps)
