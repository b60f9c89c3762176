use Rattle.std.proofs.Common.{arith}
use Rattle.std.proofs.lemmas.Grind.{common_steps}
use Rattle.pf_columns.proofs.groups.are_rising.Goals as goal

pub loop-labels-preserved : goal.loop-labels-preserved
loop-labels-preserved c = grind (arith, common_steps)
