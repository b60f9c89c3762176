use Rattle.std.proofs.Common.{arith}
use Rattle.std.proofs.lemmas.Grind.{common_steps}
use Rattle.pf_selectors.proofs.cursor.copy.Goals as goal

pub loop-sample-preserved : goal.loop-sample-preserved
loop-sample-preserved c = grind (arith, common_steps)
