use Rattle.std.proofs.Common.{arith}
use Rattle.std.proofs.lemmas.Grind.{common_steps}
use Rattle.pf_eval.proofs.instant.are_constant.Goals as goal

pub loop-values-preserved : goal.loop-values-preserved
loop-values-preserved c = grind (arith, common_steps)
