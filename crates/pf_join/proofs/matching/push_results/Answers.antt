use Rattle.std.proofs.Common.{arith}
use Rattle.std.proofs.lemmas.Grind.{common_steps}
use Rattle.pf_join.proofs.matching.push_results.Goals as goal

pub loop-right-preserved : goal.loop-right-preserved
loop-right-preserved c = grind (arith, common_steps)
