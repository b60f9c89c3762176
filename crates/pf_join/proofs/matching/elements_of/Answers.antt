use Rattle.std.proofs.Common.{arith}
use Rattle.std.proofs.lemmas.Grind.{common_steps}
use Rattle.pf_join.proofs.matching.elements_of.Goals as goal

pub loop-joined-preserved : goal.loop-joined-preserved
loop-joined-preserved c = grind (arith, common_steps)
