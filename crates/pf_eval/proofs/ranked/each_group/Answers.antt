use Rattle.std.proofs.Common.{arith}
use Rattle.std.proofs.lemmas.Grind.{common_steps}
use Rattle.pf_eval.proofs.ranked.each_group.Goals as goal

pub loop-places-preserved : goal.loop-places-preserved
loop-places-preserved c = grind (arith, common_steps)
