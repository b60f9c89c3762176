use Rattle.std.proofs.Common.{arith}
use Rattle.std.proofs.lemmas.Grind.{common_steps}
use Rattle.pf_model.proofs.matchers.all_asking.Goals as goal

pub loop-test-preserved : goal.loop-test-preserved
loop-test-preserved c = grind (arith, common_steps)
