use Rattle.std.proofs.Common.{arith}
use Rattle.std.proofs.lemmas.Grind.{common_steps}
use Rattle.pf_block.proofs.stack.numbered.Goals as goal

pub loop-size-preserved : goal.loop-size-preserved
loop-size-preserved c = grind (arith, common_steps)
