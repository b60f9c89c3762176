use Rattle.std.proofs.Common.{arith}
use Rattle.pf_base.proofs.Repeats.{step_at}
use Rattle.pf_base.proofs.labels.build.repeated_at.Goals as goal

pub loop-i-preserved : goal.loop-i-preserved
loop-i-preserved c = grind (arith, step_at)
