use Rattle.std.proofs.Common.{arith}
use Rattle.std.proofs.lemmas.Grind.{common_steps}
use Rattle.pf_shard.proofs.merging.finished_values.Goals as goal

pub loop-known-preserved : goal.loop-known-preserved
loop-known-preserved c = grind (arith, common_steps)
