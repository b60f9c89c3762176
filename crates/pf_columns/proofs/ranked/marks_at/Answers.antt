use Rattle.std.proofs.Common.{arith}
use Rattle.std.proofs.lemmas.Grind.{common_steps}
use Rattle.pf_columns.proofs.ranked.marks_at.Goals as goal

pub loop-places-preserved : goal.loop-places-preserved
loop-places-preserved c = grind (arith, common_steps)
