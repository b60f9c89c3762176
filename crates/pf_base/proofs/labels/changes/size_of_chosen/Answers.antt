use Rattle.std.proofs.Common.{arith}
use Rattle.std.proofs.lemmas.Grind.{common_steps}
use Rattle.pf_base.proofs.LabelSteps.{no_more_than}
use Rattle.pf_base.proofs.labels.changes.size_of_chosen.Goals as goal

pub overflow_add-size : goal.overflow_add-size
overflow_add-size g c = let n = no_more_than (λ name. g.C.Choice.is_chosen c.args.choice.now name) c.args.pairs.now in omega (arith, n)

pub loop-i-preserved : goal.loop-i-preserved
loop-i-preserved c = grind (arith, common_steps)
