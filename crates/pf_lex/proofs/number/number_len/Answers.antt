use Rattle.std.proofs.Common.{arith}
use Rattle.std.proofs.Common.{◌∙◌, sym}
use Rattle.std.proofs.lemmas.Grind.{common_steps}
use Rattle.pf_lex.proofs.Stages.{over_here}
use Rattle.pf_lex.proofs.number.number_len.Goals as goal

pub returns-in-Over-clause-len : goal.returns-in-Over-clause-len
returns-in-Over-clause-len c = over_here c.loop-i.stage c.loop-i.i c.loop-i.found c.args.bytes.now _ c.loop-i-test.true (sym c.stage_behind-stage.ensures.stage ∙ c.in-Over.is) c.loop-i.invariant.left

pub loop-i-preserved : goal.loop-i-preserved
loop-i-preserved c = grind (arith, common_steps)
