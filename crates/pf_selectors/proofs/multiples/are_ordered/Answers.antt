use Rattle.std.proofs.Common.{arith}
use Rattle.std.proofs.lemmas.Grind.{common_steps}
use Rattle.std.proofs.lemmas.Int.{ints}
use Rattle.pf_selectors.proofs.StepMultiples.{order_more}
use Rattle.pf_selectors.proofs.multiples.are_ordered.Goals as goal

pub loop-i-preserved : goal.loop-i-preserved
loop-i-preserved c =
    order_more c.args.times.now c.loop-i.i c.at.result c.at-in-loop-i.result c.loop-i.invariant c.at.ensures.value c.at-in-loop-i.ensures.value (omega (arith, ints, c.if-at.false))

pub returns-clause-ordered : goal.returns-clause-ordered
returns-clause-ordered c = grind (arith, common_steps)

pub returns-clause-not : goal.returns-clause-not
returns-clause-not c = grind (arith, common_steps)
