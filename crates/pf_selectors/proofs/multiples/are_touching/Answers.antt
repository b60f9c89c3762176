use Rattle.std.proofs.Common.{arith}
use Rattle.std.proofs.lemmas.Grind.{common_steps}
use Rattle.std.proofs.lemmas.Int.{ints}
use Rattle.pf_selectors.proofs.StepMultiples.{touch_more}
use Rattle.pf_selectors.proofs.multiples.are_touching.Goals as goal

pub loop-i-preserved : goal.loop-i-preserved
loop-i-preserved c =
    touch_more c.args.range c.args.times.now c.loop-i.i c.start_of.result c.at.result c.loop-i.invariant c.start_of.ensures.value c.at.ensures.value (omega (arith, ints, c.if-start_of-at.false))

pub returns : goal.returns
returns c = grind (arith, common_steps)
