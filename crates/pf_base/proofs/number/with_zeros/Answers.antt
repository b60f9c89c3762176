use Rattle.std.proofs.Common.{arith, ◌∙◌}
use Rattle.pf_base.proofs.Sizes.{zero_step, at_most}
use Rattle.pf_base.proofs.number.with_zeros.Goals as goal

pub loop-zeros-preserved : goal.loop-zeros-preserved
loop-zeros-preserved c = record {
  within = omega (arith, c.min-size.ensures);
  same = zero_step c.loop-zeros.size c.loop-zeros.zeros c.min-size.result c.loop-zeros-test.true c.min-size.ensures ∙ c.loop-zeros.invariant.same;
}

pub returns-else-size-lt-MOST : goal.returns-else-size-lt-MOST
returns-else-size-lt-MOST c = at_most c.loop-zeros.size c.loop-zeros.zeros _ c.loop-zeros.invariant.within c.if-size-lt-MOST.false c.loop-zeros.invariant.same
