use Rattle.pf_base.proofs.Digits.{digit_at, read_step}
use Rattle.pf_base.proofs.number.read_on.Goals as goal

pub overflow_sub-digit : goal.overflow_sub-digit
overflow_sub-digit c = (digit_at c.args.digits.now c.loop-digit.digit-index c.requires.digits c.loop-digit-test.true).0

pub loop-digit-preserved : goal.loop-digit-preserved
loop-digit-preserved c = read_step c.args.size c.loop-digit.size c.min-size.result c.args.digits.now c.loop-digit.digit-index c.loop-digit-test.true c.loop-digit.invariant c.min-size.ensures
