use Rattle.pf_expo.proofs.Digits.{digit_at, read_step}
use Rattle.pf_expo.proofs.line.time_of.Goals as goal

pub overflow_sub-digit : goal.overflow_sub-digit
overflow_sub-digit c = (digit_at c.args.digits.now c.loop-digit.digit-index c.requires c.loop-digit-test.true).0

pub loop-digit-preserved : goal.loop-digit-preserved
loop-digit-preserved c = read_step c.loop-digit.time c.min-time.result c.args.digits.now c.loop-digit.digit-index c.loop-digit-test.true c.loop-digit.invariant c.min-time.ensures
