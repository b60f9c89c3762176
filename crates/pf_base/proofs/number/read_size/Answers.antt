use Rattle.std.proofs.Common.{arith}
use Rattle.std.proofs.lemmas.Grind.{common_steps}
use Rattle.pf_base.proofs.Sizes.{size_at}
use Rattle.pf_base.proofs.number.read_size.Goals as goal

pub returns-clause-size : goal.returns-clause-size
returns-clause-size c =
    size_at c.args.bytes.now c.split_digits.result.0.now c.split_digits.result.1.now c.split_fraction.result.0.now c.split_fraction.result.1.now
    c.in_ok-tens.tens c.saturating_sub-places.result c.placed.result
    c.split_digits.ensures.digits c.split_digits.ensures.rest c.split_fraction.ensures.digits c.split_fraction.ensures.rest
    c.split_digits.ensures.all c.split_fraction.ensures.all c.in_ok-tens.ensures.tens c.if-whole-fraction-eq0.false
    c.saturating_sub-places.ensures c.placed.ensures

pub returns-clause-capped : goal.returns-clause-capped
returns-clause-capped c = grind (arith, common_steps)
