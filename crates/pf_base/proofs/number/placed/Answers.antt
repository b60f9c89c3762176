use Rattle.pf_base.proofs.Sizes.{take_digits, placed_is}
use Rattle.pf_base.proofs.number.placed.Goals as goal

pub read_on-size-requires-clause-digits : goal.read_on-size-requires-clause-digits
read_on-size-requires-clause-digits c = take_digits c.args.whole.now c.min-front.result c.requires.whole

pub read_on-size-requires-2-clause-digits : goal.read_on-size-requires-2-clause-digits
read_on-size-requires-2-clause-digits c = take_digits c.args.fraction.now c.min-behind.result c.requires.fraction

pub returns : goal.returns
returns c = placed_is c.args.whole.now c.args.fraction.now c.args.places c.min-front.result c.read_on-size.result c.min-behind.result c.read_on-size-2.result c.with_zeros.result
    c.min-front.ensures c.read_on-size.ensures c.min-behind.ensures c.read_on-size-2.ensures c.with_zeros.ensures
