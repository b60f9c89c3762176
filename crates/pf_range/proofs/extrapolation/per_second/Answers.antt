use Rattle.std.proofs.Common.{refl}
use Rattle.pf_range.proofs.Quotients.{divisor_some, per_second_is, thousand_fit}
use Rattle.pf_range.proofs.extrapolation.per_second.Goals as goal

pub overflow_mul-product-2 : goal.overflow_mul-product-2
overflow_mul-product-2 c = thousand_fit _ _ c.requires.change.value c.requires.change.covered c.requires.change.wide

pub quotient-requires : goal.quotient-requires
quotient-requires c =
    let r = c.requires in
    divisor_some c.args.change.value c.args.change.covered r.change.value r.change.covered r.change.wide _ _ r.change.span r.change.short r.range.0 r.range.1

pub returns : goal.returns
returns c =
    let r = c.requires in
    per_second_is _ _ r.change.value r.change.covered r.change.wide _ _ r.change.span r.change.short r.range.0 r.range.1 _ _ _ refl c.quotient.ensures c.new.ensures
