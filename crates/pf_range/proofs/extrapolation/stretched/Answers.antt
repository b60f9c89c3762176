use Rattle.std.proofs.Common.{refl}
use Rattle.pf_range.proofs.Quotients.{stretched_is}
use Rattle.pf_range.proofs.extrapolation.stretched.Goals as goal

pub returns : goal.returns
returns c =
    let r = c.requires in
    stretched_is _ _ _ _ _ _ r.value refl r.covered r.wide r.span r.short c.quotient.ensures c.new.ensures
