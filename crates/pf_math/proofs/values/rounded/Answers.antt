use Rattle.std.proofs.Common.{ap, ◌∙◌}
use Rattle.std.specs.Prelude.{Some, unsigned_abs}
use Rattle.pf_math.proofs.Euclid.{rounded_from}
use Rattle.pf_math.proofs.values.rounded.Goals as goal

pub returns : goal.returns
returns c =
    ap Some c.new.ensures
    ∙ rounded_from (unsigned_abs c.args.to) c.args.value c.size_of-to.result c.twice_and-sum.result c.by_twice-count.result c.multiple.result c.if-to-eq0.false
    (record { sfits = c.size_of-to.type_inv }) (record { sfits = c.twice_and-sum.type_inv })
    (record { sfits = c.by_twice-count.type_inv }) (record { sfits = c.multiple.type_inv })
    c.size_of-to.ensures.size c.twice_and-sum.ensures.sum c.by_twice-count.ensures.quotient c.multiple.ensures
