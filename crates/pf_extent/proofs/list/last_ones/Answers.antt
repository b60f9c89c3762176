use Rattle.std.proofs.Common.{◌<◌, length, ap, ◌∙◌, arith}
use Rattle.pf_extent.specs.Combining.{last_of}
use Rattle.pf_extent.proofs.LastOnes.{one_less}
use Rattle.pf_extent.proofs.list.last_ones.Goals as goal

pub loop-extents-preserved : goal.loop-extents-preserved
loop-extents-preserved c =
    let many : 64 < length c.loop-extents.extents.items = omega arith in
    ap (last_of 64) c.remove.ensures.items ∙ one_less 64 c.loop-extents.extents.items many ∙ c.loop-extents.invariant
