use Rattle.std.proofs.Common.{◌≤◌, ◌-◌, length, arith}
use Rattle.pf_range.proofs.SamplePlaces.{before_at, last_at}
use Rattle.pf_range.proofs.last_steps.two_of.Goals as goal

pub returns : goal.returns
returns c =
    let ss = c.args.samples.now in
    let two : 2 ≤ length ss = omega (arith, c.if-count-lt2.false) in (
      before_at ss (length ss - 2) c.index-samples-count.result (omega (arith, two)) c.index-samples-count.is,
      last_at ss (length ss - 1) c.index-samples-count-2.result (omega (arith, two)) c.index-samples-count-2.is,
      two,
    )
