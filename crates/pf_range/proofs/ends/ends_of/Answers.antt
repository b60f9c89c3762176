use Rattle.std.proofs.Common.{◌≤◌, ◌-◌, length, arith}
use Rattle.pf_range.proofs.SamplePlaces.{first_at, last_at}
use Rattle.pf_range.proofs.ends.ends_of.Goals as goal

pub returns : goal.returns
returns c =
    let ss = c.args.samples.now in
    let some : 1 ≤ length ss = omega (arith, c.if-count-eq0.false) in
    let first = first_at ss c.index-samples-0.result some c.index-samples-0.is in
    let last = last_at ss (length ss - 1) c.index-samples-count.result (omega (arith, some)) c.index-samples-count.is in
    (λ i. record { first = first i; last = last i; count = length ss }, some)
