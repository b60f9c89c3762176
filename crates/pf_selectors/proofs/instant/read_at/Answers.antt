use Rattle.std.proofs.Common.{◌-ℤ◌, arith, pos}
use Rattle.std.proofs.lemmas.Int.{ints}
use Rattle.pf_base.specs.Limits.{lookback}
use Rattle.pf_selectors.proofs.Places.{last_in_at}
use Rattle.pf_selectors.proofs.instant.read_at.Goals as goal

pub returns : goal.returns
returns c =
    last_in_at c.args.samples.now c.args.count c.newest.result _ (c.args.time -ℤ pos lookback) c.args.time c.requires.rises c.requires.count c.newest.ensures
    (omega (arith, ints, c.requires.time))
