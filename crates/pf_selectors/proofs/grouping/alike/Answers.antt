use Rattle.std.proofs.Common.{rules}
use Rattle.pf_selectors.proofs.NumberedSeries.{alike_numbered}
use Rattle.pf_selectors.proofs.grouping.alike.Goals as goal

pub returns : goal.returns
returns c =
    let g = c.args.grouping.now in
    alike_numbered g.without g.labels c.args.snap.now.labels c.in_ok-keys.keys.items c.args.ids.now c.in_ok-numbers.numbers.items c.requires.without c.requires.labels c.in_ok-keys.ensures
    (c.in_ok-numbers.ensures.items_if_clones_equal (search rules))
