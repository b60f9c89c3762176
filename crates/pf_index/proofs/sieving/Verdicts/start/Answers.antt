use Rattle.std.proofs.Common.{rules}
use Rattle.pf_index.proofs.Sieved.{nothing_known}
use Rattle.pf_index.proofs.sieving.Verdicts.start.Goals as goal

pub returns-then-count-lt-FEW-clause-known : goal.returns-then-count-lt-FEW-clause-known
returns-then-count-lt-FEW-clause-known c =
    let m = c.args.matcher.now in
    nothing_known m _ c.args.snap.now.labels c.new.result.items 0 c.holds-without.result c.new.ensures.items (c.requires.asked.1 m) (c.holds-without.ensures.value m)

pub returns-clause-known : goal.returns-clause-known
returns-clause-known c =
    let m = c.args.matcher.now in
    nothing_known m _ c.args.snap.now.labels c.in_ok-vec.field-0.items _ c.holds-without.result (c.in_ok-vec.ensures.items_if_clones_equal (search rules)) (c.requires.asked.1 m) (c.holds-without.ensures.value m)
