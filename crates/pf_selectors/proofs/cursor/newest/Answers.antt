use Rattle.std.proofs.Common.{true, false, arith}
use Rattle.std.proofs.lemmas.Int.{ints}
use Rattle.pf_selectors.proofs.Places.{after_is, newest_by, not_after_is}
use Rattle.pf_selectors.proofs.cursor.newest.Goals as goal

pub returns-then-sample-after : goal.returns-then-sample-after
returns-then-sample-after c =
    newest_by c.args.after c.args.samples.now c.args.count c.index-samples-count.result true c.requires.rises (omega arith) c.requires.within c.index-samples-count.is
    (after_is c.args.after c.index-samples-count.result.time (omega (arith, ints, c.if-sample-after.true)))

pub returns-else-sample-after : goal.returns-else-sample-after
returns-else-sample-after c =
    newest_by c.args.after c.args.samples.now c.args.count c.index-samples-count.result false c.requires.rises (omega arith) c.requires.within c.index-samples-count.is
    (not_after_is c.args.after c.index-samples-count.result.time (omega (arith, ints, c.if-sample-after.false)))
