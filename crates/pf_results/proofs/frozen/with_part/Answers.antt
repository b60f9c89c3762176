use Rattle.std.proofs.Common.{arith}
use Rattle.std.proofs.lemmas.Grind.{common_steps}
use Rattle.pf_results.proofs.Adding.{known_part}
use Rattle.pf_results.proofs.frozen.with_part.Goals as goal

pub returns-clause-known : goal.returns-clause-known
returns-clause-known c =
    known_part c.args.asker.now c.args.run c.args.cells.now c.args.from c.args.count c.in_ok-extent.extent _ c.in_ok-with_next.field-0 c.in_ok-extent.ensures.extent
    (let n = c.if-count-eq0.false in omega (arith, n)) c.in_ok-with_next.ensures.known

pub returns-clause-list : goal.returns-clause-list
returns-clause-list c = grind (arith, common_steps)

pub returns-clause-spaced : goal.returns-clause-spaced
returns-clause-spaced c = grind (arith, common_steps)
