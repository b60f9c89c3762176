use Rattle.std.proofs.Common.{arith}
use Rattle.std.proofs.Common.{rules}
use Rattle.std.proofs.lemmas.Grind.{common_steps}
use Rattle.pf_model.specs.Trees.{tree_of}
use Rattle.pf_results.proofs.Adding.{added_part}
use Rattle.pf_results.proofs.frozen.add.Goals as goal

pub loop-from-preserved : goal.loop-from-preserved
loop-from-preserved c =
    added_part (tree_of c.args.expr.now) c.args.asker.now c.args.run c.args.cells.now c.args.list.now c.loop-from.kept c.in_ok-kept.kept c.loop-from.steps
    c.loop-from.from c.count_fixed.result c.count_fixed-count.result c.loop-from.invariant (search rules) c.requires.step c.count_fixed.ensures.within
    c.count_fixed.ensures.are c.count_fixed-count.ensures.within c.count_fixed-count.ensures.are c.count_fixed-count.ensures.stops c.in_ok-kept.ensures.list
    c.in_ok-kept.ensures.known c.in_ok-kept.ensures.spaced

pub returns-clause-list : goal.returns-clause-list
returns-clause-list c = grind (arith, common_steps)

pub returns-clause-steps : goal.returns-clause-steps
returns-clause-steps c = grind (arith, common_steps)

pub returns-clause-few : goal.returns-clause-few
returns-clause-few c = grind (arith, common_steps)

pub returns-clause-known : goal.returns-clause-known
returns-clause-known c = grind (arith, common_steps)

pub returns-clause-spaced : goal.returns-clause-spaced
returns-clause-spaced c = grind (arith, common_steps)
