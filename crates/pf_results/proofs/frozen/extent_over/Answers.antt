use Rattle.std.proofs.Common.{rules, sym, subst}
use Rattle.pf_extent.specs.Steps.{IsLawful}
use Rattle.pf_results.proofs.Adding.{extent_is, part_lawful}
use Rattle.pf_results.proofs.frozen.extent_over.Goals as goal

pub returns-clause-extent : goal.returns-clause-extent
returns-clause-extent c =
    extent_is c.args.asker.now c.args.run c.args.cells.now c.in_ok-cut.field-0 c.args.from c.args.len c.at.result c.at-2.result c.step.result c.requires.step
    c.at.ensures.value c.at-2.ensures.value c.step.ensures.value c.in_ok-cut.ensures

pub returns-clause-lawful : goal.returns-clause-lawful
returns-clause-lawful c =
    subst IsLawful
    (sym (extent_is c.args.asker.now c.args.run c.args.cells.now c.in_ok-cut.field-0 c.args.from c.args.len c.at.result c.at-2.result c.step.result c.requires.step
    c.at.ensures.value c.at-2.ensures.value c.step.ensures.value c.in_ok-cut.ensures))
    (part_lawful c.args.asker.now c.args.run c.args.cells.now c.args.from c.args.len (search rules) c.requires.step c.requires.some c.requires.within c.requires.whole)
