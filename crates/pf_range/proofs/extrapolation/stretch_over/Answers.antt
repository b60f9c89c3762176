use Rattle.std.proofs.Common.{arith}
use Rattle.std.proofs.lemmas.Grind.{common_steps}
use Rattle.pf_range.proofs.Stretches.{average_within, stretched_over}
use Rattle.pf_range.proofs.extrapolation.stretch_over.Goals as goal

pub gap-requires-clause-average : goal.gap-requires-clause-average
gap-requires-clause-average c = average_within c.args.from c.args.to c.args.first c.args.last c.args.count c.requires

pub gap-requires-2-clause-average : goal.gap-requires-2-clause-average
gap-requires-2-clause-average c = average_within c.args.from c.args.to c.args.first c.args.last c.args.count c.requires

pub returns-clause-value : goal.returns-clause-value
returns-clause-value c =
    stretched_over c.args.from c.args.to c.args.first c.args.last c.args.count c.requires c.gap.result c.gap-2.result c.gap.ensures.value c.gap.ensures.within c.gap-2.ensures.value c.gap-2.ensures.within

pub returns-clause-start : goal.returns-clause-start
returns-clause-start c = grind (arith, common_steps)

pub returns-clause-end : goal.returns-clause-end
returns-clause-end c = grind (arith, common_steps)
