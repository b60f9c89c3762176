use Rattle.std.proofs.Common.{arith}
use Rattle.std.proofs.lemmas.Grind.{common_steps}
use Rattle.pf_columns.proofs.values.span.Goals as goal

pub returns-clause-span : goal.returns-clause-span
returns-clause-span c = grind (arith, common_steps)

pub returns-clause-bound : goal.returns-clause-bound
returns-clause-bound c = grind (arith, common_steps)

pub returns-clause-low : goal.returns-clause-low
returns-clause-low c = grind (arith, common_steps)

pub returns-clause-high : goal.returns-clause-high
returns-clause-high c = grind (arith, common_steps)
