use Rattle.std.proofs.Common.{arith}
use Rattle.std.proofs.lemmas.Grind.{common_steps}
use Rattle.pf_eval.proofs.legs.bind.Goals as goal

pub returns-clause-query : goal.returns-clause-query
returns-clause-query c = grind (arith, common_steps)

pub returns-clause-series : goal.returns-clause-series
returns-clause-series c = grind (arith, common_steps)

pub returns-clause-patterns : goal.returns-clause-patterns
returns-clause-patterns c = grind (arith, common_steps)

pub returns-clause-bound : goal.returns-clause-bound
returns-clause-bound c = grind (arith, common_steps)
