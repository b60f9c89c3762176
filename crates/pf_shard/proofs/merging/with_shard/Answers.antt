use Rattle.std.proofs.Common.{arith}
use Rattle.std.proofs.lemmas.Grind.{common_steps}
use Rattle.pf_shard.proofs.merging.with_shard.Goals as goal

pub returns-clause-columns : goal.returns-clause-columns
returns-clause-columns c = grind (arith, common_steps)

pub returns-clause-bads : goal.returns-clause-bads
returns-clause-bads c = grind (arith, common_steps)

pub returns-clause-part : goal.returns-clause-part
returns-clause-part c = grind (arith, common_steps)

pub returns-clause-within : goal.returns-clause-within
returns-clause-within c = grind (arith, common_steps)
