use Rattle.std.proofs.Common.{arith}
use Rattle.std.proofs.lemmas.Grind.{common_steps}
use Rattle.pf_query.proofs.work.Work.hand_out.Goals as goal

pub returns-clause-legs : goal.returns-clause-legs
returns-clause-legs c = grind (arith, common_steps)

pub returns-clause-runs : goal.returns-clause-runs
returns-clause-runs c = grind (arith, common_steps)

pub returns-clause-parts : goal.returns-clause-parts
returns-clause-parts c = grind (arith, common_steps)

pub returns-clause-cached : goal.returns-clause-cached
returns-clause-cached c = grind (arith, common_steps)

pub returns-clause-after : goal.returns-clause-after
returns-clause-after c = grind (arith, common_steps)
