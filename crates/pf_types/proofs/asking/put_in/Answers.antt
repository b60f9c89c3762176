use Rattle.std.proofs.Common.{rules}
use Rattle.pf_types.proofs.OverGrids.{stays_evaluated}
use Rattle.pf_types.proofs.asking.put_in.Goals as goal

pub returns-clause-evaluated : goal.returns-clause-evaluated
returns-clause-evaluated c = stays_evaluated _ _ _ _ c.resolve.ensures.tree (search rules) (search rules)
