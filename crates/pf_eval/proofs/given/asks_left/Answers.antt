use Rattle.pf_eval.proofs.BoundNodes.{left_evaluated}
use Rattle.pf_eval.proofs.GivenParts.{left_given}
use Rattle.pf_eval.proofs.given.asks_left.Goals as goal

pub returns-clause-evaluated : goal.returns-clause-evaluated
returns-clause-evaluated c = left_evaluated _ _ _ _ _ c.requires.tree c.requires.evaluated

pub returns-clause-given : goal.returns-clause-given
returns-clause-given c = left_given _ _ _ _ _ _ _ _ _ c.requires.tree c.requires.given
