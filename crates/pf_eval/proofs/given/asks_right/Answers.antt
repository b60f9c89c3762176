use Rattle.pf_eval.proofs.BoundNodes.{behind_operands, right_evaluated}
use Rattle.pf_eval.proofs.GivenParts.{right_given}
use Rattle.pf_eval.proofs.given.asks_right.Goals as goal

pub returns-clause-evaluated : goal.returns-clause-evaluated
returns-clause-evaluated c = right_evaluated _ _ _ _ _ c.requires.tree c.requires.evaluated

pub returns-clause-given : goal.returns-clause-given
returns-clause-given c = right_given _ _ _ _ _ _ _ _ _ _ c.requires.tree c.requires.rest c.requires.given

pub returns-clause-behind : goal.returns-clause-behind
returns-clause-behind c = λ last l. behind_operands _ _ _ _ _ _ _ _ last c.requires.tree c.requires.rest l
