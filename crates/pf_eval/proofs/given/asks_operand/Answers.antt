use Rattle.pf_eval.proofs.GivenParts.{operand_given}
use Rattle.pf_eval.proofs.given.asks_operand.Goals as goal

pub returns : goal.returns
returns c = operand_given _ _ _ _ _ _ _ c.requires.tree c.requires.given
