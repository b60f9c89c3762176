use Rattle.pf_eval.proofs.GivenParts.{range_one}
use Rattle.pf_eval.proofs.given.asks_one.Goals as goal

pub returns : goal.returns
returns c = range_one _ _ _ c.requires.tree c.requires.evaluated
