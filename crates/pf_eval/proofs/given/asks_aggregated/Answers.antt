use Rattle.pf_eval.proofs.GivenParts.{aggregated_evaluated, aggregated_given}
use Rattle.pf_eval.proofs.given.asks_aggregated.Goals as goal

pub returns-clause-evaluated : goal.returns-clause-evaluated
returns-clause-evaluated c = aggregated_evaluated _ _ _ _ c.requires.tree c.requires.evaluated

pub returns-clause-given : goal.returns-clause-given
returns-clause-given c = aggregated_given _ _ _ _ _ _ _ _ c.requires.tree c.requires.given
