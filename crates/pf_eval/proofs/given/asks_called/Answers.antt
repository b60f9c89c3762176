use Rattle.pf_eval.proofs.GivenParts.{are_times, called_evaluated, called_given, called_lawful, called_there}
use Rattle.pf_eval.proofs.given.asks_called.Goals as goal

pub returns-clause-lawful : goal.returns-clause-lawful
returns-clause-lawful c = called_lawful _ _ _ c.requires.tree c.requires.evaluated

pub returns-clause-evaluated : goal.returns-clause-evaluated
returns-clause-evaluated c = called_evaluated _ _ _ c.requires.tree c.requires.evaluated

pub returns-clause-patterns : goal.returns-clause-patterns
returns-clause-patterns c = called_there _ _ _ _ _ _ _ c.requires.tree c.requires.given

pub returns-clause-given : goal.returns-clause-given
returns-clause-given c = called_given _ _ _ _ _ _ _ c.requires.tree c.requires.given

pub returns-clause-times : goal.returns-clause-times
returns-clause-times c = are_times _ _ c.requires.given.room
