use Rattle.pf_eval.proofs.GivenParts.{behind_inner, inner_given}
use Rattle.pf_eval.proofs.given.asks_inner.Goals as goal

pub returns-clause-given : goal.returns-clause-given
returns-clause-given c = inner_given _ _ _ _ _ _ _ _ _ _ c.requires.tree c.requires.room c.requires.given

pub returns-clause-behind : goal.returns-clause-behind
returns-clause-behind c = λ last l. behind_inner _ _ _ _ _ _ _ last c.requires.tree l
