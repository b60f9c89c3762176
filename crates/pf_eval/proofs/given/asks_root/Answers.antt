use Rattle.pf_eval.proofs.GivenParts.{root_given}
use Rattle.pf_eval.proofs.given.asks_root.Goals as goal

pub returns : goal.returns
returns c = root_given _ _ _ _ _ c.requires.height c.requires.bound c.requires.patterns c.requires.room
