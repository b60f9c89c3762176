use Rattle.pf_eval.proofs.GivenParts.{inner_distance, inner_evaluated, inner_near, inner_resolution, room_one}
use Rattle.pf_eval.proofs.given.asks_subquery.Goals as goal

pub returns-clause-evaluated : goal.returns-clause-evaluated
returns-clause-evaluated c = inner_evaluated _ _ _ _ _ c.requires.tree c.requires.evaluated

pub returns-clause-range : goal.returns-clause-range
returns-clause-range c = inner_distance _ _ _ _ _ c.requires.tree c.requires.evaluated

pub returns-clause-resolution : goal.returns-clause-resolution
returns-clause-resolution c = inner_resolution _ _ _ _ _ c.requires.tree c.requires.evaluated

pub returns-clause-near : goal.returns-clause-near
returns-clause-near c = inner_near _ _ _ _ _ c.requires.tree c.requires.evaluated

pub returns-clause-room : goal.returns-clause-room
returns-clause-room c = room_one _ _ c.requires.room
