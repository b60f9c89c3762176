use Rattle.pf_eval.proofs.PlainParts.{operator_named, right_matchers, right_plain}
use Rattle.pf_eval.proofs.plain.asks_plain_right.Goals as goal

pub returns-clause-plain : goal.returns-clause-plain
returns-clause-plain c = right_plain _ _ _ _ _ _ c.requires.tree c.requires.plain c.requires.literal

pub returns-clause-named : goal.returns-clause-named
returns-clause-named c = operator_named _ _ _ _ _ _ c.requires.tree c.requires.plain

pub returns-clause-matchers : goal.returns-clause-matchers
returns-clause-matchers c = right_matchers _ _ _ _ _ c.requires.tree c.requires.literal
