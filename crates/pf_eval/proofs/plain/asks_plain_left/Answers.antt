use Rattle.pf_eval.proofs.PlainParts.{left_matchers, left_plain, operator_named, right_literal}
use Rattle.pf_eval.proofs.plain.asks_plain_left.Goals as goal

pub returns-clause-plain : goal.returns-clause-plain
returns-clause-plain c = left_plain _ _ _ _ _ _ c.requires.tree c.requires.plain c.requires.literal

pub returns-clause-literal : goal.returns-clause-literal
returns-clause-literal c = right_literal _ _ _ _ _ _ c.requires.tree c.requires.plain c.requires.literal

pub returns-clause-named : goal.returns-clause-named
returns-clause-named c = operator_named _ _ _ _ _ _ c.requires.tree c.requires.plain

pub returns-clause-matchers : goal.returns-clause-matchers
returns-clause-matchers c = left_matchers _ _ _ _ _ c.requires.tree c.requires.literal
