use Rattle.std.proofs.Common.{◌∷◌, map, ap, ◌∙◌}
use Rattle.pf_model.specs.Sharding.{are_literals}
use Rattle.pf_model.specs.Trees.{tree_of, trees_of}
use Rattle.pf_eval.specs.Nodes.{all_meant}
use Rattle.pf_eval.proofs.PlainParts.{call_first, call_literals, call_matchers, call_outcomes, call_patterns, call_strings}
use Rattle.pf_eval.proofs.plain.asks_behind.Goals as goal

pub returns-clause-plain : goal.returns-clause-plain
returns-clause-plain c = call_first _ c.args.f c.args.args.now _ c.requires.tree c.requires.plain c.args.arg.now c.requires.first

pub returns-clause-literals : goal.returns-clause-literals
returns-clause-literals c =
    ap (λ es. are_literals (trees_of (map tree_of es))) c.requires.rest
    ∙ call_literals _ c.args.f c.args.args.now _ c.requires.tree c.requires.plain c.args.arg.now c.requires.first

pub returns-clause-strings : goal.returns-clause-strings
returns-clause-strings c = call_strings _ c.args.f c.args.args.now _ c.requires.tree c.requires.plain c.args.arg.now c.requires.first

pub returns-clause-patterns : goal.returns-clause-patterns
returns-clause-patterns c = call_patterns _ c.args.f c.args.args.now _ c.requires.tree c.requires.plain c.args.arg.now c.requires.first

pub returns-clause-matchers : goal.returns-clause-matchers
returns-clause-matchers c = call_matchers _ c.args.f c.args.args.now _ c.requires.tree c.requires.plain c.args.arg.now c.requires.first

pub returns-clause-outcomes : goal.returns-clause-outcomes
returns-clause-outcomes c = λ samples t o os e1 e2.
    call_outcomes _ c.args.f c.args.args.now _ c.requires.tree c.requires.plain c.args.arg.now c.requires.first samples t o os e1
    (e2 ∙ ap (λ es. o ∷ all_meant samples (trees_of (map tree_of es)) t) c.requires.rest)
