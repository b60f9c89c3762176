use Rattle.std.proofs.Common.{ap, ◌∙◌}
use Rattle.pf_model.specs.declared.expr.Function.TheVariants as called
use Rattle.pf_model.specs.Trees as tree
use Rattle.pf_eval.proofs.GivenParts.{behind_range, range_evaluated, range_given}
use Rattle.pf_eval.proofs.OneArgument.{one_tree}
use Rattle.pf_eval.proofs.given.asks_range.Goals as goal

pub returns-clause-tree : goal.returns-clause-tree
returns-clause-tree c =
    c.requires.tree ∙ ap (tree.call (called.Range c.args.f)) (one_tree c.args.args.now c.args.arg.now c.requires.one c.requires.first)

pub returns-clause-evaluated : goal.returns-clause-evaluated
returns-clause-evaluated c =
    range_evaluated _ _ _
    (c.requires.tree ∙ ap (tree.call (called.Range c.args.f)) (one_tree c.args.args.now c.args.arg.now c.requires.one c.requires.first))
    c.requires.evaluated

pub returns-clause-given : goal.returns-clause-given
returns-clause-given c =
    range_given _ _ _ _ _ _ _
    (c.requires.tree ∙ ap (tree.call (called.Range c.args.f)) (one_tree c.args.args.now c.args.arg.now c.requires.one c.requires.first))
    c.requires.given

pub returns-clause-behind : goal.returns-clause-behind
returns-clause-behind c = λ last l.
    behind_range _ _ _ _ _ last
    (c.requires.tree ∙ ap (tree.call (called.Range c.args.f)) (one_tree c.args.args.now c.args.arg.now c.requires.one c.requires.first))
    l
