use Rattle.std.proofs.Common.{ap}
use Rattle.pf_eval.specs.Plain.{plain_matchers}
use Rattle.pf_eval.proofs.PlainParts.{ranged_evaluated, ranged_room, ranged_selector, ranged_tree}
use Rattle.pf_eval.proofs.plain.asks_selector.Goals as goal

pub returns-clause-tree : goal.returns-clause-tree
returns-clause-tree c = ranged_tree _ c.args.f c.args.args.now _ c.requires.tree c.requires.plain c.args.arg.now c.requires.first

pub returns-clause-selector : goal.returns-clause-selector
returns-clause-selector c = ranged_selector _ c.args.f c.args.args.now _ c.requires.tree c.requires.plain c.args.arg.now c.requires.first

pub returns-clause-evaluated : goal.returns-clause-evaluated
returns-clause-evaluated c = ranged_evaluated _ c.args.f c.args.args.now _ c.requires.tree c.requires.plain c.args.arg.now c.requires.first

pub returns-clause-room : goal.returns-clause-room
returns-clause-room c = ranged_room _ c.args.f c.args.args.now _ c.requires.tree c.requires.plain

pub returns-clause-matchers : goal.returns-clause-matchers
returns-clause-matchers c = ap plain_matchers (ranged_tree _ c.args.f c.args.args.now _ c.requires.tree c.requires.plain c.args.arg.now c.requires.first)
