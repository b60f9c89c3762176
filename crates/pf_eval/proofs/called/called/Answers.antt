use Rattle.std.proofs.Common.{ap, ◌∙◌, map}
use Rattle.pf_model.specs.Trees.{tree_of, trees_of}
use Rattle.pf_math.specs.Relabelling.{has_lawful_target}
use Rattle.pf_selectors.specs.Times.{time_at}
use Rattle.pf_eval.specs.Calls.{has_its_pattern}
use Rattle.pf_eval.specs.Nodes.{nodes_at}
use Rattle.pf_eval.proofs.CalledParts.{its_pattern, lawful_target}
use Rattle.pf_eval.proofs.called.called.Goals as goal

pub instant-requires-clause-target : goal.instant-requires-clause-target
instant-requires-clause-target c =
    ap (has_lawful_target c.args.f) c.requires.strings ∙ lawful_target c.args.f (trees_of (map tree_of c.args.args.now)) c.requires.lawful

pub instant-requires-clause-patterns : goal.instant-requires-clause-patterns
instant-requires-clause-patterns c =
    ap (λ texts. has_its_pattern c.args.f texts c.args.patterns.now) c.requires.strings
    ∙ its_pattern c.args.f (trees_of (map tree_of c.args.args.now)) c.args.patterns.now c.requires.lawful c.requires.patterns

pub returns-clause-value : goal.returns-clause-value
returns-clause-value c = λ samples k h.
    c.in_ok-node.ensures.value k h
    ∙ c.in_ok-absent.ensures samples (nodes_at c.args.nodes.items k) (time_at c.args.times.now k)
