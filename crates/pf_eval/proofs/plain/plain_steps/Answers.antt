use Rattle.std.proofs.Common.{◌<◌, subst, sym, ap, ◌∙◌}
use Rattle.pf_model.specs.Evaluation.{eval}
use Rattle.pf_model.specs.Legs.{of_shard}
use Rattle.pf_model.specs.Outcomes.{step_cell}
use Rattle.pf_model.specs.Trees.{tree_of}
use Rattle.pf_eval.proofs.PlainParts.{plain_at}
use Rattle.pf_eval.proofs.plain.plain_steps.Goals as goal

pub plain_node-requires-clause-plain : goal.plain_node-requires-clause-plain
plain_node-requires-clause-plain c = plain_at _ _ c.requires.plain c.requires.evaluated c.requires.low c.times_of-times.ensures.room

pub returns : goal.returns
returns c = λ samples shard shards stands apart ids k h.
    c.in_ok-steps.ensures k
    ∙ ap step_cell (c.in_ok-node.ensures.node samples shard shards stands apart ids k (subst (λ n. k < n) (sym c.times_of-times.ensures.len) h))
    ∙ ap (λ t. eval (of_shard shard shards samples) (tree_of c.args.query.now) t) (c.times_of-times.ensures.times k h)
