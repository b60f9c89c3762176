use Rattle.std.proofs.Common.{refl, ap, ◌∙◌}
use Rattle.pf_model.specs.Legs.{of_shard}
use Rattle.pf_model.specs.Trees.{tree_of}
use Rattle.pf_model.proofs.TreeOf.{aggregate_tree, number_tree, subquery_tree, text_tree}
use Rattle.pf_selectors.specs.Times.{time_at}
use Rattle.pf_shard.specs.Bound.{shard_ids}
use Rattle.pf_eval.specs.Nodes.{node_at, nodes_at}
use Rattle.pf_eval.proofs.CalledParts.{called_meant}
use Rattle.pf_eval.proofs.PlainParts.{other_kind}
use Rattle.pf_eval.proofs.plain.+plain_node.Goals as goal

pub returns-in_ok-node-in-Instant-2-clause-node : goal.returns-in_ok-node-in-Instant-2-clause-node
returns-in_ok-node-in-Instant-2-clause-node v c = λ samples shard shards stands apart ids k h.
    let rows = of_shard shard shards samples in
    let t = time_at c.args.times.now k in
    let nodes = c.in_ok-nodes-in-Instant.nodes.items in
    let first = node_at c.in_ok-first-in-Instant.first k in
    called_meant rows _ _ _ t (node_at c.in_ok-node-in-Instant-2.node k) (nodes_at nodes k) c.asks_elements.ensures.tree (c.in_ok-node-in-Instant-2.ensures.value rows k h)
    (c.asks_behind.ensures.outcomes rows t first (nodes_at nodes k)
    (c.in_ok-first-in-Instant.ensures.node samples shard shards stands apart (ids ∙ ap (λ ms. shard_ids shard shards ms c.args.snap.now.labels) c.asks_behind.ensures.matchers) k h)
    (c.in_ok-nodes-in-Instant.ensures.nodes rows t k h))
    (c.in_default.ensures rows)

pub unreachable-requires : goal.unreachable-requires
unreachable-requires v c = other_kind _ _ (ap tree_of c.in-Number.is ∙ number_tree _) refl c.requires.plain.plain

pub unreachable-requires-in-Text : goal.unreachable-requires-in-Text
unreachable-requires-in-Text v c = other_kind _ _ (ap tree_of c.in-Text.is ∙ text_tree _) refl c.requires.plain.plain

pub unreachable-requires-in-Aggregate : goal.unreachable-requires-in-Aggregate
unreachable-requires-in-Aggregate v c = other_kind _ _ (ap tree_of c.in-Aggregate.is ∙ aggregate_tree _ _ _) refl c.requires.plain.plain

pub unreachable-requires-in-Subquery : goal.unreachable-requires-in-Subquery
unreachable-requires-in-Subquery v c = other_kind _ _ (ap tree_of c.in-Subquery.is ∙ subquery_tree _ _ _ _) refl c.requires.plain.plain
