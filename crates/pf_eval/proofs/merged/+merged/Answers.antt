use Rattle.std.proofs.Common.{◌+◌, ◌++◌, drop, map, ap, ◌∙◌}
use Rattle.pf_model.specs.Trees.{tree_of, trees_of}
use Rattle.pf_selectors.specs.Times.{time_at}
use Rattle.pf_eval.specs.Nodes.{all_meant, node_at, nodes_at, texts_in}
use Rattle.pf_eval.specs.Strings.{strings_in}
use Rattle.pf_eval.specs.declared.node.Node.TheVariants as node
use Rattle.pf_eval.proofs.BoundNodes.{args_more, pushed_outcome, string_outcome}
use Rattle.pf_eval.proofs.CalledParts.{called_meant}
use Rattle.pf_eval.proofs.MergedParts.{behind_first, covered_called, first_merged, of_one, of_rest, rest_merged, same_of, text_behind}
use Rattle.pf_eval.proofs.NodeTexts.{query_pushed, string_pushed}
use Rattle.pf_eval.proofs.merged.+merged.Goals as goal

pub merged_nodes-needs_rest-requires : goal.merged_nodes-needs_rest-requires
merged_nodes-needs_rest-requires t c =
    first_merged c.args.shards c.loop-arg.parts.items c.args.patterns.now _ _ _ (args_more _ _ _ c.loop-arg-test.true c.arg-item.is) c.loop-arg.invariant.merged c.in_default.ensures

pub merged_node-needs_rest-requires : goal.merged_node-needs_rest-requires
merged_node-needs_rest-requires t c = c.needs_operands.ensures.right _ c.in_ok-left-in-Binary.ensures.left

pub merged_node-returns-in_ok-node-in-Binary-clause-left : goal.merged_node-returns-in_ok-node-in-Binary-clause-left
merged_node-returns-in_ok-node-in-Binary-clause-left t c =
    c.needs_operands.ensures.behind _ _ c.in_ok-left-in-Binary.ensures.left c.in_ok-right-in-Binary.ensures.left

pub merged_node-returns-in_ok-node-in-Call-Instant-default-clause-node : goal.merged_node-returns-in_ok-node-in-Call-Instant-default-clause-node
merged_node-returns-in_ok-node-in-Call-Instant-default-clause-node t c = λ samples o k h.
    called_meant samples _ _ _ (time_at c.args.times.now k) (node_at c.in_ok-node-in-Call-Instant-default.node k) (nodes_at c.in_ok-nodes-in-Call-Instant-default.nodes.items k)
    c.needs_called.ensures.tree (c.in_ok-node-in-Call-Instant-default.ensures.value samples k h)
    (c.in_ok-nodes-in-Call-Instant-default.ensures.nodes samples (same_of c.args.shards c.args.parts.now.items (tree_of c.args.query.now) (trees_of (map tree_of c.deref-args-in-Call-Instant-default.result.now)) c.needs_called.ensures.same samples c.args.times.now o) k h)
    (covered_called samples _ _ c.needs_called.ensures.merged.covered)

pub merged_nodes-loop-arg-preserved-in-Some : goal.merged_nodes-loop-arg-preserved-in-Some
merged_nodes-loop-arg-preserved-in-Some u c =
    let is = args_more _ _ _ c.loop-arg-test.true c.arg-item.is in
    let a = tree_of c.arg-item.result in
    let here = text_behind c.args.shards c.loop-arg.parts.items c.args.patterns.now a c.in-Some.string.now c.in-Some.ensures in
    let left = trees_of (map tree_of (drop (c.loop-arg.arg-index + 1) c.args.args.now)) in
    let n = node.Text c.in_ok-clone.field-0 in
    record {
      merged = rest_merged c.args.shards c.loop-arg.parts.items c.args.patterns.now _ _ _ is c.loop-arg.invariant.merged _ here;
      left = behind_first c.args.shards c.loop-arg.parts.items c.args.patterns.now _ _ _ is _ here ∙ c.loop-arg.invariant.left;
      strings = ap (λ ns. texts_in ns ++ strings_in left) c.in_ok-push.ensures.items
          ∙ string_pushed c.loop-arg.nodes.items _ left a is n c.in-Some.string.now (ap node.Text c.in_ok-clone.ensures) c.in-Some.ensures
          ∙ c.loop-arg.invariant.strings;
      of = λ samples o. of_rest c.args.shards c.loop-arg.parts.items c.args.patterns.now _ _ _ is samples c.args.times.now (c.loop-arg.invariant.of samples o) _ here;
      nodes = λ samples o k h.
          let t = time_at c.args.times.now k in
          ap (λ ns. map (λ m. node_at m k) ns ++ all_meant samples left t) c.in_ok-push.ensures.items
          ∙ pushed_outcome samples t (λ m. node_at m k) c.loop-arg.nodes.items n _ left _ is (string_outcome samples t a c.in-Some.string.now c.in_ok-clone.field-0 c.in-Some.ensures c.in_ok-clone.ensures)
          ∙ c.loop-arg.invariant.nodes samples o k h;
    }

pub merged_nodes-loop-arg-preserved : goal.merged_nodes-loop-arg-preserved
merged_nodes-loop-arg-preserved u c =
    let is = args_more _ _ _ c.loop-arg-test.true c.arg-item.is in
    let left = trees_of (map tree_of (drop (c.loop-arg.arg-index + 1) c.args.args.now)) in
    record {
      merged = rest_merged c.args.shards c.loop-arg.parts.items c.args.patterns.now _ _ _ is c.loop-arg.invariant.merged _ c.in_ok-node.ensures.left;
      left = behind_first c.args.shards c.loop-arg.parts.items c.args.patterns.now _ _ _ is _ c.in_ok-node.ensures.left ∙ c.loop-arg.invariant.left;
      strings = ap (λ ns. texts_in ns ++ strings_in left) c.in_ok-push-2.ensures.items
          ∙ query_pushed c.loop-arg.nodes.items _ left _ is c.in_ok-node.node c.in_ok-node.ensures.kind c.in_default.ensures
          ∙ c.loop-arg.invariant.strings;
      of = λ samples o. of_rest c.args.shards c.loop-arg.parts.items c.args.patterns.now _ _ _ is samples c.args.times.now (c.loop-arg.invariant.of samples o) _ c.in_ok-node.ensures.left;
      nodes = λ samples o k h.
          let t = time_at c.args.times.now k in
          ap (λ ns. map (λ m. node_at m k) ns ++ all_meant samples left t) c.in_ok-push-2.ensures.items
          ∙ pushed_outcome samples t (λ m. node_at m k) c.loop-arg.nodes.items c.in_ok-node.node _ left _ is
          (c.in_ok-node.ensures.node samples (of_one c.args.shards c.loop-arg.parts.items c.args.patterns.now _ _ _ is samples c.args.times.now (c.loop-arg.invariant.of samples o)) k h)
          ∙ c.loop-arg.invariant.nodes samples o k h;
    }
