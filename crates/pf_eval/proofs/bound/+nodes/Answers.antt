use Rattle.std.proofs.Common.{◌<◌, ◌+◌, ◌++◌, drop, map, sym, ap, ◌∙◌, subst}
use Rattle.pf_model.specs.Trees.{tree_of, trees_of}
use Rattle.pf_selectors.specs.Times.{time_at}
use Rattle.pf_eval.specs.Nodes.{all_meant, meant, node_at, nodes_at, texts_in}
use Rattle.pf_eval.specs.Strings.{strings_in}
use Rattle.pf_eval.specs.declared.node.Node.TheVariants as node
use Rattle.pf_eval.proofs.BoundNodes.{args_more, behind_first, pushed_outcome, string_behind, string_outcome}
use Rattle.pf_eval.proofs.CalledParts.{called_meant}
use Rattle.pf_eval.proofs.GivenParts.{arguments_evaluated, first_given, rest_given}
use Rattle.pf_eval.proofs.Moments.{subquery_meant}
use Rattle.pf_eval.proofs.NodeTexts.{query_pushed, string_pushed}
use Rattle.pf_eval.proofs.bound.+nodes.Goals as goal

pub node_of-returns-in_ok-node-in-Binary-clause-rest : goal.node_of-returns-in_ok-node-in-Binary-clause-rest
node_of-returns-in_ok-node-in-Binary-clause-rest t c =
    c.asks_right.ensures.behind _ c.in_ok-right-in-Binary.ensures.rest

pub node_of-returns-in_ok-node-in-Call-Instant-default-clause-node : goal.node_of-returns-in_ok-node-in-Call-Instant-default-clause-node
node_of-returns-in_ok-node-in-Call-Instant-default-clause-node t c = λ samples stands apart k h.
    called_meant samples _ _ _ (time_at c.args.times.now k) (node_at c.in_ok-node-in-Call-Instant-default.node k) (nodes_at c.in_ok-found-in-Call-Instant-default-2.found.nodes.items k)
    c.asks_called.ensures.tree (c.in_ok-node-in-Call-Instant-default.ensures.value samples k h) (c.in_ok-found-in-Call-Instant-default-2.ensures.nodes samples stands apart k h)
    (c.in_default-timed_selector.ensures samples)

pub nodes_of-asks_argument-requires-clause-given : goal.nodes_of-asks_argument-requires-clause-given
nodes_of-asks_argument-requires-clause-given t c =
    first_given _ _ _ _ _ _ _ (args_more _ _ _ c.loop-arg-test.true c.arg-item.is) c.loop-arg.invariant.given

pub nodes_of-loop-arg-preserved-in-Some : goal.nodes_of-loop-arg-preserved-in-Some
nodes_of-loop-arg-preserved-in-Some u c =
    let is = args_more _ _ _ c.loop-arg-test.true c.arg-item.is in
    let ls = c.args.snap.now.labels in
    let lists = map (λ v. v.items) c.loop-arg.rest.now in
    let a = tree_of c.arg-item.result in
    let here = string_behind ls lists a c.in-Some.string.now c.in-Some.ensures in
    let left = trees_of (map tree_of (drop (c.loop-arg.arg-index + 1) c.args.args.now)) in
    let n = node.Text c.in_ok-clone.field-0 in
    record {
      evaluated = arguments_evaluated _ _ _ is c.loop-arg.invariant.evaluated;
      given = rest_given _ _ _ _ _ _ _ is c.loop-arg.invariant.given _ here;
      rest = behind_first ls lists _ _ _ is _ here ∙ c.loop-arg.invariant.rest;
      strings = ap (λ ns. texts_in ns ++ strings_in left) c.in_ok-push.ensures.items
          ∙ string_pushed c.loop-arg.nodes.items _ left a is n c.in-Some.string.now (ap node.Text c.in_ok-clone.ensures) c.in-Some.ensures
          ∙ c.loop-arg.invariant.strings;
      nodes = λ samples stands apart k h.
          let t = time_at c.args.times.now k in
          ap (λ ns. map (λ m. node_at m k) ns ++ all_meant samples left t) c.in_ok-push.ensures.items
          ∙ pushed_outcome samples t (λ m. node_at m k) c.loop-arg.nodes.items n _ left _ is (string_outcome samples t a c.in-Some.string.now c.in_ok-clone.field-0 c.in-Some.ensures c.in_ok-clone.ensures)
          ∙ c.loop-arg.invariant.nodes samples stands apart k h;
    }

pub nodes_of-loop-arg-preserved : goal.nodes_of-loop-arg-preserved
nodes_of-loop-arg-preserved u c =
    let is = args_more _ _ _ c.loop-arg-test.true c.arg-item.is in
    let ls = c.args.snap.now.labels in
    let lists = map (λ v. v.items) c.loop-arg.rest.now in
    let left = trees_of (map tree_of (drop (c.loop-arg.arg-index + 1) c.args.args.now)) in
    record {
      evaluated = arguments_evaluated _ _ _ is c.loop-arg.invariant.evaluated;
      given = rest_given _ _ _ _ _ _ _ is c.loop-arg.invariant.given _ c.in_ok-found.ensures.rest;
      rest = behind_first ls lists _ _ _ is _ c.in_ok-found.ensures.rest ∙ c.loop-arg.invariant.rest;
      strings = ap (λ ns. texts_in ns ++ strings_in left) c.in_ok-push-2.ensures.items
          ∙ query_pushed c.loop-arg.nodes.items _ left _ is c.in_ok-found.found.node c.in_ok-found.ensures.kind c.in_default.ensures
          ∙ c.loop-arg.invariant.strings;
      nodes = λ samples stands apart k h.
          let t = time_at c.args.times.now k in
          ap (λ ns. map (λ m. node_at m k) ns ++ all_meant samples left t) c.in_ok-push-2.ensures.items
          ∙ pushed_outcome samples t (λ m. node_at m k) c.loop-arg.nodes.items c.in_ok-found.found.node _ left _ is (c.in_ok-found.ensures.node samples stands apart k h)
          ∙ c.loop-arg.invariant.nodes samples stands apart k h;
    }

pub range_of-returns-in_ok-node-in-Subquery-clause-node : goal.range_of-returns-in_ok-node-in-Subquery-clause-node
range_of-returns-in_ok-node-in-Subquery-clause-node t c = λ samples stands apart k h.
    let inner = tree_of c.deref-inner.result.now in
    subquery_meant samples c.args.f _ inner c.in-Subquery.range _ _ _ (time_at c.args.times.now k) _ _
    c.asks_subquery.ensures.tree c.resolution_or_minute-every.ensures (c.in_ok-run-in-Subquery.ensures.times k h)
    (c.in_ok-node-in-Subquery.ensures.value (λ u. meant samples inner u) (λ j l. c.in_ok-found-in-Subquery.ensures.node samples stands apart j l) k
    (subst (λ n. k < n) (sym c.in_ok-run-in-Subquery.ensures.len) h))
