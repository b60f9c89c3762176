use Rattle.std.proofs.Common.{ap, sym, ◌∙◌, Some, arith}
use Rattle.pf_model.specs.declared.expr.Expr.{Expr}
use Rattle.pf_model.specs.Evaluation.{resolution_or_minute}
use Rattle.pf_model.specs.Resolving.{resolved}
use Rattle.pf_model.specs.Trees.{Tree, aggregate, binary, call, subquery, tree_of, unary}
use Rattle.pf_model.proofs.TreeOf.{aggregate_tree, binary_tree, call_tree, subquery_tree, unary_tree}
use Rattle.pf_resolve.proofs.Resolved.{all_done}
use Rattle.pf_resolve.proofs.resolution.+put_in.Goals as goal

pub returns-in-Unary : goal.returns-in-Unary
returns-in-Unary t c =
    let put : Expr → Tree = λ x. resolved c.args.start c.args.end (tree_of x) in
    unary_tree c.in-Unary.minus _
    ∙ ap (unary c.in-Unary.minus) (c.put_in.ensures ∙ ap put (c.replace-inner.ensures.value ∙ c.deref_mut.ensures.value))
    ∙ sym (ap put c.in-Unary.is ∙ ap (resolved c.args.start c.args.end) (unary_tree c.in-Unary.minus c.in-Unary.arg))

pub returns-in-Binary : goal.returns-in-Binary
returns-in-Binary t c =
    let put : Expr → Tree = λ x. resolved c.args.start c.args.end (tree_of x) in
    let op = c.in-Binary.op in
    let m = c.in-Binary.matching in
    binary_tree op m _ _
    ∙ ap (λ x. binary op m x (tree_of c.put_in-in-Binary-2.result))
    (c.put_in-in-Binary.ensures ∙ ap put (c.replace-first.ensures.value ∙ c.deref_mut-in-Binary.ensures.value))
    ∙ ap (binary op m (put c.in-Binary.left.value))
    (c.put_in-in-Binary-2.ensures ∙ ap put (c.replace-second.ensures.value ∙ c.deref_mut-in-Binary-3.ensures.value))
    ∙ sym (ap put c.in-Binary.is ∙ ap (resolved c.args.start c.args.end) (binary_tree op m c.in-Binary.left c.in-Binary.right))

pub returns-after-loop-i : goal.returns-after-loop-i
returns-after-loop-i t c =
    call_tree c.in-Call.function c.loop-i.args
    ∙ ap (call c.in-Call.function) (all_done c.args.start c.args.end c.loop-i.i c.loop-i.args.items c.in-Call.args.items c.loop-i.invariant.done
    (omega (arith, c.loop-i.invariant.unvisited.0, c.len-i-end.ensures, c.loop-i-test.false)) (omega (arith, c.len-i-end.ensures, c.loop-i-test.false)))
    ∙ sym (ap (λ x. resolved c.args.start c.args.end (tree_of x)) c.in-Call.is
    ∙ ap (resolved c.args.start c.args.end) (call_tree c.in-Call.function c.in-Call.args))

pub returns-after-loop-k : goal.returns-after-loop-k
returns-after-loop-k t c =
    aggregate_tree c.in-Aggregate.op c.in-Aggregate.grouping c.loop-k.args
    ∙ ap (aggregate c.in-Aggregate.op c.in-Aggregate.grouping)
    (all_done c.args.start c.args.end c.loop-k.k c.loop-k.args.items c.in-Aggregate.args.items c.loop-k.invariant.done
    (omega (arith, c.loop-k.invariant.unvisited.0, c.len-k-end.ensures, c.loop-k-test.false)) (omega (arith, c.len-k-end.ensures, c.loop-k-test.false)))
    ∙ sym (ap (λ x. resolved c.args.start c.args.end (tree_of x)) c.in-Aggregate.is
    ∙ ap (resolved c.args.start c.args.end) (aggregate_tree c.in-Aggregate.op c.in-Aggregate.grouping c.in-Aggregate.args))

pub returns-in-Subquery : goal.returns-in-Subquery
returns-in-Subquery t c =
    let put : Expr → Tree = λ x. resolved c.args.start c.args.end (tree_of x) in
    subquery_tree _ c.in-Subquery.range (Some c.unwrap_or.result) c.resolved_mods-in-Subquery.result
    ∙ ap (λ x. subquery x c.in-Subquery.range (Some c.unwrap_or.result) c.resolved_mods-in-Subquery.result)
    (c.put_in-in-Subquery.ensures ∙ ap put (c.replace-inner-in-Subquery.ensures.value ∙ c.deref_mut-in-Subquery.ensures.value))
    ∙ ap (λ r. subquery (put c.in-Subquery.arg.value) c.in-Subquery.range (Some r) c.resolved_mods-in-Subquery.result) c.unwrap_or.ensures
    ∙ ap (subquery (put c.in-Subquery.arg.value) c.in-Subquery.range (Some (resolution_or_minute c.in-Subquery.resolution))) c.resolved_mods-in-Subquery.ensures
    ∙ sym (ap put c.in-Subquery.is
    ∙ ap (resolved c.args.start c.args.end) (subquery_tree c.in-Subquery.arg c.in-Subquery.range c.in-Subquery.resolution c.in-Subquery.mods))
