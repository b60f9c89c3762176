use Rattle.std.proofs.Common.{◌∙◌, ◌+◌, ◌++◌, sym, ap, codes, map, take}
use Rattle.std.specs.List.{slice_index_or}
use Rattle.pf_model.specs.Lists.{separated}
use Rattle.pf_model.specs.Canonical.{in_brackets}
use Rattle.pf_print.specs.Printed.{aggregate_text, call_text, comma_before, expr_text, right_text, select_text, subquery_text, unary_text}
use Rattle.pf_print.proofs.ExprTexts.{unary_is, binary_is, call_is, aggregate_is, select_is, subquery_is}
use Rattle.pf_print.proofs.Pushes.{pushed, pushed_as, on_ok}
use Rattle.pf_print.proofs.Separated.{args_next}
use Rattle.pf_print.proofs.printer.+push_query.Goals as goal

pub push_args-loop-number-preserved : goal.push_args-loop-number-preserved
push_args-loop-number-preserved t c =
    let o = c.push.new.self in
    let xs = c.args.args.now in
    let i = c.loop-number.number in
    let x = c.index-args-number.result in
    let y = expr_text (slice_index_or xs i x) in
    let before = separated (codes ", ") (map expr_text (take i xs)) in
    pushed_as o _ (before ++ (comma_before i ++ y)) (separated (codes ", ") (map expr_text (take (i + 1) xs)))
    (pushed o c.loop-number.out _ before (comma_before i ++ y) c.loop-number.invariant
    (pushed c.loop-number.out c.push_comma.new.out _ (comma_before i) y c.in_ok-push_comma.ensures
    (pushed_as c.push_comma.new.out _ (expr_text x) y c.in_ok-push_expr.ensures (ap expr_text c.index-args-number.is))))
    (sym (args_next expr_text xs i x c.loop-number-test.true))

pub push_expr-returns-in-Unary : goal.push_expr-returns-in-Unary
push_expr-returns-in-Unary t c =
    on_ok c.push_unary.result
    (λ h. pushed_as c.args.out.now _ (unary_text c.in-Unary.minus c.deref.result.now) (expr_text c.args.expr.now) h
    (ap (unary_text c.in-Unary.minus) c.deref.ensures ∙ unary_is c.in-Unary.minus c.in-Unary.arg ∙ ap expr_text (sym c.in-Unary.is)))
    c.push_unary.ensures

pub push_expr-returns-in_ok-push_bracketed-in-Binary : goal.push_expr-returns-in_ok-push_bracketed-in-Binary
push_expr-returns-in_ok-push_bracketed-in-Binary t c =
    let o = c.args.out.now in
    let op = c.in-Binary.op in
    let m = c.in-Binary.matching in
    let l = in_brackets (expr_text c.in-Binary.left.value) in
    let r = right_text op m c.in-Binary.right.value in
    on_ok c.push_right.result
    (λ h. pushed_as o _ (l ++ r) (expr_text c.args.expr.now)
    (pushed o c.push_bracketed.new.out _ l r
    (pushed_as o _ (in_brackets (expr_text c.deref-in-Binary.result.now)) l c.in_ok-push_bracketed-in-Binary.ensures
    (ap (λ x. in_brackets (expr_text x)) c.deref-in-Binary.ensures))
    (pushed_as c.push_bracketed.new.out _ (right_text op m c.deref-in-Binary-2.result.now) r h
    (ap (right_text op m) c.deref-in-Binary-2.ensures)))
    (binary_is op m c.in-Binary.left c.in-Binary.right ∙ ap expr_text (sym c.in-Binary.is)))
    c.push_right.ensures

pub push_expr-returns-in-Call : goal.push_expr-returns-in-Call
push_expr-returns-in-Call t c =
    on_ok c.push_call.result
    (λ h. pushed_as c.args.out.now _ (call_text c.in-Call.function c.deref-in-Call.result.now) (expr_text c.args.expr.now) h
    (ap (call_text c.in-Call.function) c.deref-in-Call.ensures.value ∙ call_is c.in-Call.function c.in-Call.args ∙ ap expr_text (sym c.in-Call.is)))
    c.push_call.ensures

pub push_expr-returns-in-Aggregate : goal.push_expr-returns-in-Aggregate
push_expr-returns-in-Aggregate t c =
    on_ok c.push_aggregate.result
    (λ h. pushed_as c.args.out.now _ (aggregate_text c.in-Aggregate.op c.in-Aggregate.grouping c.deref-in-Aggregate.result.now) (expr_text c.args.expr.now) h
    (ap (aggregate_text c.in-Aggregate.op c.in-Aggregate.grouping) c.deref-in-Aggregate.ensures.value
    ∙ aggregate_is c.in-Aggregate.op c.in-Aggregate.grouping c.in-Aggregate.args ∙ ap expr_text (sym c.in-Aggregate.is)))
    c.push_aggregate.ensures

pub push_expr-returns-in-Select : goal.push_expr-returns-in-Select
push_expr-returns-in-Select t c =
    on_ok c.push_select.result
    (λ h. pushed_as c.args.out.now _ (select_text c.deref-in-Select.result.now c.in-Select.range c.in-Select.mods) (expr_text c.args.expr.now) h
    (ap (λ ms. select_text ms c.in-Select.range c.in-Select.mods) (c.deref-in-Select.ensures.value ∙ c.selector.view_is)
    ∙ select_is c.in-Select.selector c.in-Select.range c.in-Select.mods ∙ ap expr_text (sym c.in-Select.is)))
    c.push_select.ensures

pub push_expr-returns-in-Subquery : goal.push_expr-returns-in-Subquery
push_expr-returns-in-Subquery t c =
    on_ok c.push_subquery.result
    (λ h. pushed_as c.args.out.now _ (subquery_text c.deref-in-Subquery.result.now c.in-Subquery.range c.in-Subquery.resolution c.in-Subquery.mods) (expr_text c.args.expr.now) h
    (ap (λ e. subquery_text e c.in-Subquery.range c.in-Subquery.resolution c.in-Subquery.mods) c.deref-in-Subquery.ensures
    ∙ subquery_is c.in-Subquery.arg c.in-Subquery.range c.in-Subquery.resolution c.in-Subquery.mods ∙ ap expr_text (sym c.in-Subquery.is)))
    c.push_subquery.ensures
