use Rattle.std.proofs.Common.{◌∙◌, refl, sym, arith}
use Rattle.std.proofs.lemmas.Grind.{common_steps}
use Rattle.pf_model.specs.Sharding.{is_plain}
use Rattle.pf_resolve.proofs.Variants.{number_is, text_is, unary_is, call_is, aggregate_is, subquery_is}
use Rattle.pf_resolve.proofs.sharding.+plain.Goals as goal

pub is_plain-returns-in-Number : goal.is_plain-returns-in-Number
is_plain-returns-in-Number t c = sym (number_is is_plain c.args.expr.now c.in-Number.value c.in-Number.is)

pub is_plain-returns-in-Text : goal.is_plain-returns-in-Text
is_plain-returns-in-Text t c = sym (text_is is_plain c.args.expr.now c.in-Text.text c.in-Text.is)

pub is_plain-returns-in-Unary : goal.is_plain-returns-in-Unary
is_plain-returns-in-Unary t c =
    c.is_plain.ensures ∙ sym (unary_is is_plain c.args.expr.now c.deref.result.now c.in-Unary.minus c.in-Unary.arg c.in-Unary.is c.deref.ensures)

pub is_plain-returns-in-Call : goal.is_plain-returns-in-Call
is_plain-returns-in-Call t c =
    c.is_plain_call.ensures ∙ sym (call_is is_plain c.args.expr.now c.deref-in-Call.result.now c.in-Call.function c.in-Call.args c.in-Call.is c.deref-in-Call.ensures.value)

pub is_plain-returns-in-Aggregate : goal.is_plain-returns-in-Aggregate
is_plain-returns-in-Aggregate t c =
    sym (aggregate_is is_plain c.args.expr.now c.in-Aggregate.args.items c.in-Aggregate.op c.in-Aggregate.grouping c.in-Aggregate.args c.in-Aggregate.is refl)

pub is_plain-returns-in-Subquery : goal.is_plain-returns-in-Subquery
is_plain-returns-in-Subquery t c =
    sym (subquery_is is_plain c.args.expr.now c.in-Subquery.arg.value c.in-Subquery.arg c.in-Subquery.range c.in-Subquery.resolution c.in-Subquery.mods c.in-Subquery.is refl)

pub is_plain_call-returns-then-is_plain : goal.is_plain_call-returns-then-is_plain
is_plain_call-returns-then-is_plain t c = grind (arith, common_steps)

pub is_plain_call-returns-then-is_over_series : goal.is_plain_call-returns-then-is_over_series
is_plain_call-returns-then-is_over_series t c = grind (arith, common_steps)

pub is_plain_call-returns-else-is_over_series : goal.is_plain_call-returns-else-is_over_series
is_plain_call-returns-else-is_over_series t c = grind (arith, common_steps)

pub is_plain_call-returns-else-is_plain : goal.is_plain_call-returns-else-is_plain
is_plain_call-returns-else-is_plain t c = grind (arith, common_steps)

pub is_plain_call-slice_bounds-are_literals-end : goal.is_plain_call-slice_bounds-are_literals-end
is_plain_call-slice_bounds-are_literals-end t c = grind (arith, common_steps)

pub is_plain_call-bounds-args-0 : goal.is_plain_call-bounds-args-0
is_plain_call-bounds-args-0 t c = grind (arith, common_steps)

pub is_plain_call-slice_bounds-are_literals-count : goal.is_plain_call-slice_bounds-are_literals-count
is_plain_call-slice_bounds-are_literals-count t c = grind (arith, common_steps)

pub is_plain_call-slice_bounds-are_literals-start : goal.is_plain_call-slice_bounds-are_literals-start
is_plain_call-slice_bounds-are_literals-start t c = grind (arith, common_steps)
