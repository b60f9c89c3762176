use Rattle.std.proofs.Common.{refl}
use Rattle.pf_types.proofs.CountedNodes.{added_both, added_none, added_one, aggregate_counted, binary_counted, call_counted, more_counted, none_counted, number_counted, on_ok_map, select_counted, step_added, subquery_counted, text_counted, unary_counted, whole_added}
use Rattle.pf_types.proofs.bound.+counted.Goals as goal

pub push_counted-returns-in-Number : goal.push_counted-returns-in-Number
push_counted-returns-in-Number t c = added_none _ _ _ refl (number_counted _ _ c.in-Number.is)

pub push_counted-returns-in-Text : goal.push_counted-returns-in-Text
push_counted-returns-in-Text t c = added_none _ _ _ refl (text_counted _ _ c.in-Text.is)

pub push_counted-returns-in-Unary : goal.push_counted-returns-in-Unary
push_counted-returns-in-Unary t c =
    on_ok_map c.push_counted.result _ _ (λ h. added_one _ _ _ _ h (unary_counted _ _ _ _ c.in-Unary.is c.deref.ensures)) c.push_counted.ensures

pub push_counted-returns-in_ok-push_counted-in-Binary : goal.push_counted-returns-in_ok-push_counted-in-Binary
push_counted-returns-in_ok-push_counted-in-Binary t c =
    on_ok_map c.push_counted-in-Binary-2.result _ _
    (λ k. added_both _ _ _ _ _ _ c.in_ok-push_counted-in-Binary.ensures k (binary_counted _ _ _ _ _ _ _ c.in-Binary.is c.deref-in-Binary.ensures c.deref-in-Binary-2.ensures))
    c.push_counted-in-Binary-2.ensures

pub push_counted-returns-in_ok-push_call-in-Call : goal.push_counted-returns-in_ok-push_call-in-Call
push_counted-returns-in_ok-push_call-in-Call t c =
    on_ok_map c.push_all.result _ _
    (λ k. added_both _ _ _ _ _ _ c.in_ok-push_call-in-Call.ensures k (call_counted _ _ _ _ c.in-Call.is c.deref-in-Call.ensures.value))
    c.push_all.ensures

pub push_counted-returns-in-Aggregate : goal.push_counted-returns-in-Aggregate
push_counted-returns-in-Aggregate t c =
    on_ok_map c.push_all-in-Aggregate.result _ _ (λ h. added_one _ _ _ _ h (aggregate_counted _ _ _ _ _ c.in-Aggregate.is c.deref-in-Aggregate.ensures.value))
    c.push_all-in-Aggregate.ensures

pub push_counted-returns-in-Select : goal.push_counted-returns-in-Select
push_counted-returns-in-Select t c =
    on_ok_map c.push_node.result _ _ (λ h. added_one _ _ _ _ h (select_counted _ _ _ _ c.in-Select.is)) c.push_node.ensures

pub push_counted-returns-in-Subquery : goal.push_counted-returns-in-Subquery
push_counted-returns-in-Subquery t c =
    on_ok_map c.push_counted-in-Subquery.result _ _ (λ h. added_one _ _ _ _ h (subquery_counted _ _ _ _ _ _ c.in-Subquery.is c.deref-in-Subquery.ensures))
    c.push_counted-in-Subquery.ensures

pub push_all-loop-arg-preserved : goal.push_all-loop-arg-preserved
push_all-loop-arg-preserved t c =
    step_added _ _ _ _ _ _ c.in_ok-push_counted.ensures (more_counted _ _ _ c.loop-arg-test.true c.arg-item.is) c.loop-arg.invariant

pub push_all-returns : goal.push_all-returns
push_all-returns t c = whole_added _ _ _ (none_counted _ _ c.loop-arg-test.false) c.loop-arg.invariant
