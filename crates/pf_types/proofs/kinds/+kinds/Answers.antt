use Rattle.std.proofs.Common.{arith, rules, sym, ◌∙◌, ap, refl}
use Rattle.pf_model.specs.Typing.{function_wants}
use Rattle.pf_types.proofs.Operands.{fault_more, fault_step, fault_end, next_step, next_end, wrong_step, wrong_end}
use Rattle.pf_types.proofs.Variants.{number_is, text_is, select_is, unary_is, binary_is, subquery_is, call_is, aggregate_is}
use Rattle.pf_types.proofs.kinds.+kinds.Goals as goal

pub kind_from-returns-in-Number-clause-fault : goal.kind_from-returns-in-Number-clause-fault
kind_from-returns-in-Number-clause-fault t c =
    sym (number_is _ _ _ c.in-Number.is)

pub kind_from-returns-in-Text-clause-fault : goal.kind_from-returns-in-Text-clause-fault
kind_from-returns-in-Text-clause-fault t c =
    sym (text_is _ _ _ c.in-Text.is)

pub kind_from-returns-in_err-arg-in-Unary-clause-fault : goal.kind_from-returns-in_err-arg-in-Unary-clause-fault
kind_from-returns-in_err-arg-in-Unary-clause-fault t c =
    rw (unary_is _ _ _ _ _ _ c.in-Unary.is c.ranges.at.fits c.after-in-Unary.ensures c.deref.ensures) (search rules)

pub kind_from-returns-in_err-signed-in-Unary-clause-fault : goal.kind_from-returns-in_err-signed-in-Unary-clause-fault
kind_from-returns-in_err-signed-in-Unary-clause-fault t c =
    rw (unary_is _ _ _ _ _ _ c.in-Unary.is c.ranges.at.fits c.after-in-Unary.ensures c.deref.ensures) (search rules)

pub kind_from-returns-in_ok-signed-in-Unary-clause-fault : goal.kind_from-returns-in_ok-signed-in-Unary-clause-fault
kind_from-returns-in_ok-signed-in-Unary-clause-fault t c =
    rw (unary_is _ _ _ _ _ _ c.in-Unary.is c.ranges.at.fits c.after-in-Unary.ensures c.deref.ensures) (search rules)

pub kind_from-returns-in_err-left-in-Binary-clause-fault : goal.kind_from-returns-in_err-left-in-Binary-clause-fault
kind_from-returns-in_err-left-in-Binary-clause-fault t c =
    rw
    (binary_is _ _ _ _ _ _ _ _ _ _ c.in-Binary.is c.ranges.at.fits c.after-in-Binary.ensures c.deref-in-Binary.ensures refl refl)
    (search rules)

pub kind_from-returns-in_err-right-in-Binary-clause-fault : goal.kind_from-returns-in_err-right-in-Binary-clause-fault
kind_from-returns-in_err-right-in-Binary-clause-fault t c =
    rw
    (binary_is _ _ _ _ _ _ _ _ _ _ c.in-Binary.is c.ranges.at.fits c.after-in-Binary.ensures c.deref-in-Binary.ensures
    c.in_ok-left-in-Binary.ensures.next c.deref-in-Binary-2.ensures)
    (search rules)

pub kind_from-returns-in_err-kind-in-Binary-clause-fault : goal.kind_from-returns-in_err-kind-in-Binary-clause-fault
kind_from-returns-in_err-kind-in-Binary-clause-fault t c =
    rw
    (binary_is _ _ _ _ _ _ _ _ _ _ c.in-Binary.is c.ranges.at.fits c.after-in-Binary.ensures c.deref-in-Binary.ensures
    c.in_ok-left-in-Binary.ensures.next c.deref-in-Binary-2.ensures)
    (search rules)

pub kind_from-returns-in_ok-kind-in-Binary-clause-fault : goal.kind_from-returns-in_ok-kind-in-Binary-clause-fault
kind_from-returns-in_ok-kind-in-Binary-clause-fault t c =
    rw
    (binary_is _ _ _ _ _ _ _ _ _ _ c.in-Binary.is c.ranges.at.fits c.after-in-Binary.ensures c.deref-in-Binary.ensures
    c.in_ok-left-in-Binary.ensures.next c.deref-in-Binary-2.ensures)
    (search rules)

pub kind_from-returns-in_err-next-in-Call-clause-fault : goal.kind_from-returns-in_err-next-in-Call-clause-fault
kind_from-returns-in_err-next-in-Call-clause-fault t c =
    rw
    (call_is _ _ _ _ _ _ c.in-Call.is c.ranges.at.fits
    (c.function_wants.ensures ∙ ap (function_wants c.in-Call.function) (c.len.ensures ∙ sym c.deref-in-Call.ensures.len))
    c.deref-in-Call.ensures.value)
    (search rules)

pub kind_from-returns-in_err-label_names-in-Call-clause-fault : goal.kind_from-returns-in_err-label_names-in-Call-clause-fault
kind_from-returns-in_err-label_names-in-Call-clause-fault t c =
    rw
    (call_is _ _ _ _ _ _ c.in-Call.is c.ranges.at.fits
    (c.function_wants.ensures ∙ ap (function_wants c.in-Call.function) (c.len.ensures ∙ sym c.deref-in-Call.ensures.len))
    c.deref-in-Call.ensures.value)
    (search rules)

pub kind_from-returns-in_ok-label_names-in-Call-clause-fault : goal.kind_from-returns-in_ok-label_names-in-Call-clause-fault
kind_from-returns-in_ok-label_names-in-Call-clause-fault t c =
    rw
    (call_is _ _ _ _ _ _ c.in-Call.is c.ranges.at.fits
    (c.function_wants.ensures ∙ ap (function_wants c.in-Call.function) (c.len.ensures ∙ sym c.deref-in-Call.ensures.len))
    c.deref-in-Call.ensures.value)
    (search rules)

pub kind_from-returns-in_err-next-in-Aggregate-clause-fault : goal.kind_from-returns-in_err-next-in-Aggregate-clause-fault
kind_from-returns-in_err-next-in-Aggregate-clause-fault t c =
    rw
    (aggregate_is _ _ _ _ _ _ _ c.in-Aggregate.is c.ranges.at.fits c.aggregation_wants.ensures c.deref-in-Aggregate.ensures.value)
    (search rules)

pub kind_from-returns-in_ok-next-in-Aggregate-clause-fault : goal.kind_from-returns-in_ok-next-in-Aggregate-clause-fault
kind_from-returns-in_ok-next-in-Aggregate-clause-fault t c =
    rw
    (aggregate_is _ _ _ _ _ _ _ c.in-Aggregate.is c.ranges.at.fits c.aggregation_wants.ensures c.deref-in-Aggregate.ensures.value)
    (search rules)

pub kind_from-returns-in_err-arg-in-Subquery-clause-fault : goal.kind_from-returns-in_err-arg-in-Subquery-clause-fault
kind_from-returns-in_err-arg-in-Subquery-clause-fault t c =
    rw
    (subquery_is _ _ _ _ _ _ _ _ c.in-Subquery.is c.ranges.at.fits c.after-in-Subquery.ensures c.deref-in-Subquery.ensures)
    (search rules)

pub kind_from-returns-in_err-of_kind-in-Subquery-clause-fault : goal.kind_from-returns-in_err-of_kind-in-Subquery-clause-fault
kind_from-returns-in_err-of_kind-in-Subquery-clause-fault t c =
    rw
    (subquery_is _ _ _ _ _ _ _ _ c.in-Subquery.is c.ranges.at.fits c.after-in-Subquery.ensures c.deref-in-Subquery.ensures)
    (search rules)

pub kind_from-returns-in_err-fineness-in-Subquery-clause-fault : goal.kind_from-returns-in_err-fineness-in-Subquery-clause-fault
kind_from-returns-in_err-fineness-in-Subquery-clause-fault t c =
    rw
    (subquery_is _ _ _ _ _ _ _ _ c.in-Subquery.is c.ranges.at.fits c.after-in-Subquery.ensures c.deref-in-Subquery.ensures)
    (search rules)

pub kind_from-returns-in_ok-fineness-in-Subquery-clause-fault : goal.kind_from-returns-in_ok-fineness-in-Subquery-clause-fault
kind_from-returns-in_ok-fineness-in-Subquery-clause-fault t c =
    rw
    (subquery_is _ _ _ _ _ _ _ _ c.in-Subquery.is c.ranges.at.fits c.after-in-Subquery.ensures c.deref-in-Subquery.ensures)
    (search rules)

pub kind_from-returns-in-Select-default-None-default-clause-fault : goal.kind_from-returns-in-Select-default-None-default-clause-fault
kind_from-returns-in-Select-default-None-default-clause-fault t c = sym (select_is _ _ _ _ _ c.in-Select-default-None-default.is)

pub kind_from-returns-in-Select-default-Some-default-clause-fault : goal.kind_from-returns-in-Select-default-Some-default-clause-fault
kind_from-returns-in-Select-default-Some-default-clause-fault t c = sym (select_is _ _ _ _ _ c.in-Select-default-Some-default.is)

pub operands_from-returns-in_err-arg-clause-fault : goal.operands_from-returns-in_err-arg-clause-fault
operands_from-returns-in_err-arg-clause-fault t c =
    rw (sym c.loop-place.invariant.fault ∙ fault_more _ _ _ _ c.loop-place-test.true c.index-args-place.is) (search rules)

pub operands_from-loop-place-preserved : goal.operands_from-loop-place-preserved
operands_from-loop-place-preserved t c =
    record {
      fits = omega (arith, c.in_ok-arg.ensures.next);
      next =
          next_step _ _ _ _ _ c.loop-place-test.true c.index-args-place.is c.in_ok-arg.ensures.next ∙ c.loop-place.invariant.next;
      fault =
          fault_step _ _ _ _ _ c.loop-place-test.true c.index-args-place.is c.in_ok-arg.ensures.fault c.in_ok-arg.ensures.next
          ∙ c.loop-place.invariant.fault;
      wrong =
          wrong_step _ _ _ _ _ _ _ _ _ _ c.loop-place-test.true c.index-args-place.is c.get.ensures c.in_ok-arg.ensures.kind
          c.wrong_argument.ensures c.or-wrong.ensures
          ∙ c.loop-place.invariant.wrong;
    }

pub operands_from-returns-clause-fault : goal.operands_from-returns-clause-fault
operands_from-returns-clause-fault t c =
    sym (fault_end _ _ _ c.loop-place-test.false) ∙ c.loop-place.invariant.fault

pub operands_from-returns-clause-next : goal.operands_from-returns-clause-next
operands_from-returns-clause-next t c =
    next_end _ _ _ c.loop-place.invariant.fits c.loop-place-test.false ∙ c.loop-place.invariant.next

pub operands_from-returns-clause-wrong : goal.operands_from-returns-clause-wrong
operands_from-returns-clause-wrong t c =
    sym (wrong_end _ _ _ _ _ c.loop-place-test.false) ∙ c.loop-place.invariant.wrong
