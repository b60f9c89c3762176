use Rattle.std.proofs.Common.{◌<◌, ◌∙◌, length, sym, subst, arith}
use Rattle.pf_columns.proofs.Bounds.{nothing_is}
use Rattle.pf_columns.proofs.Sums.{sum_fits, sum_next, sum_small}
use Rattle.pf_agg.proofs.KnownGroups.{highest_next, lowest_next, many_values, nothing_known, value_at, values}
use Rattle.pf_agg.proofs.partial.partial_of.Goals as goal

pub overflow_add-sum : goal.overflow_add-sum
overflow_add-sum c =
    let bound : c.loop-element.element-index < 18446744073709551616 = omega arith in
    sum_fits _ _ c.loop-element.element-index c.loop-element.invariant.small c.micros.ensures.within bound

pub returns-in_default : goal.returns-in_default
returns-in_default c = nothing_known c.args.elements.now _ _ c.in_default.ensures.cases (c.new.ensures ∙ nothing_is) (c.new-in_default.ensures ∙ nothing_is)

pub loop-element-preserved : goal.loop-element-preserved
loop-element-preserved c =
    let es = c.args.elements.now in
    let i = c.loop-element.element-index in
    let bound : i < 18446744073709551616 = omega arith in
    let at = value_at es i c.element-item.result c.loop-element-test.true c.element-item.is in
    let within : i < length (values es) = subst (λ n. i < n) (sym (many_values es)) c.loop-element-test.true in
    record {
      sums = sum_next _ _ _ c.loop-element.invariant.small c.micros.ensures.within _ _ bound within c.micros.ensures.value at c.loop-element.invariant.sums;
      small = sum_small _ _ _ c.loop-element.invariant.small c.micros.ensures.within bound;
      lowest = lowest_next (values es) i _ _ _ _ within at c.less-least.ensures c.loop-element.invariant.lowest;
      highest = highest_next (values es) i _ _ _ _ within at c.greater-greatest.ensures c.loop-element.invariant.highest;
    }
