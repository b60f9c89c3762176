use Rattle.std.proofs.Common.{◌<◌, arith}
use Rattle.pf_columns.proofs.Sums.{sum_fits, sum_next, sum_small}
use Rattle.pf_columns.proofs.values.total.Goals as goal

pub overflow_add-sum : goal.overflow_add-sum
overflow_add-sum c =
    let bound : c.loop-value.value-index < 18446744073709551616 = omega arith in
    sum_fits _ _ c.loop-value.value-index c.loop-value.invariant.small c.micros.ensures.within bound

pub loop-value-preserved : goal.loop-value-preserved
loop-value-preserved c =
    let bound : c.loop-value.value-index < 18446744073709551616 = omega arith in
    record {
      sums = sum_next _ _ _ c.loop-value.invariant.small c.micros.ensures.within _ _ bound c.loop-value-test.true c.micros.ensures.value c.value-item.is c.loop-value.invariant.sums;
      small = sum_small _ _ _ c.loop-value.invariant.small c.micros.ensures.within bound;
    }
