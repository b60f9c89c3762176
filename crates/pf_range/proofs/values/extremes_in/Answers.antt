use Rattle.pf_range.proofs.Extremes.{greatest_more, least_more}
use Rattle.pf_range.proofs.values.extremes_in.Goals as goal

-- one value more
pub loop-sample-preserved : goal.loop-sample-preserved
loop-sample-preserved c =
    let i = c.loop-sample.invariant in
    let e = c.in-Some.ensures.steps in
    record {
      goes = (tt, tt);
      least = least_more _ _ _ _ _ _ e c.less-least.ensures i.least;
      greatest = greatest_more _ _ _ _ _ _ e c.greater-greatest.ensures i.greatest;
    }
