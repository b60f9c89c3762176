use Rattle.std.proofs.lemmas.Grind.{common_steps}
use mir.Syntax.{w128}
use Rattle.std.proofs.Common.{◌≤◌, ◌+ℤ◌, length, to_z, sym, ap, ◌∙◌, arith}
use Rattle.pf_model.specs.Micros.{total}
use Rattle.pf_model.specs.RangeFunctions.{values}
use Rattle.pf_range.proofs.Sums.{sum_next, sum_small}
use Rattle.pf_range.proofs.values.sum_in.Goals as goal

-- one value more
pub loop-sample-preserved : goal.loop-sample-preserved
loop-sample-preserved c =
    let l = c.loop-sample in
    let i = c.loop-sample.invariant in
    let e = c.in-Some.ensures.steps in
    let all = ap length e in
    let few : l.count ≤ 2251799813685248 = omega (arith, i.count, c.requires) in
    record {
      goes = (tt, tt);
      total = sum_next _ _ l.count i.small c.micros.ensures.within few _ _ _ c.micros.ensures.value (ap (λ r. to_z w128 l.total-bits +ℤ total (values r)) (sym e) ∙ i.total);
      count = omega (arith, all, i.count);
      small = sum_small _ _ l.count i.small c.micros.ensures.within few;
    }

pub returns : goal.returns
returns c = grind (arith, common_steps)
