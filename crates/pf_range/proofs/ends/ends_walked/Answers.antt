use Rattle.std.proofs.Common.{◌≡◌, ◌∷◌, length, sym, ap, ◌∙◌, arith}
use Rattle.pf_model.specs.RangeFunctions.{last}
use Rattle.pf_range.proofs.ends.ends_walked.Goals as goal

-- one sample more
pub loop-sample-preserved : goal.loop-sample-preserved
loop-sample-preserved c =
    let l = c.loop-sample in
    let i = c.loop-sample.invariant in
    let e = c.in-Some.ensures.steps in
    let all = ap length e in
    record {
      goes = (tt, tt);
      first = i.first;
      last = sym (ap (λ r. last (l.last ∷ r)) e) ∙ i.last;
      count = omega (arith, all, i.count);
      some = omega arith;
    }

pub returns : goal.returns
returns c =
    let l = c.loop-sample in
    let i = c.loop-sample.invariant in
    let e = c.in-None.ensures.steps.0 in
    let all = ap length e in
    let last_is = sym (ap (λ r. last (l.last ∷ r)) e) ∙ i.last in
    let count_is : l.count ≡ length c.args.window = omega (arith, all, i.count) in
    (λ j. record { first = i.first j; last = last_is j; count = count_is j }, omega (arith, count_is, i.some))
