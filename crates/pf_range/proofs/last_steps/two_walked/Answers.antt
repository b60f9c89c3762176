use Rattle.std.proofs.Common.{◌∷◌, length, sym, ap, ◌∙◌, arith}
use Rattle.pf_model.specs.RangeFunctions.{but_last, last}
use Rattle.pf_range.proofs.last_steps.two_walked.Goals as goal

-- one sample more
pub loop-sample-preserved : goal.loop-sample-preserved
loop-sample-preserved c =
    let l = c.loop-sample in
    let i = c.loop-sample.invariant in
    let e = c.in-Some.ensures.steps in
    record {
      goes = (tt, tt);
      before = sym (ap (λ r. last (but_last (l.before ∷ l.last ∷ r))) e) ∙ i.before;
      last = sym (ap (λ r. last (l.last ∷ r)) e) ∙ i.last;
    }

pub returns : goal.returns
returns c =
    let l = c.loop-sample in
    let i = c.loop-sample.invariant in
    let e = c.in-None.ensures.steps.0 in
    let one = ap length c.in_ok-before.ensures.steps in
    let two = ap length c.in_ok-last.ensures.steps in
    (sym (ap (λ r. last (but_last (l.before ∷ l.last ∷ r))) e) ∙ i.before, sym (ap (λ r. last (l.last ∷ r)) e) ∙ i.last, omega (arith, one, two))
