use Rattle.std.proofs.lemmas.Grind.{common_steps}
use mir.Syntax.{w128}
use Rattle.std.proofs.Common.{◌≡◌, ◌≤◌, ◌+ℤ◌, ◌∷◌, length, to_z, sym, ap, ◌∙◌, arith}
use Rattle.std.proofs.lemmas.Int.{ints}
use Rattle.pf_model.specs.RangeFunctions.{first, last, lost}
use Rattle.pf_range.proofs.Sums.{grown, grown_fits, sum_next, sum_small}
use Rattle.pf_range.proofs.ends.counter_in.Goals as goal

pub loop-sample-init : goal.loop-sample-init
loop-sample-init c =
    let w : c.args.window ≡ c.in_ok-first.first ∷ c.into_iter-sample-iterator.result =
    c.in_ok-first.ensures.steps ∙ ap (λ r. c.in_ok-first.first ∷ r) (sym c.into_iter-sample-iterator.ensures.into_iter_gives) in
    let all = ap length w in
    let gone = ap lost w in
    record {
      goes = (tt, tt);
      first = sym (ap first w);
      last = sym (ap last w);
      count = omega (arith, all);
      some = omega arith;
      lost = omega (arith, ints, gone);
      small = omega arith;
    }

-- one sample more
pub loop-sample-preserved : goal.loop-sample-preserved
loop-sample-preserved c =
    let l = c.loop-sample in
    let i = c.loop-sample.invariant in
    let e = c.in-Some.ensures.steps in
    let all = ap length e in
    let few : l.count ≤ 2251799813685248 = omega (arith, i.count, c.requires) in
    record {
      goes = (tt, tt);
      first = i.first;
      last = sym (ap (λ r. last (l.last ∷ r)) e) ∙ i.last;
      count = omega (arith, all, i.count);
      some = omega arith;
      lost = sum_next _ _ l.count i.small c.lost_at.ensures.within few _ _ _ c.lost_at.ensures.value (ap (λ r. to_z w128 l.lost-bits +ℤ lost (l.last ∷ r)) (sym e) ∙ i.lost);
      small = sum_small _ _ l.count i.small c.lost_at.ensures.within few;
    }

pub returns : goal.returns
returns c =
    let l = c.loop-sample in
    let i = c.loop-sample.invariant in
    let e = c.in-None.ensures.steps.0 in
    let all = ap length e in
    let last_is = sym (ap (λ r. last (l.last ∷ r)) e) ∙ i.last in
    let few : l.count ≤ 2251799813685248 = omega (arith, i.count, c.requires) in
    let count_is : l.count ≡ length c.args.window = omega (arith, all, i.count) in
    let lost_is = sym (ap (λ r. to_z w128 l.lost-bits +ℤ lost (l.last ∷ r)) e) ∙ i.lost in
    let growth_is = grown _ _ _ _ _ _ l.count c.micros.ensures.within c.micros-2.ensures.within i.small few
    (c.micros.ensures.value ∙ ap (λ s. s.value) last_is) (c.micros-2.ensures.value ∙ ap (λ s. s.value) i.first) lost_is in
    (λ j. record { first = i.first j; last = last_is j; count = count_is j; growth = growth_is j }, omega (arith, count_is, i.some), grown_fits _ _ _ l.count c.micros.ensures.within c.micros-2.ensures.within i.small few)

pub returns-in_err-first : goal.returns-in_err-first
returns-in_err-first c = grind (arith, common_steps)
