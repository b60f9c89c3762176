use Rattle.std.proofs.Common.{◌≡◌, ◌-◌, ◌-ℤ◌, ◌≤ℤ◌, pos, sym, ap, ◌∙◌, subst, add-one, rules, arith, w64, to_z, of_z}
use Rattle.std.specs.Int.{int_max}
use Rattle.std.specs.List.{filter}
use Rattle.std.proofs.lemmas.Int.{clamps, ints}
use Rattle.std.proofs.lemmas.Grind.{common_steps}
use Rattle.pf_model.specs.Evaluation.{multiples}
use Rattle.pf_range.specs.Windows.{IsTime}
use Rattle.pf_selectors.specs.Subqueries.{is_read}
use Rattle.pf_selectors.specs.Times.{time_at}
use Rattle.pf_selectors.proofs.StepMultiples.{before_end, end_at, none_read, push_window, window_rises}
use Rattle.pf_selectors.proofs.multiples.read_multiples.Goals as goal

pub loop-i-init : goal.loop-i-init
loop-i-init c =
    let z : to_z w64 (of_z w64 c.start_of-end.result) ≡ c.start_of-end.result = omega (arith, ints) in
    record {
      end = z ∙ c.start_of-end.ensures.value;
      within = subst IsTime (sym z) c.start_of-end.ensures.within;
      list = c.clear.ensures.items ∙ sym (none_read c.args.range c.args.times.now (multiples c.args.step (time_at c.args.times.now 0 -ℤ pos c.args.range) (time_at c.args.times.now (c.args.times.now.len - 1))));
    }

pub push_between-requires-clause-from : goal.push_between-requires-clause-from
push_between-requires-clause-from c =
    let m : c.max.result ≡ int_max c.start_of.result (to_z w64 c.loop-i.end-bits) = first_of (search rules, grind (arith, common_steps)) in
    let a = c.start_of.ensures.within in
    let b = c.loop-i.invariant.within in
    (omega (arith, ints, clamps, m, a.0, b.0), omega (arith, ints, clamps, m, a.1, b.1))

pub push_between-requires-clause-order : goal.push_between-requires-clause-order
push_between-requires-clause-order c =
    let m : c.max.result ≡ int_max c.start_of.result (to_z w64 c.loop-i.end-bits) = first_of (search rules, grind (arith, common_steps)) in
    let range = c.args.range in
    let times = c.args.times.now in
    let i = c.loop-i.i in
    let a : c.start_of.result ≤ℤ time_at times i = subst (λ x. x ≤ℤ time_at times i) (sym c.start_of.ensures.value) (window_rises range times i) in
    let b : to_z w64 c.loop-i.end-bits ≤ℤ time_at times i = subst (λ x. x ≤ℤ time_at times i) (sym c.loop-i.invariant.end) (before_end range times c.requires.order i c.loop-i-test.true) in
    omega (arith, ints, clamps, m, a, b, c.at-to.ensures.value)

pub loop-i-preserved : goal.loop-i-preserved
loop-i-preserved c =
    let range = c.args.range in
    let times = c.args.times.now in
    let i = c.loop-i.i in
    let m : c.max.result ≡ int_max c.start_of.result (to_z w64 c.loop-i.end-bits) = first_of (search rules, grind (arith, common_steps)) in
    let f : to_z w64 (of_z w64 c.max.result) ≡ c.max.result = first_of (search rules, grind (arith, common_steps)) in
    let z : to_z w64 (of_z w64 c.at-to.result) ≡ c.at-to.result = omega (arith, ints) in
    record {
      end = z ∙ c.at-to.ensures.value ∙ sym (ap (end_at range times) (add-one i));
      within = subst IsTime (sym z) c.at-to.ensures.within;
      list =
          push_window range c.args.step times c.requires.order i _ _ c.loop-i.list.items c.push_between.new.list.items c.requires.some c.loop-i-test.true
          (f ∙ m ∙ (λ j. int_max (c.start_of.ensures.value j) (c.loop-i.invariant.end j))) (z ∙ c.at-to.ensures.value)
          c.in_ok-push_between.ensures c.loop-i.invariant.list;
    }

pub returns : goal.returns
returns c =
    let times = c.args.times.now in
    let n : c.loop-i.i ≡ times.len = omega (arith, c.loop-i-test.false) in
    c.loop-i.invariant.list
    ∙ ap (λ k. filter (is_read c.args.range times k) (multiples c.args.step (time_at times 0 -ℤ pos c.args.range) (time_at times (times.len - 1)))) n
