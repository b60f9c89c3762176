use Rattle.std.proofs.Common.{◌≡◌, sym, ap, ◌∙◌, pos, subst, Some, cond, arith}
use Rattle.std.proofs.lemmas.Int.{ints}
use Rattle.std.specs.Prelude.{ℤ, ◌*ℤ◌, ◌-ℤ◌, int_div, int_lt}
use Rattle.pf_base.specs.Arithmetic.{clamp}
use Rattle.pf_base.specs.declared.plain.Sample.{Sample}
use Rattle.pf_range.proofs.Quotients.{short}
use Rattle.pf_range.proofs.Stretches.{step_fits, step_is, step_some}
use Rattle.pf_range.proofs.Windows.{Steps, last_step_times, of_two_some}
use Rattle.pf_range.proofs.last_steps.irate.Goals as goal

-- the times of the two samples that were found
times_of : (a b : ℤ) (before after x y : Sample) → before ≡ x → after ≡ y → Steps a b x.time y.time → Steps a b before.time after.time
times_of a b before after x y e f h = subst (λ (s : Sample). Steps a b s.time after.time) (sym e) (subst (λ (s : Sample). Steps a b x.time s.time) (sym f) h)

pub overflow_sub-last : goal.overflow_sub-last
overflow_sub-last c =
    let is = c.in_ok-before.ensures in
    let r = c.requires in
    step_fits _ _ _ _ r.left r.right (times_of c.args.from c.args.to _ _ _ _ is.0 is.1 (last_step_times c.args.from c.args.to c.args.window r is.2))

pub per_second-requires-clause-time : goal.per_second-requires-clause-time
per_second-requires-clause-time c =
    let is = c.in_ok-before.ensures in
    let r = c.requires in
    step_some _ _ _ _ r.left r.right (times_of c.args.from c.args.to _ _ _ _ is.0 is.1 (last_step_times c.args.from c.args.to c.args.window r is.2))

pub returns : goal.returns
returns c =
    let is = c.in_ok-before.ensures in
    let r = c.requires in
    let time = step_is _ _ _ _ r.left r.right (times_of c.args.from c.args.to _ _ _ _ is.0 is.1 (last_step_times c.args.from c.args.to c.args.window r is.2))
    ∙ (λ i. (is.1 i).time -ℤ (is.0 i).time) in
    let found = c.growth_at-growth.ensures in
    let whole : short c.growth_at-growth.result ≡ c.growth_at-growth.result = omega (arith, ints, found.within.0, found.within.1) in
    let growth = whole ∙ found.value
    ∙ (λ i. cond (int_lt (is.1 i).value (is.0 i).value) (is.1 i).value ((is.1 i).value -ℤ (is.0 i).value)) in
    ap Some (c.per_second.ensures ∙ (λ i. clamp (int_div (growth i *ℤ pos 1000) (time i)))) ∙ of_two_some c.args.window _ is.2
