use Rattle.std.proofs.lemmas.Grind.{common_steps}
use mir.Syntax.{w128}
use Rattle.std.proofs.Common.{◌≤◌, length, sym, ap, ◌∙◌, subst, arith}
use Rattle.std.proofs.lemmas.Int.{ints, to_z-of_z}
use Rattle.pf_base.specs.Arithmetic.{clamp}
use Rattle.pf_model.specs.RangeFunctions.{growth}
use Rattle.pf_range.specs.Extrapolation.{Extends, limited, stretch_of}
use Rattle.pf_range.specs.declared.ends.Counter.{Counter}
use Rattle.pf_range.specs.declared.extrapolation.Stretch.{Stretch}
use Rattle.pf_range.proofs.Quotients.{short_is}
use Rattle.pf_range.proofs.Stretches.{measured, stretch_same, times_are}
use Rattle.pf_range.proofs.Windows.{extends}
use Rattle.pf_range.proofs.extrapolation.counter_change.Goals as goal

pub stretch_over-stretch-requires : goal.stretch_over-stretch-requires
stretch_over-stretch-requires c =
    let e = c.in_ok-first.ensures.0 in
    let count_is = ap (λ (k : Counter). k.count) e in
    let two : 2 ≤ length c.args.window = omega (arith, count_is, c.if-count-lt2.false) in
    let times = subst (λ (k : Counter). Extends c.args.from c.args.to k.first.time k.last.time k.count) (sym e) (extends c.args.from c.args.to c.args.window c.requires.window two) in
    times_are _ _ _ _ _ times

pub returns : goal.returns
returns c =
    let e = c.in_ok-first.ensures.0 in
    let count_is = ap (λ (k : Counter). k.count) e in
    let two : 2 ≤ length c.args.window = omega (arith, count_is, c.if-count-lt2.false) in
    let times = subst (λ (k : Counter). Extends c.args.from c.args.to k.first.time k.last.time k.count) (sym e) (extends c.args.from c.args.to c.args.window c.requires.window two) in
    let st = c.stretch_over-stretch.result in
    let is = c.stretch_over-stretch.ensures in
    let st_is = is.value ∙ stretch_same _ _ _ _ _ times ∙ ap (λ (k : Counter). stretch_of k.first.time k.last.time k.count c.args.from c.args.to) e in
    let span_is = short_is st.span (omega (arith, ints, is.span.0, is.span.1)) ∙ ap (λ (k : Stretch). k.span) st_is in
    let start_is = short_is st.start (omega (arith, ints, is.start.0, is.start.1)) ∙ ap (λ (k : Stretch). k.start) st_is in
    let growth_is = c.new-growth.ensures ∙ ap clamp (to_z-of_z w128 c.in_ok-first.field-0.growth c.in_ok-first.ensures.2) ∙ ap (λ (k : Counter). clamp k.growth) e in
    let gap_is = c.limited-start.ensures.value ∙ (λ i. limited (e i).first.value (growth_is i) (span_is i) (start_is i)) in
    let m = measured c.micros.result (growth c.args.window) st.span c.limited-start.result st.end _ _ _
    c.micros.ensures.within (c.micros.ensures.value ∙ growth_is) (ap (λ (k : Stretch). k.span) st_is) gap_is (ap (λ (k : Stretch). k.end) st_is) is.span.0 is.span.1 c.limited-start.ensures.within is.end in
    (m.same, m.times, two)

pub returns-in_err-first : goal.returns-in_err-first
returns-in_err-first c = grind (arith, common_steps)

pub returns-then-count-lt2 : goal.returns-then-count-lt2
returns-then-count-lt2 c = grind (arith, common_steps)
