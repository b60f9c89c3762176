use Rattle.std.proofs.lemmas.Grind.{common_steps}
use Rattle.std.proofs.Common.{◌≤◌, length, sym, ap, ◌∙◌, subst, arith}
use Rattle.pf_base.specs.Arithmetic.{difference}
use Rattle.pf_model.specs.RangeFunctions.{change}
use Rattle.pf_range.specs.Extrapolation.{Extends, stretch_of}
use Rattle.pf_range.specs.declared.ends.Ends.{Ends}
use Rattle.pf_range.specs.declared.extrapolation.Stretch.{Stretch}
use Rattle.pf_range.proofs.Stretches.{measured, stretch_same, times_are}
use Rattle.pf_range.proofs.Windows.{extends}
use Rattle.pf_range.proofs.extrapolation.gauge_change.Goals as goal

pub stretch_over-stretch-requires : goal.stretch_over-stretch-requires
stretch_over-stretch-requires c =
    let e = c.in_ok-first.ensures.0 in
    let count_is = ap (λ (k : Ends). k.count) e in
    let two : 2 ≤ length c.args.window = omega (arith, count_is, c.if-count-lt2.false) in
    let times = subst (λ (k : Ends). Extends c.args.from c.args.to k.first.time k.last.time k.count) (sym e) (extends c.args.from c.args.to c.args.window c.requires.window two) in
    times_are _ _ _ _ _ times

pub returns : goal.returns
returns c =
    let e = c.in_ok-first.ensures.0 in
    let count_is = ap (λ (k : Ends). k.count) e in
    let two : 2 ≤ length c.args.window = omega (arith, count_is, c.if-count-lt2.false) in
    let times = subst (λ (k : Ends). Extends c.args.from c.args.to k.first.time k.last.time k.count) (sym e) (extends c.args.from c.args.to c.args.window c.requires.window two) in
    let st = c.stretch_over-stretch.result in
    let is = c.stretch_over-stretch.ensures in
    let st_is = is.value ∙ stretch_same _ _ _ _ _ times ∙ ap (λ (k : Ends). stretch_of k.first.time k.last.time k.count c.args.from c.args.to) e in
    let value_is = c.micros.ensures.value ∙ c.sub.ensures ∙ ap (λ (k : Ends). difference k.last.value k.first.value) e in
    let m = measured c.micros.result (change c.args.window) st.span st.start st.end _ _ _
    c.micros.ensures.within value_is (ap (λ (k : Stretch). k.span) st_is) (ap (λ (k : Stretch). k.start) st_is) (ap (λ (k : Stretch). k.end) st_is) is.span.0 is.span.1 is.start is.end in
    (m.same, m.times, two)

pub returns-in_err-first : goal.returns-in_err-first
returns-in_err-first c = grind (arith, common_steps)

pub returns-then-count-lt2 : goal.returns-then-count-lt2
returns-then-count-lt2 c = grind (arith, common_steps)
