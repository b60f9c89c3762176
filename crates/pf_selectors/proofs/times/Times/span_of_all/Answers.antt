use Rattle.std.proofs.Common.{◌≡◌, ◌∙◌, sym, subst, add-one, arith, rules, to_z, of_z, w64}
use Rattle.std.proofs.lemmas.Grind.{common_steps}
use Rattle.std.proofs.lemmas.Int.{ints}
use Rattle.std.specs.Int.{int_max, int_min}
use Rattle.pf_selectors.proofs.StepTimes.{more_spans}
use Rattle.pf_selectors.proofs.times.Times.span_of_all.Goals as goal
use Rattle.pf_selectors.specs.Times.{Spans}

pub loop-i-preserved : goal.loop-i-preserved
loop-i-preserved c =
    let t = c.args.self.now in
    let u = c.at-time.result in
    let p : c.min-first.result ≡ int_min (to_z w64 c.loop-i.first-bits) u = first_of (search rules, grind (arith, common_steps)) in
    let q : c.max-last.result ≡ int_max (to_z w64 c.loop-i.last-bits) u = first_of (search rules, grind (arith, common_steps)) in
    let l : to_z w64 (of_z w64 c.min-first.result) ≡ c.min-first.result = omega (arith, ints) in
    let g : to_z w64 (of_z w64 c.max-last.result) ≡ c.max-last.result = omega (arith, ints) in
    subst (λ n. Spans (to_z w64 (of_z w64 c.min-first.result)) (to_z w64 (of_z w64 c.max-last.result)) n t) (sym (add-one c.loop-i.i))
    (more_spans t _ _ _ _ u c.loop-i.i c.loop-i.invariant c.at-time.ensures.value
    (l ∙ p) (g ∙ q))

pub returns : goal.returns
returns c = grind (arith, common_steps)
