use Rattle.std.proofs.Common.{◌≡◌, ◌∙◌, arith, to_z, of_z, w64}
use Rattle.std.proofs.lemmas.Int.{ints}
use Rattle.std.specs.Int.{int_max, int_min}
use Rattle.pf_selectors.proofs.StepTimes.{ends_span}
use Rattle.pf_selectors.proofs.times.Times.span_of_ends.Goals as goal

pub returns : goal.returns
returns c =
    let t = c.args.self.now in
    let x = c.at-start.result in
    let y = c.at-end.result in
    let a : to_z w64 (of_z w64 x) ≡ x = omega (arith, ints) in
    let b : to_z w64 (of_z w64 y) ≡ y = omega (arith, ints) in
    let l : to_z w64 (of_z w64 c.min.result) ≡ c.min.result = omega (arith, ints) in
    let g : to_z w64 (of_z w64 c.max.result) ≡ c.max.result = omega (arith, ints) in
    ends_span t x y _ _ c.requires.run c.requires.some c.at-start.ensures.value c.at-end.ensures.value
    (l ∙ c.min.ensures.value ∙ (λ i. int_min (a i) (b i))) (g ∙ c.max.ensures.value ∙ (λ i. int_max (a i) (b i)))
