use Rattle.std.proofs.Common.{◌≡◌, [], sym, ap, ◌∙◌, subst, rules, arith, to_z, of_z, w64, pos, ◌*ℤ◌, FitsSigned}
use Rattle.std.proofs.lemmas.Int.{to_z-of_z}
use Rattle.std.proofs.lemmas.Grind.{common_steps}
use Rattle.pf_selectors.specs.Times.{away}
use Rattle.pf_selectors.proofs.StepTimes.{step_fits}
use Rattle.pf_selectors.proofs.times.Times.away.Goals as goal

pub overflow_mul-result : goal.overflow_mul-result
overflow_mul-result c =
    let t = c.args.self.now in
    let k = c.args.step in
    let none : t.list.now ≡ [] = first_of (search rules, grind (arith, common_steps)) in
    let b : to_z w64 (of_z w64 t.step) ≡ t.step = search rules in
    let n : to_z w64 k ≡ pos k = search rules in
    let p : (to_z w64 k *ℤ to_z w64 (of_z w64 t.step)) ≡ (pos k *ℤ t.step) = λ i. n i *ℤ b i in
    subst (FitsSigned w64) (sym p) (step_fits t k none c.requires.below c.requires.times)

pub returns-then-is_empty : goal.returns-then-is_empty
returns-then-is_empty c =
    let t = c.args.self.now in
    let k = c.args.step in
    let none : t.list.now ≡ [] = first_of (search rules, grind (arith, common_steps)) in
    let b : to_z w64 (of_z w64 t.step) ≡ t.step = search rules in
    let n : to_z w64 k ≡ pos k = search rules in
    let p : (to_z w64 k *ℤ to_z w64 (of_z w64 t.step)) ≡ (pos k *ℤ t.step) = λ i. n i *ℤ b i in
    let f : FitsSigned w64 (to_z w64 k *ℤ to_z w64 (of_z w64 t.step)) = subst (FitsSigned w64) (sym p) (step_fits t k none c.requires.below c.requires.times) in
    to_z-of_z w64 (to_z w64 k *ℤ to_z w64 (of_z w64 t.step)) f ∙ p ∙ sym (ap (λ us. away us t.step k) none)
