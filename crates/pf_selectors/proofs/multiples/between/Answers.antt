use Rattle.std.proofs.Common.{◌≡◌, ◌+ℤ◌, ◌*ℤ◌, pos, refl, ◌∙◌, sym, ap, rules, arith, w64, to_z, of_z}
use Rattle.std.proofs.lemmas.Int.{ints}
use Rattle.pf_model.specs.Micros.{cut_down}
use Rattle.pf_selectors.proofs.StepMultiples.{between_is, between_times}
use Rattle.pf_selectors.proofs.multiples.between.Goals as goal

pub returns-clause-between : goal.returns-clause-between
returns-clause-between c =
    let from = c.args.from in
    let to = c.args.to in
    let step = c.args.step in
    let own : to_z w64 (of_z w64 c.first_after.result) ≡ c.first_after.result = search rules in
    let step_is : to_z w64 step ≡ pos step = search rules in
    let a : to_z w64 (of_z w64 from) ≡ from = search rules in
    let b : to_z w64 (of_z w64 to) ≡ to = search rules in
    let n : cut_down from step +ℤ pos c.count_of-count.result ≡ cut_down to step =
    ap (λ z. cut_down z step +ℤ pos c.count_of-count.result) (sym a) ∙ c.count_of-count.ensures.all ∙ ap (λ z. cut_down z step) b in
    let within = c.first_after.ensures.within in
    between_is from to step _ refl
    (own ∙ c.first_after.ensures.value ∙ ap (λ z. (cut_down z step +ℤ pos 1) *ℤ pos step) a) step_is
    n
    (omega (arith, ints, own, a, within.0))
    (omega (arith, ints, own, b, within.1))

pub returns-clause-times : goal.returns-clause-times
returns-clause-times c = between_times c.args.from c.args.to c.args.step _ c.requires.some c.requires.from c.requires.to (returns-clause-between c)
