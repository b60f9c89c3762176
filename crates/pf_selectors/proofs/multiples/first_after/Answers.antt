use Rattle.std.proofs.Common.{arith}
use Rattle.std.proofs.Common.{◌≡◌, ◌≤ℤ◌, ◌+ℤ◌, ◌*ℤ◌, pos, ◌∙◌, sym, ap, subst, rules, w64, to_z, of_z}
use Rattle.std.proofs.lemmas.Grind.{common_steps}
use Rattle.pf_model.specs.Micros.{cut_down}
use Rattle.pf_range.specs.Windows.{IsTime}
use Rattle.pf_selectors.proofs.StepMultiples.{first_time, first_within, next_is}
use Rattle.pf_selectors.proofs.multiples.first_after.Goals as goal

pub product-requires-clause-within : goal.product-requires-clause-within
product-requires-clause-within c =
    let from = c.args.from in
    let step = c.args.step in
    let a : to_z w64 (of_z w64 from) ≡ from = search rules in
    let own : to_z w64 (of_z w64 c.cut_down-next.result) ≡ c.cut_down-next.result = search rules in
    subst (λ z. IsTime (z *ℤ pos step)) (sym (next_is step from (to_z w64 (of_z w64 c.cut_down-next.result)) c.requires.from (own ∙ c.cut_down-next.ensures ∙ ap (λ z. cut_down z step) a)))
    (first_time step from c.args.to c.requires.some c.requires.from c.requires.to c.requires.there)

pub returns-clause-within : goal.returns-clause-within
returns-clause-within c =
    let from = c.args.from in
    let step = c.args.step in
    let a : to_z w64 (of_z w64 from) ≡ from = search rules in
    let own : to_z w64 (of_z w64 c.cut_down-next.result) ≡ c.cut_down-next.result = search rules in
    let last : to_z w64 (of_z w64 c.product.result) ≡ c.product.result = search rules in
    let value : to_z w64 (of_z w64 c.product.result) ≡ (cut_down from step +ℤ pos 1) *ℤ pos step =
    last ∙ c.product.ensures
    ∙ ap (λ z. z *ℤ pos step) (next_is step from (to_z w64 (of_z w64 c.cut_down-next.result)) c.requires.from (own ∙ c.cut_down-next.ensures ∙ ap (λ z. cut_down z step) a)) in
    subst (λ x. (from ≤ℤ x) × (x ≤ℤ c.args.to)) (sym value) (first_within step from c.args.to c.requires.some c.requires.there)

pub returns-clause-value : goal.returns-clause-value
returns-clause-value c = grind (arith, common_steps)
