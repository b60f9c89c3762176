use Rattle.std.proofs.Common.{◌≡◌, ◌≤◌, ◌≤ℤ◌, ◌-ℤ◌, ◌*ℤ◌, pos, unsigned_abs, sym, subst, rules, arith, w64, to_z, of_z}
use Rattle.std.proofs.lemmas.Grind.{common_steps}
use Rattle.pf_model.specs.Micros.{cut_down}
use Rattle.pf_resolve.proofs.Multiples.{multiple_between, small_between}
use Rattle.pf_resolve.proofs.reading.multiple.Goals as goal

pub product-requires-clause-within : goal.product-requires-clause-within
product-requires-clause-within c =
    let e : to_z w64 (of_z w64 c.step_back.result) ≡ cut_down c.args.to c.args.step -ℤ pos c.args.behind = first_of (search rules, grind (arith, common_steps)) in
    let b = multiple_between c.args.step c.args.behind c.args.from c.args.to c.requires.order c.requires.there in
    subst (λ x. unsigned_abs (x *ℤ pos c.args.step) ≤ 2251799813685248) (sym e)
    (small_between ((cut_down c.args.to c.args.step -ℤ pos c.args.behind) *ℤ pos c.args.step) c.args.from c.args.to 2251799813685248 b.0 b.1 c.requires.first c.requires.last)

pub returns-clause-within : goal.returns-clause-within
returns-clause-within c =
    let e : to_z w64 (of_z w64 c.product.result) ≡ (cut_down c.args.to c.args.step -ℤ pos c.args.behind) *ℤ pos c.args.step = first_of (search rules, grind (arith, common_steps)) in
    subst (λ x. (c.args.from ≤ℤ x) × (x ≤ℤ c.args.to)) (sym e)
    (multiple_between c.args.step c.args.behind c.args.from c.args.to c.requires.order c.requires.there)

pub returns-clause-value : goal.returns-clause-value
returns-clause-value c = grind (arith, common_steps)
