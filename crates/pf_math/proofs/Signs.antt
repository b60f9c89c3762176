-- Values that are moved into the bounds and stay: what lies within, one, nothing, and a value's negation.
use Rattle.std.proofs.Common.{◌≡◌, ℤ, pos, negsuc, ◌-ℤ◌, refl, ap, ◌∙◌, arith, le-ltb}
use Rattle.std.proofs.lemmas.Int.{ints}
use Rattle.std.specs.Prelude.{neg_ℤ}
use Rattle.pf_base.specs.Arithmetic.{IsValue, clamp, difference}
use Rattle.pf_model.specs.Micros.{one}

pub within_kept : (z : ℤ) → IsValue z → clamp z ≡ z
unfolding clamp
within_kept (pos n) h = rw (le-ltb 1000000000000000000 n (omega (arith, ints, h.1))) refl
within_kept (negsuc n) h = rw (le-ltb 999999999999999999 n (omega (arith, ints, h.0))) refl

pub one_is : clamp (pos 1000000) ≡ one
unfolding clamp
one_is = refl

pub nothing_is : clamp (pos 0) ≡ pos 0
unfolding clamp
nothing_is = refl

pub negated_is : (v : ℤ) → IsValue v → difference (clamp (pos 0)) v ≡ neg_ℤ v
negated_is v h =
    let same : pos 0 -ℤ v ≡ neg_ℤ v = omega (arith, ints) in
    ap (λ z. clamp (z -ℤ v)) nothing_is ∙ ap clamp same ∙ within_kept (neg_ℤ v) (omega (arith, ints, h.0, h.1), omega (arith, ints, h.0, h.1))
