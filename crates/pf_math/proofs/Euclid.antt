-- Quotients that are cut down.
use Rattle.std.proofs.Common.{◌≡◌, ℕ, zero, suc, false, cond, None, nat_eq, ◌≤ℤ◌, FitsSigned, to_z, of_z, ◌≤◌, ◌*◌, ◌/◌, ℤ, pos, negsuc, ◌+ℤ◌, ◌*ℤ◌, ◌<ℤ◌, Some, refl, sym, ap, ◌∙◌, arith}
use Rattle.std.proofs.lemmas.Int.{ints, fits_signed_mul, to_z-of_z}
use mir.Syntax.{w128}
use Rattle.std.proofs.Math.Nat.{div-le_self}
use Rattle.std.specs.Int.{int_div_euclid}
use Rattle.std.specs.Prelude.{unsigned_abs}
use Rattle.pf_base.specs.Arithmetic.{clamp}
use Rattle.pf_model.specs.InstantFunctions.{rounded}
use Rattle.pf_model.specs.Micros.{cut_down}

cut_is : (z : ℤ) (d : ℕ) → int_div_euclid z (pos d) ≡ cut_down z d
cut_is (pos n) d = refl
cut_is (negsuc n) d = refl

euclid_abs : (z : ℤ) (d : ℕ) → unsigned_abs (int_div_euclid z (pos d)) ≤ unsigned_abs z
euclid_abs (pos n) d = div-le_self n d
euclid_abs (negsuc n) d =
    let small : n / d ≤ n = div-le_self n d in
    omega (arith, small)

pub euclid_within : (z to : ℤ) (m : ℕ) → unsigned_abs z ≤ m → pos 0 <ℤ to → unsigned_abs (int_div_euclid z (pos 2 *ℤ to)) ≤ m
euclid_within z (pos d) m h k =
    let small : unsigned_abs (int_div_euclid z (pos (2 * d))) ≤ unsigned_abs z = euclid_abs z (2 * d) in
    omega (arith, small, h)
euclid_within z (negsuc d) m h k = absurd (omega (arith, ints, k))

rounded_is : (s : ℕ) (v : ℤ) → (s ≡ 0 → ⊥) → Some (clamp (int_div_euclid (pos 2 *ℤ v +ℤ pos s) (pos 2 *ℤ pos s) *ℤ pos s)) ≡ rounded s v
rounded_is s v h =
    ap (λ z. Some (clamp (z *ℤ pos s))) (cut_is (pos 2 *ℤ v +ℤ pos s) (2 * s))
    ∙ sym (ap (λ b. cond b None (Some (clamp (cut_down (pos 2 *ℤ v +ℤ pos s) (2 * s) *ℤ pos s)))) (not_zero s h)) where
      not_zero : (n : ℕ) → (n ≡ 0 → ⊥) → nat_eq n 0 ≡ false
      not_zero zero k = absurd (k refl)
      not_zero (suc n) k = grind arith

-- as a number is passed on
abbrev passed : ℤ → ℤ
passed z = to_z w128 (of_z w128 z)

-- the steps of rounding
pub rounded_from : (s : ℕ) (v to sum quotient product : ℤ) → (of_z w128 to ≡ 0 → ⊥) → FitsSigned w128 to → FitsSigned w128 sum → FitsSigned w128 quotient → FitsSigned w128 product
    → to ≡ pos s → sum ≡ pos 2 *ℤ v +ℤ passed to → quotient ≡ int_div_euclid (passed sum) (pos 2 *ℤ passed to) → product ≡ passed quotient *ℤ passed to
    → Some (clamp (passed product)) ≡ rounded s v
rounded_from s v to sum quotient product n to_fits sum_fits quotient_fits product_fits size made cut multiplied =
    let is : passed to ≡ pos s = to_z-of_z w128 to to_fits ∙ size in
    ap (λ z. Some (clamp z))
    (to_z-of_z w128 product product_fits
    ∙ multiplied
    ∙ (λ i. (to_z-of_z w128 quotient quotient_fits ∙ cut) i *ℤ is i)
    ∙ (λ i. int_div_euclid ((to_z-of_z w128 sum sum_fits ∙ made) i) (pos 2 *ℤ is i) *ℤ pos s)
    ∙ ap (λ z. int_div_euclid (pos 2 *ℤ v +ℤ z) (pos 2 *ℤ pos s) *ℤ pos s) is)
    ∙ rounded_is s v (λ e. n (ap (of_z w128) (size ∙ ap pos e)))

pub multiple_fits : (a b : ℤ) → FitsSigned w128 a → FitsSigned w128 b → unsigned_abs a ≤ 3000000000000000000 → pos 0 <ℤ b → b ≤ℤ pos 1000000000000000000
    → FitsSigned w128 (to_z w128 (of_z w128 a) *ℤ to_z w128 (of_z w128 b))
multiple_fits a b f g h low high =
    rw (to_z-of_z w128 a f) (rw (to_z-of_z w128 b g)
    (fits_signed_mul w128 a b 3000000000000000000 1000000000000000000 h (omega (arith, ints, low, high)) (omega arith)))
