-- Products, quotients and remainders of values, as the code computes them in bits, are those of the whole numbers.
use Rattle.std.proofs.Common.{◌≡◌, ℤ, ℕ, zero, suc, false, ◌/◌, ◌≤◌, ◌<◌, pos, negsuc, ◌-ℤ◌, ◌*ℤ◌, FitsSigned, to_z, of_z, w64, refl, ap, sym, ◌∙◌, arith, lit<, lit≤, Some}
use Rattle.std.specs.Prelude.{int_div, int_rem, unsigned_abs, neg_ℤ}
use Rattle.std.proofs.lemmas.Int.{ints, to_z-of_z, quot_is, rem_is, quot_fits, fits_signed_mul, fits_signed_from_abs, unsigned_abs-mul, quot-rem}
use mir.Syntax.{w128}
use native.Mathlib.Nat.{div-le_self}
use Rattle.pf_base.specs.Arithmetic.{clamp, IsValue, product, quotient, remainder, is_zero}

abs_value : (a : ℤ) → IsValue a → unsigned_abs a ≤ 1000000000000000000
abs_value a h = omega (arith, ints)

wide : (a : ℤ) → IsValue a → to_z w128 (of_z w128 (to_z w64 (of_z w64 a))) ≡ a
wide a h = omega (arith, ints)

narrow : (a : ℤ) → IsValue a → FitsSigned w64 a
narrow a h = fits_signed_from_abs w64 a (omega (arith, abs_value a h))

fits_wide : (a : ℤ) → IsValue a → FitsSigned w128 a
fits_wide a h = fits_signed_from_abs w128 a (omega (arith, abs_value a h))

abs_neg : (r : ℕ) → unsigned_abs (neg_ℤ (pos r)) ≡ r
abs_neg zero = refl
abs_neg (suc r) = refl

quot_within : (a d : ℤ) (m : ℕ) → unsigned_abs a ≤ m → unsigned_abs (int_div a d) ≤ m
quot_within (pos a) (pos b) m h = omega (arith, div-le_self a b)
quot_within (pos a) (negsuc b) m h = omega (arith, ints, div-le_self a (suc b), abs_neg (a / suc b))
quot_within (negsuc a) (pos b) m h = omega (arith, abs_neg (suc a / b), div-le_self (suc a) b)
quot_within (negsuc a) (negsuc b) m h = omega (arith, div-le_self (suc a) (suc b))

pub product_is : (a b r : ℤ) → IsValue a → IsValue b
    → r ≡ clamp (to_z w128 (of_z w128 (int_div (to_z w128 (of_z w128 (to_z w128 (of_z w128 (to_z w64 (of_z w64 a))) *ℤ to_z w128 (of_z w128 (to_z w64 (of_z w64 b)))))) (pos 1000000))))
    → r ≡ product a b
product_is a b r ha hb h =
    let fp : FitsSigned w128 (a *ℤ b) = fits_signed_mul w128 a b 1000000000000000000 1000000000000000000 (abs_value a ha) (abs_value b hb) (lit< tt) in
    let fd : FitsSigned w128 (pos 1000000) = fits_signed_from_abs w128 (pos 1000000) (lit< tt) in
    let fq : FitsSigned w128 (int_div (a *ℤ b) (pos 1000000)) = quot_fits w128 (a *ℤ b) (pos 1000000) fp (omega (arith, ints)) in
    let e : to_z w128 (of_z w128 (int_div (to_z w128 (of_z w128 (a *ℤ b))) (pos 1000000))) ≡ int_div (a *ℤ b) (pos 1000000) = quot_is w128 (a *ℤ b) (pos 1000000) fp fd fq in
    let h' = rw (wide a ha, wide b hb) at h in
    h' ∙ ap clamp e

pub quotient_is : (a b r : ℤ) → IsValue a → IsValue b
    → r ≡ clamp (to_z w128 (of_z w128 (int_div (to_z w128 (of_z w128 (to_z w128 (of_z w128 (to_z w64 (of_z w64 a))) *ℤ pos 1000000))) (to_z w128 (of_z w128 (to_z w64 (of_z w64 b)))))))
    → r ≡ clamp (int_div (a *ℤ pos 1000000) b)
quotient_is a b r ha hb h =
    let fp : FitsSigned w128 (a *ℤ pos 1000000) = fits_signed_mul w128 a (pos 1000000) 1000000000000000000 1000000 (abs_value a ha) (lit≤ tt) (lit< tt) in
    let small : unsigned_abs (a *ℤ pos 1000000) ≤ 1000000000000000000000000 = omega (arith, unsigned_abs-mul a (pos 1000000), abs_value a ha) in
    let fq : FitsSigned w128 (int_div (a *ℤ pos 1000000) b) = fits_signed_from_abs w128 (int_div (a *ℤ pos 1000000) b) (omega (arith, quot_within (a *ℤ pos 1000000) b 1000000000000000000000000 small)) in
    let e = quot_is w128 (a *ℤ pos 1000000) b fp (fits_wide b hb) fq in
    let eb : to_z w64 (of_z w64 b) ≡ b = to_z-of_z w64 b (narrow b hb) in
    let h' = rw (wide a ha, eb) at h in
    h' ∙ ap clamp e

pub dividend_fits : (a : ℤ) → IsValue a → FitsSigned w128 (to_z w128 (of_z w128 (to_z w64 (of_z w64 a))) *ℤ pos 1000000)
dividend_fits a h = rw (wide a h) (fits_signed_mul w128 a (pos 1000000) 1000000000000000000 1000000 (abs_value a h) (lit≤ tt) (lit< tt))

not_none : (n : ℕ) → (n ≡ 0 → ⊥) → 0 < n
not_none zero h = absurd (h refl)
not_none (suc n) h = omega arith

some_wide : (b : ℤ) → IsValue b → (of_z w64 b ≡ 0 → ⊥) → 0 < of_z w128 (to_z w64 (of_z w64 b))
some_wide b h n = not_none (of_z w128 (to_z w64 (of_z w64 b))) (λ e. n (ap (of_z w64) (sym (wide b h) ∙ ap (to_z w128) e)))

pub divides : (a b : ℤ) → IsValue a → IsValue b → (of_z w64 b ≡ 0 → ⊥)
    → (0 < of_z w128 (to_z w64 (of_z w64 b)))
    × FitsSigned w128 (int_div (to_z w128 (of_z w128 (to_z w128 (of_z w128 (to_z w64 (of_z w64 a))) *ℤ pos 1000000))) (to_z w128 (of_z w128 (to_z w64 (of_z w64 b)))))
divides a b ha hb n =
    let fp : FitsSigned w128 (a *ℤ pos 1000000) = fits_signed_mul w128 a (pos 1000000) 1000000000000000000 1000000 (abs_value a ha) (lit≤ tt) (lit< tt) in
    let small : unsigned_abs (a *ℤ pos 1000000) ≤ 1000000000000000000000000 = omega (arith, unsigned_abs-mul a (pos 1000000), abs_value a ha) in
    let fq : FitsSigned w128 (int_div (a *ℤ pos 1000000) b) = fits_signed_from_abs w128 (int_div (a *ℤ pos 1000000) b) (omega (arith, quot_within (a *ℤ pos 1000000) b 1000000000000000000000000 small)) in
    (some_wide b hb n, rw (wide a ha, wide b hb, to_z-of_z w128 (a *ℤ pos 1000000) fp) fq)

pub not_zero : (b : ℤ) → IsValue b → (of_z w64 b ≡ 0 → ⊥) → is_zero b ≡ false
not_zero (pos zero) h n = absurd (n refl)
not_zero (pos (suc b)) h n = refl
not_zero (negsuc b) h n = refl

pub remainder_is : (a b : ℤ) → IsValue a → IsValue b
    → to_z w64 (of_z w64 (int_rem (to_z w64 (of_z w64 a)) (to_z w64 (of_z w64 b)))) ≡ a -ℤ b *ℤ int_div a b
remainder_is a b ha hb =
    let e = rem_is w64 a b (narrow a ha) (narrow b hb) in
    let q = quot-rem a b in
    e ∙ omega (arith, ints, q)

-- the same for values whose views are x and y
along : {R : Type 0} (f : ℤ → ℤ → R) (a b x y : ℤ) → a ≡ x → b ≡ y → f a b ≡ f x y
along f a b x y ea eb = ap (λ z. f z b) ea ∙ ap (f x) eb

pub product_at : (a b x y r : ℤ) → IsValue a → IsValue b → a ≡ x → b ≡ y
    → r ≡ clamp (to_z w128 (of_z w128 (int_div (to_z w128 (of_z w128 (to_z w128 (of_z w128 (to_z w64 (of_z w64 a))) *ℤ to_z w128 (of_z w128 (to_z w64 (of_z w64 b)))))) (pos 1000000))))
    → r ≡ product x y
product_at a b x y r ha hb ea eb h = product_is a b r ha hb h ∙ along product a b x y ea eb

pub quotient_at : (a b x y r : ℤ) → IsValue a → IsValue b → a ≡ x → b ≡ y → (of_z w64 b ≡ 0 → ⊥)
    → r ≡ clamp (to_z w128 (of_z w128 (int_div (to_z w128 (of_z w128 (to_z w128 (of_z w128 (to_z w64 (of_z w64 a))) *ℤ pos 1000000))) (to_z w128 (of_z w128 (to_z w64 (of_z w64 b)))))))
    → Some r ≡ quotient x y
quotient_at a b x y r ha hb ea eb n h =
    let e : Some r ≡ quotient a b = let ez = not_zero b hb n in rw ez (ap Some (quotient_is a b r ha hb h)) in
    e ∙ along quotient a b x y ea eb

pub remainder_at : (a b x y : ℤ) → IsValue a → IsValue b → a ≡ x → b ≡ y → (of_z w64 b ≡ 0 → ⊥)
    → Some (to_z w64 (of_z w64 (int_rem (to_z w64 (of_z w64 a)) (to_z w64 (of_z w64 b))))) ≡ remainder x y
remainder_at a b x y ha hb ea eb n =
    let e : Some (to_z w64 (of_z w64 (int_rem (to_z w64 (of_z w64 a)) (to_z w64 (of_z w64 b))))) ≡ remainder a b = let ez = not_zero b hb n in rw ez (ap Some (remainder_is a b ha hb)) in
    e ∙ along remainder a b x y ea eb
