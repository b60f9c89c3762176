-- Sums of values, as the code adds them: each adds at most a greatest value.
use Rattle.std.proofs.Common.{◌≡◌, ℕ, ◌+◌, ◌*◌, ◌≤◌, ℤ, pos, ◌+ℤ◌, ◌-ℤ◌, FitsSigned, to_z, of_z, w64, ap, ◌∙◌, arith}
use mir.Syntax.{w128}
use Rattle.std.specs.Prelude.{unsigned_abs}
use Rattle.std.proofs.lemmas.Int.{ints, fits_signed_from_abs, to_z-of_z}
use Rattle.pf_base.specs.Arithmetic.{IsValue}

-- a value as it is widened
abbrev pub wide : ℤ → ℤ
wide v = to_z w128 (of_z w128 (to_z w64 (of_z w64 v)))

pub value_small : (v : ℤ) → IsValue v → unsigned_abs v ≤ 1000000000000000000
value_small v h = omega (arith, ints, h.0, h.1)

pub wide_is : (v : ℤ) → unsigned_abs v ≤ 1000000000000000000 → wide v ≡ v
wide_is v small = rw (to_z-of_z w64 v (fits_signed_from_abs w64 v (omega arith))) (to_z-of_z w128 v (fits_signed_from_abs w128 v (omega arith)))

module _ (s v : ℤ) (i : ℕ) (small : unsigned_abs s ≤ i * 1000000000000000000) (value : IsValue v) (few : i ≤ 2251799813685248) where
  one : unsigned_abs v ≤ 1000000000000000000
  one = value_small v value

  next_abs : unsigned_abs (s +ℤ v) ≤ (i + 1) * 1000000000000000000
  next_abs = let o = one in omega (arith, ints, o, small)

  next_fits : FitsSigned w128 (s +ℤ v)
  next_fits = let next = next_abs in fits_signed_from_abs w128 (s +ℤ v) (omega (arith, next, few))

  pub sum_fits : FitsSigned w128 (s +ℤ wide v)
  sum_fits = rw (wide_is v one) next_fits

  sum_is : to_z w128 (of_z w128 (s +ℤ wide v)) ≡ s +ℤ v
  sum_is = rw (wide_is v one) (to_z-of_z w128 (s +ℤ v) next_fits)

  pub sum_small : unsigned_abs (to_z w128 (of_z w128 (s +ℤ wide v))) ≤ (i + 1) * 1000000000000000000
  sum_small = rw sum_is next_abs

  pub sum_next : (d rest all : ℤ) → v ≡ d → s +ℤ (d +ℤ rest) ≡ all → to_z w128 (of_z w128 (s +ℤ wide v)) +ℤ rest ≡ all
  sum_next d rest all e h =
      let order : (s +ℤ v) +ℤ rest ≡ s +ℤ (v +ℤ rest) = omega (arith, ints) in
      ap (λ z. z +ℤ rest) sum_is ∙ order ∙ ap (λ z. s +ℤ (z +ℤ rest)) e ∙ h

-- a difference of values and a sum
pub grown : (a b x y s t : ℤ) (i : ℕ) → IsValue a → IsValue b → unsigned_abs s ≤ i * 1000000000000000000 → i ≤ 2251799813685248 → a ≡ x → b ≡ y → s +ℤ pos 0 ≡ t
    → to_z w128 (of_z w128 (to_z w128 (of_z w128 (wide a -ℤ wide b)) +ℤ s)) ≡ x -ℤ y +ℤ t
grown a b x y s t i av bv small few ax by st =
    let asmall = value_small a av in
    let bsmall = value_small b bv in
    let change : FitsSigned w128 (a -ℤ b) = fits_signed_from_abs w128 (a -ℤ b) (omega (arith, ints, asmall, bsmall)) in
    let sum : FitsSigned w128 (a -ℤ b +ℤ s) = fits_signed_from_abs w128 (a -ℤ b +ℤ s) (omega (arith, ints, asmall, bsmall, small, few)) in
    let whole : s ≡ t = omega (arith, ints, st) in
    rw (wide_is a asmall, wide_is b bsmall, to_z-of_z w128 (a -ℤ b) change, to_z-of_z w128 (a -ℤ b +ℤ s) sum) (λ j. ax j -ℤ by j +ℤ whole j)

pub grown_fits : (a b s : ℤ) (i : ℕ) → IsValue a → IsValue b → unsigned_abs s ≤ i * 1000000000000000000 → i ≤ 2251799813685248
    → FitsSigned w128 (to_z w128 (of_z w128 (to_z w128 (of_z w128 (wide a -ℤ wide b)) +ℤ s)))
grown_fits a b s i av bv small few =
    let asmall = value_small a av in
    let bsmall = value_small b bv in
    let change : FitsSigned w128 (a -ℤ b) = fits_signed_from_abs w128 (a -ℤ b) (omega (arith, ints, asmall, bsmall)) in
    let sum : FitsSigned w128 (a -ℤ b +ℤ s) = fits_signed_from_abs w128 (a -ℤ b +ℤ s) (omega (arith, ints, asmall, bsmall, small, few)) in
    rw (wide_is a asmall, wide_is b bsmall, to_z-of_z w128 (a -ℤ b) change, to_z-of_z w128 (a -ℤ b +ℤ s) sum) sum
