-- Sums of values: each adds at most a greatest value.
use Rattle.std.proofs.Common.{◌≡◌, ℕ, ◌+◌, ◌*◌, ◌<◌, ◌≤◌, ℤ, ◌+ℤ◌, List, ◌∷◌, length, get_or, drop, FitsSigned, to_z, of_z, w64, sym, ap, ◌∙◌, arith}
use Rattle.std.specs.Prelude.{unsigned_abs}
use Rattle.std.specs.Int.{w128}
use Rattle.std.proofs.lemmas.Int.{ints, fits_signed_from_abs, to_z-of_z}
use Rattle.std.proofs.lemmas.List.{drop_more}
use Rattle.pf_base.specs.Arithmetic.{IsValue}
use Rattle.pf_model.specs.Micros.{total}

-- a value as it is cast
abbrev cast : ℤ → ℤ
cast v = to_z w128 (of_z w128 (to_z w64 (of_z w64 v)))

value_small : (v : ℤ) → IsValue v → unsigned_abs v ≤ 1000000000000000000
value_small v h = omega (arith, ints, h.0, h.1)

cast_is : (v : ℤ) → IsValue v → cast v ≡ v
cast_is v h =
    let small = value_small v h in
    rw (to_z-of_z w64 v (fits_signed_from_abs w64 v (omega arith))) (to_z-of_z w128 v (fits_signed_from_abs w128 v (omega arith)))

module _ (s v : ℤ) (i : ℕ) (small : unsigned_abs s ≤ i * 1000000000000000000) (value : IsValue v) where
  abs_next : unsigned_abs (s +ℤ v) ≤ (i + 1) * 1000000000000000000
  abs_next = let one = value_small v value in omega (arith, ints)

  next_fits : i < 18446744073709551616 → FitsSigned w128 (s +ℤ v)
  next_fits h = let next = abs_next in fits_signed_from_abs w128 (s +ℤ v) (omega arith)

  pub sum_fits : i < 18446744073709551616 → FitsSigned w128 (s +ℤ cast v)
  sum_fits h = rw (cast_is v value) (next_fits h)

  next_is : i < 18446744073709551616 → to_z w128 (of_z w128 (s +ℤ cast v)) ≡ s +ℤ v
  next_is h = rw (cast_is v value) (to_z-of_z w128 (s +ℤ v) (next_fits h))

  pub sum_small : i < 18446744073709551616 → unsigned_abs (to_z w128 (of_z w128 (s +ℤ cast v))) ≤ (i + 1) * 1000000000000000000
  sum_small h = rw (next_is h) abs_next

  pub sum_next : (d : ℤ) (vs : List ℤ) → i < 18446744073709551616 → i < length vs → v ≡ d → d ≡ get_or vs i d → s +ℤ total (drop i vs) ≡ total vs
      → to_z w128 (of_z w128 (s +ℤ cast v)) +ℤ total (drop (i + 1) vs) ≡ total vs
  sum_next d vs h k e f g =
      let cut : drop i vs ≡ v ∷ drop (i + 1) vs = drop_more vs i d k ∙ ap (λ x. x ∷ drop (i + 1) vs) (sym f ∙ sym e) in
      let rest : ℤ = total (drop (i + 1) vs) in
      let order : (s +ℤ v) +ℤ rest ≡ s +ℤ (v +ℤ rest) = omega (arith, ints) in
      ap (λ z. z +ℤ rest) (next_is h) ∙ order ∙ ap (λ xs. s +ℤ total xs) (sym cut) ∙ g
