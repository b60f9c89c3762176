-- The least and the greatest of some numbers, one after another, and what is within the bounds of values.
use Rattle.std.proofs.Common.{◌≡◌, ℤ, pos, List, [], ◌∷◌, length, arith, refl}
use Rattle.std.proofs.lemmas.Int.{ints}
use Rattle.std.specs.Int.{int_max, int_min}
use Rattle.pf_base.specs.Arithmetic.{clamp}
use Rattle.pf_model.specs.Micros.{greatest, least, one}

min_assoc : (a b c : ℤ) → int_min (int_min a b) c ≡ int_min a (int_min b c)
min_assoc a b c = grind (arith, ints)

max_assoc : (a b c : ℤ) → int_max (int_max a b) c ≡ int_max a (int_max b c)
max_assoc a b c = grind (arith, ints)

pub least_next : (a b : ℤ) (vs : List ℤ) → least (int_min a b ∷ vs) ≡ least (a ∷ b ∷ vs)
least_next a b [] = refl
least_next a b (v ∷ vs) = min_assoc a b (least (v ∷ vs))

pub greatest_next : (a b : ℤ) (vs : List ℤ) → greatest (int_max a b ∷ vs) ≡ greatest (a ∷ b ∷ vs)
greatest_next a b [] = refl
greatest_next a b (v ∷ vs) = max_assoc a b (greatest (v ∷ vs))

pub least_of_none : (vs : List ℤ) → length vs ≡ 0 → least vs ≡ pos 0
least_of_none [] h = refl
least_of_none (v ∷ vs) h = absurd (omega (arith, h))

pub greatest_of_none : (vs : List ℤ) → length vs ≡ 0 → greatest vs ≡ pos 0
greatest_of_none [] h = refl
greatest_of_none (v ∷ vs) h = absurd (omega (arith, h))

pub one_is : clamp (pos 1000000) ≡ one
unfolding clamp
one_is = refl

pub nothing_is : clamp (pos 0) ≡ pos 0
unfolding clamp
nothing_is = refl
