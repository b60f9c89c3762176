-- The least and the greatest of some numbers, with one number more.
use Rattle.std.proofs.Common.{◌≡◌, ℤ, List, [], ◌∷◌, arith, refl, sym, ap, ◌∙◌}
use Rattle.std.proofs.lemmas.Int.{ints}
use Rattle.std.specs.Int.{int_max, int_min}
use Rattle.pf_base.specs.declared.plain.Sample.{Sample}
use Rattle.pf_model.specs.Micros.{greatest, least}
use Rattle.pf_model.specs.RangeFunctions.{values}

min_assoc : (a b c : ℤ) → int_min (int_min a b) c ≡ int_min a (int_min b c)
min_assoc a b c = grind (arith, ints)

max_assoc : (a b c : ℤ) → int_max (int_max a b) c ≡ int_max a (int_max b c)
max_assoc a b c = grind (arith, ints)

least_next : (a b : ℤ) (vs : List ℤ) → least (int_min a b ∷ vs) ≡ least (a ∷ b ∷ vs)
least_next a b [] = refl
least_next a b (v ∷ vs) = min_assoc a b (least (v ∷ vs))

greatest_next : (a b : ℤ) (vs : List ℤ) → greatest (int_max a b ∷ vs) ≡ greatest (a ∷ b ∷ vs)
greatest_next a b [] = refl
greatest_next a b (v ∷ vs) = max_assoc a b (greatest (v ∷ vs))

pub least_more : (a r w : ℤ) (s : Sample) (rest more : List Sample) → rest ≡ s ∷ more → r ≡ int_min a s.value → least (a ∷ values rest) ≡ w → least (r ∷ values more) ≡ w
least_more a r w s rest more e m h = ap (λ z. least (z ∷ values more)) m ∙ least_next a s.value (values more) ∙ sym (ap (λ ss. least (a ∷ values ss)) e) ∙ h

pub greatest_more : (a r w : ℤ) (s : Sample) (rest more : List Sample) → rest ≡ s ∷ more → r ≡ int_max a s.value → greatest (a ∷ values rest) ≡ w → greatest (r ∷ values more) ≡ w
greatest_more a r w s rest more e m h = ap (λ z. greatest (z ∷ values more)) m ∙ greatest_next a s.value (values more) ∙ sym (ap (λ ss. greatest (a ∷ values ss)) e) ∙ h
