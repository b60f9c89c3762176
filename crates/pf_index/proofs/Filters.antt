-- Filters one after another.
use Rattle.std.proofs.Common.{◌≡◌, suc, Bool, true, false, cond, ◌&&◌, List, [], ◌∷◌, filter, refl, sym, ap, ◌∙◌, arith}
use Rattle.std.specs.List.{All}

module _ {X : Type 0} where
  pub filter_twice : (p q r : X → Bool) → ((x : X) → r x ≡ (p x && q x)) → (xs : List X) → filter q (filter p xs) ≡ filter r xs
  filter_twice p q r h [] = refl
  filter_twice p q r h (x ∷ xs) =
      twice_by (p x) ∙ (λ i. cond (p x && q x) (x ∷ filter_twice p q r h xs i) (filter_twice p q r h xs i))
      ∙ ap (λ b. cond b (x ∷ filter r xs) (filter r xs)) (sym (h x)) where
        twice_by : (b : Bool) → filter q (cond b (x ∷ filter p xs) (filter p xs)) ≡ cond (b && q x) (x ∷ filter q (filter p xs)) (filter q (filter p xs))
        twice_by true = refl
        twice_by false = refl

  pub filter_whole : (p : X → Bool) (xs : List X) → All (λ x. p x ≡ true) xs → filter p xs ≡ xs
  filter_whole p [] a = refl
  filter_whole p (x ∷ xs) a =
      ap (λ b. cond b (x ∷ filter p xs) (filter p xs)) (a 0 x (omega arith)) ∙ ap (λ l. x ∷ l) (filter_whole p xs (λ k d h. a (suc k) d (omega (arith, h))))
