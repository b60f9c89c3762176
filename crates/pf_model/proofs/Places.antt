-- The first place at which a test passes, by recursion.
use Rattle.std.proofs.Common.{◌≡◌, ◌∙◌, ℕ, suc, ◌+◌, ◌-◌, Bool, true, false, not, cond, Option, Some, None, option_map, List, [], ◌∷◌, length, take, drop, nat_lt, refl, ap, arith}
use Rattle.std.proofs.lemmas.Grind.{common_steps}
use Rattle.std.specs.List.{prefix_len, position}

abbrev pub place : (ℕ → Bool) → List ℕ → Option ℕ
place p [] = None
place p (x ∷ xs) = cond (p x) (Some 0) (option_map suc (place p xs))

raised : (m x : ℕ) (xs : List ℕ) → cond (nat_lt (1 + m) (length (x ∷ xs))) (Some (1 + m)) None ≡ option_map suc (cond (nat_lt m (length xs)) (Some m) None)
raised m x xs = grind (arith, common_steps)

abbrev until : (ℕ → Bool) → List ℕ → ℕ
until p xs = prefix_len (λ x. not (p x)) xs

place_by : (p : ℕ → Bool) (x : ℕ) (xs : List ℕ) (t : Bool) → position p xs ≡ place p xs
    → cond (nat_lt (cond (not t) (1 + until p xs) 0) (length (x ∷ xs))) (Some (cond (not t) (1 + until p xs) 0)) None ≡ cond t (Some 0) (option_map suc (place p xs))
place_by p x xs true e = grind (arith, common_steps)
place_by p x xs false e = raised (until p xs) x xs ∙ ap (option_map suc) e

pub position_is : (p : ℕ → Bool) (xs : List ℕ) → position p xs ≡ place p xs
position_is p [] = refl
position_is p (x ∷ xs) = place_by p x xs (p x) (position_is p xs)

-- what a range up to the end takes
pub rest_taken : (xs : List ℕ) (n : ℕ) → take (length xs - n) (drop n xs) ≡ drop n xs
rest_taken xs n = grind (arith, common_steps)
