-- Zeros at the end of digits.
use Rattle.std.proofs.Common.{◌≡◌, ℕ, ◌+◌, ◌<◌, ◌≤◌, Bool, true, false, cond, nat_eq, List, [], ◌∷◌, ◌++◌, length, get_or, take, refl, ap, sym, ◌∙◌, arith}
use Rattle.std.proofs.lemmas.List.{length-take, take_more}
use Rattle.std.proofs.lemmas.Grind.{common_steps}
use Rattle.std.proofs.lemmas.Bool.Decides.{nat_tests}
use Rattle.pf_base.specs.NumberTexts.{with_digit, without_end_zeros}

pub zero_at_end : (xs : List ℕ) → without_end_zeros (xs ++ 48 ∷ []) ≡ without_end_zeros xs
unfolding without_end_zeros
zero_at_end [] = refl
zero_at_end (x ∷ xs) = ap (with_digit x) (zero_at_end xs)

with_full : (b : ℕ) (xs : List ℕ) → 0 < length xs → with_digit b xs ≡ b ∷ xs
with_full b [] h = absurd (omega arith)
with_full b (x ∷ xs) h = refl

pub digit_at_end : (xs : List ℕ) (b : ℕ) → (b ≡ 48 → ⊥) → without_end_zeros (xs ++ b ∷ []) ≡ xs ++ b ∷ []
unfolding without_end_zeros
digit_at_end [] b h = grind (arith, nat_tests)
digit_at_end (x ∷ xs) b h = ap (with_digit x) (digit_at_end xs b h) ∙ with_full x (xs ++ b ∷ []) (grind (arith, common_steps))

pub zero_passed : (xs : List ℕ) (i : ℕ) → i < length xs → get_or xs i 0 ≡ 48 → without_end_zeros (take (i + 1) xs) ≡ without_end_zeros (take i xs)
zero_passed xs i h e = ap without_end_zeros (take_more xs i 0 h ∙ ap (λ d. take i xs ++ d ∷ []) e) ∙ zero_at_end (take i xs)

pub digit_passed : (xs : List ℕ) (i : ℕ) → i < length xs → (get_or xs i 0 ≡ 48 → ⊥) → without_end_zeros (take (i + 1) xs) ≡ take (i + 1) xs
digit_passed xs i h e =
    let t = take_more xs i 0 h in
    ap without_end_zeros t ∙ digit_at_end (take i xs) (get_or xs i 0) e ∙ sym t

pub none_left : [] ≡ without_end_zeros []
unfolding without_end_zeros
none_left = refl

take_none : (xs : List ℕ) → take 0 xs ≡ []
take_none [] = refl
take_none (x ∷ xs) = refl

front_of_digit : (b : ℕ) (ys bs : List ℕ) → take (length ys) bs ≡ ys → take (length (with_digit b ys)) (b ∷ bs) ≡ with_digit b ys
front_of_digit b [] bs h = alone (nat_eq b 48)
  where
    alone : (z : Bool) → take (length (cond z [] (b ∷ []))) (b ∷ bs) ≡ cond z [] (b ∷ [])
    alone true = refl
    alone false = ap (λ l. b ∷ l) (take_none bs)
front_of_digit b (c ∷ cs) bs h = ap (λ l. b ∷ l) h

-- what is left stands in front
pub front_left : (xs : List ℕ) → take (length (without_end_zeros xs)) xs ≡ without_end_zeros xs
unfolding without_end_zeros
front_left [] = refl
front_left (x ∷ xs) = front_of_digit x (without_end_zeros xs) xs (front_left xs)

pub at_most_all : (xs : List ℕ) → length (without_end_zeros xs) ≤ length xs
at_most_all xs = omega (arith, ap length (front_left xs), length-take (length (without_end_zeros xs)) xs)
