-- Bytes of one kind in front of others.
use Rattle.std.proofs.Common.{◌≡◌, ◌∙◌, ℕ, suc, ◌+◌, Bool, true, false, not, cond, Option, Some, None, List, [], ◌∷◌, length, take, drop, nat_lt, refl, sym, ap, arith}
use Rattle.std.proofs.lemmas.Grind.{common_steps}
use Rattle.std.specs.Prelude.{unwrap_or}
use Rattle.std.specs.List.{list_all, prefix_len, position}
use Rattle.pf_expo.specs.Scans.{front_of, past}

pub not_not : (b : Bool) → b ≡ not (not b)
not_not true = refl
not_not false = refl

-- where a test first holds, or the length
abbrev end_of : (ℕ → Bool) → List ℕ → ℕ
end_of q [] = 0
end_of q (x ∷ xs) = cond (q x) 0 (suc (end_of q xs))

abbrev before : (ℕ → Bool) → List ℕ → ℕ
before q xs = prefix_len (λ b. not (q b)) xs

chosen : (m n : ℕ) → unwrap_or (cond (nat_lt m n) (Some m) None) n ≡ cond (nat_lt m n) m n
chosen m n = grind (arith, common_steps)

step_by : (q : ℕ → Bool) (x : ℕ) (xs : List ℕ) (t : Bool) → unwrap_or (position q xs) (length xs) ≡ end_of q xs
    → unwrap_or (cond (nat_lt (cond (not t) (1 + before q xs) 0) (length (x ∷ xs))) (Some (cond (not t) (1 + before q xs) 0)) None) (length (x ∷ xs)) ≡ cond t 0 (suc (end_of q xs))
step_by q x xs true e = grind (arith, common_steps)
step_by q x xs false e = grind (arith, common_steps)

place_is : (q : ℕ → Bool) (xs : List ℕ) → unwrap_or (position q xs) (length xs) ≡ end_of q xs
place_is q [] = refl
place_is q (x ∷ xs) = step_by q x xs (q x) (place_is q xs)

front_by : (p : ℕ → Bool) (x n : ℕ) (xs : List ℕ) (t : Bool) → take n xs ≡ front_of p xs → take (cond t 0 (suc n)) (x ∷ xs) ≡ cond (not t) (x ∷ front_of p xs) []
front_by p x n xs true e = refl
front_by p x n xs false e = ap (λ ys. x ∷ ys) e

front_at : (p q : ℕ → Bool) → ((b : ℕ) → p b ≡ not (q b)) → (xs : List ℕ) → take (end_of q xs) xs ≡ front_of p xs
front_at p q f [] = refl
front_at p q f (x ∷ xs) = front_by p x (end_of q xs) xs (q x) (front_at p q f xs) ∙ ap (λ t. cond t (x ∷ front_of p xs) []) (sym (f x))

past_by : (p : ℕ → Bool) (x n : ℕ) (xs : List ℕ) (t : Bool) → drop n xs ≡ past p xs → drop (cond t 0 (suc n)) (x ∷ xs) ≡ cond (not t) (past p xs) (x ∷ xs)
past_by p x n xs true e = refl
past_by p x n xs false e = e

past_at : (p q : ℕ → Bool) → ((b : ℕ) → p b ≡ not (q b)) → (xs : List ℕ) → drop (end_of q xs) xs ≡ past p xs
past_at p q f [] = refl
past_at p q f (x ∷ xs) = past_by p x (end_of q xs) xs (q x) (past_at p q f xs) ∙ ap (λ t. cond t (past p xs) (x ∷ xs)) (sym (f x))

pub span_front : (p q : ℕ → Bool) → ((b : ℕ) → p b ≡ not (q b)) → (xs : List ℕ) (place : Option ℕ) → place ≡ position q xs → take (unwrap_or place (length xs)) xs ≡ front_of p xs
span_front p q f xs place e = ap (λ o. take (unwrap_or o (length xs)) xs) e ∙ ap (λ n. take n xs) (place_is q xs) ∙ front_at p q f xs

pub span_past : (p q : ℕ → Bool) → ((b : ℕ) → p b ≡ not (q b)) → (xs : List ℕ) (place : Option ℕ) → place ≡ position q xs → drop (unwrap_or place (length xs)) xs ≡ past p xs
span_past p q f xs place e = ap (λ o. drop (unwrap_or o (length xs)) xs) e ∙ ap (λ n. drop n xs) (place_is q xs) ∙ past_at p q f xs

all_by : (p : ℕ → Bool) (b : ℕ) (bs : List ℕ) (t : Bool) → p b ≡ t → list_all p (front_of p bs) ≡ true → list_all p (cond t (b ∷ front_of p bs) []) ≡ true
all_by p b bs true e h = rw e h
all_by p b bs false e h = refl

pub front_all : (p : ℕ → Bool) (bs : List ℕ) → list_all p (front_of p bs) ≡ true
front_all p [] = refl
front_all p (b ∷ bs) = all_by p b bs (p b) refl (front_all p bs)
