-- A list of the values of a function below a number is read by its places.
use Rattle.std.proofs.Common.{◌≡◌, ◌<◌, ◌⊎◌, inl, inr, ℕ, zero, suc, ◌+◌, List, [], ◌∷◌, ◌++◌, map, length, refl, sym, ap, ◌∙◌, subst, add-one, arith}
use Rattle.std.specs.Prelude.{slice_index_or}
use Rattle.std.proofs.Math.ListN.{get_or-append}
use Rattle.std.proofs.Math.Seq.{get_or-append_seam}
use Rattle.std.proofs.lemmas.List.{length-append}
use Rattle.pf_model.specs.Merging.{below}

pub length_below : {X : Type 0} (f : ℕ → X) (n : ℕ) → length (below f n) ≡ n
length_below f zero = refl
length_below f (suc n) = length-append (below f n) (f n ∷ []) ∙ ap (λ k. k + 1) (length_below f n) ∙ add-one n

pub lt_or_is : (k n : ℕ) → k < suc n → (k < n) ⊎ (k ≡ n)
lt_or_is zero zero h = inr refl
lt_or_is zero (suc n) h = inl (omega arith)
lt_or_is (suc k) zero h = absurd (omega (arith, h))
lt_or_is (suc k) (suc n) h = elim (lt_or_is k n (omega (arith, h))) [ inl a ↦ inl (omega (arith, a)) | inr a ↦ inr (ap suc a) ]

pub in_below : {X : Type 0} (f : ℕ → X) (n k : ℕ) (d : X) → k < n → slice_index_or (below f n) k d ≡ f k
in_below f zero k d h = absurd (omega (arith, h))
in_below f (suc n) k d h = elim (lt_or_is k n h) [
  | inl a ↦ get_or-append (below f n) (f n ∷ []) d k (subst (λ m. k < m) (sym (length_below f n)) a) ∙ in_below f n k d a
  | inr a ↦ ap (λ m. slice_index_or (below f n ++ (f n ∷ [])) m d) (a ∙ sym (length_below f n)) ∙ get_or-append_seam (below f n) (f n) [] d ∙ ap f (sym a)
]

-- a list that is one is read
pub read_below : {X : Type 0} (d : X) (xs : List X) (f : ℕ → X) (n k : ℕ) → xs ≡ below f n → k < n → slice_index_or xs k d ≡ f k
read_below d xs f n k e h = ap (λ ys. slice_index_or ys k d) e ∙ in_below f n k d h

pub first_below : {X : Type 0} (f : ℕ → X) (n : ℕ) → below f (suc n) ≡ f 0 ∷ below (λ k. f (suc k)) n
first_below f zero = refl
first_below f (suc n) = ap (λ xs. xs ++ (f (suc n) ∷ [])) (first_below f n)

-- a list is known by its places
pub below_is : {X Y : Type 0} (f : X → Y) (h : ℕ → Y) (d : X) (xs : List X) → ((k : ℕ) → k < length xs → h k ≡ f (slice_index_or xs k d)) → below h (length xs) ≡ map f xs
below_is f h d [] e = refl
below_is f h d (x ∷ xs) e =
    first_below h (length xs)
    ∙ λ i. e 0 (omega arith) i ∷ below_is f (λ k. h (suc k)) d xs (λ k l. e (suc k) (omega (arith, l))) i
