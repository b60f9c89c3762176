-- A sort by insertion moves the elements, and what ascends is sorted.
use Rattle.std.proofs.Common.{◌≡◌, ◌<◌, ℕ, zero, suc, Bool, true, false, cond, List, [], ◌∷◌, length, get_or, sym, ap, subst, add-one, arith}
use Rattle.std.specs.Cmp.{IsTotalOrder}
use Rattle.std.specs.List.{All}
use Rattle.std.specs.List.Sorted.{IsPermutation, IsSorted}
use Rattle.std.specs.Ordering.{is_gt, is_lt, ordering_reverse}
use Rattle.std.specs.declared.cmp.Ordering.{Ordering}
use Rattle.std.specs.declared.cmp.Ordering.TheVariants.{Less, Equal, Greater}
use Rattle.std.proofs.lemmas.List.Sorted.{IsPermutation-cons, IsPermutation-middle, IsPermutation-refl, IsPermutation-trans}
use Rattle.pf_base.specs.Sorting.{ins, isort}
use Rattle.pf_base.proofs.Sorting.{Ascends}

pub not_below : (a b : Ordering) → a ≡ ordering_reverse b → is_gt b ≡ false → is_lt a ≡ false
not_below a Less e h = ap is_lt e
not_below a Equal e h = ap is_lt e
not_below a Greater e h = cc

module _ {X : Type 0} (R : X → X → Ordering) where
  insert_moves_by : (x y : X) (ys : List X) (b : Bool) → IsPermutation (x ∷ ys) (ins R x ys) → IsPermutation (x ∷ y ∷ ys) (cond b (y ∷ ins R x ys) (x ∷ y ∷ ys))
  insert_moves_by x y ys true p =
      IsPermutation-trans (x ∷ y ∷ ys) (y ∷ x ∷ ys) (y ∷ ins R x ys) (IsPermutation-middle (x ∷ []) y ys) (IsPermutation-cons y (x ∷ ys) (ins R x ys) p)
  insert_moves_by x y ys false p = IsPermutation-refl (x ∷ y ∷ ys)

  insert_moves : (x : X) (ys : List X) → IsPermutation (x ∷ ys) (ins R x ys)
  insert_moves x [] = IsPermutation-refl (x ∷ [])
  insert_moves x (y ∷ ys) = insert_moves_by x y ys (is_gt (R x y)) (insert_moves x ys)

  pub sort_moves : (xs : List X) → IsPermutation xs (isort R xs)
  sort_moves [] = IsPermutation-refl []
  sort_moves (x ∷ xs) =
      IsPermutation-trans (x ∷ xs) (x ∷ isort R xs) (isort R (x ∷ xs)) (IsPermutation-cons x xs (isort R xs) (sort_moves xs)) (insert_moves x (isort R xs))

  module _ (o : IsTotalOrder R) where
    sorted_by : (x : X) (xs : List X) → All (λ y. is_gt (R x y) ≡ false) xs → (d : X) → 0 < length xs → is_lt (R (get_or xs 0 d) x) ≡ false
    sorted_by x xs a d h = not_below (R (get_or xs 0 d) x) (R x (get_or xs 0 d)) (o.antisymm (get_or xs 0 d) x) (a 0 d h)

    sorted : (xs : List X) → Ascends R xs → (k : ℕ) (d : X) → suc k < length xs → is_lt (R (get_or xs (suc k) d) (get_or xs k d)) ≡ false
    sorted [] a k d h = absurd (omega (arith, h))
    sorted (x ∷ xs) a zero d h = sorted_by x xs a.0 d (omega (arith, h))
    sorted (x ∷ xs) a (suc k) d h = sorted xs a.1 k d (omega (arith, h))

    pub is_sorted : (xs : List X) → Ascends R xs → IsSorted R xs
    is_sorted xs a k d l h =
        subst (λ i. is_lt (R (get_or xs i d) (get_or xs k d)) ≡ false) (sym (add-one k)) (sorted xs a k d (omega (arith, h)))
