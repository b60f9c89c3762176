-- What a sort gives is the one ascending list of the same elements, which `isort` computes.
use Rattle.std.proofs.Common.{◌≡◌, ℕ, suc, ◌+◌, ◌<◌, Bool, true, false, cond, List, [], ◌∷◌, refl, sym, ap, ◌∙◌, subst, get_or, arith, add-one}
use Rattle.std.specs.List.{All}
use Rattle.std.specs.List.Sorted.{IsPermutation, IsSorted}
use Rattle.std.specs.Cmp.{IsTotalOrder, upto, tied_itself, Equal-is}
use Rattle.std.specs.Ordering.{is_gt, is_lt, is_eq, ordering_reverse}
use Rattle.std.specs.declared.cmp.Ordering.{Ordering}
use Rattle.std.specs.declared.cmp.Ordering.TheVariants.{Less, Equal, Greater}
use Rattle.std.proofs.lemmas.List.Elements.{All-head, All-tail, All-cons, All-nil}
use Rattle.std.proofs.lemmas.List.Sorted.{sorted_far, ranks_by, sum_by-IsPermutation}
use Rattle.std.proofs.lemmas.List.Recursion.{is_sum_by}
use Rattle.pf_base.specs.Sorting.{ins, isort}

-- the two tests of one pair of elements, the other way round
pub gt_reverse : (a b : Ordering) → a ≡ ordering_reverse b → is_lt b ≡ false → is_gt a ≡ false
gt_reverse a Less e h = cc
gt_reverse a Equal e h = ap is_gt e
gt_reverse a Greater e h = ap is_gt e

lt_reverse : (a b : Ordering) → a ≡ ordering_reverse b → is_gt b ≡ true → is_gt a ≡ false
lt_reverse a Less e h = cc
lt_reverse a Equal e h = cc
lt_reverse a Greater e h = ap is_gt e

-- neither is above the other
pub level : (a b : Ordering) → a ≡ ordering_reverse b → is_gt a ≡ false → is_gt b ≡ false → a ≡ Equal
level a Less e g h = absurd (the_same (sym g ∙ ap is_gt e)) where
  the_same : false ≡ true → ⊥
  the_same p = cc
level a Equal e g h = e
level a Greater e g h = cc

module _ {X : Type 0} (R : X → X → Ordering) where
  -- each element is at most all those after it
  abbrev pub Ascends : List X → Type 0
  Ascends [] = Unit {0}
  Ascends (x ∷ xs) = All (λ y. is_gt (R x y) ≡ false) xs × Ascends xs

  abbrev pub copies : X → List X → ℕ
  copies z [] = 0
  copies z (x ∷ xs) = cond (is_eq (R z x)) 1 0 + copies z xs

  module _ (o : IsTotalOrder R) where
    far : (x : X) (xs : List X) → IsSorted R (x ∷ xs) → All (λ y. is_gt (R x y) ≡ false) xs
    far x xs s k d h =
        gt_reverse (R x (get_or xs k d)) (R (get_or xs k d) x) (o.antisymm x (get_or xs k d))
        (sorted_far (λ a b. is_lt (R a b)) (ranks_by o (λ a. a)) (x ∷ xs) s 0 (suc k) d (omega arith) (omega arith))

    tail_sorted : (x : X) (xs : List X) → IsSorted R (x ∷ xs) → IsSorted R xs
    tail_sorted x xs s k d l h = let t = s (suc k) d (omega arith) (omega arith) in simp add-one (simp add-one at t)

    pub ascends_sorted : (xs : List X) → IsSorted R xs → Ascends xs
    ascends_sorted [] s = tt
    ascends_sorted (x ∷ xs) s = (far x xs s, ascends_sorted xs (tail_sorted x xs s))

    pub All-ins : (P : X → Type 0) (x : X) (ys : List X) → P x → All P ys → All P (ins R x ys)
    All-ins P x [] p a = All-cons P x [] p a
    All-ins P x (y ∷ ys) p a =
        elim (is_gt (R x y)) as (λ b. All P (cond b (y ∷ ins R x ys) (x ∷ y ∷ ys))) [
          | true ↦ All-cons P y (ins R x ys) (All-head P y ys a) (All-ins P x ys p (All-tail P y ys a))
          | false ↦ All-cons P x (y ∷ ys) p a
        ]

    front : (x y : X) (ys : List X) → is_gt (R x y) ≡ false → All (λ z. is_gt (R y z) ≡ false) ys → All (λ z. is_gt (R x z) ≡ false) (y ∷ ys)
    front x y ys h a = All-cons (λ z. is_gt (R x z) ≡ false) y ys h (λ k d l. upto o x y (get_or ys k d) h (a k d l))

    ascends_ins_by : (x y : X) (ys : List X) (b : Bool) → is_gt (R x y) ≡ b → Ascends (y ∷ ys) → Ascends (ins R x ys) → Ascends (cond b (y ∷ ins R x ys) (x ∷ y ∷ ys))
    ascends_ins_by x y ys true e a i = (All-ins (λ z. is_gt (R y z) ≡ false) x ys (lt_reverse (R y x) (R x y) (o.antisymm y x) e) a.0, i)
    ascends_ins_by x y ys false e a i = (front x y ys e a.0, a)

    pub ascends_ins : (x : X) (ys : List X) → Ascends ys → Ascends (ins R x ys)
    ascends_ins x [] a = (All-nil (λ y. is_gt (R x y) ≡ false), tt)
    ascends_ins x (y ∷ ys) a = ascends_ins_by x y ys (is_gt (R x y)) refl a (ascends_ins x ys a.1)

    pub ascends_isort : (xs : List X) → Ascends (isort R xs)
    ascends_isort [] = tt
    ascends_isort (x ∷ xs) = ascends_ins x (isort R xs) (ascends_isort xs)

    copies_ins_by : (z x y : X) (ys : List X) (b : Bool) → copies z (ins R x ys) ≡ cond (is_eq (R z x)) 1 0 + copies z ys →
        copies z (cond b (y ∷ ins R x ys) (x ∷ y ∷ ys)) ≡ cond (is_eq (R z x)) 1 0 + (cond (is_eq (R z y)) 1 0 + copies z ys)
    copies_ins_by z x y ys true e = omega (arith, e)
    copies_ins_by z x y ys false e = refl

    copies_ins : (z x : X) (ys : List X) → copies z (ins R x ys) ≡ cond (is_eq (R z x)) 1 0 + copies z ys
    copies_ins z x [] = refl
    copies_ins z x (y ∷ ys) = copies_ins_by z x y ys (is_gt (R x y)) (copies_ins z x ys)

    pub copies_isort : (z : X) (xs : List X) → copies z (isort R xs) ≡ copies z xs
    copies_isort z [] = refl
    copies_isort z (x ∷ xs) = copies_ins z x (isort R xs) ∙ ap (λ n. cond (is_eq (R z x)) 1 0 + n) (copies_isort z xs)

    copies_permuted : (z : X) (xs ys : List X) → IsPermutation xs ys → copies z ys ≡ copies z xs
    copies_permuted z xs ys p =
        let f : X → ℕ = λ x. cond (is_eq (R z x)) 1 0 in
        is_sum_by (copies z) f refl (λ _ _. refl) ys ∙ sum_by-IsPermutation f xs ys p ∙ sym (is_sum_by (copies z) f refl (λ _ _. refl) xs)

    module _ (exact : (x y : X) → R x y ≡ Equal → x ≡ y) where
      -- what holds of each element holds of one that is counted
      counted_by : (P : X → Type 0) (x y : X) (ys : List X) (b : Bool) → is_eq (R x y) ≡ b → P y → (0 < copies x ys → P x) → 0 < cond b 1 0 + copies x ys → P x
      counted_by P x y ys true e p rest h = subst P (sym (exact x y ((Equal-is (R x y)).0 e))) p
      counted_by P x y ys false e p rest h = rest (omega arith)

      counted : (P : X → Type 0) (x : X) (ys : List X) → All P ys → 0 < copies x ys → P x
      counted P x [] a h = absurd (omega arith)
      counted P x (y ∷ ys) a h = counted_by P x y ys (is_eq (R x y)) refl (All-head P y ys a) (counted P x ys (All-tail P y ys a)) h

      own : (x : X) (xs : List X) → 0 < copies x (x ∷ xs)
      own x xs = let e : ◌≡◌ {A = ℕ} (cond (is_eq (R x x)) 1 0) 1 = ap (λ r. cond (is_eq r) 1 0) (tied_itself o x) in omega (arith, e)

      least : (x y : X) (xs ys : List X) → Ascends (y ∷ ys) → copies x (x ∷ xs) ≡ copies x (y ∷ ys) → is_gt (R y x) ≡ false
      least x y xs ys a e =
          let P : X → Type 0 = λ z. is_gt (R y z) ≡ false in
          counted P x (y ∷ ys) (All-cons P y ys (ap is_gt (tied_itself o y)) a.0) (subst (λ n. 0 < n) e (own x xs))

      heads : (x y : X) (xs ys : List X) → Ascends (x ∷ xs) → Ascends (y ∷ ys) → ((z : X) → copies z (x ∷ xs) ≡ copies z (y ∷ ys)) → x ≡ y
      heads x y xs ys a b e =
          exact x y (level (R x y) (R y x) (o.antisymm x y) (least y x ys xs a (sym (e y))) (least x y xs ys b (e x)))

      tails : (x y : X) (xs ys : List X) → x ≡ y → (z : X) → copies z (x ∷ xs) ≡ copies z (y ∷ ys) → copies z xs ≡ copies z ys
      tails x y xs ys h z e =
          let q : ◌≡◌ {A = ℕ} (cond (is_eq (R z x)) 1 0) (cond (is_eq (R z y)) 1 0) = ap (λ w. cond (is_eq (R z w)) 1 0) h in
          omega (arith, q, e)

      one_order : (xs ys : List X) → Ascends xs → Ascends ys → ((z : X) → copies z xs ≡ copies z ys) → xs ≡ ys
      one_order [] [] a b e = refl
      one_order [] (y ∷ ys) a b e = let h : 0 < copies y (y ∷ ys) = own y ys in absurd (omega (arith, e y))
      one_order (x ∷ xs) [] a b e = let h : 0 < copies x (x ∷ xs) = own x xs in absurd (omega (arith, e x))
      one_order (x ∷ xs) (y ∷ ys) a b e =
          let h = heads x y xs ys a b e in
          let t = one_order xs ys a.1 b.1 (λ z. tails x y xs ys h z (e z)) in
          λ i. h i ∷ t i

      -- what a sort ensures
      pub sorted_is : (xs ys : List X) → IsPermutation xs ys → IsSorted R ys → ys ≡ isort R xs
      sorted_is xs ys p s =
          one_order ys (isort R xs) (ascends_sorted ys s) (ascends_isort xs) (λ z. copies_permuted z xs ys p ∙ sym (copies_isort z xs))
