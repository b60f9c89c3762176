-- Sorts: of a part of the elements, of elements that are moved, and of one list put among another.
use Rattle.std.proofs.Common.{◌≡◌, ℕ, zero, suc, ◌+◌, ◌<◌, ◌≤◌, Bool, true, false, cond, List, [], ◌∷◌, ◌++◌, length, map, filter, take, drop, get_or, refl, sym, ap, ◌∙◌, subst, arith}
use Rattle.std.specs.Cmp.{IsTotalOrder, upto}
use Rattle.std.specs.List.{All}
use Rattle.std.specs.List.Sorted.{IsPermutation, IsSorted}
use Rattle.std.specs.Ordering.{is_gt, is_lt}
use Rattle.std.specs.declared.cmp.Ordering.{Ordering}
use Rattle.std.specs.declared.cmp.Ordering.TheVariants.{Less, Equal, Greater}
use Rattle.std.proofs.lemmas.List.{get_or_default}
use Rattle.std.proofs.lemmas.List.Elements.{All-cons, All-head, All-tail}
use Rattle.std.proofs.lemmas.List.Sorted.{IsPermutation-append, IsPermutation-append_comm, IsPermutation-trans}
use Rattle.pf_base.specs.Sorting.{ins, isort}
use Rattle.pf_base.proofs.Sorted.{is_sorted, sort_moves}
use Rattle.pf_base.proofs.Sorting.{All-ins, Ascends, ascends_isort, sorted_is}

-- ---- a filter over a sorted list

module _ {X : Type 0} (R : X → X → Ordering) (o : IsTotalOrder R) where
  pub least_first : (x : X) (ys : List X) → All (λ y. is_gt (R x y) ≡ false) ys → ins R x ys ≡ x ∷ ys
  least_first x [] a = refl
  least_first x (y ∷ ys) a = ap (λ b. cond b (y ∷ ins R x ys) (x ∷ y ∷ ys)) (a 0 y (omega arith))

  pub ascends_is : (xs : List X) → Ascends R xs → isort R xs ≡ xs
  ascends_is [] a = refl
  ascends_is (x ∷ xs) a = ap (ins R x) (ascends_is xs a.1) ∙ least_first x xs a.0

  pub sorted_again : (xs : List X) → isort R xs ≡ isort R (isort R xs)
  sorted_again xs = sym (ascends_is (isort R xs) (ascends_isort R o xs))

  pub ascends_drop : (n : ℕ) (xs : List X) → Ascends R xs → Ascends R (drop n xs)
  ascends_drop zero xs a = a
  ascends_drop (suc n) [] a = a
  ascends_drop (suc n) (x ∷ xs) a = ascends_drop n xs a.1

  pub ascends_from : (xs : List X) → xs ≡ isort R xs → Ascends R xs
  ascends_from xs e = subst (Ascends R) (sym e) (ascends_isort R o xs)

  -- one is not above those behind it
  pub above_rest : (xs : List X) (k : ℕ) (d : X) → Ascends R xs → k < length xs → All (λ y. is_gt (R (get_or xs k d) y) ≡ false) (drop (suc k) xs)
  above_rest [] k d a l = absurd (omega (arith, l))
  above_rest (x ∷ xs) zero d a l = a.0
  above_rest (x ∷ xs) (suc k) d a l = above_rest xs k d a.1 (omega (arith, l))

  pub above_far : (xs : List X) (i k : ℕ) (d : X) → Ascends R xs → i < k → k < length xs → is_gt (R (get_or xs i d) (get_or xs k d)) ≡ false
  above_far [] i k d a l h = absurd (omega (arith, h))
  above_far (x ∷ xs) i zero d a l h = absurd (omega (arith, l))
  above_far (x ∷ xs) zero (suc k) d a l h = a.0 k d (omega (arith, h))
  above_far (x ∷ xs) (suc i) (suc k) d a l h = above_far xs i k d a.1 (omega (arith, l)) (omega (arith, h))

  module _ (p : X → Bool) where
    above_by : (x y : X) (ys : List X) (b : Bool) → All (λ z. is_gt (R x z) ≡ false) (y ∷ ys) → All (λ z. is_gt (R x z) ≡ false) (filter p ys) → All (λ z. is_gt (R x z) ≡ false) (cond b (y ∷ filter p ys) (filter p ys))
    above_by x y ys true a r = All-cons (λ z. is_gt (R x z) ≡ false) y (filter p ys) (All-head (λ z. is_gt (R x z) ≡ false) y ys a) r
    above_by x y ys false a r = r

    kept_above : (x : X) (ys : List X) → All (λ y. is_gt (R x y) ≡ false) ys → All (λ y. is_gt (R x y) ≡ false) (filter p ys)
    kept_above x [] a = a
    kept_above x (y ∷ ys) a = above_by x y ys (p y) a (kept_above x ys (All-tail (λ z. is_gt (R x z) ≡ false) y ys a))

    filter_by : (x y : X) (ys : List X) (b px py : Bool) → is_gt (R x y) ≡ b → All (λ z. is_gt (R y z) ≡ false) ys
        → filter p (ins R x ys) ≡ cond px (ins R x (filter p ys)) (filter p ys)
        → cond b (cond py (y ∷ filter p (ins R x ys)) (filter p (ins R x ys))) (cond px (x ∷ cond py (y ∷ filter p ys) (filter p ys)) (cond py (y ∷ filter p ys) (filter p ys)))
        ≡ cond px (ins R x (cond py (y ∷ filter p ys) (filter p ys))) (cond py (y ∷ filter p ys) (filter p ys))
    filter_by x y ys true true true e a r = ap (λ l. y ∷ l) r ∙ sym (ap (λ b. cond b (y ∷ ins R x (filter p ys)) (x ∷ y ∷ filter p ys)) e)
    filter_by x y ys true true false e a r = r
    filter_by x y ys true false true e a r = ap (λ l. y ∷ l) r
    filter_by x y ys true false false e a r = r
    filter_by x y ys false true true e a r = sym (ap (λ b. cond b (y ∷ ins R x (filter p ys)) (x ∷ y ∷ filter p ys)) e)
    filter_by x y ys false true false e a r =
        sym (least_first x (filter p ys) (kept_above x ys (λ k d h. upto o x y (get_or ys k d) e (a k d h))))
    filter_by x y ys false false py e a r = refl

    choose : (b : Bool) (x y : X) (u v : List X) → filter p (cond b (y ∷ u) (x ∷ y ∷ v)) ≡ cond b (cond (p y) (y ∷ filter p u) (filter p u)) (cond (p x) (x ∷ cond (p y) (y ∷ filter p v) (filter p v)) (cond (p y) (y ∷ filter p v) (filter p v)))
    choose true x y u v = refl
    choose false x y u v = refl

    filter_ins : (x : X) (ys : List X) → Ascends R ys → filter p (ins R x ys) ≡ cond (p x) (ins R x (filter p ys)) (filter p ys)
    filter_ins x [] a = refl
    filter_ins x (y ∷ ys) a =
        choose (is_gt (R x y)) x y (ins R x ys) ys ∙ filter_by x y ys (is_gt (R x y)) (p x) (p y) refl a.0 (filter_ins x ys a.1)

    sort_by : (x : X) (xs : List X) (b : Bool) → cond b (ins R x (isort R (filter p xs))) (isort R (filter p xs)) ≡ isort R (cond b (x ∷ filter p xs) (filter p xs))
    sort_by x xs true = refl
    sort_by x xs false = refl

    pub filter_isort : (xs : List X) → filter p (isort R xs) ≡ isort R (filter p xs)
    filter_isort [] = refl
    filter_isort (x ∷ xs) =
        filter_ins x (isort R xs) (ascends_isort R o xs) ∙ ap (λ l. cond (p x) (ins R x l) l) (filter_isort xs) ∙ sort_by x xs (p x)

-- ---- elements that are moved

module _ {X Y : Type 0} (f : X → Y) (R : X → X → Ordering) (S : Y → Y → Ordering) (o : IsTotalOrder R) (P : X → Type 0) (agree : (a b : X) → P a → P b → S (f a) (f b) ≡ R a b) where
  moved_by : (x y : X) (ys : List X) (b : Bool) (us : List Y) → us ≡ map f (ins R x ys) → map f (cond b (y ∷ ins R x ys) (x ∷ y ∷ ys)) ≡ cond b (f y ∷ us) (f x ∷ f y ∷ map f ys)
  moved_by x y ys true us e = ap (λ l. f y ∷ l) (sym e)
  moved_by x y ys false us e = refl

  moved_ins : (x : X) (ys : List X) → P x → All P ys → map f (ins R x ys) ≡ ins S (f x) (map f ys)
  moved_ins x [] p a = refl
  moved_ins x (y ∷ ys) p a =
      moved_by x y ys (is_gt (R x y)) (ins S (f x) (map f ys)) (sym (moved_ins x ys p (All-tail P y ys a)))
      ∙ ap (λ r. cond (is_gt r) (f y ∷ ins S (f x) (map f ys)) (f x ∷ f y ∷ map f ys)) (sym (agree x y p (All-head P y ys a)))

  kept : (xs : List X) → All P xs → All P (isort R xs)
  kept [] a = a
  kept (x ∷ xs) a = All-ins R o P x (isort R xs) (All-head P x xs a) (kept xs (All-tail P x xs a))

  pub moved_isort : (xs : List X) → All P xs → map f (isort R xs) ≡ isort S (map f xs)
  moved_isort [] a = refl
  moved_isort (x ∷ xs) a =
      moved_ins x (isort R xs) (All-head P x xs a) (kept xs (All-tail P x xs a)) ∙ ap (ins S (f x)) (moved_isort xs (All-tail P x xs a))

-- ---- one list put among another

module _ {X : Type 0} (R : X → X → Ordering) (o : IsTotalOrder R) where
  abbrev pub put : List X → List X → List X
  put [] ys = ys
  put (x ∷ xs) ys = ins R x (put xs ys)

  pub sort_append : (xs ys : List X) → isort R (xs ++ ys) ≡ put xs (isort R ys)
  sort_append [] ys = refl
  sort_append (x ∷ xs) ys = ap (ins R x) (sort_append xs ys)

  All_put : (P : X → Type 0) (xs ys : List X) → All P xs → All P ys → All P (put xs ys)
  All_put P [] ys a b = b
  All_put P (x ∷ xs) ys a b = All-ins R o P x (put xs ys) (All-head P x xs a) (All_put P xs ys (All-tail P x xs a) b)

  -- one that is below all of them stays in front
  put_first : (y : X) (xs ys : List X) → All (λ x. is_gt (R x y) ≡ true) xs → put xs (y ∷ ys) ≡ y ∷ put xs ys
  put_first y [] ys a = refl
  put_first y (x ∷ xs) ys a =
      ap (ins R x) (put_first y xs ys (All-tail (λ x. is_gt (R x y) ≡ true) x xs a))
      ∙ ap (λ b. cond b (y ∷ ins R x (put xs ys)) (x ∷ y ∷ put xs ys)) (All-head (λ x. is_gt (R x y) ≡ true) x xs a)

  differ : {b : Bool} → b ≡ true → b ≡ false → ⊥
  differ p q = cc

  gt_by : (x y z : X) (b : Bool) → is_gt (R z y) ≡ b → is_gt (R x y) ≡ true → is_gt (R x z) ≡ false → b ≡ true
  gt_by x y z true e g h = refl
  gt_by x y z false e g h = absurd (differ g (upto o x z y h e))

  gt_on : (x y z : X) → is_gt (R x y) ≡ true → is_gt (R x z) ≡ false → is_gt (R z y) ≡ true
  gt_on x y z g h = gt_by x y z (is_gt (R z y)) refl g h

  pub put_step : (x d : X) (xs ys : List X) (n : ℕ) → All (λ z. is_gt (R x z) ≡ false) xs → n ≤ length ys
      → ((k : ℕ) → k < n → is_gt (R x (get_or ys k d)) ≡ true) → ((k : ℕ) → n ≤ k → k < length ys → is_gt (R x (get_or ys k d)) ≡ false)
      → put (x ∷ xs) ys ≡ take n ys ++ x ∷ put xs (drop n ys)
  put_step x d xs ys zero a l f b =
      least_first R o x (put xs ys) (All_put (λ z. is_gt (R x z) ≡ false) xs ys a (λ k e h. at k e h)) where
        at : (k : ℕ) (e : X) → k < length ys → is_gt (R x (get_or ys k e)) ≡ false
        at k e h = ap (λ z. is_gt (R x z)) (get_or_default ys k e d h) ∙ b k (omega arith) h
  put_step x d xs [] (suc n) a l f b = absurd (omega (arith, l))
  put_step x d xs (y ∷ ys) (suc n) a l f b =
      put_first y (x ∷ xs) ys (All-cons (λ z. is_gt (R z y) ≡ true) x xs (f 0 (omega arith)) (λ k e h. gt_on x y (get_or xs k e) (f 0 (omega arith)) (a k e h)))
      ∙ ap (λ l. y ∷ l) (put_step x d xs ys n a (omega (arith, l)) (λ k h. f (suc k) (omega (arith, h))) (λ k h g. b (suc k) (omega (arith, h)) (omega (arith, g))))

  module _ (exact : (x y : X) → R x y ≡ Equal → x ≡ y) where
    pub sort_moved : (xs ys : List X) → IsPermutation xs ys → isort R ys ≡ isort R xs
    sort_moved xs ys p =
        sorted_is R o exact xs (isort R ys) (IsPermutation-trans xs ys (isort R ys) p (sort_moves R ys)) (is_sorted R o (isort R ys) (ascends_isort R o ys))

    pub sort_parts : (xs ys us vs : List X) → us ≡ isort R xs → vs ≡ isort R ys → isort R (us ++ vs) ≡ isort R (xs ++ ys)
    sort_parts xs ys us vs e f =
        sort_moved (xs ++ ys) (us ++ vs)
        (IsPermutation-append xs us ys vs (subst (IsPermutation xs) (sym e) (sort_moves R xs)) (subst (IsPermutation ys) (sym f) (sort_moves R ys)))

    pub sort_turned : (xs ys : List X) → isort R (ys ++ xs) ≡ isort R (xs ++ ys)
    sort_turned xs ys = sort_moved (xs ++ ys) (ys ++ xs) (IsPermutation-append_comm xs ys)
