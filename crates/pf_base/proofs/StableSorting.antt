-- What a stable sort gives is what `isort` computes, also where elements tie, as those sorted by a key do.
use Rattle.std.proofs.Common.{◌≡◌, Bool, true, false, cond, not, ◌&&◌, List, [], ◌∷◌, refl, sym, ap, ◌∙◌}
use Rattle.std.specs.List.{All, filter}
use Rattle.std.specs.List.Sorted.{IsSorted, IsStable, ties}
use Rattle.std.specs.Cmp.{IsTotalOrder, tied_itself, alike_right, Equal-is}
use Rattle.std.specs.Ordering.{is_gt, is_lt, is_eq, ordering_reverse}
use Rattle.std.specs.declared.cmp.Ordering.{Ordering}
use Rattle.std.specs.declared.cmp.Ordering.TheVariants.{Less, Equal, Greater}
use Rattle.std.proofs.lemmas.List.Elements.{All-head, All-tail, All-cons, filter_agree}
use Rattle.pf_base.specs.Sorting.{ins, isort}
use Rattle.pf_base.proofs.Sorting.{Ascends, ascends_sorted, ascends_isort, level}

tie_is : (a b : Ordering) → b ≡ ordering_reverse a → (not (is_lt a) && not (is_lt b)) ≡ is_eq a
tie_is Less b e = refl
tie_is Equal b e = ap (λ r. not (is_lt r)) e
tie_is Greater b e = ap (λ r. not (is_lt r)) e

-- what is left past two heads
cut_by : {X : Type 0} (b : Bool) (x y : X) (u v : List X) → cond b (x ∷ u) u ≡ cond b (y ∷ v) v → u ≡ v
cut_by true x y u v e = cc
cut_by false x y u v e = e

head_is : {X : Type 0} (x y : X) (u v : List X) → x ∷ u ≡ y ∷ v → x ≡ y
head_is x y u v e = cc

module _ {X : Type 0} (R : X → X → Ordering) (o : IsTotalOrder R) where
  -- the elements that tie with z, in their order
  abbrev tied : X → List X → List X
  tied z xs = filter (λ x. is_eq (R z x)) xs

  tied_itself_first : (x : X) (xs : List X) → tied x (x ∷ xs) ≡ x ∷ tied x xs
  tied_itself_first x xs = ap (λ r. cond (is_eq r) (x ∷ tied x xs) (tied x xs)) (tied_itself o x)

  tied_first : (x y : X) (ys : List X) → R x y ≡ Equal → tied x (y ∷ ys) ≡ y ∷ tied x ys
  tied_first x y ys h = ap (λ r. cond (is_eq r) (y ∷ tied x ys) (tied x ys)) h

  -- what holds of each element, and of what ties with one for which it holds, holds of one that some element ties with
  module _ (P : X → Type 0) (x : X) (move : (y : X) → R x y ≡ Equal → P y → P x) where
    found_by : (y : X) (ys : List X) (b : Bool) → is_eq (R x y) ≡ b → P y → ((z : X) (zs : List X) → tied x ys ≡ z ∷ zs → P x) → (z : X) (zs : List X) → cond b (y ∷ tied x ys) (tied x ys) ≡ z ∷ zs → P x
    found_by y ys true e p rest z zs h = move y ((Equal-is (R x y)).0 e) p
    found_by y ys false e p rest z zs h = rest z zs h

    found : (ys : List X) → All P ys → (z : X) (zs : List X) → tied x ys ≡ z ∷ zs → P x
    found [] a z zs h = cc
    found (y ∷ ys) a z zs h = found_by y ys (is_eq (R x y)) refl (All-head P y ys a) (found ys (All-tail P y ys a)) z zs h

  not_below : (x y : X) (xs ys : List X) → Ascends R (y ∷ ys) → tied x (x ∷ xs) ≡ tied x (y ∷ ys) → is_gt (R y x) ≡ false
  not_below x y xs ys a e =
      let P : X → Type 0 = λ z. is_gt (R y z) ≡ false in
      found P x (λ w t p. ap is_gt (alike_right o x w y t) ∙ p) (y ∷ ys)
      (All-cons P y ys (ap is_gt (tied_itself o y)) a.0) x (tied x xs) (sym e ∙ tied_itself_first x xs)

  heads_tie : (x y : X) (xs ys : List X) → Ascends R (x ∷ xs) → Ascends R (y ∷ ys) → ((z : X) → tied z (x ∷ xs) ≡ tied z (y ∷ ys)) → R x y ≡ Equal
  heads_tie x y xs ys a b e =
      level (R x y) (R y x) (o.antisymm x y) (not_below y x ys xs a (sym (e y))) (not_below x y xs ys b (e x))

  heads : (x y : X) (xs ys : List X) → R x y ≡ Equal → tied x (x ∷ xs) ≡ tied x (y ∷ ys) → x ≡ y
  heads x y xs ys t e = head_is x y (tied x xs) (tied x ys) (sym (tied_itself_first x xs) ∙ e ∙ tied_first x y ys t)

  tails : (x y : X) (xs ys : List X) → x ≡ y → (z : X) → tied z (x ∷ xs) ≡ tied z (y ∷ ys) → tied z xs ≡ tied z ys
  tails x y xs ys h z e =
      cut_by (is_eq (R z x)) x y (tied z xs) (tied z ys)
      (e ∙ ap (λ w. cond (is_eq (R z w)) (y ∷ tied z ys) (tied z ys)) (sym h))

  one_order : (xs ys : List X) → Ascends R xs → Ascends R ys → ((z : X) → tied z xs ≡ tied z ys) → xs ≡ ys
  one_order [] [] a b e = refl
  one_order [] (y ∷ ys) a b e = let h : [] ≡ y ∷ tied y ys = e y ∙ tied_itself_first y ys in cc
  one_order (x ∷ xs) [] a b e = let h : x ∷ tied x xs ≡ [] = sym (tied_itself_first x xs) ∙ e x in cc
  one_order (x ∷ xs) (y ∷ ys) a b e =
      let h = heads x y xs ys (heads_tie x y xs ys a b e) (e x) in
      let t = one_order xs ys a.1 b.1 (λ z. tails x y xs ys h z (e z)) in
      λ i. h i ∷ t i

  -- ---- `isort` is stable

  swapped : (x y : X) (s : List X) (a b : Bool) → (a ≡ true → b ≡ true → ⊥) →
      cond b (y ∷ cond a (x ∷ s) s) (cond a (x ∷ s) s) ≡ cond a (x ∷ cond b (y ∷ s) s) (cond b (y ∷ s) s)
  swapped x y s true true n = absurd (n refl refl)
  swapped x y s true false n = refl
  swapped x y s false true n = refl
  swapped x y s false false n = refl

  not_both : (z x y : X) → is_gt (R x y) ≡ true → is_eq (R z x) ≡ true → is_eq (R z y) ≡ true → ⊥
  not_both z x y g a b =
      let t : R x y ≡ Equal = sym (o.congr z x y ((Equal-is (R z x)).0 a)) ∙ (Equal-is (R z y)).0 b in
      let n : is_gt (R x y) ≡ false = ap is_gt t in cc

  tied_ins_by : (z x y : X) (ys : List X) (b : Bool) → is_gt (R x y) ≡ b → tied z (ins R x ys) ≡ tied z (x ∷ ys) → tied z (cond b (y ∷ ins R x ys) (x ∷ y ∷ ys)) ≡ tied z (x ∷ y ∷ ys)
  tied_ins_by z x y ys true g e =
      ap (λ l. cond (is_eq (R z y)) (y ∷ l) l) e ∙ swapped x y (tied z ys) (is_eq (R z x)) (is_eq (R z y)) (not_both z x y g)
  tied_ins_by z x y ys false g e = refl

  tied_ins : (z x : X) (ys : List X) → tied z (ins R x ys) ≡ tied z (x ∷ ys)
  tied_ins z x [] = refl
  tied_ins z x (y ∷ ys) = tied_ins_by z x y ys (is_gt (R x y)) refl (tied_ins z x ys)

  tied_isort : (z : X) (xs : List X) → tied z (isort R xs) ≡ tied z xs
  tied_isort z [] = refl
  tied_isort z (x ∷ xs) =
      tied_ins z x (isort R xs) ∙ ap (λ l. cond (is_eq (R z x)) (x ∷ l) l) (tied_isort z xs)

  tied_stable : (xs ys : List X) → IsStable R xs ys → (z : X) → tied z ys ≡ tied z xs
  tied_stable xs ys s z =
      let lt : X → X → Bool = λ x y. is_lt (R x y) in
      let agree : (x : X) → ties lt z x ≡ is_eq (R z x) = λ x. tie_is (R z x) (R x z) (o.antisymm x z) in
      sym (filter_agree (ties lt z) (λ x. is_eq (R z x)) agree ys) ∙ s z ∙ filter_agree (ties lt z) (λ x. is_eq (R z x)) agree xs

  -- what a stable sort ensures
  pub stable_sorted_is : (xs ys : List X) → IsSorted R ys → IsStable R xs ys → ys ≡ isort R xs
  stable_sorted_is xs ys u s =
      one_order ys (isort R xs) (ascends_sorted R o ys u) (ascends_isort R o xs) (λ z. tied_stable xs ys s z ∙ sym (tied_isort z xs))
