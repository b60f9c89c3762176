-- Those of a key stand in their order in the list that is sorted by keys, and their places are those of the list.
use Rattle.std.proofs.Common.{◌≡◌, ◌+◌, Bool, true, false, cond, Some, List, [], ◌∷◌, ◌++◌, length, map, refl, sym, ap, ◌∙◌, append_assoc, arith}
use Rattle.std.specs.Cmp.{Equal-is}
use Rattle.std.specs.List.{filter, slice_get}
use Rattle.std.specs.Ordering.{is_eq, is_gt}
use Rattle.std.specs.declared.cmp.Ordering.{Ordering}
use Rattle.std.specs.declared.cmp.Ordering.TheVariants.{Less, Equal, Greater}
use Rattle.pf_base.specs.LabelSets.{Pairs}
use Rattle.pf_base.specs.LabelOrder.{labels_cmp, labels_total}
use Rattle.pf_base.specs.Sorting.{ins, isort}
use Rattle.pf_model.specs.Selection.{same_labels}
use Rattle.pf_join.specs.KeyPlaces.{key_of, one_of, place_cmp, placed, places_with, those_at}
use Rattle.pf_join.proofs.Repeats.{by_key}

not_above : (o : Ordering) → is_eq o ≡ true → is_gt o ≡ false
not_above Less h = refl
not_above Equal h = refl
not_above Greater h = cc

swapped : {X : Type 0} (x y : X) (s : List X) (a b : Bool) → (a ≡ true → b ≡ true → ⊥)
    → cond b (y ∷ cond a (x ∷ s) s) (cond a (x ∷ s) s) ≡ cond a (x ∷ cond b (y ∷ s) s) (cond b (y ∷ s) s)
swapped x y s true true n = absurd (n refl refl)
swapped x y s true false n = refl
swapped x y s false true n = refl
swapped x y s false false n = refl

module _ {X : Type 0} (key : X → Pairs) where
  abbrev with_key : Pairs → List X → List X
  with_key k xs = filter (λ x. same_labels k (key x)) xs

  -- two of one key tie
  tie : (k : Pairs) (x y : X) → same_labels k (key x) ≡ true → same_labels k (key y) ≡ true → is_gt (by_key key x y) ≡ false
  tie k x y a b =
      not_above (by_key key x y) (sym (ap is_eq (labels_total.congr k (key x) (key y) ((Equal-is (labels_cmp k (key x))).0 a))) ∙ b)

  not_both : (k : Pairs) (x y : X) → is_gt (by_key key x y) ≡ true → same_labels k (key x) ≡ true → same_labels k (key y) ≡ true → ⊥
  not_both k x y g a b = let both : true ≡ false = sym g ∙ tie k x y a b in cc

  with_ins_by : (k : Pairs) (x y : X) (ys : List X) (b : Bool) → is_gt (by_key key x y) ≡ b → with_key k (ins (by_key key) x ys) ≡ with_key k (x ∷ ys)
      → with_key k (cond b (y ∷ ins (by_key key) x ys) (x ∷ y ∷ ys)) ≡ with_key k (x ∷ y ∷ ys)
  with_ins_by k x y ys true g e =
      ap (λ l. cond (same_labels k (key y)) (y ∷ l) l) e
      ∙ swapped x y (with_key k ys) (same_labels k (key x)) (same_labels k (key y)) (not_both k x y g)
  with_ins_by k x y ys false g e = refl

  with_ins : (k : Pairs) (x : X) (ys : List X) → with_key k (ins (by_key key) x ys) ≡ with_key k (x ∷ ys)
  with_ins k x [] = refl
  with_ins k x (y ∷ ys) = with_ins_by k x y ys (is_gt (by_key key x y)) refl (with_ins k x ys)

  pub with_isort : (k : Pairs) (xs : List X) → with_key k (isort (by_key key) xs) ≡ with_key k xs
  with_isort k [] = refl
  with_isort k (x ∷ xs) = with_ins k x (isort (by_key key) xs) ∙ ap (λ l. cond (same_labels k (key x)) (x ∷ l) l) (with_isort k xs)

  -- ---- places

  behind : (before : List X) (x : X) (xs : List X) → slice_get (before ++ (x ∷ xs)) (length before) ≡ Some x
  behind [] x xs = refl
  behind (b ∷ before) x xs = behind before x xs

  length_more : (before : List X) (x : X) → length (before ++ (x ∷ [])) ≡ length before + 1
  length_more [] x = omega arith
  length_more (b ∷ before) x = let e = length_more before x in omega (arith, e)

  rest_is : (k : Pairs) (before : List X) (x : X) (xs : List X)
      → those_at ((before ++ (x ∷ [])) ++ xs) (places_with k (placed (length (before ++ (x ∷ []))) (map key xs))) ≡ with_key k xs
      → those_at (before ++ (x ∷ xs)) (places_with k (placed (length before + 1) (map key xs))) ≡ with_key k xs
  rest_is k before x xs h =
      ap (λ ys. those_at ys (places_with k (placed (length before + 1) (map key xs)))) (sym (append_assoc before (x ∷ []) xs))
      ∙ ap (λ n. those_at ((before ++ (x ∷ [])) ++ xs) (places_with k (placed n (map key xs)))) (sym (length_more before x)) ∙ h

  picked : (k : Pairs) (before : List X) (x : X) (xs : List X) (b : Bool)
      → those_at (before ++ (x ∷ xs)) (places_with k (placed (length before + 1) (map key xs))) ≡ with_key k xs
      → those_at (before ++ (x ∷ xs)) (cond b (record { key = key x; place = length before } ∷ places_with k (placed (length before + 1) (map key xs))) (places_with k (placed (length before + 1) (map key xs))))
      ≡ cond b (x ∷ with_key k xs) (with_key k xs)
  picked k before x xs true h =
      ap (λ o. one_of o ++ those_at (before ++ (x ∷ xs)) (places_with k (placed (length before + 1) (map key xs)))) (behind before x xs) ∙ ap (λ ys. x ∷ ys) h
  picked k before x xs false h = h

  those_from : (k : Pairs) (before xs : List X) → those_at (before ++ xs) (places_with k (placed (length before) (map key xs))) ≡ with_key k xs
  those_from k before [] = refl
  those_from k before (x ∷ xs) = picked k before x xs (same_labels k (key x)) (rest_is k before x xs (those_from k (before ++ (x ∷ [])) xs))

  pub those_with_key : (k : Pairs) (xs : List X) → those_at xs (places_with k (placed 0 (map key xs))) ≡ with_key k xs
  those_with_key k xs = those_from k [] xs

pub places_sorted : (k : Pairs) (ks : List Pairs) → places_with k (isort place_cmp (placed 0 ks)) ≡ places_with k (placed 0 ks)
places_sorted k ks = with_isort key_of k (placed 0 ks)

-- what stands at the places of a key, which are found among the sorted ones
pub those_found : {X : Type 0} (key : X → Pairs) (k : Pairs) (xs : List X)
    → those_at xs (places_with k (isort place_cmp (placed 0 (map key xs)))) ≡ filter (λ x. same_labels k (key x)) xs
those_found key k xs = ap (those_at xs) (places_sorted k (map key xs)) ∙ those_with_key key k xs
