-- What a search by halves finds in elements sorted by their keys.
use Rattle.std.proofs.Common.{◌≡◌, inl, inr, ℕ, zero, suc, ◌-◌, ◌<◌, ◌≤◌, Bool, true, false, cond, ◌&&◌, ◌||◌, not, nat_eq, List, [], ◌∷◌, length, take, drop, get_or, refl, sym, ap, ◌∙◌, arith, add-one}
use Rattle.std.specs.Bool.{◌==◌}
use Rattle.std.specs.List.{AllWithin, filter}
use Rattle.std.specs.List.Sorted.{IsPartitionedBy, IsSorted}
use Rattle.std.specs.Ordering.{is_eq, is_gt, is_lt, ordering_reverse}
use Rattle.std.specs.declared.cmp.Ordering.{Ordering}
use Rattle.std.specs.declared.cmp.Ordering.TheVariants.{Less, Equal, Greater}
use Rattle.std.proofs.lemmas.Bool.Decides.{nat_tests}
use Rattle.std.proofs.lemmas.List.{length-drop}
use Rattle.std.proofs.lemmas.List.Elements.{filter_agree}
use Rattle.std.proofs.Math.Seq.{take-length}
use Rattle.pf_base.specs.LabelSets.{Pairs}
use Rattle.pf_base.specs.LabelOrder.{labels_cmp, labels_exact, labels_total}
use Rattle.pf_base.proofs.Readings.{bool_cases}
use Rattle.pf_base.proofs.Sorting.{Ascends, ascends_sorted}
use Rattle.pf_model.specs.Selection.{same_labels}
use Rattle.pf_join.specs.declared.keys.Keyed.{Keyed}
use Rattle.pf_join.specs.KeyedElements.{has_key, with_key}
use Rattle.pf_join.proofs.Repeats.{by_key, by_key_total}

-- ---- the two sides of a place

module _ {X : Type 0} (p : X → Bool) where
  none_pass : (xs : List X) → AllWithin (λ x. p x ≡ false) xs 0 (length xs) → filter p xs ≡ []
  none_pass [] g = refl
  none_pass (x ∷ xs) g =
      ap (λ b. cond b (x ∷ filter p xs) (filter p xs)) (g 0 x (omega arith) (omega arith))
      ∙ none_pass xs (λ k d a b. g (suc k) d (omega arith) (omega arith))

  all_pass : (xs : List X) → AllWithin (λ x. p x ≡ false) xs 0 (length xs) → xs ≡ filter (λ x. not (p x)) xs
  all_pass [] g = refl
  all_pass (x ∷ xs) g =
      ap (λ ys. x ∷ ys) (all_pass xs (λ k d a b. g (suc k) d (omega arith) (omega arith)))
      ∙ sym (ap (λ b. cond (not b) (x ∷ filter (λ y. not (p y)) xs) (filter (λ y. not (p y)) xs)) (g 0 x (omega arith) (omega arith)))

  pub front_is : (xs : List X) (i : ℕ) → i ≤ length xs → AllWithin (λ x. p x ≡ true) xs 0 i → AllWithin (λ x. p x ≡ false) xs i (length xs)
      → take i xs ≡ filter p xs
  front_is [] zero l f g = refl
  front_is [] (suc i) l f g = refl
  front_is (x ∷ xs) zero l f g = sym (none_pass (x ∷ xs) g)
  front_is (x ∷ xs) (suc i) l f g =
      ap (λ ys. x ∷ ys) (front_is xs i (omega arith) (λ k d a b. f (suc k) d (omega arith) (omega arith)) (λ k d a b. g (suc k) d (omega arith) (omega arith)))
      ∙ sym (ap (λ b. cond b (x ∷ filter p xs) (filter p xs)) (f 0 x (omega arith) (omega arith)))

  pub back_is : (xs : List X) (i : ℕ) → i ≤ length xs → AllWithin (λ x. p x ≡ true) xs 0 i → AllWithin (λ x. p x ≡ false) xs i (length xs)
      → drop i xs ≡ filter (λ x. not (p x)) xs
  back_is [] zero l f g = refl
  back_is [] (suc i) l f g = refl
  back_is (x ∷ xs) zero l f g = all_pass (x ∷ xs) g
  back_is (x ∷ xs) (suc i) l f g =
      back_is xs i (omega arith) (λ k d a b. f (suc k) d (omega arith) (omega arith)) (λ k d a b. g (suc k) d (omega arith) (omega arith))
      ∙ sym (ap (λ b. cond (not b) (x ∷ filter (λ y. not (p y)) xs) (filter (λ y. not (p y)) xs)) (f 0 x (omega arith) (omega arith)))

-- in a list that is parted, an element tells of all before it, or behind it
module _ {X : Type 0} (p : X → Bool) (xs : List X) (parted : IsPartitionedBy p xs) where
  passed_before : (i : ℕ) → i ≤ length xs → ((d : X) → 0 < i → p (get_or xs (i - 1) d) ≡ true) → AllWithin (λ x. p x ≡ true) xs 0 i
  passed_before i l h k d a b = parted k (i - 1) d (omega (arith, b)) (omega (arith, b, l)) (h d (omega (arith, b)))

  failed_behind : (i : ℕ) → ((d : X) → i < length xs → p (get_or xs i d) ≡ false) → AllWithin (λ x. p x ≡ false) xs i (length xs)
  failed_behind i h k d a b = elim (bool_cases (p (get_or xs k d))) [
    | inl t ↦ absurd (let e = sym (parted i k d a b t) ∙ h d (omega (arith, a, b)) in cc)
    | inr f ↦ f
  ]

  pub front_near : (i : ℕ) → i ≤ length xs → ((d : X) → 0 < i → p (get_or xs (i - 1) d) ≡ true) → ((d : X) → i < length xs → p (get_or xs i d) ≡ false)
      → take i xs ≡ filter p xs
  front_near i l f g = front_is p xs i l (passed_before i l f) (failed_behind i g)

  pub back_near : (i : ℕ) → i ≤ length xs → ((d : X) → 0 < i → p (get_or xs (i - 1) d) ≡ true) → ((d : X) → i < length xs → p (get_or xs i d) ≡ false)
      → drop i xs ≡ filter (λ x. not (p x)) xs
  back_near i l f g = back_is p xs i l (passed_before i l f) (failed_behind i g)

pub some_there : {X : Type 0} (xs : List X) → false ≡ (length xs == 0) → 1 ≤ length xs
some_there [] h = cc
some_there (x ∷ xs) h = omega arith

pub rest_of : {X : Type 0} (i : ℕ) (xs : List X) → take (length xs - i) (drop i xs) ≡ drop i xs
rest_of i xs = ap (λ n. take n (drop i xs)) (sym (length-drop i xs)) ∙ take-length (drop i xs)

-- ---- sorted lists

module _ {X : Type 0} (R : X → X → Ordering) where
  sorted_tail : (x : X) (xs : List X) → IsSorted R (x ∷ xs) → IsSorted R xs
  sorted_tail x xs s k d l h = let t = s (suc k) d (omega arith) (omega arith) in simp add-one (simp add-one at t)

  pub sorted_drop : (i : ℕ) (xs : List X) → IsSorted R xs → IsSorted R (drop i xs)
  sorted_drop zero xs s = s
  sorted_drop (suc i) [] s = s
  sorted_drop (suc i) (x ∷ xs) s = sorted_drop i xs (sorted_tail x xs s)

  module _ (p : X → Bool) (down : (x y : X) → is_gt (R x y) ≡ false → p y ≡ true → p x ≡ true) where
    parted : (xs : List X) → Ascends R xs → (i j : ℕ) (d : X) → i ≤ j → j < length xs → p (get_or xs j d) ≡ true → p (get_or xs i d) ≡ true
    parted [] a i j d l m h = absurd (omega (arith, m))
    parted (x ∷ xs) a zero zero d l m h = h
    parted (x ∷ xs) a zero (suc j) d l m h = down x (get_or xs j d) (a.0 j d (omega (arith, m))) h
    parted (x ∷ xs) a (suc i) zero d l m h = absurd (omega (arith, l))
    parted (x ∷ xs) a (suc i) (suc j) d l m h = parted xs a.1 i j d (omega (arith, l)) (omega (arith, m)) h

    pub is_parted : (xs : List X) → Ascends R xs → IsPartitionedBy p xs
    is_parted xs a i j d l m h = parted xs a i j d l m h

-- ---- by keys

less_is : (o : Ordering) → is_lt o ≡ true → o ≡ Less
less_is Less h = refl
less_is Equal h = cc
less_is Greater h = cc

-- x is at most y, and y is below k
below_by : (x y k : Pairs) (o : Ordering) → labels_cmp x y ≡ o → is_gt o ≡ false → labels_cmp y k ≡ Less → is_lt (labels_cmp x k) ≡ true
below_by x y k Less e g h = ap is_lt (labels_total.trans x y k e h)
below_by x y k Equal e g h = ap is_lt (ap (λ l. labels_cmp l k) (labels_exact x y e) ∙ h)
below_by x y k Greater e g h = cc

module _ {X : Type 0} (key : X → Pairs) where
  below_down : (k : Pairs) (x y : X) → is_gt (by_key key x y) ≡ false → is_lt (labels_cmp (key y) k) ≡ true → is_lt (labels_cmp (key x) k) ≡ true
  below_down k x y g h = below_by (key x) (key y) k (by_key key x y) refl g (less_is (labels_cmp (key y) k) h)

  pub below_parted : (k : Pairs) (xs : List X) → IsSorted (by_key key) xs → IsPartitionedBy (λ x. is_lt (labels_cmp (key x) k)) xs
  below_parted k xs s =
      is_parted (by_key key) (λ x. is_lt (labels_cmp (key x) k)) (λ x y g h. below_down k x y g h) xs (ascends_sorted (by_key key) (by_key_total key) xs s)

-- x is at most y, and y is at most k
upto_by : (x y k : Pairs) (o r : Ordering) → labels_cmp x y ≡ o → is_gt o ≡ false → labels_cmp y k ≡ r → not (is_gt r) ≡ true → not (is_gt (labels_cmp x k)) ≡ true
upto_by x y k Less Less e g f h = ap (λ o. not (is_gt o)) (labels_total.trans x y k e f)
upto_by x y k Less Equal e g f h = ap (λ o. not (is_gt o)) (ap (labels_cmp x) (sym (labels_exact y k f)) ∙ e)
upto_by x y k Less Greater e g f h = cc
upto_by x y k Equal r e g f h = ap (λ l. not (is_gt (labels_cmp l k))) (labels_exact x y e) ∙ ap (λ o. not (is_gt o)) f ∙ h
upto_by x y k Greater r e g f h = cc

module _ {X : Type 0} (key : X → Pairs) where
  pub upto_parted : (k : Pairs) (xs : List X) → IsSorted (by_key key) xs → IsPartitionedBy (λ x. not (is_gt (labels_cmp (key x) k))) xs
  upto_parted k xs s =
      is_parted (by_key key) (λ x. not (is_gt (labels_cmp (key x) k)))
      (λ x y g h. upto_by (key x) (key y) k (by_key key x y) (labels_cmp (key y) k) refl g refl h) xs (ascends_sorted (by_key key) (by_key_total key) xs s)

-- ---- those from a key on, and of these those up to it, are those of the key

two_tests : {X : Type 0} (p q : X → Bool) (xs : List X) → filter q (filter p xs) ≡ filter (λ x. p x && q x) xs
two_tests p q [] = refl
two_tests p q (x ∷ xs) = one (p x) (two_tests p q xs) where
  one : (b : Bool) → filter q (filter p xs) ≡ filter (λ y. p y && q y) xs
      → filter q (cond b (x ∷ filter p xs) (filter p xs)) ≡ cond (b && q x) (x ∷ filter (λ y. p y && q y) xs) (filter (λ y. p y && q y) xs)
  one true h = ap (λ ys. cond (q x) (x ∷ ys) ys) h
  one false h = h

level_is : (o : Ordering) → (not (is_lt o) && not (is_gt o)) ≡ is_eq (ordering_reverse o)
level_is Less = refl
level_is Equal = refl
level_is Greater = refl

pub found_is : {X : Type 0} (key : X → Pairs) (k : Pairs) (xs : List X)
    → filter (λ x. not (is_gt (labels_cmp (key x) k))) (filter (λ x. not (is_lt (labels_cmp (key x) k))) xs) ≡ filter (λ x. same_labels k (key x)) xs
found_is key k xs =
    two_tests (λ x. not (is_lt (labels_cmp (key x) k))) (λ x. not (is_gt (labels_cmp (key x) k))) xs
    ∙ filter_agree (λ x. not (is_lt (labels_cmp (key x) k)) && not (is_gt (labels_cmp (key x) k))) (λ x. is_eq (labels_cmp k (key x)))
    (λ x. level_is (labels_cmp (key x) k) ∙ sym (ap is_eq (labels_total.antisymm k (key x)))) xs

some_length : (n : ℕ) → not (nat_eq (suc n) 0) ≡ true
some_length n = grind (arith, nat_tests)

-- some element has the key where those of the key are not none
any_by : (x : Keyed) (ys : List Keyed) (b c : Bool) → not (nat_eq (length ys) 0) ≡ c → not (nat_eq (length (cond b (x ∷ ys) ys)) 0) ≡ (b || c)
any_by x ys true c h = some_length (length ys)
any_by x ys false c h = h

pub any_is : (k : Pairs) (xs : List Keyed) → not (nat_eq (length (with_key k xs)) 0) ≡ has_key k xs
any_is k [] = refl
any_is k (x ∷ xs) = any_by x (with_key k xs) (is_eq (labels_cmp k x.key)) (has_key k xs) (any_is k xs)
