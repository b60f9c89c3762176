-- Ids by labels, where a series is put at the end.
use Rattle.std.proofs.Common.{◌≡◌, ℕ, zero, suc, ◌+◌, ◌<◌, Bool, true, false, cond, ◌&&◌, not, is_some, List, [], ◌∷◌, ◌++◌, length, take, get_or, refl, sym, ap, ◌∙◌, arith, Some, None, Option}
use Rattle.std.specs.List.{position_from}
use Rattle.std.specs.Ordering.{is_eq}
use Rattle.std.specs.Cmp.{first_so, second_so, eq_by_cmp_equiv, Equal-is}
use Rattle.std.specs.BTreeMap.{BTreeMap, get, is_at}
use Rattle.pf_base.specs.LabelSets.{Pairs}
use Rattle.pf_base.specs.LabelOrder.{labels_cmp, labels_total, labels_exact}
use Rattle.pf_block.specs.SeriesIds.{id_of, ids_from, ids_with, has_pair}
use Rattle.pf_block.specs.Snaps.{are_apart}

both : (s t : Bool) → s ≡ true → t ≡ true → (s && t) ≡ true
both s t p q = λ i. p i && q i

pub same_back : (l m : Pairs) → is_eq (labels_cmp l m) ≡ is_eq (labels_cmp m l)
same_back l m = (eq_by_cmp_equiv labels_total).symm l m

same_is : (l m : Pairs) → is_eq (labels_cmp l m) ≡ true → l ≡ m
same_is l m e = labels_exact l m ((Equal-is (labels_cmp l m)).0 e)

module _ {K : Type 0} (t : K → Bool) where
  missed_by : (v : Bool) (i : ℕ) (o : Option ℕ) → cond v (Some i) o ≡ None → (v ≡ false) × (o ≡ None)
  missed_by true i o h = cc
  missed_by false i o h = (refl, h)

  -- nowhere, from whatever place the count begins
  shifted : (i j : ℕ) (xs : List K) → position_from t i xs ≡ None → position_from t j xs ≡ None
  shifted i j [] h = refl
  shifted i j (x ∷ xs) h =
      let m = missed_by (t x) i (position_from t (i + 1) xs) h in
      ap (λ b. cond b (Some j) (position_from t (j + 1) xs)) m.0 ∙ shifted (i + 1) (j + 1) xs m.1

  push_none : (i : ℕ) (xs : List K) (y : K) → position_from t i xs ≡ None → position_from t i (xs ++ y ∷ []) ≡ cond (t y) (Some (i + length xs)) None
  push_none i [] y h = let e : i ≡ i + 0 = omega arith in ap (λ n. cond (t y) (Some n) None) e
  push_none i (x ∷ xs) y h =
      let m = missed_by (t x) i (position_from t (i + 1) xs) h in
      let e : (i + 1) + length xs ≡ i + length (x ∷ xs) = omega arith in
      ap (λ b. cond b (Some i) (position_from t (i + 1) (xs ++ y ∷ []))) m.0
      ∙ push_none (i + 1) xs y m.1
      ∙ ap (λ n. cond (t y) (Some n) None) e

  push_other : (i : ℕ) (xs : List K) (y : K) → t y ≡ false → position_from t i (xs ++ y ∷ []) ≡ position_from t i xs
  push_other i [] y h = ap (λ b. cond b (Some i) None) h
  push_other i (x ∷ xs) y h = ap (λ o. cond (t x) (Some i) o) (push_other (i + 1) xs y h)

-- what a map from labels to ids has after a new label set
pub found_by : (l q : Pairs) (ls : List Pairs) (n : ℕ) (v : Bool) → is_eq (labels_cmp l q) ≡ v → id_of l ls ≡ None → n ≡ length ls → cond v (Some n) (id_of q ls) ≡ id_of q (ls ++ l ∷ [])
found_by l q ls n true e h k =
    let s = same_is l q e in
    let m : id_of q ls ≡ None = ap (λ x. id_of x ls) (sym s) ∙ h in
    let z : 0 + length ls ≡ n = omega (arith, k) in
    sym (push_none (λ x. is_eq (labels_cmp q x)) 0 ls l m ∙ ap (λ b. cond b (Some (0 + length ls)) None) (same_back q l ∙ e) ∙ ap (λ i. Some i) z)
found_by l q ls n false e h k = sym (push_other (λ x. is_eq (labels_cmp q x)) 0 ls l (same_back q l ∙ e))

pub found_push : (l key : Pairs) (ls : List Pairs) (n : ℕ) (m0 m1 : BTreeMap Pairs ℕ) → key ≡ l → id_of l ls ≡ None → n ≡ length ls → ((q : Pairs) → get labels_cmp m0 q ≡ id_of q ls) →
    ((q : Pairs) → get labels_cmp m1 q ≡ cond (is_at (labels_cmp key) q) (Some n) (get labels_cmp m0 q)) → (q : Pairs) → get labels_cmp m1 q ≡ id_of q (ls ++ l ∷ [])
found_push l key ls n m0 m1 e h k f u q =
    u q ∙ ap (λ o. cond (is_eq (labels_cmp key q)) (Some n) o) (f q) ∙ ap (λ x. cond (is_eq (labels_cmp x q)) (Some n) (id_of q ls)) e
    ∙ found_by l q ls n (is_eq (labels_cmp l q)) refl h k

-- ids that have a pair
ids_push_by : (v : Bool) (i : ℕ) (ys zs hs : List ℕ) → hs ≡ ys ++ zs → cond v (i ∷ hs) hs ≡ cond v (i ∷ ys) ys ++ zs
ids_push_by true i ys zs hs h = ap (λ l. i ∷ l) h
ids_push_by false i ys zs hs h = h

ids_push : (i : ℕ) (q r : List ℕ) (ls : List Pairs) (l : Pairs) → ids_from i q r (ls ++ l ∷ []) ≡ ids_from i q r ls ++ cond (has_pair q r l) ((i + length ls) ∷ []) []
ids_push i q r [] l = let e : i ≡ i + 0 = omega arith in ap (λ n. cond (has_pair q r l) (n ∷ []) []) e
ids_push i q r (x ∷ ls) l =
    let e : (i + 1) + length ls ≡ i + length (x ∷ ls) = omega arith in
    ids_push_by (has_pair q r x) i (ids_from (i + 1) q r ls) (cond (has_pair q r l) ((i + length (x ∷ ls)) ∷ []) []) (ids_from (i + 1) q r (ls ++ l ∷ []))
    (ids_push (i + 1) q r ls l ∙ ap (λ n. ids_from (i + 1) q r ls ++ cond (has_pair q r l) (n ∷ []) []) e)

pub listed_push : (q r : List ℕ) (ls : List Pairs) (l : Pairs) (n : ℕ) (old new : List ℕ) → n ≡ length ls → old ≡ ids_with q r ls → new ≡ old ++ cond (has_pair q r l) (n ∷ []) [] → new ≡ ids_with q r (ls ++ l ∷ [])
listed_push q r ls l n old new k e f =
    let z : n ≡ 0 + length ls = omega (arith, k) in
    f ∙ ap (λ x. x ++ cond (has_pair q r l) (n ∷ []) []) e ∙ ap (λ i. ids_with q r ls ++ cond (has_pair q r l) (i ∷ []) []) z ∙ sym (ids_push 0 q r ls l)

-- label sets that are all different
none_not : (o : Option ℕ) → o ≡ None → not (is_some o) ≡ true
none_not o h = ap (λ x. not (is_some x)) h

not_none : (o : Option ℕ) → not (is_some o) ≡ true → o ≡ None
not_none None h = refl
not_none (Some x) h = cc

pub apart_push : (ls : List Pairs) (l : Pairs) → are_apart ls ≡ true → id_of l ls ≡ None → are_apart (ls ++ l ∷ []) ≡ true
apart_push [] l h n = refl
apart_push (x ∷ ls) l h n =
    let m = missed_by (λ y. is_eq (labels_cmp l y)) (is_eq (labels_cmp l x)) 0 (position_from (λ y. is_eq (labels_cmp l y)) (0 + 1) ls) n in
    let o : id_of l ls ≡ None = shifted (λ y. is_eq (labels_cmp l y)) (0 + 1) 0 ls m.1 in
    let p : id_of x (ls ++ l ∷ []) ≡ None = push_other (λ y. is_eq (labels_cmp x y)) 0 ls l (same_back x l ∙ m.0) ∙ not_none (id_of x ls) (first_so (not (is_some (id_of x ls))) (are_apart ls) h) in
    both (not (is_some (id_of x (ls ++ l ∷ [])))) (are_apart (ls ++ l ∷ [])) (none_not (id_of x (ls ++ l ∷ [])) p) (apart_push ls l (second_so (not (is_some (id_of x ls))) (are_apart ls) h) o)

-- one of them is not among those before it
pub not_at : (i : ℕ) (x d : Pairs) (n : ℕ) (ls : List Pairs) → position_from (λ y. is_eq (labels_cmp x y)) n ls ≡ None → i < length ls → is_eq (labels_cmp x (get_or ls i d)) ≡ false
not_at i x d n [] h l = absurd (omega arith)
not_at zero x d n (y ∷ ls) h l = (missed_by (λ z. is_eq (labels_cmp x z)) (is_eq (labels_cmp x y)) n (position_from (λ z. is_eq (labels_cmp x z)) (n + 1) ls) h).0
not_at (suc i) x d n (y ∷ ls) h l =
    not_at i x d (n + 1) ls ((missed_by (λ z. is_eq (labels_cmp x z)) (is_eq (labels_cmp x y)) n (position_from (λ z. is_eq (labels_cmp x z)) (n + 1) ls) h).1) (omega arith)

pub apart_at : (i : ℕ) (d : Pairs) (ls : List Pairs) → are_apart ls ≡ true → i < length ls → id_of (get_or ls i d) (take i ls) ≡ None
apart_at i d [] h l = absurd (omega arith)
apart_at zero d (x ∷ ls) h l = refl
apart_at (suc i) d (x ∷ ls) h l =
    let y = get_or ls i d in
    let n : id_of x ls ≡ None = not_none (id_of x ls) (first_so (not (is_some (id_of x ls))) (are_apart ls) h) in
    let f : is_eq (labels_cmp y x) ≡ false = same_back y x ∙ not_at i x d 0 ls n (omega arith) in
    let r : id_of y (take i ls) ≡ None = apart_at i d ls (second_so (not (is_some (id_of x ls))) (are_apart ls) h) (omega arith) in
    ap (λ b. cond b (Some 0) (position_from (λ z. is_eq (labels_cmp y z)) (0 + 1) (take i ls))) f
    ∙ shifted (λ z. is_eq (labels_cmp y z)) 0 (0 + 1) (take i ls) r
