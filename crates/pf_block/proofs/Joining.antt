-- Series of several indexes, one behind another: their ids, and the lists of a pair.
use Rattle.std.proofs.Common.{◌≡◌, ℕ, zero, suc, ◌+◌, ◌<◌, ◌≤◌, ◌^◌, Bool, true, false, cond, ◌&&◌, not, is_some, List, [], ◌∷◌, ◌++◌, length, map, take, drop, get_or, refl, sym, ap, ◌∙◌, subst, arith, Some, None, Option, append_assoc, ◌⊎◌, inl, inr}
use Rattle.std.specs.Cmp.{first_so, second_so, tied_back}
use Rattle.std.specs.List.{All, position_from}
use Rattle.std.specs.Ordering.{is_eq}
use Rattle.std.specs.declared.cmp.Ordering.TheVariants.{Equal}
use Rattle.std.proofs.lemmas.List.{append-nil, drop_more, get_or-append-add, get_or-map, get_or-take, get_or_append_left, length-append, length-map, length-take-le, map_push, take-append-drop, take_all, take_more}
use Rattle.std.proofs.lemmas.List.Elements.{All-cons, All-nil, All-tail}
use Rattle.pf_base.specs.LabelSets.{Pairs}
use Rattle.pf_base.specs.LabelOrder.{labels_cmp, labels_total}
use Rattle.std.proofs.lemmas.Bool.{cases_order}
use Rattle.pf_block.specs.IndexStacks.{ArePostings, IsPlace, joined}
use Rattle.pf_block.specs.SeriesIds.{has_pair, id_of, ids_from, ids_with}
use Rattle.pf_block.specs.Snaps.{are_apart}
use Rattle.pf_block.proofs.Ids.{apart_at, not_at, same_back}

-- ---- joined lists

pub joined_append : (xs ys : List (List Pairs)) → joined (xs ++ ys) ≡ joined xs ++ joined ys
joined_append [] ys = refl
joined_append (x ∷ xs) ys = ap (λ l. x ++ l) (joined_append xs ys) ∙ sym (append_assoc x (joined xs) (joined ys))

pub joined_cut : (n : ℕ) (layers : List (List Pairs)) → joined (take n layers) ++ joined (drop n layers) ≡ joined layers
joined_cut n layers = sym (joined_append (take n layers) (drop n layers)) ∙ ap joined (take-append-drop n layers)

pub joined_next : (n : ℕ) (layers : List (List Pairs)) (layer : List Pairs) → n < length layers → layer ≡ get_or layers n [] → joined (take (n + 1) layers) ≡ joined (take n layers) ++ layer
joined_next n layers layer l e =
    ap joined (take_more layers n [] l) ∙ joined_append (take n layers) (get_or layers n [] ∷ [])
    ∙ ap (λ x. joined (take n layers) ++ x) (append-nil (get_or layers n []) ∙ sym e)

-- the list at a place between those before it and those behind it
pub joined_split : (n : ℕ) (layers : List (List Pairs)) (layer : List Pairs) → n < length layers → layer ≡ get_or layers n [] → joined layers ≡ joined (take n layers) ++ (layer ++ joined (drop (n + 1) layers))
joined_split n layers layer l e =
    sym (joined_cut n layers)
    ∙ ap (λ x. joined (take n layers) ++ joined x) (drop_more layers n [] l)
    ∙ ap (λ x. joined (take n layers) ++ (x ++ joined (drop (n + 1) layers))) (sym e)

pub length_next : (n : ℕ) (layers : List (List Pairs)) (layer : List Pairs) → n < length layers → layer ≡ get_or layers n [] → length (joined (take (n + 1) layers)) ≡ length (joined (take n layers)) + length layer
length_next n layers layer l e = ap length (joined_next n layers layer l e) ∙ length-append (joined (take n layers)) layer

pub length_cut : (n : ℕ) (layers : List (List Pairs)) → length (joined (take n layers)) + length (joined (drop n layers)) ≡ length (joined layers)
length_cut n layers = sym (length-append (joined (take n layers)) (joined (drop n layers))) ∙ ap length (joined_cut n layers)

pub length_part : (n : ℕ) (layers : List (List Pairs)) (layer : List Pairs) → n < length layers → layer ≡ get_or layers n [] → length (joined (take n layers)) + length layer ≤ length (joined layers)
length_part n layers layer l e =
    let s : length (joined layers) ≡ length (joined (take n layers) ++ (layer ++ joined (drop (n + 1) layers))) = ap length (joined_split n layers layer l e) in
    let t = length-append (joined (take n layers)) (layer ++ joined (drop (n + 1) layers)) in
    let u = length-append layer (joined (drop (n + 1) layers)) in
    omega (arith, s, t, u)

-- ---- a series by its id

pub place_labels : (layers : List (List Pairs)) (id place local : ℕ) (layer : List Pairs) → layer ≡ get_or layers place [] → IsPlace layers id place local → get_or layer local [] ≡ get_or (joined layers) id []
place_labels layers id place local layer e p =
    let front = joined (take place layers) in
    let back = joined (drop (place + 1) layers) in
    let w : local < length layer = subst (λ l. local < length l) (sym e) p.within in
    sym (get_or_append_left layer back [] local w)
    ∙ sym (get_or-append-add front (layer ++ back) local [])
    ∙ ap (λ n. get_or (front ++ (layer ++ back)) n []) p.behind
    ∙ ap (λ l. get_or l id []) (sym (joined_split place layers layer p.there e))

pub place_within : (layers : List (List Pairs)) (id place local : ℕ) (layer : List Pairs) → layer ≡ get_or layers place [] → IsPlace layers id place local → local < length layer
place_within layers id place local layer e p = subst (λ l. local < length l) (sym e) p.within

-- ---- ids by labels

module _ {K : Type 0} (t : K → Bool) where
  found_by : (v : Bool) (i k : ℕ) (o : Option ℕ) (xs ys : List K) → cond v (Some i) o ≡ Some k → (o ≡ Some k → position_from t (i + 1) (xs ++ ys) ≡ Some k) → cond v (Some i) (position_from t (i + 1) (xs ++ ys)) ≡ Some k
  found_by true i k o xs ys h f = h
  found_by false i k o xs ys h f = f h

  found_left : (i k : ℕ) (xs ys : List K) → position_from t i xs ≡ Some k → position_from t i (xs ++ ys) ≡ Some k
  found_left i k [] ys h = cc
  found_left i k (x ∷ xs) ys h = found_by (t x) i k (position_from t (i + 1) xs) xs ys h (found_left (i + 1) k xs ys)

  missed_by : (v : Bool) (i : ℕ) (o : Option ℕ) → cond v (Some i) o ≡ None → (v ≡ false) × (o ≡ None)
  missed_by true i o h = cc
  missed_by false i o h = (refl, h)

  found_right : (i : ℕ) (xs ys : List K) → position_from t i xs ≡ None → position_from t i (xs ++ ys) ≡ position_from t (i + length xs) ys
  found_right i [] ys h = let e : i ≡ i + 0 = omega arith in ap (λ n. position_from t n ys) e
  found_right i (x ∷ xs) ys h =
      let m = missed_by (t x) i (position_from t (i + 1) xs) h in
      let e : (i + 1) + length xs ≡ i + length (x ∷ xs) = omega arith in
      ap (λ b. cond b (Some i) (position_from t (i + 1) (xs ++ ys))) m.0 ∙ found_right (i + 1) xs ys m.1 ∙ ap (λ n. position_from t n ys) e

  missed_left : (i : ℕ) (xs ys : List K) → position_from t i (xs ++ ys) ≡ None → position_from t i xs ≡ None
  missed_left i [] ys h = refl
  missed_left i (x ∷ xs) ys h =
      let m = missed_by (t x) i (position_from t (i + 1) (xs ++ ys)) h in
      ap (λ b. cond b (Some i) (position_from t (i + 1) xs)) m.0 ∙ missed_left (i + 1) xs ys m.1

  moved_by : (v : Bool) (n i k : ℕ) (o : Option ℕ) (xs : List K) → cond v (Some i) o ≡ Some k → (o ≡ Some k → position_from t (n + (i + 1)) xs ≡ Some (n + k)) → cond v (Some (n + i)) (position_from t ((n + i) + 1) xs) ≡ Some (n + k)
  moved_by true n i k o xs h f = let e : i ≡ k = inside i k h in ap (λ m. Some (n + m)) e where
    inside : (a b : ℕ) → ◌≡◌ {A = Option ℕ} (Some a) (Some b) → a ≡ b
    inside a b h = cc
  moved_by false n i k o xs h f = let e : (n + i) + 1 ≡ n + (i + 1) = omega arith in ap (λ m. position_from t m xs) e ∙ f h

  moved : (n i k : ℕ) (xs : List K) → position_from t i xs ≡ Some k → position_from t (n + i) xs ≡ Some (n + k)
  moved n i k [] h = cc
  moved n i k (x ∷ xs) h = moved_by (t x) n i k (position_from t (i + 1) xs) xs h (moved n (i + 1) k xs)

  none_moved : (n i : ℕ) (xs : List K) → position_from t i xs ≡ None → position_from t n xs ≡ None
  none_moved n i [] h = refl
  none_moved n i (x ∷ xs) h =
      let m = missed_by (t x) i (position_from t (i + 1) xs) h in
      ap (λ b. cond b (Some n) (position_from t (n + 1) xs)) m.0 ∙ none_moved (n + 1) (i + 1) xs m.1

  within_by : (v : Bool) (i k : ℕ) (o : Option ℕ) (n : ℕ) → cond v (Some i) o ≡ Some k → (o ≡ Some k → k < (i + 1) + n) → k < i + suc n
  within_by true i k o n h f = let e : i ≡ k = inside i k h in omega (arith, e) where
    inside : (a b : ℕ) → ◌≡◌ {A = Option ℕ} (Some a) (Some b) → a ≡ b
    inside a b h = cc
  within_by false i k o n h f = omega (arith, f h)

  within : (i k : ℕ) (xs : List K) → position_from t i xs ≡ Some k → k < i + length xs
  within i k [] h = cc
  within i k (x ∷ xs) h = within_by (t x) i k (position_from t (i + 1) xs) (length xs) h (within (i + 1) k xs)

module _ (l : Pairs) (xs ys : List Pairs) where
  pub id_left : (k : ℕ) → Some k ≡ id_of l xs → id_of l (xs ++ ys) ≡ Some k
  id_left k h = found_left (λ y. is_eq (labels_cmp l y)) 0 k xs ys (sym h)

  pub id_right : (k : ℕ) → id_of l xs ≡ None → Some k ≡ id_of l ys → id_of l (xs ++ ys) ≡ Some (length xs + k)
  id_right k h g =
      let e : 0 + length xs ≡ length xs + 0 = omega arith in
      found_right (λ y. is_eq (labels_cmp l y)) 0 xs ys h ∙ ap (λ n. position_from (λ y. is_eq (labels_cmp l y)) n ys) e ∙ moved (λ y. is_eq (labels_cmp l y)) (length xs) 0 k ys (sym g)

  pub id_none : id_of l xs ≡ None → id_of l ys ≡ None → id_of l (xs ++ ys) ≡ None
  id_none h g = found_right (λ y. is_eq (labels_cmp l y)) 0 xs ys h ∙ none_moved (λ y. is_eq (labels_cmp l y)) (0 + length xs) 0 ys g

  pub id_missed : id_of l (xs ++ ys) ≡ None → id_of l xs ≡ None
  id_missed h = missed_left (λ y. is_eq (labels_cmp l y)) 0 xs ys h

pub id_within : (l : Pairs) (xs : List Pairs) (k : ℕ) → Some k ≡ id_of l xs → k < length xs
id_within l xs k h = let w = within (λ y. is_eq (labels_cmp l y)) 0 k xs (sym h) in omega (arith, w)

-- ---- label sets that all differ

both : (s t : Bool) → s ≡ true → t ≡ true → (s && t) ≡ true
both s t p q = λ i. p i && q i

none_not : (o : Option ℕ) → o ≡ None → not (is_some o) ≡ true
none_not o h = ap (λ x. not (is_some x)) h

not_none : (o : Option ℕ) → not (is_some o) ≡ true → o ≡ None
not_none None h = refl
not_none (Some x) h = cc

pub apart_front : (xs ys : List Pairs) → are_apart (xs ++ ys) ≡ true → are_apart xs ≡ true
apart_front [] ys h = refl
apart_front (x ∷ xs) ys h =
    let n : id_of x (xs ++ ys) ≡ None = not_none (id_of x (xs ++ ys)) (first_so (not (is_some (id_of x (xs ++ ys)))) (are_apart (xs ++ ys)) h) in
    both (not (is_some (id_of x xs))) (are_apart xs) (none_not (id_of x xs) (id_missed x xs ys n))
    (apart_front xs ys (second_so (not (is_some (id_of x (xs ++ ys)))) (are_apart (xs ++ ys)) h))

-- one behind others is none of them
take_behind : {X : Type 0} (xs ys : List X) (k : ℕ) → take (length xs + k) (xs ++ ys) ≡ xs ++ take k ys
take_behind [] ys k = let e : 0 + k ≡ k = omega arith in ap (λ n. take n ys) e
take_behind (x ∷ xs) ys k = let e : length (x ∷ xs) + k ≡ suc (length xs + k) = omega arith in ap (λ n. take n (x ∷ (xs ++ ys))) e ∙ ap (λ l. x ∷ l) (take_behind xs ys k)

pub apart_next : (xs ys : List Pairs) (k : ℕ) (d : Pairs) → are_apart (xs ++ ys) ≡ true → k < length ys → id_of (get_or ys k d) (xs ++ take k ys) ≡ None
apart_next xs ys k d h l =
    let n = length-append xs ys in
    ap (λ x. id_of x (xs ++ take k ys)) (sym (get_or-append-add xs ys k d))
    ∙ ap (id_of (get_or (xs ++ ys) (length xs + k) d)) (sym (take_behind xs ys k))
    ∙ apart_at (length xs + k) d (xs ++ ys) h (omega (arith, n, l))

apart_less : (ls : List Pairs) (a b : ℕ) → are_apart ls ≡ true → a < b → b < length ls → labels_cmp (get_or ls a []) (get_or ls b []) ≡ Equal → ⊥
apart_less ls a b h l m e =
    let n = length-take-le b ls (omega (arith, m)) in
    let f : is_eq (labels_cmp (get_or ls b []) (get_or (take b ls) a [])) ≡ false = not_at a (get_or ls b []) [] 0 (take b ls) (apart_at b [] ls h m) (omega (arith, n, l)) in
    let g : is_eq (labels_cmp (get_or ls a []) (get_or ls b [])) ≡ false = same_back (get_or ls a []) (get_or ls b []) ∙ ap (λ x. is_eq (labels_cmp (get_or ls b []) x)) (sym (get_or-take b ls a [] l)) ∙ f in
    differ (ap is_eq e) g where
      differ : {b : Bool} → b ≡ true → b ≡ false → ⊥
      differ p q = cc

pub apart_same : (ls : List Pairs) (a b : ℕ) → are_apart ls ≡ true → a < length ls → b < length ls → labels_cmp (get_or ls a []) (get_or ls b []) ≡ Equal → a ≡ b
apart_same ls a b h l m e = by (cases_order a b) where
  by : (a ≡ b) ⊎ ((a < b) ⊎ (b < a)) → a ≡ b
  by (inl p) = p
  by (inr (inl p)) = absurd (apart_less ls a b h p m e)
  by (inr (inr p)) = absurd (apart_less ls b a h p l (tied_back labels_total (get_or ls a []) (get_or ls b []) e))

-- ---- the lists of a pair

from_append_by : (v : Bool) (i : ℕ) (ys zs hs : List ℕ) → hs ≡ ys ++ zs → cond v (i ∷ hs) hs ≡ cond v (i ∷ ys) ys ++ zs
from_append_by true i ys zs hs h = ap (λ l. i ∷ l) h
from_append_by false i ys zs hs h = h

pub ids_append : (i : ℕ) (q r : List ℕ) (xs ys : List Pairs) → ids_from i q r (xs ++ ys) ≡ ids_from i q r xs ++ ids_from (i + length xs) q r ys
ids_append i q r [] ys = let e : i ≡ i + 0 = omega arith in ap (λ n. ids_from n q r ys) e
ids_append i q r (x ∷ xs) ys =
    let e : (i + 1) + length xs ≡ i + length (x ∷ xs) = omega arith in
    from_append_by (has_pair q r x) i (ids_from (i + 1) q r xs) (ids_from (i + length (x ∷ xs)) q r ys) (ids_from (i + 1) q r (xs ++ ys))
    (ids_append (i + 1) q r xs ys ∙ ap (λ n. ids_from (i + 1) q r xs ++ ids_from n q r ys) e)

moved_ids_by : (v : Bool) (n i : ℕ) (hs ks : List ℕ) → hs ≡ map (λ id. n + id) ks → cond v ((n + i) ∷ hs) hs ≡ map (λ id. n + id) (cond v (i ∷ ks) ks)
moved_ids_by true n i hs ks h = ap (λ l. (n + i) ∷ l) h
moved_ids_by false n i hs ks h = h

moved_ids : (n i : ℕ) (q r : List ℕ) (xs : List Pairs) → ids_from (n + i) q r xs ≡ map (λ id. n + id) (ids_from i q r xs)
moved_ids n i q r [] = refl
moved_ids n i q r (x ∷ xs) =
    let e : (n + i) + 1 ≡ n + (i + 1) = omega arith in
    moved_ids_by (has_pair q r x) n i (ids_from ((n + i) + 1) q r xs) (ids_from (i + 1) q r xs) (ap (λ m. ids_from m q r xs) e ∙ moved_ids n (i + 1) q r xs)

pub ids_shifted : (n : ℕ) (q r : List ℕ) (xs : List Pairs) → map (λ id. n + id) (ids_with q r xs) ≡ ids_from n q r xs
ids_shifted n q r xs = let e : n + 0 ≡ n = omega arith in sym (moved_ids n 0 q r xs) ∙ ap (λ m. ids_from m q r xs) e

within_ids_by : (n i : ℕ) (v : Bool) (hs : List ℕ) → i < n → All (λ id. id < n) hs → All (λ id. id < n) (cond v (i ∷ hs) hs)
within_ids_by n i true hs l a = All-cons (λ id. id < n) i hs l a
within_ids_by n i false hs l a = a

within_ids : (n i : ℕ) (q r : List ℕ) (xs : List Pairs) → i + length xs ≤ n → All (λ id. id < n) (ids_from i q r xs)
within_ids n i q r [] l = All-nil (λ id. id < n)
within_ids n i q r (x ∷ xs) l = within_ids_by n i (has_pair q r x) (ids_from (i + 1) q r xs) (omega (arith, l)) (within_ids n (i + 1) q r xs (omega (arith, l)))

pub ids_within : (q r : List ℕ) (xs : List Pairs) → All (λ id. id < length xs) (ids_with q r xs)
ids_within q r xs = within_ids (length xs) 0 q r xs (omega arith)

few_by : (v : Bool) (i n : ℕ) (hs : List ℕ) → length hs ≤ n → length (cond v (i ∷ hs) hs) ≤ suc n
few_by true i n hs l = omega (arith, l)
few_by false i n hs l = omega (arith, l)

pub ids_few : (i : ℕ) (q r : List ℕ) (xs : List Pairs) → length (ids_from i q r xs) ≤ length xs
ids_few i q r [] = omega arith
ids_few i q r (x ∷ xs) = few_by (has_pair q r x) i (length xs) (ids_from (i + 1) q r xs) (ids_few (i + 1) q r xs)

-- ---- indexes by their places

module _ {X : Type 0} (f : X → List Pairs) (xs : List X) where
  pub layer_is : (n : ℕ) (a : X) (b : List Pairs) → n < length xs → a ≡ get_or xs n a → b ≡ f a → b ≡ get_or (map f xs) n []
  layer_is n a b l h e = e ∙ ap f h ∙ sym (get_or-map f xs n a [] l)

  pub layer_in : (n : ℕ) → n < length xs → n < length (map f xs)
  layer_in n l = let e = length-map xs f in omega (arith, e, l)

  pub layers_push : (old new : List X) (n : ℕ) (a x : X) → new ≡ old ++ a ∷ [] → map f old ≡ take n (map f xs) → f a ≡ f x → x ≡ get_or xs n x → n < length xs → map f new ≡ take (n + 1) (map f xs)
  layers_push old new n a x p q e h l =
      ap (map f) p ∙ map_push f old a ∙ (λ i. q i ++ e i ∷ []) ∙ ap (λ y. take n (map f xs) ++ y ∷ []) (layer_is n x (f x) l h refl)
      ∙ sym (take_more (map f xs) n [] (layer_in n l))

  pub layer_out : (n : ℕ) → n < length (map f xs) → n < length xs
  layer_out n l = let e = length-map xs f in omega (arith, e, l)

  pub joined_upto : (n : ℕ) → length xs ≤ n → joined (take n (map f xs)) ≡ joined (map f xs)
  joined_upto n l = let e = length-map xs f in ap joined (take_all n (map f xs) (omega (arith, e, l)))

  pub joined_all : (n : ℕ) → length xs ≤ n → length (joined (take n (map f xs))) ≡ length (joined (map f xs))
  joined_all n l = let e = length-map xs f in ap (λ x. length (joined x)) (take_all n (map f xs) (omega (arith, e, l)))

-- ---- the lists of a pair, index by index

pub zero_shift : (first : ℕ) (ids : List ℕ) → first ≡ 0 → map (λ id. first + id) ids ≡ ids
zero_shift first [] e = refl
zero_shift first (id ∷ ids) e =
    let h : first + id ≡ id = omega (arith, e) in
    let r = zero_shift first ids e in
    λ i. h i ∷ r i

module _ (q r : List ℕ) where
  pub ids_next : (first n : ℕ) (layers : List (List Pairs)) (layer : List Pairs) → n < length layers → layer ≡ get_or layers n []
      → ids_from first q r (joined (take (n + 1) layers)) ≡ ids_from first q r (joined (take n layers)) ++ map (λ id. (first + length (joined (take n layers))) + id) (ids_with q r layer)
  ids_next first n layers layer l e =
      ap (ids_from first q r) (joined_next n layers layer l e) ∙ ids_append first q r (joined (take n layers)) layer
      ∙ ap (λ x. ids_from first q r (joined (take n layers)) ++ x) (sym (ids_shifted (first + length (joined (take n layers))) q r layer))

  pub ids_counted : (first : ℕ) (ls : List Pairs) → length (ids_from first q r ls) ≡ length (ids_with q r ls)
  ids_counted first ls = ap length (sym (ids_shifted first q r ls)) ∙ length-map (ids_with q r ls) (λ id. first + id)

  pub count_next : (n : ℕ) (layers : List (List Pairs)) (layer : List Pairs) → n < length layers → layer ≡ get_or layers n []
      → length (ids_with q r (joined (take (n + 1) layers))) ≡ length (ids_with q r (joined (take n layers))) + length (ids_with q r layer)
  count_next n layers layer l e =
      ap length (ids_next 0 n layers layer l e) ∙ length-append (ids_with q r (joined (take n layers))) (map (λ id. (0 + length (joined (take n layers))) + id) (ids_with q r layer))
      ∙ ap (λ m. length (ids_with q r (joined (take n layers))) + m) (length-map (ids_with q r layer) (λ id. (0 + length (joined (take n layers))) + id))

  module _ (first behind next : ℕ) (rest ids : List ℕ) (more others : List (List Pairs)) (layer : List Pairs) (m : more ≡ layer ∷ others) (i : ids ≡ ids_with q r layer) (n : next ≡ behind + length layer) where
    pub ids_walked : (whole : List ℕ) → rest ≡ [] → map (λ id. first + id) rest ++ ids_from behind q r (joined more) ≡ whole → map (λ id. behind + id) ids ++ ids_from next q r (joined others) ≡ whole
    ids_walked whole e h =
        (λ j. map (λ id. behind + id) (i j) ++ ids_from (n j) q r (joined others))
        ∙ ap (λ x. x ++ ids_from (behind + length layer) q r (joined others)) (ids_shifted behind q r layer)
        ∙ sym (ids_append behind q r layer (joined others))
        ∙ ap (λ x. ids_from behind q r (joined x)) (sym m)
        ∙ ap (λ x. map (λ id. first + id) x ++ ids_from behind q r (joined more)) (sym e) ∙ h

    pub ids_left : behind + length (joined more) < 2 ^ 32 → ArePostings ids behind next others
    ids_left h =
        let s : length (joined more) ≡ length layer + length (joined others) = ap (λ x. length (joined x)) m ∙ length-append layer (joined others) in
        let f = ids_few 0 q r layer in
        let g = ap length i in
        record {
          few = omega (arith, s, n, h);
          within = λ k d l. let w = subst (All (λ id. id < length layer)) (sym i) (ids_within q r layer) k d l in omega (arith, w, s, h);
          count = omega (arith, s, f, g, h);
        }

-- ---- a look-up, index by index

module _ (l : Pairs) (layers : List (List Pairs)) (n : ℕ) (layer : List Pairs) (h : n < length layers) (e : layer ≡ get_or layers n []) (none : id_of l (joined (take n layers)) ≡ None) (first : ℕ)
    (f : first ≡ length (joined (take n layers))) where
  pub found_in : (local : ℕ) → Some local ≡ id_of l layer → Some (first + local) ≡ id_of l (joined layers)
  found_in local g =
      ap (λ m. Some (m + local)) f
      ∙ sym (ap (id_of l) (joined_split n layers layer h e)
      ∙ id_right l (joined (take n layers)) (layer ++ joined (drop (n + 1) layers)) local none (sym (id_left l layer (joined (drop (n + 1) layers)) local g)))

  pub found_few : (local : ℕ) → length (joined layers) < 2 ^ 32 → Some local ≡ id_of l layer → first + local < 2 ^ 32
  found_few local few g = let p = length_part n layers layer h e in let w = id_within l layer local g in omega (arith, p, w, f, few)

  pub none_next : id_of l layer ≡ None → id_of l (joined (take (n + 1) layers)) ≡ None
  none_next g = ap (id_of l) (joined_next n layers layer h e) ∙ id_none l (joined (take n layers)) layer none g

  pub first_next : (count : ℕ) → count ≡ length layer → first + count ≡ length (joined (take (n + 1) layers))
  first_next count k = let p = length_next n layers layer h e in omega (arith, p, k, f)

  pub next_few : (count : ℕ) → count ≡ length layer → length (joined layers) < 2 ^ 32 → first + count < 2 ^ 32
  next_few count k few = let p = length_part n layers layer h e in omega (arith, p, k, f, few)

-- ---- a further index on some of them

pub kept_on : (n : ℕ) (layers : List (List Pairs)) (top all : List Pairs) → all ≡ joined (take n layers) ++ (joined (drop n layers) ++ top) → all ≡ joined layers ++ top
kept_on n layers top all e = e ∙ sym (append_assoc (joined (take n layers)) (joined (drop n layers)) top) ∙ ap (λ x. x ++ top) (joined_cut n layers)

pub apart_back : (xs ys : List Pairs) → are_apart (xs ++ ys) ≡ true → are_apart ys ≡ true
apart_back [] ys h = h
apart_back (x ∷ xs) ys h = apart_back xs ys (second_so (not (is_some (id_of x (xs ++ ys)))) (are_apart (xs ++ ys)) h)

pub apart_kept : (n : ℕ) (layers : List (List Pairs)) (top : List Pairs) → are_apart (joined layers ++ top) ≡ true → are_apart (joined (drop n layers) ++ top) ≡ true
apart_kept n layers top h =
    apart_back (joined (take n layers)) (joined (drop n layers) ++ top)
    (subst (λ x. are_apart x ≡ true) (ap (λ x. x ++ top) (sym (joined_cut n layers)) ∙ append_assoc (joined (take n layers)) (joined (drop n layers)) top) h)

-- some of them in one, with a further one behind
module _ (first top : List Pairs) (others : List (List Pairs)) (n : ℕ) where
  pub apart_taken : (layer : List Pairs) → n < length others → layer ≡ get_or others n [] → are_apart ((first ++ joined others) ++ top) ≡ true → are_apart ((first ++ joined (take n others)) ++ layer) ≡ true
  apart_taken layer l e h =
      let rest = joined (drop (n + 1) others) in
      apart_front ((first ++ joined (take n others)) ++ layer) (rest ++ top)
      (subst (λ x. are_apart x ≡ true)
      (ap (λ x. (first ++ x) ++ top) (joined_split n others layer l e)
      ∙ ap (λ x. x ++ top) (sym (append_assoc first (joined (take n others)) (layer ++ rest)) ∙ sym (append_assoc (first ++ joined (take n others)) layer rest))
      ∙ append_assoc ((first ++ joined (take n others)) ++ layer) rest top)
      h)

  pub taken_next : (layer next now : List Pairs) → n < length others → layer ≡ get_or others n [] → now ≡ first ++ joined (take n others) → next ≡ now ++ layer → next ≡ first ++ joined (take (n + 1) others)
  taken_next layer next now l e h g =
      g ∙ ap (λ x. x ++ layer) h ∙ append_assoc first (joined (take n others)) layer ∙ ap (λ x. first ++ x) (sym (joined_next n others layer l e))

-- ids that are left behind the first of them
pub postings_tail : (id : ℕ) (rest left : List ℕ) (first behind : ℕ) (more : List (List Pairs)) → rest ≡ id ∷ left → ArePostings rest first behind more → ArePostings left first behind more
postings_tail id rest left first behind more e p =
    let n = ap length e in
    record {
      few = p.few;
      within = All-tail (λ id. first + id < 2 ^ 32) id left (subst (All (λ id. first + id < 2 ^ 32)) e p.within);
      count = omega (arith, n, p.count);
    }
