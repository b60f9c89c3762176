-- Series in label order among others that are, and those of several indexes.
use Rattle.std.proofs.Common.{◌≡◌, ℕ, zero, suc, ◌+◌, ◌-◌, ◌<◌, ◌≤◌, Bool, true, false, List, [], ◌∷◌, ◌++◌, length, map, take, drop, get_or, refl, sym, ap, ◌∙◌, subst, arith, append_assoc, add-one, ◌⊎◌, inl, inr}
use Rattle.std.specs.Cmp.{nat_cmp_total, tied_itself, upto}
use Rattle.std.specs.List.{All}
use Rattle.std.specs.List.Sorted.{IsPermutation}
use Rattle.std.specs.Ordering.{is_gt, is_lt, nat_cmp, ordering_reverse, ordering_then}
use Rattle.std.specs.declared.cmp.Ordering.{Ordering}
use Rattle.std.specs.declared.cmp.Ordering.TheVariants.{Less, Equal, Greater}
use Rattle.std.proofs.lemmas.Bool.{cases_order}
use Rattle.std.proofs.lemmas.List.{append-nil, drop-drop, drop_all, drop_more, get_or_default, get_or-drop, get_or-take, length-append, length-drop, length-take-le, take-append-drop}
use Rattle.std.proofs.lemmas.List.Elements.{All-drop, All-take}
use Rattle.std.proofs.lemmas.List.Sorted.{All-permutation}
use Rattle.pf_base.specs.LabelSets.{Pairs}
use Rattle.pf_base.specs.LabelOrder.{labels_cmp, labels_total}
use Rattle.pf_base.specs.Sorting.{isort}
use Rattle.pf_base.proofs.Sorted.{sort_moves}
use Rattle.pf_base.proofs.Sorting.{Ascends, ascends_isort}
use Rattle.pf_block.specs.IndexStacks.{joined}
use Rattle.pf_block.specs.LabelOrders.{ids_cmp, in_label_order, rise_from}
use Rattle.pf_block.specs.Snaps.{are_apart}
use Rattle.pf_block.proofs.Joining.{apart_same, joined_split, length_next}
use Rattle.pf_block.proofs.OrderedIds.{ids_exact, ids_total, part_ordered, rise_above, rise_drop, rise_take}
use Rattle.pf_block.proofs.Sorts.{above_far, above_rest, ascends_drop, ascends_from, ascends_is, put, put_step, sort_append, sort_parts, sort_turned, sorted_again}

-- ---- two series by their labels

less_is : (o p : Ordering) → is_lt o ≡ true → is_gt (ordering_reverse (ordering_then o p)) ≡ true
less_is Less p h = refl
less_is Equal p h = cc
less_is Greater p h = cc

flipped : (ls : List Pairs) (a b : ℕ) → is_gt (ids_cmp ls b a) ≡ is_gt (ordering_reverse (ids_cmp ls a b))
flipped ls a b = ap is_gt ((ids_total ls).antisymm b a)

-- the label set of one is less: it stands before
pub before_by_labels : (ls : List Pairs) (id other : ℕ) → is_lt (labels_cmp (get_or ls other []) (get_or ls id [])) ≡ true → is_gt (ids_cmp ls id other) ≡ true
before_by_labels ls id other h = flipped ls other id ∙ less_is (labels_cmp (get_or ls other []) (get_or ls id [])) (nat_cmp other id) h

not_less : (ls : List Pairs) (id other : ℕ) (o : Ordering) → labels_cmp (get_or ls other []) (get_or ls id []) ≡ o → is_lt o ≡ false → (o ≡ Equal → other ≡ id)
    → is_gt (ordering_reverse (ordering_then o (nat_cmp other id))) ≡ false
not_less ls id other Less e h f = cc
not_less ls id other Equal e h f = same (f refl) where
  same : other ≡ id → is_gt (ordering_reverse (nat_cmp other id)) ≡ false
  same p = ap (λ x. is_gt (ordering_reverse (nat_cmp x id))) p ∙ ap (λ o. is_gt (ordering_reverse o)) (tied_itself nat_cmp_total id)
not_less ls id other Greater e h f = refl

pub behind_by_labels : (ls : List Pairs) (id other : ℕ) → are_apart ls ≡ true → id < length ls → other < length ls → is_lt (labels_cmp (get_or ls other []) (get_or ls id [])) ≡ false → is_gt (ids_cmp ls id other) ≡ false
behind_by_labels ls id other apart l m h =
    flipped ls other id ∙ not_less ls id other (labels_cmp (get_or ls other []) (get_or ls id [])) refl h (λ e. apart_same ls other id apart m l e)

-- ---- how many stand before another

differ : {b : Bool} → b ≡ true → b ≡ false → ⊥
differ p q = cc

module _ (ls : List Pairs) (ids : List ℕ) (id : ℕ) (ordered : ids ≡ in_label_order ls ids) where
  -- not above one behind it
  rises : (i k : ℕ) → i ≤ k → k < length ids → is_gt (ids_cmp ls (get_or ids i 0) (get_or ids k 0)) ≡ false
  rises i k l m = by (cases_order i k) where
    by : (i ≡ k) ⊎ ((i < k) ⊎ (k < i)) → is_gt (ids_cmp ls (get_or ids i 0) (get_or ids k 0)) ≡ false
    by (inl e) = ap (λ n. is_gt (ids_cmp ls (get_or ids n 0) (get_or ids k 0))) e ∙ ap is_gt (tied_itself (ids_total ls) (get_or ids k 0))
    by (inr (inl e)) = above_far (ids_cmp ls) (ids_total ls) ids i k 0 (ascends_from (ids_cmp ls) (ids_total ls) ids ordered) e m
    by (inr (inr e)) = absurd (omega (arith, e, l))

  gt_by : (i k : ℕ) (b : Bool) → is_gt (ids_cmp ls id (get_or ids i 0)) ≡ b → is_gt (ids_cmp ls (get_or ids i 0) (get_or ids k 0)) ≡ false → is_gt (ids_cmp ls id (get_or ids k 0)) ≡ true → b ≡ true
  gt_by i k true e f h = refl
  gt_by i k false e f h = absurd (differ h (upto (ids_total ls) id (get_or ids i 0) (get_or ids k 0) e f))

  -- as far as a place, where the one there is before it
  pub before_upto : (place : ℕ) → place < length ids → is_gt (ids_cmp ls id (get_or ids place 0)) ≡ true → (k : ℕ) → k < place + 1 → is_gt (ids_cmp ls id (get_or ids k 0)) ≡ true
  before_upto place l h k m = gt_by k place (is_gt (ids_cmp ls id (get_or ids k 0))) refl (rises k place (omega (arith, m)) l) h

  pub behind_from : (place : ℕ) → is_gt (ids_cmp ls id (get_or ids place 0)) ≡ false → (k : ℕ) → place ≤ k → k < length ids → is_gt (ids_cmp ls id (get_or ids k 0)) ≡ false
  behind_from place h k l m = upto (ids_total ls) id (get_or ids place 0) (get_or ids k 0) h (rises place k l m)

-- ---- some among others

abbrev pub placed_so_far : List Pairs → List ℕ → List ℕ → ℕ → List ℕ → List ℕ → Type 0
placed_so_far ls few many i found rest = found ++ put (ids_cmp ls) (ids_total ls) (drop i few) rest ≡ put (ids_cmp ls) (ids_total ls) few many

module _ (ls : List Pairs) (few many : List ℕ) (f : few ≡ in_label_order ls few) (m : many ≡ in_label_order ls many) where
  pub placed_next : (i n id : ℕ) (found rest mid new left : List ℕ) → i < length few → id ≡ get_or few i 0 → placed_so_far ls few many i found rest
      → n ≤ length rest → ((k : ℕ) → k < n → is_gt (ids_cmp ls id (get_or rest k 0)) ≡ true) → ((k : ℕ) → n ≤ k → k < length rest → is_gt (ids_cmp ls id (get_or rest k 0)) ≡ false)
      → mid ≡ found ++ take n rest → new ≡ mid ++ id ∷ [] → left ≡ drop n rest → placed_so_far ls few many (i + 1) new left
  placed_next i n id found rest mid new left l e p w b c q r s =
      let R = ids_cmp ls in
      let o = ids_total ls in
      let rest_of = drop (i + 1) few in
      let here : drop i few ≡ id ∷ rest_of = drop_more few i 0 l ∙ ap (λ x. x ∷ rest_of) (sym e) in
      let above = subst (λ x. All (λ y. is_gt (R x y) ≡ false) rest_of) (sym e)
      (subst (λ n. All (λ y. is_gt (R (get_or few i 0) y) ≡ false) (drop n few)) (sym (add-one i)) (above_rest R o few i 0 (ascends_from R o few f) l)) in
      (λ j. r j ++ put R o rest_of (s j))
      ∙ ap (λ x. (x ++ id ∷ []) ++ put R o rest_of (drop n rest)) q
      ∙ append_assoc (found ++ take n rest) (id ∷ []) (put R o rest_of (drop n rest))
      ∙ append_assoc found (take n rest) (id ∷ put R o rest_of (drop n rest))
      ∙ ap (λ x. found ++ x) (sym (put_step R o id 0 rest_of rest n above w b c))
      ∙ ap (λ x. found ++ put R o x rest) (sym here) ∙ p

  pub placed_all : (i : ℕ) (found rest out : List ℕ) → length few ≤ i → placed_so_far ls few many i found rest → out ≡ found ++ rest → out ≡ in_label_order ls (few ++ many)
  placed_all i found rest out l p q =
      q ∙ ap (λ x. found ++ put (ids_cmp ls) (ids_total ls) x rest) (sym (drop_all i few l)) ∙ p
      ∙ ap (put (ids_cmp ls) (ids_total ls) few) m ∙ sym (sort_append (ids_cmp ls) (ids_total ls) few many)

-- what is left is still in order
pub rest_ordered : (ls : List Pairs) (ids left : List ℕ) (n : ℕ) → ids ≡ in_label_order ls ids → left ≡ drop n ids → left ≡ in_label_order ls left
rest_ordered ls ids left n e f =
    let R = ids_cmp ls in
    let o = ids_total ls in
    sym (ascends_is R o left (subst (Ascends R) (sym f) (ascends_drop R o n ids (ascends_from R o ids e))))

-- ---- two lists

module _ (ls : List Pairs) (first second : List ℕ) where
  pub none_behind : first ≡ in_label_order ls first → second ≡ [] → first ≡ in_label_order ls (first ++ second)
  none_behind f e = f ∙ ap (in_label_order ls) (sym (append-nil first) ∙ ap (λ x. first ++ x) (sym e))

  pub none_before : second ≡ in_label_order ls second → first ≡ [] → second ≡ in_label_order ls (first ++ second)
  none_before f e = f ∙ ap (λ x. in_label_order ls (x ++ second)) (sym e)

  pub other_way : (out : List ℕ) → out ≡ in_label_order ls (second ++ first) → out ≡ in_label_order ls (first ++ second)
  other_way out h = h ∙ sort_turned (ids_cmp ls) (ids_total ls) (ids_exact ls) first second

-- ---- those of several indexes

pub order_again : (ls : List Pairs) (ids out : List ℕ) → out ≡ in_label_order ls ids → out ≡ in_label_order ls out
order_again ls ids out e = e ∙ sorted_again (ids_cmp ls) (ids_total ls) ids ∙ ap (in_label_order ls) (sym e)

pub order_within : (ls : List Pairs) (n : ℕ) (ids out : List ℕ) → out ≡ in_label_order ls ids → All (λ id. id < n) ids → All (λ id. id < n) out
order_within ls n ids out e a = All-permutation (λ id. id < n) ids out (subst (IsPermutation ids) (sym e) (sort_moves (ids_cmp ls) ids)) a

module _ (layers : List (List Pairs)) (layer : List Pairs) (place : ℕ) (l : place < length layers) (e : layer ≡ get_or layers place []) (ids : List ℕ) (first begin end : ℕ)
    (f : first ≡ length (joined (take place layers))) (rise : rise_from 0 ids ≡ true) (low : begin ≤ end) (high : end ≤ length ids)
    (below : (k : ℕ) → k < end → get_or ids k 0 < first + length layer) (above : (k : ℕ) → begin ≤ k → k < end → first ≤ get_or ids k 0) where
  abbrev part : List ℕ
  part = take (end - begin) (drop begin ids)

  part_length : length part ≡ end - begin
  part_length = length-take-le (end - begin) (drop begin ids) (omega (arith, length-drop begin ids, low, high))

  part_at : (k d : ℕ) → k < length part → get_or part k d ≡ get_or ids (begin + k) 0
  part_at k d h =
      let n = part_length in
      let m = length-drop begin ids in
      get_or-take (end - begin) (drop begin ids) k d (omega (arith, n, h)) ∙ get_or-drop begin ids k d ∙ get_or_default ids (begin + k) d 0 (omega (arith, n, h, low, high))

  pub part_above : All (λ id. first ≤ id) part
  part_above k d h = let n = part_length in subst (λ x. first ≤ x) (sym (part_at k d h)) (above (begin + k) (omega arith) (omega (arith, n, h, low)))

  pub part_below : All (λ id. id < first + length layer) part
  part_below k d h = let n = part_length in subst (λ x. x < first + length layer) (sym (part_at k d h)) (below (begin + k) (omega (arith, n, h, low)))

  pub part_rises : rise_from first part ≡ true
  part_rises = rise_above 0 first part (rise_take 0 (end - begin) (drop begin ids) (rise_drop 0 begin ids rise)) part_above

  pub part_is : (out : List ℕ) → ((locals : List ℕ) → part ≡ map (λ id. first + id) locals → out ≡ map (λ id. first + id) (in_label_order layer locals)) → out ≡ in_label_order (joined layers) part
  part_is out h =
      part_ordered (joined (take place layers)) layer (joined (drop (place + 1) layers)) first (sym f) part out part_rises part_below h
      ∙ ap (λ x. in_label_order x part) (sym (joined_split place layers layer l e))

  drop_part : part ++ drop end ids ≡ drop begin ids
  drop_part =
      let n : begin + (end - begin) ≡ end = omega (arith, low) in
      ap (λ x. part ++ x) (ap (λ m. drop m ids) (sym n) ∙ sym (drop-drop (end - begin) begin ids)) ∙ take-append-drop (end - begin) (drop begin ids)

  pub found_more : (found out all : List ℕ) → out ≡ in_label_order (joined layers) part → found ≡ in_label_order (joined layers) (drop end ids) → all ≡ in_label_order (joined layers) (out ++ found)
      → all ≡ in_label_order (joined layers) (drop begin ids)
  found_more found out all p q r =
      let R = ids_cmp (joined layers) in
      r ∙ sort_parts R (ids_total (joined layers)) (ids_exact (joined layers)) part (drop end ids) out found p q ∙ ap (in_label_order (joined layers)) drop_part

-- ids below the first one of an index, and those of it
module _ (layers : List (List Pairs)) (layer : List Pairs) (place first count end : ℕ) (ids : List ℕ) (some : 0 < place) (inside : place ≤ length layers) (is : layer ≡ get_or layers (place - 1) [])
    (f : first ≡ length (joined (take place layers))) (n : count ≡ length layer) (rise : rise_from 0 ids ≡ true) (high : end ≤ length ids) (below : (k : ℕ) → k < end → get_or ids k 0 < first) where
  there : place - 1 < length layers
  there = omega (arith, some, inside)

  first_is : first ≡ length (joined (take (place - 1) layers)) + length layer
  first_is = let e : place ≡ (place - 1) + 1 = omega (arith, some) in f ∙ ap (λ m. length (joined (take m layers))) e ∙ length_next (place - 1) layers layer there is

  pub count_few : count ≤ first
  count_few = let e = first_is in omega (arith, e, n)

  pub next_first : first - count ≡ length (joined (take (place - 1) layers))
  next_first = let e = first_is in omega (arith, e, n)

  pub whole_few : (first - count) + length layer ≡ first
  whole_few = let e = first_is in omega (arith, e, n)

  pub taken_rises : rise_from 0 (take end ids) ≡ true
  taken_rises = rise_take 0 end ids rise

  module _ (begin : ℕ) (low : begin ≤ length (take end ids)) (b : (k : ℕ) → k < begin → get_or (take end ids) k 0 < first - count)
      (a : (k : ℕ) → begin ≤ k → k < length (take end ids) → first - count ≤ get_or (take end ids) k 0) where
    taken : length (take end ids) ≡ end
    taken = length-take-le end ids high

    pub begins : begin ≤ end
    begins = let t = taken in omega (arith, t, low)

    lesser : (k : ℕ) → k < end → get_or ids k 0 < (first - count) + length layer
    lesser k h = let w = whole_few in let g = below k h in omega (arith, w, g)

    greater : (k : ℕ) → begin ≤ k → k < end → first - count ≤ get_or ids k 0
    greater k g h = let t = taken in subst (λ x. first - count ≤ x) (get_or-take end ids k 0 h) (a k g (omega (arith, t, h)))

    pub next_below : (k : ℕ) → k < begin → get_or ids k 0 < first - count
    next_below k h = let t = taken in subst (λ x. x < first - count) (get_or-take end ids k 0 (omega (arith, t, low, h))) (b k h)

    pub cut_rises : rise_from (first - count) (take (end - begin) (drop begin ids)) ≡ true
    cut_rises = part_rises layers layer (place - 1) there is ids (first - count) begin end next_first rise begins high lesser greater

    pub cut_below : All (λ id. id < (first - count) + length layer) (take (end - begin) (drop begin ids))
    cut_below = part_below layers layer (place - 1) there is ids (first - count) begin end next_first rise begins high lesser greater

    pub cut_is : (out : List ℕ) → ((locals : List ℕ) → take (end - begin) (drop begin ids) ≡ map (λ id. (first - count) + id) locals → out ≡ map (λ id. (first - count) + id) (in_label_order layer locals))
        → out ≡ in_label_order (joined layers) (take (end - begin) (drop begin ids))
    cut_is out h = part_is layers layer (place - 1) there is ids (first - count) begin end next_first rise begins high lesser greater out h

    pub cut_found : (found out all : List ℕ) → out ≡ in_label_order (joined layers) (take (end - begin) (drop begin ids)) → found ≡ in_label_order (joined layers) (drop end ids)
        → all ≡ in_label_order (joined layers) (out ++ found) → all ≡ in_label_order (joined layers) (drop begin ids)
    cut_found found out all p q r = found_more layers layer (place - 1) there is ids (first - count) begin end next_first rise begins high lesser greater found out all p q r

pub all_found : (ls : List Pairs) (ids found : List ℕ) (first end : ℕ) → first ≡ 0 → ((k : ℕ) → k < end → get_or ids k 0 < first) → found ≡ in_label_order ls (drop end ids) → found ≡ in_label_order ls ids
all_found ls ids found first zero e below h = h
all_found ls ids found first (suc end) e below h = let g = below 0 (omega arith) in absurd (omega (arith, g, e))
