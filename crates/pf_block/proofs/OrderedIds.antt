-- Series of one index in label order: by a sort of their places there, or by a walk over all; and among those of others.
use Rattle.std.proofs.Common.{◌≡◌, ℕ, zero, suc, ◌+◌, ◌-◌, ◌<◌, ◌≤◌, ◌&&◌, ◌||◌, Bool, true, false, cond, nat_eq, List, [], ◌∷◌, ◌++◌, length, map, filter, take, drop, get_or, refl, sym, ap, ◌∙◌, subst, arith, ◌⊎◌, inl, inr}
use Rattle.std.specs.Prelude.{nat_le, nat_lt}
use Rattle.std.specs.Cmp.{IsTotalOrder, first_so, nat_eq_equiv, on_total, second_so, tied_itself}
use Rattle.std.specs.List.{All, list_any}
use Rattle.std.specs.List.Sorted.{IsPartitionedBy, IsPermutation, IsSorted}
use Rattle.std.specs.Ordering.{is_gt, is_lt, nat_cmp, ordering_reverse, ordering_then}
use Rattle.std.specs.declared.cmp.Ordering.{Ordering}
use Rattle.std.specs.declared.cmp.Ordering.TheVariants.{Less, Equal, Greater}
use Rattle.std.proofs.lemmas.Bool.{cases_order, eqb-true, eqb-false, le-leb, leb-true, lt-ltb, ltb-false, ltb-true, ne_eqb}
use Rattle.std.proofs.lemmas.Bool.Decides.{nat_tests}
use Rattle.std.proofs.lemmas.List.{get_or-append-add, get_or-map, get_or_append_left, get_or_read, length-map, same_lists}
use Rattle.std.proofs.lemmas.List.Elements.{All-cons, All-head, All-map, All-nil, All-tail}
use Rattle.std.proofs.lemmas.List.Sorted.{All-permutation, IsPermutation-map, ranks_by, sorted_far}
use Rattle.std.proofs.lemmas.Map.Keys.{ge_from_not_lt}
use Rattle.pf_base.specs.LabelSets.{Pairs}
use Rattle.pf_base.specs.LabelOrder.{labels_cmp, labels_total}
use Rattle.pf_base.specs.Sorting.{ins, isort}
use Rattle.pf_base.proofs.Sorted.{is_sorted, sort_moves}
use Rattle.pf_base.proofs.Sorting.{Ascends, ascends_isort, sorted_is}
use Rattle.pf_block.specs.Indexes.{AreRanked}
use Rattle.pf_block.specs.LabelOrders.{by_label, ids_by_label, ids_cmp, in_label_order, numbered_from, rise_from}
use Rattle.pf_block.specs.Snaps.{are_apart}
use Rattle.pf_block.proofs.Joining.{apart_same}
use Rattle.pf_block.proofs.LabelOrdering.{by_label_exact, by_label_total, ids_within, length_ids, length_numbered, numbered_at}
use Rattle.pf_block.proofs.Sorts.{above_far, filter_isort, moved_isort}

abbrev Entry : Type 0
Entry = Pairs × ℕ

-- ---- the order of ids

module _ (ls : List Pairs) where
  abbrev entry_at : ℕ → Entry
  entry_at id = (get_or ls id [], id)

  pub ids_total : IsTotalOrder (ids_cmp ls)
  ids_total = on_total entry_at by_label_total

  pub ids_exact : (a b : ℕ) → ids_cmp ls a b ≡ Equal → a ≡ b
  ids_exact a b e = ap (λ (x : Entry). x.1) (by_label_exact (entry_at a) (entry_at b) e)

-- ---- ids that rise

pub rise_least : (n : ℕ) (ids : List ℕ) → rise_from n ids ≡ true → All (λ id. n ≤ id) ids
rise_least n [] h = All-nil (λ id. n ≤ id)
rise_least n (id ∷ ids) h =
    let f = leb-true n id (first_so (nat_le n id) (rise_from (id + 1) ids) h) in
    let r = rise_least (id + 1) ids (second_so (nat_le n id) (rise_from (id + 1) ids) h) in
    All-cons (λ id. n ≤ id) id ids f (λ k d l. omega (arith, f, r k d l))

both : (s t : Bool) → s ≡ true → t ≡ true → (s && t) ≡ true
both s t p q = λ i. p i && q i

-- above another least number
pub rise_above : (n m : ℕ) (ids : List ℕ) → rise_from n ids ≡ true → All (λ id. m ≤ id) ids → rise_from m ids ≡ true
rise_above n m [] h a = refl
rise_above n m (id ∷ ids) h a =
    both (nat_le m id) (rise_from (id + 1) ids) (le-leb m id (All-head (λ id. m ≤ id) id ids a)) (second_so (nat_le n id) (rise_from (id + 1) ids) h)

pub rise_take : (n k : ℕ) (ids : List ℕ) → rise_from n ids ≡ true → rise_from n (take k ids) ≡ true
rise_take n zero ids h = refl
rise_take n (suc k) [] h = refl
rise_take n (suc k) (id ∷ ids) h =
    both (nat_le n id) (rise_from (id + 1) (take k ids)) (first_so (nat_le n id) (rise_from (id + 1) ids) h) (rise_take (id + 1) k ids (second_so (nat_le n id) (rise_from (id + 1) ids) h))

pub rise_drop : (n k : ℕ) (ids : List ℕ) → rise_from n ids ≡ true → rise_from n (drop k ids) ≡ true
rise_drop n zero ids h = h
rise_drop n (suc k) [] h = refl
rise_drop n (suc k) (id ∷ ids) h =
    let f = leb-true n id (first_so (nat_le n id) (rise_from (id + 1) ids) h) in
    let r = rise_drop (id + 1) k ids (second_so (nat_le n id) (rise_from (id + 1) ids) h) in
    rise_above (id + 1) n (drop k ids) r (λ j d l. let g = rise_least (id + 1) (drop k ids) r j d l in omega (arith, f, g))

rise_far : (n : ℕ) (ids : List ℕ) (i k d : ℕ) → rise_from n ids ≡ true → i ≤ k → k < length ids → get_or ids i d ≤ get_or ids k d
rise_far n [] i k d h l m = absurd (omega (arith, m))
rise_far n (id ∷ ids) zero zero d h l m = omega arith
rise_far n (id ∷ ids) zero (suc k) d h l m =
    let r = rise_least (id + 1) ids (second_so (nat_le n id) (rise_from (id + 1) ids) h) k d (omega (arith, m)) in omega (arith, r)
rise_far n (id ∷ ids) (suc i) zero d h l m = absurd (omega (arith, l))
rise_far n (id ∷ ids) (suc i) (suc k) d h l m = rise_far (id + 1) ids i k d (second_so (nat_le n id) (rise_from (id + 1) ids) h) (omega (arith, l)) (omega (arith, m))

-- those below a number stand first
pub rise_parted : (t : ℕ) (ids : List ℕ) → rise_from 0 ids ≡ true → IsPartitionedBy (λ id. nat_lt id t) ids
rise_parted t ids h i j d l m e =
    let f = ltb-true (get_or ids j d) t e in
    let g = rise_far 0 ids i j d h l m in
    lt-ltb (get_or ids i d) t (omega (arith, f, g))

-- counted from another number
le_shift : (n a b : ℕ) → nat_le (n + a) (n + b) ≡ nat_le a b
le_shift n a b = grind (arith, nat_tests)

eq_shift : (n a b : ℕ) → nat_eq (n + a) (n + b) ≡ nat_eq a b
eq_shift n a b = grind (arith, nat_tests)

cmp_shift : (n a b : ℕ) → nat_cmp (n + a) (n + b) ≡ nat_cmp a b
cmp_shift n a b = grind (arith, nat_tests)

rise_shift : (first n : ℕ) (locals : List ℕ) → rise_from (first + n) (map (λ id. first + id) locals) ≡ rise_from n locals
rise_shift first n [] = refl
rise_shift first n (l ∷ ls) =
    let e : (first + l) + 1 ≡ first + (l + 1) = omega arith in
    let r = ap (λ m. rise_from m (map (λ id. first + id) ls)) e ∙ rise_shift first (l + 1) ls in
    λ i. le_shift first n l i && r i

any_shift : (first k : ℕ) (locals : List ℕ) → list_any (nat_eq (first + k)) (map (λ id. first + id) locals) ≡ list_any (nat_eq k) locals
any_shift first k [] = refl
any_shift first k (l ∷ ls) = λ i. eq_shift first k l i || any_shift first k ls i

map_same : (first : ℕ) (xs ys : List ℕ) → map (λ id. first + id) xs ≡ map (λ id. first + id) ys → xs ≡ ys
map_same first [] [] h = refl
map_same first [] (y ∷ ys) h = cc
map_same first (x ∷ xs) [] h = cc
map_same first (x ∷ xs) (y ∷ ys) h =
    let t = map_same first xs ys (tails (first + x) (first + y) (map (λ id. first + id) xs) (map (λ id. first + id) ys) h) in
    let f : first + x ≡ first + y = heads (first + x) (first + y) (map (λ id. first + id) xs) (map (λ id. first + id) ys) h in
    let e : x ≡ y = omega (arith, f) in
    λ i. e i ∷ t i where
      heads : (a b : ℕ) (us vs : List ℕ) → a ∷ us ≡ b ∷ vs → a ≡ b
      heads a b us vs h = cc

      tails : (a b : ℕ) (us vs : List ℕ) → a ∷ us ≡ b ∷ vs → us ≡ vs
      tails a b us vs h = cc

pub unshifted : (first : ℕ) (ids : List ℕ) → All (λ id. first ≤ id) ids → ids ≡ map (λ id. first + id) (map (λ id. id - first) ids)
unshifted first [] a = refl
unshifted first (id ∷ ids) a =
    let f = All-head (λ id. first ≤ id) id ids a in
    let e : id ≡ first + (id - first) = omega (arith, f) in
    let r = unshifted first ids (All-tail (λ id. first ≤ id) id ids a) in
    λ i. e i ∷ r i

-- ---- all series of an index

abbrev ids_up : ℕ → List Pairs → List ℕ
ids_up first [] = []
ids_up first (l ∷ ls) = first ∷ ids_up (first + 1) ls

length_up : (first : ℕ) (ls : List Pairs) → length (ids_up first ls) ≡ length ls
length_up first [] = refl
length_up first (l ∷ ls) = ap suc (length_up (first + 1) ls)

up_at : (first k : ℕ) (ls : List Pairs) (d : ℕ) → k < length ls → get_or (ids_up first ls) k d ≡ first + k
up_at first k [] d h = absurd (omega (arith, h))
up_at first zero (l ∷ ls) d h = omega arith
up_at first (suc k) (l ∷ ls) d h = let e : (first + 1) + k ≡ first + suc k = omega arith in up_at (first + 1) k ls d (omega (arith, h)) ∙ e

numbered_up : (ls : List Pairs) → numbered_from 0 ls ≡ map (entry_at ls) (ids_up 0 ls)
numbered_up ls =
    let n = length_numbered 0 ls in
    let m = length-map (ids_up 0 ls) (entry_at ls) in
    let u = length_up 0 ls in
    let same : length (numbered_from 0 ls) ≡ length (map (entry_at ls) (ids_up 0 ls)) = n ∙ sym (m ∙ u) in
    same_lists (numbered_from 0 ls) (map (entry_at ls) (ids_up 0 ls)) same (λ k d h. at k d (omega (arith, n, h))) where
      at : (k : ℕ) (d : Entry) → k < length ls → get_or (numbered_from 0 ls) k d ≡ get_or (map (entry_at ls) (ids_up 0 ls)) k d
      at k d h =
          let u = length_up 0 ls in
          let z : 0 + k ≡ k = omega arith in
          numbered_at 0 k ls d h ∙ ap (λ n. (get_or ls k [], n)) z
          ∙ sym (get_or-map (entry_at ls) (ids_up 0 ls) k 0 d (omega (arith, u, h)) ∙ ap (entry_at ls) (up_at 0 k ls 0 h ∙ z))

ids_back : (ls : List Pairs) (ids : List ℕ) → map (λ (e : Entry). e.1) (map (entry_at ls) ids) ≡ ids
ids_back ls [] = refl
ids_back ls (id ∷ ids) = ap (λ l. id ∷ l) (ids_back ls ids)

all_true : (ids : List ℕ) → All (λ (id : ℕ). Unit {0}) ids
all_true ids k d h = tt

-- entries with their labels are ordered as their ids
pub entries_ordered : (ls : List Pairs) (ids : List ℕ) → map (λ (e : Entry). e.1) (isort by_label (map (entry_at ls) ids)) ≡ in_label_order ls ids
entries_ordered ls ids =
    ap (map (λ (e : Entry). e.1)) (sym (moved_isort (entry_at ls) (ids_cmp ls) by_label (ids_total ls) (λ id. Unit {0}) (λ a b p q. refl) ids (all_true ids)))
    ∙ ids_back ls (isort (ids_cmp ls) ids)

pub order_is : (ls : List Pairs) → ids_by_label ls ≡ in_label_order ls (ids_up 0 ls)
order_is ls = ap (λ es. map (λ (e : Entry). e.1) (isort by_label es)) (numbered_up ls) ∙ entries_ordered ls (ids_up 0 ls)

order_ascends : (ls : List Pairs) → Ascends (ids_cmp ls) (ids_by_label ls)
order_ascends ls = subst (Ascends (ids_cmp ls)) (sym (order_is ls)) (ascends_isort (ids_cmp ls) (ids_total ls) (ids_up 0 ls))

abbrev pub place_id : List Pairs → ℕ → ℕ
place_id ls r = get_or (ids_by_label ls) r 0

-- ---- by a sort of places

rising_places : (ls : List Pairs) (zs : List ℕ) → All (λ r. r < length ls) zs → IsSorted nat_cmp zs → IsSorted (ids_cmp ls) (map (place_id ls) zs)
rising_places ls zs a s k d l h =
    let n : length (map (place_id ls) zs) ≡ length zs = length-map zs (place_id ls) in
    let next : k + 1 < length zs = omega (arith, n, h) in
    let up : get_or zs k 0 ≤ get_or zs (k + 1) 0 = ge_from_not_lt (get_or zs (k + 1) 0) (get_or zs k 0) (s k 0 l next) in
    let last : get_or zs (k + 1) 0 < length (ids_by_label ls) = subst (λ m. get_or zs (k + 1) 0 < m) (sym (length_ids ls)) (a (k + 1) 0 next) in
    ap (λ e. is_lt (ids_cmp ls e (get_or (map (place_id ls) zs) k d))) (get_or-map (place_id ls) zs (k + 1) 0 d next)
    ∙ ap (λ e. is_lt (ids_cmp ls (place_id ls (get_or zs (k + 1) 0)) e)) (get_or-map (place_id ls) zs k 0 d (omega (arith, next)))
    ∙ sorted_far (λ x y. is_lt (ids_cmp ls x y)) (ranks_by (ids_total ls) (λ (e : ℕ). e)) (ids_by_label ls)
    (is_sorted (ids_cmp ls) (ids_total ls) (ids_by_label ls) (order_ascends ls))
    (get_or zs k 0) (get_or zs (k + 1) 0) 0 up last

map_map : (first : ℕ) (ls : List Pairs) (rs : List ℕ) → map (λ r. first + place_id ls r) rs ≡ map (λ id. first + id) (map (place_id ls) rs)
map_map first ls [] = refl
map_map first ls (r ∷ rs) = ap (λ l. (first + place_id ls r) ∷ l) (map_map first ls rs)

pub sorted_ids : (ls : List Pairs) (first : ℕ) (ids ranks zs out : List ℕ) → All (λ r. r < length ls) ranks → map (λ r. first + place_id ls r) ranks ≡ ids → IsPermutation ranks zs → IsSorted nat_cmp zs
    → out ≡ map (λ r. first + place_id ls r) zs → (locals : List ℕ) → ids ≡ map (λ id. first + id) locals → out ≡ map (λ id. first + id) (in_label_order ls locals)
sorted_ids ls first ids ranks zs out a e p s q locals h =
    let b : All (λ r. r < length ls) zs = All-permutation (λ r. r < length ls) ranks zs p a in
    let same : map (place_id ls) ranks ≡ locals = map_same first (map (place_id ls) ranks) locals (sym (map_map first ls ranks) ∙ e ∙ h) in
    q ∙ map_map first ls zs
    ∙ ap (map (λ id. first + id))
    (sorted_is (ids_cmp ls) (ids_total ls) (ids_exact ls) (map (place_id ls) ranks) (map (place_id ls) zs) (IsPermutation-map (place_id ls) ranks zs p) (rising_places ls zs b s) ∙ ap (in_label_order ls) same)

-- ---- by a walk

none_below : (n m : ℕ) (ids : List ℕ) → rise_from m ids ≡ true → n < m → list_any (nat_eq n) ids ≡ false
none_below n m [] h l = refl
none_below n m (id ∷ ids) h l =
    let f = leb-true m id (first_so (nat_le m id) (rise_from (id + 1) ids) h) in
    let e : nat_eq n id ≡ false = ne_eqb n id (λ p. omega (arith, p, f, l)) in
    let r = none_below n (id + 1) ids (second_so (nat_le m id) (rise_from (id + 1) ids) h) (omega (arith, f, l)) in
    λ i. e i || r i

module _ (p : ℕ → Bool) where
  picked_by : (n : ℕ) (l : Pairs) (ls : List Pairs) (m : ℕ) (ms : List ℕ) (b : Bool) → nat_eq n m ≡ b → rise_from n (m ∷ ms) ≡ true → All (λ id. id < n + length (l ∷ ls)) (m ∷ ms)
      → ((k : ℕ) → n ≤ k → k < n + length (l ∷ ls) → p k ≡ list_any (nat_eq k) (m ∷ ms))
      → ((locals : List ℕ) → rise_from (n + 1) locals ≡ true → All (λ id. id < (n + 1) + length ls) locals → ((k : ℕ) → n + 1 ≤ k → k < (n + 1) + length ls → p k ≡ list_any (nat_eq k) locals) → filter p (ids_up (n + 1) ls) ≡ locals)
      → cond (p n) (n ∷ filter p (ids_up (n + 1) ls)) (filter p (ids_up (n + 1) ls)) ≡ m ∷ ms
  picked_by n l ls m ms true e h a t f =
      let same : n ≡ m = eqb-true n m e in
      let here : p n ≡ true = t n (omega arith) (omega arith) ∙ ap (λ b. b || list_any (nat_eq n) ms) e in
      let up : rise_from (n + 1) ms ≡ true = subst (λ x. rise_from (x + 1) ms ≡ true) (sym same) (second_so (nat_le n m) (rise_from (m + 1) ms) h) in
      let rest = f ms up (λ k d i. let g = All-tail (λ id. id < n + length (l ∷ ls)) m ms a k d i in omega (arith, g))
      (λ k g u. t k (omega (arith, g)) (omega (arith, u)) ∙ ap (λ b. b || list_any (nat_eq k) ms) (ne_eqb k m (λ q. omega (arith, q, g, same)))) in
      ap (λ b. cond b (n ∷ filter p (ids_up (n + 1) ls)) (filter p (ids_up (n + 1) ls))) here ∙ (λ i. same i ∷ rest i)
  picked_by n l ls m ms false e h a t f =
      let least = leb-true n m (first_so (nat_le n m) (rise_from (m + 1) ms) h) in
      let less : n + 1 ≤ m = omega (arith, least, eqb-false n m e) in
      let up = second_so (nat_le n m) (rise_from (m + 1) ms) h in
      let none : list_any (nat_eq n) (m ∷ ms) ≡ false = ap (λ b. b || list_any (nat_eq n) ms) e ∙ none_below n (m + 1) ms up (omega (arith, less)) in
      let here : p n ≡ false = t n (omega arith) (omega arith) ∙ none in
      let rest = f (m ∷ ms) (both (nat_le (n + 1) m) (rise_from (m + 1) ms) (le-leb (n + 1) m less) up) (λ k d i. let g = a k d i in omega (arith, g)) (λ k g u. t k (omega (arith, g)) (omega (arith, u))) in
      ap (λ b. cond b (n ∷ filter p (ids_up (n + 1) ls)) (filter p (ids_up (n + 1) ls))) here ∙ rest

  picked_up : (n : ℕ) (ls : List Pairs) (locals : List ℕ) → rise_from n locals ≡ true → All (λ id. id < n + length ls) locals → ((k : ℕ) → n ≤ k → k < n + length ls → p k ≡ list_any (nat_eq k) locals) → filter p (ids_up n ls) ≡ locals
  picked_up n [] [] h a t = refl
  picked_up n [] (m ∷ ms) h a t =
      let g = leb-true n m (first_so (nat_le n m) (rise_from (m + 1) ms) h) in
      let u = All-head (λ id. id < n + length {A = Pairs} []) m ms a in
      absurd (omega (arith, g, u))
  picked_up n (l ∷ ls) [] h a t =
      ap (λ b. cond b (n ∷ filter p (ids_up (n + 1) ls)) (filter p (ids_up (n + 1) ls))) (t n (omega arith) (omega arith))
      ∙ picked_up (n + 1) ls [] refl (All-nil (λ id. id < (n + 1) + length ls)) (λ k g u. t k (omega (arith, g)) (omega (arith, u)))
  picked_up n (l ∷ ls) (m ∷ ms) h a t = picked_by n l ls m ms (nat_eq n m) refl h a t (picked_up (n + 1) ls)

shifted_within : (first n : ℕ) (locals : List ℕ) → All (λ id. id < first + n) (map (λ id. first + id) locals) → All (λ id. id < n) locals
shifted_within first n [] a = All-nil (λ id. id < n)
shifted_within first n (l ∷ ls) a =
    let f = All-head (λ id. id < first + n) (first + l) (map (λ id. first + id) ls) a in
    All-cons (λ id. id < n) l ls (omega (arith, f)) (shifted_within first n ls (All-tail (λ id. id < first + n) (first + l) (map (λ id. first + id) ls) a))

pub picked_ids : (ls : List Pairs) (first : ℕ) (ids out : List ℕ) (marks : List Bool) → rise_from first ids ≡ true → All (λ id. id < first + length ls) ids
    → ((k : ℕ) → k < length ls → get_or marks k false ≡ list_any (nat_eq (first + k)) ids) → out ≡ map (λ id. first + id) (filter (λ id. get_or marks id false) (ids_by_label ls))
    → (locals : List ℕ) → ids ≡ map (λ id. first + id) locals → out ≡ map (λ id. first + id) (in_label_order ls locals)
picked_ids ls first ids out marks up a m q locals h =
    let p : ℕ → Bool = λ id. get_or marks id false in
    let z : first ≡ first + 0 = omega arith in
    let rise : rise_from 0 locals ≡ true = sym (rise_shift first 0 locals) ∙ ap (λ n. rise_from n (map (λ id. first + id) locals)) (sym z) ∙ ap (rise_from first) (sym h) ∙ up in
    let in_range : All (λ id. id < length ls) locals = shifted_within first (length ls) locals (subst (All (λ id. id < first + length ls)) h a) in
    q ∙ ap (map (λ id. first + id))
    (ap (filter p) (order_is ls) ∙ filter_isort (ids_cmp ls) (ids_total ls) p (ids_up 0 ls)
    ∙ ap (in_label_order ls)
    (picked_up p 0 ls locals rise (λ k d l. let g = in_range k d l in omega (arith, g)) (λ k l u. m k (omega (arith, u)) ∙ ap (list_any (nat_eq (first + k))) h ∙ any_shift first k locals)))

-- ---- among the series of others

module _ (before ls behind : List Pairs) (first : ℕ) (e : length before ≡ first) where
  abbrev whole : List Pairs
  whole = before ++ (ls ++ behind)

  at_shift : (a : ℕ) → a < length ls → get_or whole (first + a) [] ≡ get_or ls a []
  at_shift a l = ap (λ n. get_or whole (n + a) []) (sym e) ∙ get_or-append-add before (ls ++ behind) a [] ∙ get_or_append_left ls behind [] a l

  ids_shift : (a b : ℕ) → a < length ls → b < length ls → ids_cmp whole (first + a) (first + b) ≡ ids_cmp ls a b
  ids_shift a b l m = λ i. ordering_then (labels_cmp (at_shift a l i) (at_shift b m i)) (cmp_shift first a b i)

  pub order_shift : (locals : List ℕ) → All (λ id. id < length ls) locals → map (λ id. first + id) (in_label_order ls locals) ≡ in_label_order whole (map (λ id. first + id) locals)
  order_shift locals a = moved_isort (λ id. first + id) (ids_cmp ls) (ids_cmp whole) (ids_total ls) (λ id. id < length ls) ids_shift locals a

  -- a part of ids that are those of these series
  pub part_ordered : (ids out : List ℕ) → rise_from first ids ≡ true → All (λ id. id < first + length ls) ids
      → ((locals : List ℕ) → ids ≡ map (λ id. first + id) locals → out ≡ map (λ id. first + id) (in_label_order ls locals)) → out ≡ in_label_order whole ids
  part_ordered ids out up a f =
      let locals = map (λ id. id - first) ids in
      let u : ids ≡ map (λ id. first + id) locals = unshifted first ids (rise_least first ids up) in
      f locals u ∙ order_shift locals (shifted_within first (length ls) locals (subst (All (λ id. id < first + length ls)) u a)) ∙ ap (in_label_order whole) (sym u)

-- ---- places in label order

turned : (a b : Ordering) → a ≡ ordering_reverse b → is_lt b ≡ true → is_lt a ≡ false
turned a Less h l = ap is_lt h
turned a Equal h l = cc
turned a Greater h l = cc

less_by : (ls : List Pairs) (a b : ℕ) (o p : Ordering) → labels_cmp (get_or ls a []) (get_or ls b []) ≡ o → is_gt (ordering_then o p) ≡ false → (o ≡ Equal → a ≡ b) → (a ≡ b → ⊥) → is_lt o ≡ true
less_by ls a b Less p e g f n = refl
less_by ls a b Equal p e g f n = absurd (n (f refl))
less_by ls a b Greater p e g f n = cc

-- one that stands at a lesser place has the lesser label set
pub lesser_place : (ls : List Pairs) (i k a b : ℕ) → are_apart ls ≡ true → i < k → k < length ls → place_id ls i ≡ a → place_id ls k ≡ b → a < length ls → b < length ls → (a ≡ b → ⊥)
    → is_lt (labels_cmp (get_or ls a []) (get_or ls b [])) ≡ true
lesser_place ls i k a b apart l m p q wa wb n =
    let inside : k < length (ids_by_label ls) = subst (λ x. k < x) (sym (length_ids ls)) m in
    let far : is_gt (ids_cmp ls a b) ≡ false =
    (λ j. is_gt (ids_cmp ls (sym p j) (sym q j))) ∙ above_far (ids_cmp ls) (ids_total ls) (ids_by_label ls) i k 0 (order_ascends ls) l inside in
    less_by ls a b (labels_cmp (get_or ls a []) (get_or ls b [])) (nat_cmp a b) refl far (λ e. apart_same ls a b apart wa wb e) n

pub place_less : (ls : List Pairs) (i k a b : ℕ) (less : Bool) → are_apart ls ≡ true → i < length ls → k < length ls → place_id ls i ≡ a → place_id ls k ≡ b → a < length ls → b < length ls
    → (a ≡ b → i ≡ k) → (less ≡ true → i < k) → (less ≡ false → k ≤ i) → less ≡ is_lt (labels_cmp (get_or ls a []) (get_or ls b []))
place_less ls i k a b true apart l m p q wa wb f t u =
    let h = t refl in
    sym (lesser_place ls i k a b apart h m p q wa wb (λ e. let g = f e in omega (arith, g, h)))
place_less ls i k a b false apart l m p q wa wb f t u = by (cases_order k i) where
  by : (k ≡ i) ⊎ ((k < i) ⊎ (i < k)) → false ≡ is_lt (labels_cmp (get_or ls a []) (get_or ls b []))
  by (inl e) =
      let s : a ≡ b = sym p ∙ ap (place_id ls) (sym e) ∙ q in
      sym (ap is_lt (ap (λ x. labels_cmp (get_or ls x []) (get_or ls b [])) s ∙ tied_itself labels_total (get_or ls b [])))
  by (inr (inl e)) =
      let less = lesser_place ls k i b a apart e l q p wb wa (λ x. let g = f (sym x) in omega (arith, g, e)) in
      sym (turned (labels_cmp (get_or ls a []) (get_or ls b [])) (labels_cmp (get_or ls b []) (get_or ls a [])) (labels_total.antisymm (get_or ls a []) (get_or ls b [])) less)
  by (inr (inr e)) = let g = u refl in absurd (omega (arith, g, e))

-- what the places that are kept tell
pub ranked_less : (ls : List Pairs) (ids ranks hashes : List ℕ) (id other x y : ℕ) → AreRanked ls ids ranks hashes → are_apart ls ≡ true → id < length ls → other < length ls
    → x ≡ get_or ranks id x → y ≡ get_or ranks other y → nat_lt x y ≡ is_lt (labels_cmp (get_or ls id []) (get_or ls other []))
ranked_less ls ids ranks hashes id other x y r apart l m e f =
    let a : x ≡ get_or ranks id 0 = get_or_read ranks id x (omega (arith, r.count, l)) e 0 in
    let b : y ≡ get_or ranks other 0 = get_or_read ranks other y (omega (arith, r.count, m)) f 0 in
    place_less ls x y id other (nat_lt x y) apart (subst (λ n. n < length ls) (sym a) (r.within id l)) (subst (λ n. n < length ls) (sym b) (r.within other m))
    (ap (λ xs. get_or xs x 0) (sym r.order) ∙ ap (λ n. get_or ids n 0) a ∙ r.placed id l) (ap (λ xs. get_or xs y 0) (sym r.order) ∙ ap (λ n. get_or ids n 0) b ∙ r.placed other m) l m
    (λ s. a ∙ ap (λ n. get_or ranks n 0) s ∙ sym b) (ltb-true x y) (ltb-false x y)
