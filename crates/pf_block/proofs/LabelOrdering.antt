-- Series in label order, where a series is put at the end.
use Rattle.std.proofs.Common.{◌≡◌, ℕ, zero, suc, ◌+◌, ◌<◌, ◌≤◌, cond, List, [], ◌∷◌, ◌++◌, length, get_or, refl, sym, ap, ◌∙◌, subst, arith, Some, None}
use Rattle.std.specs.BTreeMap.{BTreeMap, get, insert_entry}
use Rattle.std.specs.Cmp.{IsTotalOrder, nat_cmp_total, on_total, then_total}
use Rattle.std.specs.List.{All, Contains}
use Rattle.std.specs.Map.{lookup}
use Rattle.std.specs.Ordering.{is_eq, is_gt, match_ordering, nat_cmp, ordering_then}
use Rattle.std.specs.declared.cmp.Ordering.{Ordering}
use Rattle.std.specs.declared.cmp.Ordering.TheVariants.{Less, Equal, Greater}
use Rattle.std.proofs.lemmas.List.{get_or-map, length-map}
use Rattle.std.proofs.lemmas.List.Elements.{All-cons, All-map, All-nil}
use Rattle.std.proofs.lemmas.List.Sorted.{All-permutation, Contains-permutation, IsPermutation-to_front, IsPermutation-trans, length_permutation}
use Rattle.std.proofs.lemmas.Map.Lookups.{exact_pairs, exact_unsigned}
use Rattle.pf_base.specs.LabelSets.{Pairs}
use Rattle.pf_base.specs.LabelOrder.{labels_cmp, labels_exact, labels_total}
use Rattle.pf_base.specs.Sorting.{ins, isort}
use Rattle.pf_base.proofs.Sorted.{is_sorted, sort_moves}
use Rattle.pf_base.proofs.Sorting.{ascends_isort, sorted_is}
use Rattle.pf_block.specs.Indexes.{AreRanked, hashes_of}
use Rattle.pf_block.specs.LabelOrders.{by_label, ids_by_label, numbered_from}

-- ---- sorts

module _ {X : Type 0} (R : X → X → Ordering) (o : IsTotalOrder R) where
  -- a further element at the end
  sort_push : ((x y : X) → R x y ≡ Equal → x ≡ y) → (xs : List X) (x : X) → ins R x (isort R xs) ≡ isort R (xs ++ x ∷ [])
  sort_push exact xs x =
      sorted_is R o exact (xs ++ x ∷ []) (isort R (x ∷ xs))
      (IsPermutation-trans (xs ++ x ∷ []) (x ∷ xs) (isort R (x ∷ xs)) (IsPermutation-to_front xs x) (sort_moves R (x ∷ xs)))
      (is_sorted R o (isort R (x ∷ xs)) (ascends_isort R o (x ∷ xs)))

-- ---- label sets with their ids

abbrev Entry : Type 0
Entry = Pairs × ℕ

pub by_label_total : IsTotalOrder by_label
by_label_total = then_total (on_total (λ (e : Entry). e.0) labels_total) (on_total (λ (e : Entry). e.1) nat_cmp_total)

pub by_label_exact : (a b : Entry) → by_label a b ≡ Equal → a ≡ b
by_label_exact = exact_pairs labels_cmp nat_cmp labels_exact exact_unsigned

numbered_push : (first : ℕ) (ls : List Pairs) (l : Pairs) → numbered_from first (ls ++ l ∷ []) ≡ numbered_from first ls ++ (l, first + length ls) ∷ []
numbered_push first [] l = let e : first ≡ first + 0 = omega arith in ap (λ n. (l, n) ∷ []) e
numbered_push first (x ∷ ls) l =
    let e : (first + 1) + length ls ≡ first + length (x ∷ ls) = omega arith in
    ap (λ es. (x, first) ∷ es) (numbered_push (first + 1) ls l ∙ ap (λ n. numbered_from (first + 1) ls ++ (l, n) ∷ []) e)

-- a map's entries with a further key
inserted_by : (l : Pairs) (n : ℕ) (e : Entry) (es : List Entry) (o : Ordering) → labels_cmp l e.0 ≡ o → cond (is_eq o) (Some e.1) (lookup (λ q. is_eq (labels_cmp l q)) es) ≡ None
    → (lookup (λ q. is_eq (labels_cmp l q)) es ≡ None → insert_entry labels_cmp es l n ≡ ins by_label (l, n) es)
    → match_ordering o ((l, n) ∷ e ∷ es) ((e.0, n) ∷ es) (e ∷ insert_entry labels_cmp es l n) ≡ cond (is_gt (ordering_then o (nat_cmp n e.1))) (e ∷ ins by_label (l, n) es) ((l, n) ∷ e ∷ es)
inserted_by l n e es Less p h f = refl
inserted_by l n e es Equal p h f = cc
inserted_by l n e es Greater p h f = ap (λ r. e ∷ r) (f h)

inserted : (l : Pairs) (n : ℕ) (es : List Entry) → lookup (λ q. is_eq (labels_cmp l q)) es ≡ None → insert_entry labels_cmp es l n ≡ ins by_label (l, n) es
inserted l n [] h = refl
inserted l n (e ∷ es) h = inserted_by l n e es (labels_cmp l e.0) refl h (inserted l n es)

pub placed_push : (l key : Pairs) (ls : List Pairs) (n : ℕ) (m0 m1 : BTreeMap Pairs ℕ) → key ≡ l → n ≡ length ls → get labels_cmp m0 l ≡ None
    → m0.entries ≡ isort by_label (numbered_from 0 ls) → m1.entries ≡ insert_entry labels_cmp m0.entries key n → m1.entries ≡ isort by_label (numbered_from 0 (ls ++ l ∷ []))
placed_push l key ls n m0 m1 e k h p q =
    let z : n ≡ 0 + length ls = omega (arith, k) in
    q ∙ ap (λ x. insert_entry labels_cmp m0.entries x n) e ∙ inserted l n m0.entries h ∙ ap (ins by_label (l, n)) p
    ∙ sort_push by_label by_label_total by_label_exact (numbered_from 0 ls) (l, n)
    ∙ ap (λ i. isort by_label (numbered_from 0 ls ++ (l, i) ∷ [])) z
    ∙ ap (isort by_label) (sym (numbered_push 0 ls l))

pub lawful_push : {X : Type 0} (P : X → Type 0) (xs : List X) (x : X) → All P xs → P x → All P (xs ++ x ∷ [])
lawful_push P [] x a p = All-cons P x [] p (All-nil P)
lawful_push P (y ∷ xs) x a p = All-cons P y (xs ++ x ∷ []) (a 0 y (omega arith)) (lawful_push P xs x (λ k d l. a (suc k) d (omega (arith, l))) p)

-- ---- the ids in label order

pub length_numbered : (first : ℕ) (ls : List Pairs) → length (numbered_from first ls) ≡ length ls
length_numbered first [] = refl
length_numbered first (l ∷ ls) = ap suc (length_numbered (first + 1) ls)

pub length_ids : (ls : List Pairs) → length (ids_by_label ls) ≡ length ls
length_ids ls =
    length-map (isort by_label (numbered_from 0 ls)) (λ (e : Entry). e.1)
    ∙ length_permutation (numbered_from 0 ls) (isort by_label (numbered_from 0 ls)) (sort_moves by_label (numbered_from 0 ls)) ∙ length_numbered 0 ls

within_from : (n first : ℕ) (ls : List Pairs) → first + length ls ≤ n → All (λ (e : Entry). e.1 < n) (numbered_from first ls)
within_from n first [] h = All-nil (λ (e : Entry). e.1 < n)
within_from n first (l ∷ ls) h = All-cons (λ (e : Entry). e.1 < n) (l, first) (numbered_from (first + 1) ls) (omega (arith, h)) (within_from n (first + 1) ls (omega (arith, h)))

pub ids_within : (ls : List Pairs) → All (λ id. id < length ls) (ids_by_label ls)
ids_within ls =
    All-map (λ id. id < length ls) (λ (e : Entry). e.1) (isort by_label (numbered_from 0 ls))
    (All-permutation (λ (e : Entry). e.1 < length ls) (numbered_from 0 ls) (isort by_label (numbered_from 0 ls)) (sort_moves by_label (numbered_from 0 ls)) (within_from (length ls) 0 ls (omega arith)))

-- each series stands among the numbered ones at its id
pub numbered_at : (first k : ℕ) (ls : List Pairs) (d : Entry) → k < length ls → get_or (numbered_from first ls) k d ≡ (get_or ls k [], first + k)
numbered_at first k [] d h = absurd (omega (arith, h))
numbered_at first zero (l ∷ ls) d h = let e : first ≡ first + 0 = omega arith in ap (λ n. (l, n)) e
numbered_at first (suc k) (l ∷ ls) d h =
    let e : (first + 1) + k ≡ first + suc k = omega arith in
    numbered_at (first + 1) k ls d (omega (arith, h)) ∙ ap (λ n. (get_or ls k [], n)) e

pub numbered_there : (ls : List Pairs) (id : ℕ) → id < length ls → Contains (numbered_from 0 ls) (get_or ls id [], id)
numbered_there ls id h =
    let n = length_numbered 0 ls in
    (id, omega (arith, n, h), numbered_at 0 id ls (get_or ls id [], id) h ∙ ap (λ k. (get_or ls id [], k)) (let e : 0 + id ≡ id = omega arith in e))

-- and among those in label order at some place
pub ids_there : (ls : List Pairs) (id : ℕ) → id < length ls → (k : ℕ) × (k < length ls) × (get_or (ids_by_label ls) k 0 ≡ id)
ids_there ls id h =
    let es : List Entry = isort by_label (numbered_from 0 ls) in
    let e : Entry = (get_or ls id [], id) in
    let c = Contains-permutation (numbered_from 0 ls) es e (sort_moves by_label (numbered_from 0 ls)) (numbered_there ls id h) in
    let n : length es ≡ length ls = length_permutation (numbered_from 0 ls) es (sort_moves by_label (numbered_from 0 ls)) ∙ length_numbered 0 ls in
    (c.0, omega (arith, c.1, n), get_or-map (λ (e : Entry). e.1) es c.0 e 0 c.1 ∙ ap (λ (x : Entry). x.1) c.2)

-- what the places of these ids are
pub ranks_placed : (ls : List Pairs) (ids ranks hashes : List ℕ) → ids ≡ ids_by_label ls → length ranks ≡ length ids
    → ((k : ℕ) → k < length ids → get_or ranks (get_or ids k 0) 0 < length ids)
    → ((k : ℕ) → k < length ids → get_or ids (get_or ranks (get_or ids k 0) 0) 0 ≡ get_or ids k 0) → hashes ≡ hashes_of ls → AreRanked ls ids ranks hashes
ranks_placed ls ids ranks hashes e n w p h =
    let m : length ids ≡ length ls = ap length e ∙ length_ids ls in
    record {
      order = e;
      count = n ∙ m;
      within = λ id h.
          let t = ids_there ls id h in
          let q : get_or ids t.0 0 ≡ id = ap (λ xs. get_or xs t.0 0) e ∙ t.2 in
          subst (λ i. get_or ranks i 0 < length ls) q (subst (λ i. get_or ranks (get_or ids t.0 0) 0 < i) m (w t.0 (subst (λ i. t.0 < i) (sym m) t.1)));
      placed = λ id h.
          let t = ids_there ls id h in
          let q : get_or ids t.0 0 ≡ id = ap (λ xs. get_or xs t.0 0) e ∙ t.2 in
          subst (λ i. get_or ids (get_or ranks i 0) 0 ≡ i) q (p t.0 (subst (λ i. t.0 < i) (sym m) t.1));
      hashed = h;
    }
