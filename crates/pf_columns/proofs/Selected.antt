-- The entries in front of the one at a place, where none in front is above it and none behind below it, are the first so many of the sorted ones.
use Rattle.std.proofs.Common.{◌≡◌, ◌<◌, ◌≤◌, ℕ, Bool, false, ◌||◌, nat_eq, List, [], ◌∷◌, ◌++◌, length, take, get_or, sym, ap, ◌∙◌, arith}
use Rattle.std.specs.List.{All}
use Rattle.std.specs.List.Sorted.{IsPermutation, IsSplitAround}
use Rattle.std.specs.Cmp.{IsTotalOrder, tied_itself, upto}
use Rattle.std.specs.Ordering.{is_gt}
use Rattle.std.specs.declared.cmp.Ordering.{Ordering}
use Rattle.std.specs.declared.cmp.Ordering.TheVariants.{Equal}
use Rattle.std.proofs.lemmas.List.{ext_get_or, take_all, take_at}
use Rattle.std.proofs.lemmas.List.Elements.{All-cons, All-head, All-tail}
use Rattle.std.proofs.lemmas.List.Sorted.{IsPermutation-append, IsPermutation-trans}
use Rattle.pf_base.specs.Sorting.{isort}
use Rattle.pf_base.proofs.Sorted.{is_sorted, sort_moves}
use Rattle.pf_base.proofs.Sorting.{All-ins, Ascends, ascends_isort, sorted_is, gt_reverse as not_above}
use Rattle.pf_columns.specs.Ranks.{entry_cmp, marked}
use Rattle.pf_columns.specs.declared.ranked.Entry.{Entry}
use Rattle.pf_columns.proofs.Eaches.{length_isort}
use Rattle.pf_columns.proofs.EntryOrder.{entry_exact, entry_total}
use Rattle.pf_columns.proofs.GroupKeys.{any_isort}
use Rattle.pf_columns.proofs.RankedEntries.{length_marked, marks_stand, stand}

module _ {X : Type 0} (R : X → X → Ordering) where
  module _ (o : IsTotalOrder R) where
    all_isort : (P : X → Type 0) (xs : List X) → All P xs → All P (isort R xs)
    all_isort P [] a = a
    all_isort P (x ∷ xs) a = All-ins R o P x (isort R xs) (All-head P x xs a) (all_isort P xs (All-tail P x xs a))

    all_append : (P : X → Type 0) (xs ys : List X) → All P xs → All P ys → All P (xs ++ ys)
    all_append P [] ys a b = b
    all_append P (x ∷ xs) ys a b = All-cons P x (xs ++ ys) (All-head P x xs a) (all_append P xs ys (All-tail P x xs a) b)

    -- no element of the first is above one of the second
    ascends_append : (xs ys : List X) → Ascends R xs → Ascends R ys → All (λ x. All (λ y. is_gt (R x y) ≡ false) ys) xs → Ascends R (xs ++ ys)
    ascends_append [] ys a b h = b
    ascends_append (x ∷ xs) ys a b h =
        let P : X → Type 0 = λ z. All (λ y. is_gt (R z y) ≡ false) ys in
        (all_append (λ y. is_gt (R x y) ≡ false) xs ys a.0 (All-head P x xs h), ascends_append xs ys a.1 b (All-tail P x xs h))

    module _ (exact : (x y : X) → R x y ≡ Equal → x ≡ y) where
      -- what a selection ensures
      split_sorted : (xs front : List X) (x : X) (back : List X) → IsPermutation xs (front ++ (x ∷ back)) → IsSplitAround R front x back
          → isort R xs ≡ isort R front ++ isort R (x ∷ back)
      split_sorted xs front x back p s =
          let behind : List X = x ∷ back in
          let up : All (λ z. is_gt (R z x) ≡ false) front = λ k d h. not_above (R (get_or front k d) x) (R x (get_or front k d)) (o.antisymm (get_or front k d) x) (s.0 k d h) in
          let on : All (λ y. is_gt (R x y) ≡ false) behind =
          All-cons (λ y. is_gt (R x y) ≡ false) x back (ap is_gt (tied_itself o x))
          (λ k d h. not_above (R x (get_or back k d)) (R (get_or back k d) x) (o.antisymm x (get_or back k d)) (s.1 k d h)) in
          let P : X → Type 0 = λ z. All (λ y. is_gt (R z y) ≡ false) (isort R behind) in
          let apart : All P (isort R front) =
          all_isort P front (λ k d h. all_isort (λ y. is_gt (R (get_or front k d) y) ≡ false) behind
          (λ j e l. upto o (get_or front k d) x (get_or behind j e) (up k d h) (on j e l))) in
          let moved : IsPermutation xs (isort R front ++ isort R behind) =
          IsPermutation-trans xs (front ++ behind) (isort R front ++ isort R behind) p
          (IsPermutation-append front (isort R front) behind (isort R behind) (sort_moves R front) (sort_moves R behind)) in
          sym (sorted_is R o exact xs (isort R front ++ isort R behind) moved
          (is_sorted R o (isort R front ++ isort R behind) (ascends_append (isort R front) (isort R behind) (ascends_isort R o front) (ascends_isort R o behind) apart)))

-- ---- marks

-- marks don't tell in which order their entries stand
same_marks : (ds es : List Entry) (ms : List Bool) → ((j : ℕ) → stand ds j ≡ stand es j) → marked ds ms ≡ marked es ms
same_marks ds es ms e =
    ext_get_or false (marked ds ms) (marked es ms) (length_marked ds ms ∙ sym (length_marked es ms))
    (λ j h. let there : j < length ms = let q = length_marked ds ms in omega (arith, h, q) in
    marks_stand ds ms j there ∙ ap (λ b. b || get_or ms j false) (e j) ∙ sym (marks_stand es ms j there))

pub all_marked : (n : ℕ) (es : List Entry) (ms : List Bool) → length es ≤ n → marked es ms ≡ marked (take n (isort entry_cmp es)) ms
all_marked n es ms h =
    let few : length (isort entry_cmp es) ≤ n = let q = length_isort entry_cmp es in omega (arith, h, q) in
    same_marks es (take n (isort entry_cmp es)) ms
    (λ j. sym (ap (λ ds. stand ds j) (take_all n (isort entry_cmp es) few) ∙ any_isort (λ e. nat_eq e.place j) entry_cmp es))

pub selected_marked : (n : ℕ) (es front : List Entry) (e : Entry) (back : List Entry) (ms : List Bool) → IsPermutation es (front ++ (e ∷ back)) → length front ≡ n
    → IsSplitAround entry_cmp front e back → marked front ms ≡ marked (take n (isort entry_cmp es)) ms
selected_marked n es front e back ms p l s =
    let many : length (isort entry_cmp front) ≡ n = length_isort entry_cmp front ∙ l in
    same_marks front (take n (isort entry_cmp es)) ms
    (λ j. sym (ap (λ ds. stand (take n ds) j) (split_sorted entry_cmp entry_total entry_exact es front e back p s)
    ∙ ap (λ ds. stand ds j) (take_at (isort entry_cmp front) (isort entry_cmp (e ∷ back)) n many)
    ∙ any_isort (λ d. nat_eq d.place j) entry_cmp front))
