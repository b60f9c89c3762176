-- Keys that are sorted, each once, and found by a binary search.
use Rattle.std.proofs.Common.{◌≡◌, ◌+◌, ◌<◌, ◌≤◌, ◌⊎◌, inl, inr, ℕ, zero, suc, Bool, true, false, cond, ◌||◌, Option, Some, None, IfSome, Result, Ok, Err, List, [], ◌∷◌, ◌++◌, append_assoc, drop, length, map, get_or, refl, sym, ap, ◌∙◌, subst, arith}
use Rattle.std.specs.List.{All, list_any}
use Rattle.std.specs.Result.{MatchResult}
use Rattle.std.specs.List.Sorted.{IsBinarySearchResult, IsSearchInRange}
use Rattle.std.specs.Ordering.{is_gt, is_eq, ordering_index}
use Rattle.std.specs.declared.cmp.Ordering.{Ordering}
use Rattle.std.specs.declared.cmp.Ordering.TheVariants.{Less, Equal, Greater}
use Rattle.std.proofs.lemmas.List.Elements.{All-cons, All-head, All-nil}
use Rattle.pf_base.specs.LabelSets.{Pairs}
use Rattle.pf_base.specs.LabelOrder.{labels_cmp, labels_exact, labels_total}
use Rattle.pf_base.specs.Sorting.{ins, isort}
use Rattle.pf_base.proofs.Sorting as sorting
use Rattle.pf_model.specs.Cells.{distinct}
use Rattle.pf_model.specs.Lists.{Each}
use Rattle.pf_model.specs.Selection.{same_labels}
use Rattle.pf_model.proofs.KeySets.{alike, distinct_ascends, distinct_in, same_is, same_self, same_turned, stands_in}
use Rattle.pf_model.proofs.SelectorLabels.{AllAbove, above_all}
use Rattle.pf_columns.specs.Columns.{AreRising}
use Rattle.pf_columns.specs.Groups.{is_again, place_in, unrepeated}
use Rattle.pf_columns.proofs.Fusing.{or_true}
use Rattle.pf_columns.proofs.Rising.{ascends, less_of, rising}

-- ---- what stands in a sorted list

any_by : {X : Type 0} (p : X → Bool) (R : X → X → Ordering) (x y : X) (ys : List X) (b : Bool) → list_any p (ins R x ys) ≡ (p x || list_any p ys)
    → list_any p (cond b (y ∷ ins R x ys) (x ∷ y ∷ ys)) ≡ (p x || list_any p (y ∷ ys))
any_by p R x y ys true r = ap (λ b. p y || b) r ∙ turned (p y) (p x) (list_any p ys) where
  turned : (a b c : Bool) → (a || (b || c)) ≡ (b || (a || c))
  turned true true c = refl
  turned true false c = refl
  turned false b c = refl
any_by p R x y ys false r = refl

any_ins : {X : Type 0} (p : X → Bool) (R : X → X → Ordering) (x : X) (ys : List X) → list_any p (ins R x ys) ≡ (p x || list_any p ys)
any_ins p R x [] = refl
any_ins p R x (y ∷ ys) = any_by p R x y ys (is_gt (R x y)) (any_ins p R x ys)

pub any_isort : {X : Type 0} (p : X → Bool) (R : X → X → Ordering) (xs : List X) → list_any p (isort R xs) ≡ list_any p xs
any_isort p R [] = refl
any_isort p R (x ∷ xs) = any_ins p R x (isort R xs) ∙ ap (λ b. p x || b) (any_isort p R xs)

-- ---- each once

once_by : (m l : Pairs) (ls : List Pairs) (b : Bool) → same_labels m l ≡ b → is_gt (labels_cmp m l) ≡ false
    → AllAbove l (unrepeated (Some l) ls) × AreRising (unrepeated (Some l) ls)
    → AllAbove m (cond b (unrepeated (Some l) ls) (l ∷ unrepeated (Some l) ls)) × AreRising (cond b (unrepeated (Some l) ls) (l ∷ unrepeated (Some l) ls))
once_by m l ls true e h r = (subst (λ x. AllAbove x (unrepeated (Some l) ls)) (sym (same_is m l e)) r.0, r.1)
once_by m l ls false e h r =
    let p = less_of (labels_cmp m l) h e in
    ((p, above_all m l (unrepeated (Some l) ls) p r.0), (r.0, r.1))

once : (m : Pairs) (ls : List Pairs) → All (λ l. is_gt (labels_cmp m l) ≡ false) ls → sorting.Ascends labels_cmp ls
    → AllAbove m (unrepeated (Some m) ls) × AreRising (unrepeated (Some m) ls)
once m [] a s = (tt, tt)
once m (l ∷ ls) a s = once_by m l ls (same_labels m l) refl (All-head (λ x. is_gt (labels_cmp m x) ≡ false) l ls a) (once l ls s.0 s.1)

once_rising : (ls : List Pairs) → sorting.Ascends labels_cmp ls → AreRising (unrepeated None ls)
once_rising [] s = tt
once_rising (l ∷ ls) s = once l ls s.0 s.1

or_same : (b c : Bool) → (b || c) ≡ (b || (b || c))
or_same true c = refl
or_same false c = refl

kept_by : (k m l : Pairs) (ls : List Pairs) (b : Bool) → same_labels m l ≡ b → stands_in k (l ∷ unrepeated (Some l) ls) ≡ stands_in k (l ∷ ls)
    → stands_in k (m ∷ cond b (unrepeated (Some l) ls) (l ∷ unrepeated (Some l) ls)) ≡ stands_in k (m ∷ l ∷ ls)
kept_by k m l ls true e h =
    let same = same_is m l e in
    ap (λ x. same_labels k x || stands_in k (unrepeated (Some l) ls)) same
    ∙ h ∙ or_same (same_labels k l) (stands_in k ls)
    ∙ ap (λ x. same_labels k x || stands_in k (l ∷ ls)) (sym same)
kept_by k m l ls false e h = ap (λ b. same_labels k m || b) h

kept : (k m : Pairs) (ls : List Pairs) → stands_in k (m ∷ unrepeated (Some m) ls) ≡ stands_in k (m ∷ ls)
kept k m [] = refl
kept k m (l ∷ ls) = kept_by k m l ls (same_labels m l) refl (kept k l ls)

once_in : (k : Pairs) (ls : List Pairs) → stands_in k (unrepeated None ls) ≡ stands_in k ls
once_in k [] = refl
once_in k (l ∷ ls) = kept k l ls

pub distinct_is : (ls : List Pairs) → unrepeated None (isort labels_cmp ls) ≡ distinct ls
distinct_is ls =
    let sorted = isort labels_cmp ls in
    alike (unrepeated None sorted) (distinct ls) (ascends _ (once_rising sorted (sorting.ascends_isort labels_cmp labels_total ls))) (distinct_ascends ls)
    (λ k. once_in k sorted ∙ any_isort (same_labels k) labels_cmp ls ∙ sym (distinct_in k ls))

pub distinct_unrepeated : (ls : List Pairs) → distinct (unrepeated None ls) ≡ distinct ls
distinct_unrepeated ls =
    alike (distinct (unrepeated None ls)) (distinct ls) (distinct_ascends (unrepeated None ls)) (distinct_ascends ls)
    (λ k. distinct_in k (unrepeated None ls) ∙ once_in k ls ∙ sym (distinct_in k ls))

-- what is equal to the one before has its place
pub again_place : (sets : List Pairs) (o : Option Pairs) (l : Pairs) (n : ℕ) → is_again o l ≡ true → IfSome o (λ m. n ≡ place_in sets m) → n ≡ place_in sets l
again_place sets None l n h i = cc
again_place sets (Some m) l n h i = i ∙ ap (place_in sets) (same_is m l h)

pub distinct_rising : (ls : List Pairs) → AreRising (distinct ls)
distinct_rising ls = rising (distinct ls) (distinct_ascends ls)

-- ---- each of some label sets stands among their distinct ones

each_in : (ls all : List Pairs) → ((l : Pairs) → stands_in l ls ≡ true → stands_in l all ≡ true) → Each (λ l. stands_in l all ≡ true) ls
each_in [] all f = tt
each_in (l ∷ ls) all f = (f l (ap (λ b. b || stands_in l ls) (same_self l)), each_in ls all (λ m h. f m (ap (λ b. same_labels m l || b) h ∙ or_true (same_labels m l))))

pub each_stands : (ls : List Pairs) → Each (λ l. stands_in l (distinct ls) ≡ true) ls
each_stands ls = each_in ls (distinct ls) (λ l e. distinct_in l ls ∙ e)

all_of_each : (P : Pairs → Type 0) (ls : List Pairs) → Each P ls → All P ls
all_of_each P [] h = All-nil P
all_of_each P (l ∷ ls) h = All-cons P l ls h.0 (all_of_each P ls h.1)

pub all_stand : (ls : List Pairs) → All (λ l. list_any (same_labels l) (distinct ls) ≡ true) ls
all_stand ls = all_of_each (λ l. list_any (same_labels l) (distinct ls) ≡ true) ls (each_stands ls)

-- ---- the place of a label set

above_at : (m : Pairs) (ms : List Pairs) → AllAbove m ms → (i : ℕ) (d : Pairs) → i < length ms → labels_cmp m (get_or ms i d) ≡ Less
above_at m [] a i d h = absurd (omega (arith, h))
above_at m (n ∷ ns) a zero d h = a.0
above_at m (n ∷ ns) a (suc i) d h = above_at m ns a.1 i d (omega (arith, h))

place_at : (ms : List Pairs) → AreRising ms → (i : ℕ) (l : Pairs) → i < length ms → get_or ms i l ≡ l → i ≡ place_in ms l
place_at [] r i l h e = absurd (omega (arith, h))
place_at (m ∷ ms) r zero l h e =
    let same : same_labels l m ≡ true = ap (same_labels l) e ∙ same_self l in
    sym (ap (λ b. cond b 0 (suc (place_in ms l))) same)
place_at (m ∷ ms) r (suc i) l h e =
    let less : labels_cmp m l ≡ Less = sym (ap (labels_cmp m) e) ∙ above_at m ms r.0 i l (omega (arith, h)) in
    let other : same_labels l m ≡ false = same_turned l m ∙ ap is_eq less in
    ap suc (place_at ms r.1 i l (omega (arith, h)) e) ∙ sym (ap (λ b. cond b 0 (suc (place_in ms l))) other)

-- ---- the places of label sets that rise

there : (ms : List Pairs) (i : ℕ) (d e : Pairs) → i < length ms → get_or ms i d ≡ get_or ms i e
there [] i d e h = absurd (omega (arith, h))
there (m ∷ ms) zero d e h = refl
there (m ∷ ms) (suc i) d e h = there ms i d e (omega (arith, h))

from_place : (ms : List Pairs) (i : ℕ) → i < length ms → drop i ms ≡ get_or ms i [] ∷ drop (suc i) ms
from_place [] i h = absurd (omega (arith, h))
from_place (m ∷ ms) zero h = refl
from_place (m ∷ ms) (suc i) h = from_place ms i (omega (arith, h))

pub one_place : (ms : List Pairs) (i : ℕ) (found : List ℕ) → AreRising ms → i < length ms
    → found ++ map (place_in ms) (drop i ms) ≡ map (place_in ms) ms
    → (found ++ i ∷ []) ++ map (place_in ms) (drop (i + 1) ms) ≡ map (place_in ms) ms
one_place ms i found r h so_far =
    let l = get_or ms i [] in
    let place : i ≡ place_in ms l = place_at ms r i l h (there ms i l [] h) in
    let next : i + 1 ≡ suc i = omega arith in
    append_assoc found (i ∷ []) (map (place_in ms) (drop (i + 1) ms))
    ∙ (λ j. found ++ place j ∷ map (place_in ms) (drop (next j) ms))
    ∙ ap (λ ls. found ++ map (place_in ms) ls) (sym (from_place ms i h))
    ∙ so_far

pub all_distinct : (ls : List Pairs) → AreRising ls → ls ≡ distinct ls
all_distinct ls r = alike ls (distinct ls) (ascends ls r) (distinct_ascends ls) (λ k. sym (distinct_in k ls))

-- ---- a binary search

index_most : (o : Ordering) → ordering_index o ≤ 2
index_most Less = omega arith
index_most Equal = omega arith
index_most Greater = omega arith

index_by : (m n l : Pairs) (o : Ordering) → labels_cmp n l ≡ o → labels_cmp m n ≡ Less → ordering_index (labels_cmp m l) ≤ ordering_index o
index_by m n l Less e p = let less : ordering_index (labels_cmp m l) ≡ 0 = ap ordering_index (labels_total.trans m n l p e) in omega (arith, less)
index_by m n l Equal e p = let less : ordering_index (labels_cmp m l) ≡ 0 = ap ordering_index (ap (labels_cmp m) (sym (labels_exact n l e)) ∙ p) in omega (arith, less)
index_by m n l Greater e p = index_most (labels_cmp m l)

never_less : (ms : List Pairs) (l : Pairs) → AreRising ms → (i j : ℕ) (d : Pairs) → i ≤ j → j < length ms
    → ordering_index (labels_cmp (get_or ms i d) l) ≤ ordering_index (labels_cmp (get_or ms j d) l)
never_less [] l r i j d a h = absurd (omega (arith, h))
never_less (m ∷ ms) l r zero zero d a h = omega arith
never_less (m ∷ ms) l r zero (suc j) d a h =
    index_by m (get_or ms j d) l (labels_cmp (get_or ms j d) l) refl (above_at m ms r.0 j d (omega (arith, h)))
never_less (m ∷ ms) l r (suc i) zero d a h = absurd (omega (arith, a))
never_less (m ∷ ms) l r (suc i) (suc j) d a h = never_less ms l r.1 i j d (omega (arith, a)) (omega (arith, h))

or_both : (b c : Bool) → b ≡ false → c ≡ false → (b || c) ≡ false
or_both b c h k = ap (λ x. x || c) h ∙ k

not_there : (ms : List Pairs) (l : Pairs) → ((k : ℕ) → k < length ms → is_eq (labels_cmp (get_or ms k l) l) ≡ false) → stands_in l ms ≡ false
not_there [] l f = refl
not_there (m ∷ ms) l f =
    or_both (same_labels l m) (stands_in l ms) (same_turned l m ∙ f 0 (omega arith)) (not_there ms l (λ k h. f (suc k) (omega (arith, h))))

below_or_not : (k i : ℕ) → (k < i) ⊎ (i ≤ k)
below_or_not k zero = inr (omega arith)
below_or_not zero (suc i) = inl (omega arith)
below_or_not (suc k) (suc i) = elim (below_or_not k i) [ inl a ↦ inl (omega (arith, a)) | inr a ↦ inr (omega (arith, a)) ]

pub searched : (ms : List Pairs) (l : Pairs) (r : Result ℕ ℕ) → AreRising ms → list_any (same_labels l) ms ≡ true
    → IsSearchInRange r (length ms) → IsBinarySearchResult (λ m. labels_cmp m l) ms r → MatchResult r (λ i. i ≡ place_in ms l) (λ i. i ≡ place_in ms l)
searched ms l (Ok i) r e h s = place_at ms r i l h (labels_exact (get_or ms i l) l (s l))
searched ms l (Err i) r e h s =
    let parted = s (never_less ms l r) in
    let none : stands_in l ms ≡ false = not_there ms l (λ k a. elim (below_or_not k i) [
      | inl b ↦ ap is_eq (parted.0 k l (omega arith) b)
      | inr b ↦ ap is_eq (parted.1 k l b a)
    ]) in
    let both : true ≡ false = sym e ∙ none in cc
