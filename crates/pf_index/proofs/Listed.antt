-- The series that have one of some values of a label, by rising id.
use Rattle.std.proofs.Common.{◌≡◌, ℕ, zero, suc, ◌+◌, ◌<◌, ◌≤◌, Bool, true, false, cond, ◌||◌, List, [], ◌∷◌, ◌++◌, length, filter, get_or, eqb, refl, sym, ap, ◌∙◌, arith, subst, add-one, ne_eqb}
use Rattle.std.proofs.lemmas.Bool.{both_ways, eqb-false, eqb-true, false_from_ne_true, or_left, or_right}
use Rattle.std.proofs.lemmas.List.{append-nil}
use Rattle.std.specs.List.{All, Contains, dedup, list_any}
use Rattle.std.specs.Cmp.{nat_eq_equiv}
use Rattle.std.proofs.lemmas.Map.Views.{list_any-from_Contains}
use Rattle.std.specs.List.Sorted.{IsPermutation, IsSorted, IsStrictlyIncreasing}
use Rattle.std.specs.Ordering.{nat_cmp}
use Rattle.std.proofs.lemmas.List.Elements.{All-append, All-cons, All-head, All-nil, All-tail, Contains-append_left, Contains-append_right, Contains-get_or}
use Rattle.std.proofs.lemmas.List.Filters.{All-dedup}
use Rattle.std.proofs.lemmas.List.Kept.{Contains-dedup_nat}
use Rattle.std.proofs.lemmas.List.Sorted.{All-permutation, Contains-permutation}
use Rattle.std.proofs.lemmas.Map.Keys.{IsStrictlyIncreasing-dedup}
use Rattle.pf_base.specs.LabelSets.{Pairs}
use Rattle.pf_block.specs.SeriesIds.{has_pair, ids_from, ids_with}
use Rattle.pf_index.specs.Listing.{all_from, all_listed, has_one, labels_at, listed_in}
use Rattle.pf_index.proofs.Entries.{StandFrom, stand_all, stand_first, stand_on}

-- each is above the one before it, and the first is at least n
abbrev RisesFrom : ℕ → List ℕ → Type 0
RisesFrom n [] = Unit {0}
RisesFrom n (id ∷ ids) = (n ≤ id) × RisesFrom (id + 1) ids

none_below : (n m : ℕ) (ids : List ℕ) → n < m → RisesFrom m ids → list_any (eqb n) ids ≡ false
none_below n m [] h r = refl
none_below n m (id ∷ ids) h r =
    ap (λ b. b || list_any (eqb n) ids) (ne_eqb n id (λ e. omega (arith, e, h, r.0))) ∙ none_below n (id + 1) ids (omega (arith, h, r.0)) r.1

-- ids that rise, of which p holds, and which have all below n of which it holds
module _ (p : ℕ → Bool) (n : ℕ) where
  abbrev HasAll : ℕ → List ℕ → Type 0
  HasAll first ids = (k : ℕ) → first ≤ k → k < n → p k ≡ true → list_any (eqb k) ids ≡ true

  all_later : (first : ℕ) (ids : List ℕ) → HasAll first ids → HasAll (first + 1) ids
  all_later first ids h k l m a = h k (omega (arith, l)) m a

  all_behind : (first id : ℕ) (ids : List ℕ) → id ≡ first → HasAll first (id ∷ ids) → HasAll (first + 1) ids
  all_behind first id ids e h k l m a = behind (eqb k id) (list_any (eqb k) ids) (ne_eqb k id (λ d. omega (arith, d, e, l))) (h k (omega (arith, l)) m a) where
    behind : (b c : Bool) → b ≡ false → (b || c) ≡ true → c ≡ true
    behind true c q r = cc
    behind false c q r = r

  passed : (first : ℕ) (rest ids : List ℕ) → first < n → HasAll first ids → list_any (eqb first) ids ≡ false → ids ≡ filter p rest → ids ≡ filter p (first ∷ rest)
  passed first rest ids l h m e =
      let f : p first ≡ false = false_from_ne_true (p first) (λ a. both_ways (list_any (eqb first) ids) m (h first (omega arith) l a)) in
      e ∙ ap (λ b. cond b (first ∷ filter p rest) (filter p rest)) (sym f)

  are_by : (first : ℕ) (ls : List Pairs) (id : ℕ) (ids : List ℕ) (b : Bool) → eqb id first ≡ b → first < n → RisesFrom first (id ∷ ids) → All (λ i. p i ≡ true) (id ∷ ids) → HasAll first (id ∷ ids)
      → (RisesFrom (first + 1) ids → HasAll (first + 1) ids → ids ≡ filter p (all_from (first + 1) ls))
      → (RisesFrom (first + 1) (id ∷ ids) → HasAll (first + 1) (id ∷ ids) → id ∷ ids ≡ filter p (all_from (first + 1) ls))
      → id ∷ ids ≡ filter p (first ∷ all_from (first + 1) ls)
  are_by first ls id ids true q l r a h here there =
      let e : id ≡ first = eqb-true id first q in
      let t : p first ≡ true = subst (λ i. p i ≡ true) e (All-head (λ i. p i ≡ true) id ids a) in
      ap (λ i. i ∷ ids) e ∙ ap (λ x. first ∷ x) (here (subst (λ i. RisesFrom (i + 1) ids) e r.1) (all_behind first id ids e h))
      ∙ ap (λ b. cond b (first ∷ filter p (all_from (first + 1) ls)) (filter p (all_from (first + 1) ls))) (sym t)
  are_by first ls id ids false q l r a h here there =
      let below : first < id = omega (arith, r.0, eqb-false id first q) in
      passed first (all_from (first + 1) ls) (id ∷ ids) l h (none_below first id (id ∷ ids) below (omega arith, r.1))
      (there (omega (arith, below), r.1) (all_later first (id ∷ ids) h))

  are_all : (first : ℕ) (ls : List Pairs) (ids : List ℕ) → n ≡ first + length ls → RisesFrom first ids → All (λ i. i < n) ids → All (λ i. p i ≡ true) ids → HasAll first ids
      → ids ≡ filter p (all_from first ls)
  are_all first [] [] s r w a h = refl
  are_all first [] (id ∷ ids) s r w a h = let l = All-head (λ i. i < n) id ids w in absurd (omega (arith, l, s, r.0))
  are_all first (l ∷ ls) [] s r w a h =
      passed first (all_from (first + 1) ls) [] (omega (arith, s)) h refl
      (are_all (first + 1) ls [] (omega (arith, s)) tt w a (all_later first [] h))
  are_all first (l ∷ ls) (id ∷ ids) s r w a h =
      are_by first ls id ids (eqb id first) refl (omega (arith, s)) r a h
      (λ r' h'. are_all (first + 1) ls ids (omega (arith, s)) r' (All-tail (λ i. i < n) id ids w) (All-tail (λ i. p i ≡ true) id ids a) h')
      (λ r' h'. are_all (first + 1) ls (id ∷ ids) (omega (arith, s)) r' w a h')

-- ---- one list

within_by : (n first : ℕ) (b : Bool) (ids : List ℕ) → first < n → All (λ id. id < n) ids → All (λ id. id < n) (cond b (first ∷ ids) ids)
within_by n first true ids h a = All-cons (λ id. id < n) first ids h a
within_by n first false ids h a = a

within_from : (n first : ℕ) (name value : List ℕ) (ls : List Pairs) → first + length ls ≤ n → All (λ id. id < n) (ids_from first name value ls)
within_from n first name value [] h = All-nil (λ id. id < n)
within_from n first name value (l ∷ ls) h =
    within_by n first (has_pair name value l) (ids_from (first + 1) name value ls) (omega (arith, h))
    (within_from n (first + 1) name value ls (omega (arith, h)))

rises_lower : (n m : ℕ) (ids : List ℕ) → n ≤ m → RisesFrom m ids → RisesFrom n ids
rises_lower n m [] h r = tt
rises_lower n m (id ∷ ids) h r = (omega (arith, h, r.0), r.1)

rises_by : (n : ℕ) (b : Bool) (ids : List ℕ) → RisesFrom (n + 1) ids → RisesFrom n (cond b (n ∷ ids) ids)
rises_by n true ids r = (omega arith, r)
rises_by n false ids r = rises_lower n (n + 1) ids (omega arith) r

rises_from : (first : ℕ) (name value : List ℕ) (ls : List Pairs) → RisesFrom first (ids_from first name value ls)
rises_from first name value [] = tt
rises_from first name value (l ∷ ls) = rises_by first (has_pair name value l) (ids_from (first + 1) name value ls) (rises_from (first + 1) name value ls)

first_in : (n : ℕ) (b : Bool) (ids : List ℕ) → b ≡ true → Contains (cond b (n ∷ ids) ids) n
first_in n true ids e = Contains-get_or (n ∷ ids) 0 0 (omega arith)
first_in n false ids e = cc

rest_in : (n m : ℕ) (b : Bool) (ids : List ℕ) → Contains ids m → Contains (cond b (n ∷ ids) ids) m
rest_in n m true ids h = Contains-append_right (n ∷ []) ids m h
rest_in n m false ids h = h

each_from : (first k : ℕ) (name value : List ℕ) (ls : List Pairs) → k < length ls → has_pair name value (labels_at ls k) ≡ true → Contains (ids_from first name value ls) (first + k)
each_from first k name value [] l h = absurd (omega (arith, l))
each_from first zero name value (x ∷ ls) l h =
    let e : first ≡ first + 0 = omega arith in
    subst (Contains (ids_from first name value (x ∷ ls))) e (first_in first (has_pair name value x) (ids_from (first + 1) name value ls) h)
each_from first (suc k) name value (x ∷ ls) l h =
    let e : (first + 1) + k ≡ first + suc k = omega arith in
    rest_in first (first + suc k) (has_pair name value x) (ids_from (first + 1) name value ls)
    (subst (Contains (ids_from (first + 1) name value ls)) e (each_from (first + 1) k name value ls (omega (arith, l)) h))

zero_plus : (n : ℕ) → 0 + n ≡ n
zero_plus n = omega arith

module _ (name v : List ℕ) (all : List Pairs) where
  abbrev pub HasPair : ℕ → Type 0
  HasPair id = has_pair name v (labels_at all id) ≡ true

  paired_by : (first : ℕ) (b : Bool) (ids : List ℕ) → (b ≡ true → HasPair first) → All HasPair ids → All HasPair (cond b (first ∷ ids) ids)
  paired_by first true ids h a = All-cons HasPair first ids (h refl) a
  paired_by first false ids h a = a

  paired_from : (first : ℕ) (ls : List Pairs) → StandFrom first all ls → All HasPair (ids_from first name v ls)
  paired_from first [] s = All-nil HasPair
  paired_from first (l ∷ ls) s =
      paired_by first (has_pair name v l) (ids_from (first + 1) name v ls) (λ e. ap (has_pair name v) (stand_first all first l ls s) ∙ e) (paired_from (first + 1) ls (stand_on all first l ls s))

  -- each of the list has the pair
  pub all_paired : All HasPair (ids_with name v all)
  all_paired = paired_from 0 all (stand_all all)

pub within_with : (name v : List ℕ) (ls : List Pairs) → All (λ id. id < length ls) (ids_with name v ls)
within_with name v ls = within_from (length ls) 0 name v ls (omega arith)

-- ---- several lists

all_within : (name : List ℕ) (values : List (List ℕ)) (ls : List Pairs) → All (λ id. id < length ls) (all_listed name values ls)
all_within name [] ls = All-nil (λ id. id < length ls)
all_within name (v ∷ vs) ls =
    All-append (λ id. id < length ls) (ids_with name v ls) (all_listed name vs ls) (within_from (length ls) 0 name v ls (omega arith)) (all_within name vs ls)

each_by : (name v : List ℕ) (ls : List Pairs) (id : ℕ) (rest : List ℕ) (b others : Bool) → id < length ls → has_pair name v (labels_at ls id) ≡ b
    → (others ≡ true → Contains rest id) → (b || others) ≡ true → Contains (ids_with name v ls ++ rest) id
each_by name v ls id rest true others l e f h = Contains-append_left (ids_with name v ls) rest id (subst (Contains (ids_with name v ls)) (zero_plus id) (each_from 0 id name v ls l e))
each_by name v ls id rest false others l e f h = Contains-append_right (ids_with name v ls) rest id (f h)

all_each : (name : List ℕ) (values : List (List ℕ)) (ls : List Pairs) (id : ℕ) → id < length ls → has_one name values (labels_at ls id) ≡ true → Contains (all_listed name values ls) id
all_each name [] ls id l h = cc
all_each name (v ∷ vs) ls id l h =
    each_by name v ls id (all_listed name vs ls) (has_pair name v (labels_at ls id)) (has_one name vs (labels_at ls id)) l refl (all_each name vs ls id l) h

all_exact : (name : List ℕ) (values : List (List ℕ)) (ls : List Pairs) → All (λ id. has_one name values (labels_at ls id) ≡ true) (all_listed name values ls)
all_exact name [] ls = All-nil (λ id. has_one name [] (labels_at ls id) ≡ true)
all_exact name (v ∷ vs) ls =
    All-append (λ id. has_one name (v ∷ vs) (labels_at ls id) ≡ true) (ids_with name v ls) (all_listed name vs ls)
    (λ k d h. or_left _ _ (all_paired name v ls k d h)) (λ k d h. or_right _ _ (all_exact name vs ls k d h))

all_rising : (name : List ℕ) (values : List (List ℕ)) (ls : List Pairs) → length values ≤ 1 → RisesFrom 0 (all_listed name values ls)
all_rising name [] ls h = tt
all_rising name (v ∷ []) ls h = subst (RisesFrom 0) (sym (append-nil (ids_with name v ls))) (rises_from 0 name v ls)
all_rising name (v ∷ w ∷ vs) ls h = absurd (omega (arith, h))

-- the list of one value
pub one_listed : (name : List ℕ) (values : List (List ℕ)) (ls : List Pairs) (xs : List ℕ) → length values ≤ 1 → xs ≡ all_listed name values ls → xs ≡ listed_in name values ls
one_listed name values ls xs h e =
    e ∙ are_all (λ id. has_one name values (labels_at ls id)) (length ls) 0 ls (all_listed name values ls) (omega arith) (all_rising name values ls h) (all_within name values ls)
    (all_exact name values ls) (λ k l m a. list_any-from_Contains nat_eq_equiv k (all_listed name values ls) (all_each name values ls k m a))

-- numbers that increase
on_tail : (id : ℕ) (ids : List ℕ) (k : ℕ) → get_or (id ∷ ids) (suc k) 0 < get_or (id ∷ ids) (suc k + 1) 0 → get_or ids k 0 < get_or ids (k + 1) 0
on_tail id ids k h = simp add-one (simp add-one at h)

next_above : (id : ℕ) (ids : List ℕ) → id < get_or (id ∷ ids) (0 + 1) 0 → id + 1 ≤ get_or ids 0 0
next_above id ids h = omega (arith, h)

rises_on : (n : ℕ) (ids : List ℕ) → IsStrictlyIncreasing ids → (0 < length ids → n ≤ get_or ids 0 0) → RisesFrom n ids
rises_on n [] s h = tt
rises_on n (id ∷ ids) s h =
    (h (omega arith), rises_on (id + 1) ids (λ k l. on_tail id ids k (s (suc k) (omega (arith, l)))) (λ l. next_above id ids (s 0 (omega (arith, l)))))

-- what a sort and `dedup` leave of the lists
pub sorted_listed : (name : List ℕ) (values : List (List ℕ)) (ls : List Pairs) (xs ys zs : List ℕ) → xs ≡ all_listed name values ls → IsPermutation xs ys → IsSorted nat_cmp ys
    → zs ≡ dedup eqb ys → zs ≡ listed_in name values ls
sorted_listed name values ls xs ys zs e p s d =
    let has : ℕ → Bool = λ id. has_one name values (labels_at ls id) in
    d
    ∙ are_all has (length ls) 0 ls (dedup eqb ys) (omega arith) (rises_on 0 (dedup eqb ys) (IsStrictlyIncreasing-dedup ys s) (λ l. omega arith))
    (All-dedup eqb (λ id. id < length ls) ys (All-permutation (λ id. id < length ls) xs ys p (subst (All (λ id. id < length ls)) (sym e) (all_within name values ls))))
    (All-dedup eqb (λ id. has id ≡ true) ys (All-permutation (λ id. has id ≡ true) xs ys p (subst (All (λ id. has id ≡ true)) (sym e) (all_exact name values ls))))
    (λ k l m a. list_any-from_Contains nat_eq_equiv k (dedup eqb ys)
    (Contains-dedup_nat ys k (Contains-permutation xs ys k p (subst (λ ids. Contains ids k) (sym e) (all_each name values ls k m a)))))
