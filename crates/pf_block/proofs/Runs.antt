-- Samples in runs, one for each series.
use Rattle.std.proofs.Common.{◌≡◌, ℕ, zero, suc, ◌+◌, ◌-◌, ◌<◌, ◌≤◌, Bool, true, false, cond, ◌&&◌, List, [], ◌∷◌, ◌++◌, length, drop, get_or, refl, sym, ap, ◌∙◌, arith, append_assoc, Some, subst}
use Rattle.std.specs.Prelude.{nat_eq, nat_lt, nat_le}
use Rattle.std.specs.List.{AllWithin, slice_get}
use Rattle.std.specs.List.Sorted.{IsPartitionedBy}
use Rattle.std.specs.Cmp.{first_so, second_so}
use Rattle.std.proofs.lemmas.List.{length-append}
use Rattle.std.proofs.lemmas.Bool.Decides.{nat_tests}
use Rattle.pf_block.specs.Runs.{apart_after, are_apart, are_runs, copies, count_by, ends_with, last_run, run_end, run_noted, spread}
use Rattle.pf_block.proofs.Searches.{both}

abbrev Run : Type 0
Run = ℕ × ℕ

abbrev Runs : Type 0
Runs = List (ℕ × ℕ)

-- ---- tests of numbers

lt_of : (i j : ℕ) → nat_lt i j ≡ true → i < j
lt_of i j h = grind (arith, nat_tests)

is_lt : (i j : ℕ) → i < j → nat_lt i j ≡ true
is_lt i j h = grind (arith, nat_tests)

not_lt : (i j : ℕ) → j ≤ i → nat_lt i j ≡ false
not_lt i j h = grind (arith, nat_tests)

from_not_lt : (i j : ℕ) → nat_lt i j ≡ false → j ≤ i
from_not_lt i j h = grind (arith, nat_tests)

le_of : (i j : ℕ) → nat_le i j ≡ true → i ≤ j
le_of i j h = grind (arith, nat_tests)

is_le : (i j : ℕ) → i ≤ j → nat_le i j ≡ true
is_le i j h = grind (arith, nat_tests)

not_le : (i j : ℕ) → j < i → nat_le i j ≡ false
not_le i j h = grind (arith, nat_tests)

from_not_le : (i j : ℕ) → nat_le i j ≡ false → j < i
from_not_le i j h = grind (arith, nat_tests)

eq_of : (i j : ℕ) → nat_eq i j ≡ true → i ≡ j
eq_of i j h = grind (arith, nat_tests)

is_apart : (i j : ℕ) → nat_eq i j ≡ false → i ≤ j → i < j
is_apart i j h l = grind (arith, nat_tests)

-- ---- runs that stand apart

module _ (r s : Run) (ss : Runs) (h : apart_after r (s ∷ ss) ≡ true) where
  step_so : (nat_lt r.0 s.0 && nat_lt r.1 s.1) ≡ true
  step_so = first_so (nat_lt r.0 s.0 && nat_lt r.1 s.1) (apart_after s ss) h

  ids_apart : r.0 < s.0
  ids_apart = lt_of r.0 s.0 (first_so (nat_lt r.0 s.0) (nat_lt r.1 s.1) step_so)

  places_apart : r.1 < s.1
  places_apart = lt_of r.1 s.1 (second_so (nat_lt r.0 s.0) (nat_lt r.1 s.1) step_so)

  rest_apart : apart_after s ss ≡ true
  rest_apart = second_so (nat_lt r.0 s.0 && nat_lt r.1 s.1) (apart_after s ss) h

last_place : (r : Run) (rs : Runs) → apart_after r rs ≡ true → r.1 ≤ (last_run r rs).1
last_place r [] h = omega arith
last_place r (s ∷ ss) h = let l = places_apart r s ss h in let m = last_place s ss (rest_apart r s ss h) in omega (arith, l, m)

module _ (r : Run) (rs : Runs) (n : ℕ) (h : are_runs (r ∷ rs) n ≡ true) where
  behind_so : (apart_after r rs && nat_lt (last_run r rs).1 n) ≡ true
  behind_so = second_so (nat_eq r.1 0) (apart_after r rs && nat_lt (last_run r rs).1 n) h

  runs_first : r.1 ≡ 0
  runs_first = eq_of r.1 0 (first_so (nat_eq r.1 0) (apart_after r rs && nat_lt (last_run r rs).1 n) h)

  runs_apart : apart_after r rs ≡ true
  runs_apart = first_so (apart_after r rs) (nat_lt (last_run r rs).1 n) behind_so

  pub runs_last : (last_run r rs).1 < n
  runs_last = lt_of (last_run r rs).1 n (second_so (apart_after r rs) (nat_lt (last_run r rs).1 n) behind_so)

-- ---- an id so many times

copies_length : (k i : ℕ) → length (copies k i) ≡ k
copies_length zero i = refl
copies_length (suc k) i = ap suc (copies_length k i)

copies_more : (k i : ℕ) → copies (suc k) i ≡ copies k i ++ i ∷ []
copies_more zero i = refl
copies_more (suc k) i = ap (λ l. i ∷ l) (copies_more k i)

copies_within : (k i j d : ℕ) (xs : List ℕ) → j < k → get_or (copies k i ++ xs) j d ≡ i
copies_within zero i j d xs l = absurd (omega arith)
copies_within (suc k) i zero d xs l = refl
copies_within (suc k) i (suc j) d xs l = copies_within k i j d xs (omega arith)

copies_behind : (k i j d : ℕ) (xs : List ℕ) → get_or (copies k i ++ xs) (k + j) d ≡ get_or xs j d
copies_behind zero i j d xs = let e : zero + j ≡ j = omega arith in ap (λ n. get_or xs n d) e
copies_behind (suc k) i j d xs = let e : suc k + j ≡ suc (k + j) = omega arith in ap (λ n. get_or (i ∷ copies k i ++ xs) n d) e ∙ copies_behind k i j d xs

module _ (p : ℕ → Bool) where
  copies_counted : (k i : ℕ) (xs : List ℕ) → p i ≡ true → count_by p (copies k i ++ xs) ≡ k + count_by p xs
  copies_counted zero i xs h = omega arith
  copies_counted (suc k) i xs h =
      let r = copies_counted k i xs h in
      let e : count_by p (copies (suc k) i ++ xs) ≡ suc (count_by p (copies k i ++ xs)) = ap (λ b. cond b (suc (count_by p (copies k i ++ xs))) 0) h in
      omega (arith, r, e)

  copies_none : (k i : ℕ) (xs : List ℕ) → 0 < k → p i ≡ false → count_by p (copies k i ++ xs) ≡ 0
  copies_none zero i xs l h = absurd (omega arith)
  copies_none (suc k) i xs l h = ap (λ b. cond b (suc (count_by p (copies k i ++ xs))) 0) h

none_behind : (xs : List ℕ) → xs ++ [] ≡ xs
none_behind [] = refl
none_behind (x ∷ xs) = ap (λ l. x ∷ l) (none_behind xs)

-- ---- the id of each sample

after_length : (r : Run) (rs : Runs) (n : ℕ) → apart_after r rs ≡ true → (last_run r rs).1 < n → length (spread (r ∷ rs) n) + r.1 ≡ n
after_length r [] n h l = omega (arith, l, length-append (copies (n - r.1) r.0) [], copies_length (n - r.1) r.0)
after_length r (s ∷ ss) n h l =
    let m = places_apart r s ss h in
    let i = after_length s ss n (rest_apart r s ss h) l in
    omega (arith, m, i, length-append (copies (s.1 - r.1) r.0) (spread (s ∷ ss) n), copies_length (s.1 - r.1) r.0)

pub spread_length : (rs : Runs) (n : ℕ) → are_runs rs n ≡ true → length (spread rs n) ≡ n
spread_length [] n h = sym (eq_of n 0 h)
spread_length (r ∷ rs) n h = let l = after_length r rs n (runs_apart r rs n h) (runs_last r rs n h) in let f = runs_first r rs n h in omega (arith, l, f)

one_more : (n : ℕ) → suc n - n ≡ 1
one_more n = omega arith

new_spread : (rs : Runs) (n id : ℕ) → spread (rs ++ (id, n) ∷ []) (suc n) ≡ spread rs n ++ id ∷ []
new_spread [] n id = ap (λ k. copies k id ++ []) (one_more n)
new_spread (r ∷ []) n id = ap (λ l. copies (n - r.1) r.0 ++ l) (new_spread [] n id) ∙ ap (λ l. l ++ id ∷ []) (sym (none_behind (copies (n - r.1) r.0)))
new_spread (r ∷ s ∷ ss) n id = ap (λ l. copies (s.1 - r.1) r.0 ++ l) (new_spread (s ∷ ss) n id) ∙ sym (append_assoc (copies (s.1 - r.1) r.0) (spread (s ∷ ss) n) (id ∷ []))

less_more : (n m : ℕ) → m ≤ n → suc n - m ≡ suc (n - m)
less_more n m l = omega arith

pub more_spread : (r : Run) (rs : Runs) (n : ℕ) → (last_run r rs).1 ≤ n → spread (r ∷ rs) (suc n) ≡ spread (r ∷ rs) n ++ (last_run r rs).0 ∷ []
more_spread r [] n l =
    none_behind (copies (suc n - r.1) r.0)
    ∙ ap (λ k. copies k r.0) (less_more n r.1 l)
    ∙ copies_more (n - r.1) r.0
    ∙ ap (λ x. x ++ r.0 ∷ []) (sym (none_behind (copies (n - r.1) r.0)))
more_spread r (s ∷ ss) n l =
    ap (λ x. copies (s.1 - r.1) r.0 ++ x) (more_spread s ss n l) ∙ sym (append_assoc (copies (s.1 - r.1) r.0) (spread (s ∷ ss) n) ((last_run s ss).0 ∷ []))

-- ---- a further sample

pub last_spread : (r : Run) (rs : Runs) (n : ℕ) → (last_run r rs).1 < n → spread (r ∷ rs) n ≡ spread (r ∷ rs) (n - 1) ++ (last_run r rs).0 ∷ []
last_spread r rs zero l = absurd (omega arith)
last_spread r rs (suc n) l = let e : suc n - 1 ≡ n = omega arith in more_spread r rs n (omega arith) ∙ ap (λ m. spread (r ∷ rs) m ++ (last_run r rs).0 ∷ []) (sym e)

noted_by : (r : Run) (rs : Runs) (n id : ℕ) (v : Bool) → nat_eq (last_run r rs).0 id ≡ v → (last_run r rs).1 < n → spread (cond v (r ∷ rs) (r ∷ rs ++ (id, n) ∷ [])) (suc n) ≡ spread (r ∷ rs) n ++ id ∷ []
noted_by r rs n id true h l = more_spread r rs n (omega arith) ∙ ap (λ i. spread (r ∷ rs) n ++ i ∷ []) (eq_of (last_run r rs).0 id h)
noted_by r rs n id false h l = new_spread (r ∷ rs) n id

pub noted_spread : (rs : Runs) (n id : ℕ) → are_runs rs n ≡ true → spread (run_noted rs (id, n)) (suc n) ≡ spread rs n ++ id ∷ []
noted_spread [] n id h = new_spread [] n id
noted_spread (r ∷ rs) n id h = noted_by r rs n id (nat_eq (last_run r rs).0 id) refl (runs_last r rs n h)

apart_more : (r : Run) (rs : Runs) (new : Run) → apart_after r rs ≡ true → (last_run r rs).0 < new.0 → (last_run r rs).1 < new.1 → apart_after r (rs ++ new ∷ []) ≡ true
apart_more r [] new h l m = both (nat_lt r.0 new.0 && nat_lt r.1 new.1) true (both (nat_lt r.0 new.0) (nat_lt r.1 new.1) (is_lt r.0 new.0 l) (is_lt r.1 new.1 m)) refl
apart_more r (s ∷ ss) new h l m = both (nat_lt r.0 s.0 && nat_lt r.1 s.1) (apart_after s (ss ++ new ∷ [])) (step_so r s ss h) (apart_more s ss new (rest_apart r s ss h) l m)

last_more : (r : Run) (rs : Runs) (new : Run) → last_run r (rs ++ new ∷ []) ≡ new
last_more r [] new = refl
last_more r (s ∷ ss) new = last_more s ss new

are_of : (r : Run) (rs : Runs) (n : ℕ) → r.1 ≡ 0 → apart_after r rs ≡ true → (last_run r rs).1 < n → are_runs (r ∷ rs) n ≡ true
are_of r rs n f a l =
    both (nat_eq r.1 0) (apart_after r rs && nat_lt (last_run r rs).1 n) (ap (λ k. nat_eq k 0) f) (both (apart_after r rs) (nat_lt (last_run r rs).1 n) a (is_lt (last_run r rs).1 n l))

runs_by : (r : Run) (rs : Runs) (n id : ℕ) (v : Bool) → nat_eq (last_run r rs).0 id ≡ v → are_runs (r ∷ rs) n ≡ true → (last_run r rs).0 ≤ id → are_runs (cond v (r ∷ rs) (r ∷ rs ++ (id, n) ∷ [])) (suc n) ≡ true
runs_by r rs n id true e h l = let m = runs_last r rs n h in are_of r rs (suc n) (runs_first r rs n h) (runs_apart r rs n h) (omega (arith, m))
runs_by r rs n id false e h l =
    let last : (last_run r (rs ++ (id, n) ∷ [])).1 ≡ n = ap (λ x. x.1) (last_more r rs (id, n)) in
    are_of r (rs ++ (id, n) ∷ []) (suc n) (runs_first r rs n h) (apart_more r rs (id, n) (runs_apart r rs n h) (is_apart (last_run r rs).0 id e l) (runs_last r rs n h)) (omega (arith, last))

pub noted_runs : (rs : Runs) (n id : ℕ) → are_runs rs n ≡ true → ((r : Run) (ss : Runs) → rs ≡ r ∷ ss → (last_run r ss).0 ≤ id) → are_runs (run_noted rs (id, n)) (suc n) ≡ true
noted_runs [] n id h l = let e = eq_of n 0 h in are_of (id, n) [] (suc n) e refl (omega arith)
noted_runs (r ∷ rs) n id h l = runs_by r rs n id (nat_eq (last_run r rs).0 id) refl h (l r rs refl)

-- ---- searches

after_all : (r : Run) (rs : Runs) (k : ℕ) (d : Run) → apart_after r rs ≡ true → k < length rs → (r.0 < (get_or rs k d).0) × (r.1 < (get_or rs k d).1)
after_all r [] k d h l = absurd (omega arith)
after_all r (s ∷ ss) zero d h l = (ids_apart r s ss h, places_apart r s ss h)
after_all r (s ∷ ss) (suc k) d h l =
    let i = after_all s ss k d (rest_apart r s ss h) (omega arith) in
    let a = ids_apart r s ss h in
    let b = places_apart r s ss h in
    let c = i.0 in
    let e = i.1 in
    (omega (arith, a, c), omega (arith, b, e))

behind_apart : (r : Run) (rs : Runs) → apart_after r rs ≡ true → are_apart rs ≡ true
behind_apart r [] h = refl
behind_apart r (s ∷ ss) h = rest_apart r s ss h

module _ (p : Run → Bool) (down : (a b : Run) → a.0 < b.0 → a.1 < b.1 → p b ≡ true → p a ≡ true) where
  parted_by : (rs : Runs) → are_apart rs ≡ true → (i j : ℕ) (d : Run) → i ≤ j → j < length rs → p (get_or rs j d) ≡ true → p (get_or rs i d) ≡ true
  parted_by [] h i j d l m q = absurd (omega arith)
  parted_by (r ∷ rs) h zero zero d l m q = q
  parted_by (r ∷ rs) h zero (suc j) d l m q = let a = after_all r rs j d h (omega arith) in down r (get_or rs j d) a.0 a.1 q
  parted_by (r ∷ rs) h (suc i) zero d l m q = absurd (omega arith)
  parted_by (r ∷ rs) h (suc i) (suc j) d l m q = parted_by rs (behind_apart r rs h) i j d (omega arith) (omega arith) q

pub below_parted : (id : ℕ) (rs : Runs) → are_apart rs ≡ true → IsPartitionedBy (λ r. nat_lt r.0 id) rs
below_parted id rs h i j d l m q = parted_by (λ r. nat_lt r.0 id) (λ a b x y z. let w = lt_of b.0 id z in is_lt a.0 id (omega (arith, x, w))) rs h i j d l m q

pub begun_parted : (place : ℕ) (rs : Runs) → are_apart rs ≡ true → IsPartitionedBy (λ r. nat_le r.1 place) rs
begun_parted place rs h i j d l m q = parted_by (λ r. nat_le r.1 place) (λ a b x y z. let w = le_of b.1 place z in is_le a.1 place (omega (arith, y, w))) rs h i j d l m q

pub is_id : (i j : ℕ) → nat_eq i j ≡ true → i ≡ j
is_id i j h = grind (arith, nat_tests)

-- where a run is of an id, those before it are the runs of ids below
pub below_at : (id : ℕ) (rs : Runs) (k : ℕ) (d : Run) → are_apart rs ≡ true → k < length rs → (get_or rs k d).0 ≡ id → k ≡ count_by (λ r. nat_lt r.0 id) rs
below_at id [] k d h l e = absurd (omega (arith, l))
below_at id (r ∷ rs) zero d h l e = sym (ap (λ b. cond b (suc (count_by (λ x. nat_lt x.0 id) rs)) 0) (not_lt r.0 id (omega (arith, e))))
below_at id (r ∷ rs) (suc k) d h l e =
    let before = (after_all r rs k d h (omega (arith, l))).0 in
    let rest : k ≡ count_by (λ x. nat_lt x.0 id) rs = below_at id rs k d (behind_apart r rs h) (omega (arith, l)) e in
    sym (
    ap (λ b. cond b (suc (count_by (λ x. nat_lt x.0 id) rs)) 0) (is_lt r.0 id (omega (arith, before, e)))
    ∙ ap suc (sym rest)
    )

pub count_is : (p : Run → Bool) (rs : Runs) (n : ℕ) → n ≤ length rs → AllWithin (λ r. p r ≡ true) rs 0 n → AllWithin (λ r. p r ≡ false) rs n (length rs) → n ≡ count_by p rs
count_is p [] n l f g = omega arith
count_is p (x ∷ xs) zero l f g = let e : p x ≡ false = g 0 x (omega arith) (omega arith) in sym (ap (λ b. cond b (suc (count_by p xs)) 0) e)
count_is p (x ∷ xs) (suc n) l f g =
    let e : p x ≡ true = f 0 x (omega arith) (omega arith) in
    let r : n ≡ count_by p xs = count_is p xs n (omega arith) (λ k d a b. f (suc k) d (omega arith) (omega arith)) (λ k d a b. g (suc k) d (omega arith) (omega arith)) in
    ap suc r ∙ sym (ap (λ b. cond b (suc (count_by p xs)) 0) e)

-- ---- from runs to places

module _ (p : ℕ → Bool) where
  abbrev on_run : Run → Bool
  on_run r = p r.0

  place_by : (r : Run) (rs : Runs) (n : ℕ) (v : Bool) → p r.0 ≡ v → r.1 < run_end rs n → count_by p (spread rs n) + run_end rs n ≡ run_end (drop (count_by on_run rs) rs) n →
      count_by p (spread (r ∷ rs) n) + r.1 ≡ run_end (drop (cond v (suc (count_by on_run rs)) 0) (r ∷ rs)) n
  place_by r rs n true h l e = let c = copies_counted p (run_end rs n - r.1) r.0 (spread rs n) h in omega (arith, c, l, e)
  place_by r rs n false h l e = let c = copies_none p (run_end rs n - r.1) r.0 (spread rs n) (omega (arith, l)) h in omega (arith, c)

  places_after : (r : Run) (rs : Runs) (n : ℕ) → apart_after r rs ≡ true → (last_run r rs).1 < n → count_by p (spread (r ∷ rs) n) + r.1 ≡ run_end (drop (count_by on_run (r ∷ rs)) (r ∷ rs)) n
  places_after r [] n h l = place_by r [] n (p r.0) refl l (omega arith)
  places_after r (s ∷ ss) n h l = place_by r (s ∷ ss) n (p r.0) refl (places_apart r s ss h) (places_after s ss n (rest_apart r s ss h) l)

  pub places_are : (rs : Runs) (n : ℕ) → are_runs rs n ≡ true → count_by p (spread rs n) ≡ run_end (drop (count_by on_run rs) rs) n
  places_are [] n h = sym (eq_of n 0 h)
  places_are (r ∷ rs) n h = let e = places_after r rs n (runs_apart r rs n h) (runs_last r rs n h) in let f = runs_first r rs n h in omega (arith, e, f)

-- ---- the run of an id

module _ (id : ℕ) where
  abbrev pub below_run : Run → Bool
  below_run r = nat_lt r.0 id

  abbrev pub upto_run : Run → Bool
  upto_run r = nat_le r.0 id

  none_upto : (rs : Runs) (r : Run) → apart_after r rs ≡ true → id ≤ r.0 → count_by upto_run rs ≡ 0
  none_upto [] r h l = refl
  none_upto (s ∷ ss) r h l = let a = ids_apart r s ss h in ap (λ b. cond b (suc (count_by upto_run ss)) 0) (not_le s.0 id (omega (arith, a, l)))

  counted_in : (r : Run) (rs : Runs) → r.0 ≤ id → count_by upto_run (r ∷ rs) ≡ suc (count_by upto_run rs)
  counted_in r rs l = ap (λ b. cond b (suc (count_by upto_run rs)) 0) (is_le r.0 id l)

  same_by : (r : Run) (rs : Runs) (k : ℕ) (d : Run) (v : Bool) → nat_lt r.0 id ≡ v → apart_after r rs ≡ true → k < suc (length rs) → k ≡ cond v (suc (count_by below_run rs)) 0 → (get_or (r ∷ rs) k d).0 ≡ id →
      ((j : ℕ) → j < length rs → j ≡ count_by below_run rs → (get_or rs j d).0 ≡ id → suc j ≡ count_by upto_run rs) → suc k ≡ count_by upto_run (r ∷ rs)
  same_by r rs zero d true e h m k g f = absurd (omega (arith, k))
  same_by r rs (suc j) d true e h m k g f = let l = lt_of r.0 id e in ap suc (f j (omega (arith, m)) (omega (arith, k)) g) ∙ sym (counted_in r rs (omega (arith, l)))
  same_by r rs zero d false e h m k g f = sym (counted_in r rs (omega (arith, g)) ∙ ap suc (none_upto rs r h (omega (arith, g))))
  same_by r rs (suc j) d false e h m k g f = absurd (omega (arith, k))

  pub upto_same : (rs : Runs) (k : ℕ) (d : Run) → are_apart rs ≡ true → k < length rs → k ≡ count_by below_run rs → (get_or rs k d).0 ≡ id → suc k ≡ count_by upto_run rs
  upto_same [] k d h l e g = absurd (omega arith)
  upto_same (r ∷ rs) k d h l e g = same_by r rs k d (nat_lt r.0 id) refl h l e g (λ j m x y. upto_same rs j d (behind_apart r rs h) m x y)

  other_by : (r : Run) (rs : Runs) (k : ℕ) (d : Run) (v : Bool) → nat_lt r.0 id ≡ v → k ≡ cond v (suc (count_by below_run rs)) 0 → (k < suc (length rs) → nat_eq (get_or (r ∷ rs) k d).0 id ≡ false) →
      ((j : ℕ) → j ≡ count_by below_run rs → (j < length rs → nat_eq (get_or rs j d).0 id ≡ false) → j ≡ count_by upto_run rs) → k ≡ count_by upto_run (r ∷ rs)
  other_by r rs zero d true e k g f = absurd (omega (arith, k))
  other_by r rs (suc j) d true e k g f = let l = lt_of r.0 id e in ap suc (f j (omega (arith, k)) (λ m. g (omega (arith, m)))) ∙ sym (counted_in r rs (omega (arith, l)))
  other_by r rs zero d false e k g f = sym (ap (λ b. cond b (suc (count_by upto_run rs)) 0) (over_by r.0 e (g (omega arith)))) where
    over_by : (i : ℕ) → nat_lt i id ≡ false → nat_eq i id ≡ false → nat_le i id ≡ false
    over_by i a b = grind (arith, nat_tests)
  other_by r rs (suc j) d false e k g f = absurd (omega (arith, k))

  pub upto_other : (rs : Runs) (k : ℕ) (d : Run) → k ≡ count_by below_run rs → (k < length rs → nat_eq (get_or rs k d).0 id ≡ false) → k ≡ count_by upto_run rs
  upto_other [] k d e g = e
  upto_other (r ∷ rs) k d e g = other_by r rs k d (nat_lt r.0 id) refl e g (λ j x y. upto_other rs j d x y)

-- ---- the run of a place

module _ (place : ℕ) where
  abbrev pub begun : Run → Bool
  begun r = nat_le r.1 place

  none_begun : (rs : Runs) (n : ℕ) → place < run_end rs n → count_by begun rs ≡ 0
  none_begun [] n l = refl
  none_begun (s ∷ ss) n l = ap (λ b. cond b (suc (count_by begun ss)) 0) (not_le s.1 place l)

  begun_in : (r : Run) (rs : Runs) → r.1 ≤ place → count_by begun (r ∷ rs) ≡ suc (count_by begun rs)
  begun_in r rs l = ap (λ b. cond b (suc (count_by begun rs)) 0) (is_le r.1 place l)

  in_first : (r : Run) (rs : Runs) (n i : ℕ) (d : Run) → r.1 ≤ place → place < run_end rs n → get_or (spread (r ∷ rs) n) (place - r.1) i ≡ (get_or (r ∷ rs) (count_by begun (r ∷ rs) - 1) d).0
  in_first r rs n i d l m =
      copies_within (run_end rs n - r.1) r.0 (place - r.1) i (spread rs n) (omega (arith, l, m))
      ∙ sym (ap (λ k. (get_or (r ∷ rs) (k - 1) d).0) (begun_in r rs l ∙ ap suc (none_begun rs n m)))

  first_places : (e a : ℕ) → a ≤ e → e ≤ place → place - a ≡ (e - a) + (place - e)
  first_places e a l m = omega arith

  less_one : (k : ℕ) → suc (suc k) - 1 ≡ suc (suc k - 1)
  less_one k = omega arith

  in_rest : (r s : Run) (ss : Runs) (n i : ℕ) (d : Run) → r.1 ≤ s.1 → s.1 ≤ place → get_or (spread (s ∷ ss) n) (place - s.1) i ≡ (get_or (s ∷ ss) (count_by begun (s ∷ ss) - 1) d).0 →
      get_or (spread (r ∷ s ∷ ss) n) (place - r.1) i ≡ (get_or (r ∷ s ∷ ss) (count_by begun (r ∷ s ∷ ss) - 1) d).0
  in_rest r s ss n i d l m e =
      ap (λ k. get_or (spread (r ∷ s ∷ ss) n) k i) (first_places s.1 r.1 l m)
      ∙ copies_behind (s.1 - r.1) r.0 (place - s.1) i (spread (s ∷ ss) n)
      ∙ e
      ∙ ap (λ k. (get_or (s ∷ ss) (k - 1) d).0) (begun_in s ss m)
      ∙ sym (ap (λ k. (get_or (r ∷ s ∷ ss) (k - 1) d).0) (begun_in r (s ∷ ss) (omega (arith, l, m)) ∙ ap suc (begun_in s ss m)) ∙ ap (λ k. (get_or (r ∷ s ∷ ss) k d).0) (less_one (count_by begun ss)))

  id_after : (r : Run) (rs : Runs) (n i : ℕ) (d : Run) → apart_after r rs ≡ true → r.1 ≤ place → place < n → get_or (spread (r ∷ rs) n) (place - r.1) i ≡ (get_or (r ∷ rs) (count_by begun (r ∷ rs) - 1) d).0
  id_after r [] n i d h l m = in_first r [] n i d l m
  id_after r (s ∷ ss) n i d h l m =
      let a = places_apart r s ss h in
      elim (nat_le s.1 place) as (λ v. nat_le s.1 place ≡ v → get_or (spread (r ∷ s ∷ ss) n) (place - r.1) i ≡ (get_or (r ∷ s ∷ ss) (count_by begun (r ∷ s ∷ ss) - 1) d).0) [
        | true ↦ λ e. in_rest r s ss n i d (omega (arith, a)) (le_of s.1 place e) (id_after s ss n i d (rest_apart r s ss h) (le_of s.1 place e) m)
        | false ↦ λ e. in_first r (s ∷ ss) n i d l (from_not_le s.1 place e)
      ] refl

  pub id_at : (rs : Runs) (n i : ℕ) (d : Run) → are_runs rs n ≡ true → place < n → get_or (spread rs n) place i ≡ (get_or rs (count_by begun rs - 1) d).0
  id_at [] n i d h l = let e = eq_of n 0 h in absurd (omega (arith, e, l))
  id_at (r ∷ rs) n i d h l =
      let f = runs_first r rs n h in
      let e : place ≡ place - r.1 = omega (arith, f) in
      ap (λ k. get_or (spread (r ∷ rs) n) k i) e ∙ id_after r rs n i d (runs_apart r rs n h) (omega (arith, f)) l

  pub some_begun : (rs : Runs) (n : ℕ) → are_runs rs n ≡ true → place < n → 0 < count_by begun rs
  some_begun [] n h l = let e = eq_of n 0 h in absurd (omega (arith, e, l))
  some_begun (r ∷ rs) n h l = let f = runs_first r rs n h in let e = begun_in r rs (omega (arith, f)) in omega (arith, e)

-- ---- no run begins behind all samples

end_after : (r : Run) (rs : Runs) (n k : ℕ) → apart_after r rs ≡ true → (last_run r rs).1 < n → run_end (drop k (r ∷ rs)) n ≤ n
end_after r rs n zero h l = let m = last_place r rs h in omega (arith, m, l)
end_after r [] n (suc k) h l = ends_none k
  where
    ends_none : (k : ℕ) → run_end (drop k []) n ≤ n
    ends_none zero = omega arith
    ends_none (suc k) = omega arith
end_after r (s ∷ ss) n (suc k) h l = end_after s ss n k (rest_apart r s ss h) l

pub end_within : (rs : Runs) (n k : ℕ) → are_runs rs n ≡ true → run_end (drop k rs) n ≤ n
end_within [] n zero h = omega arith
end_within [] n (suc k) h = omega arith
end_within (r ∷ rs) n k h = end_after r rs n k (runs_apart r rs n h) (runs_last r rs n h)

-- ---- the last run

last_at : (r : Run) (rs : Runs) → slice_get (r ∷ rs) (length rs) ≡ Some (last_run r rs)
last_at r [] = refl
last_at r (s ∷ ss) = last_at s ss

pub last_there : (id : ℕ) (rs : Runs) (x : Run) → Some x ≡ slice_get rs (length rs - 1) → nat_eq x.0 id ≡ ends_with id rs
last_there id [] x e = cc
last_there id (r ∷ rs) x e =
    let n : length (r ∷ rs) - 1 ≡ length rs = omega arith in
    let f : Some x ≡ Some (last_run r rs) = e ∙ ap (slice_get (r ∷ rs)) n ∙ last_at r rs in
    let g : x ≡ last_run r rs = cc in
    ap (λ y. nat_eq y.0 id) g

-- ---- the same in the forms that the code has

pub upto_apart : (id : ℕ) (rs : Runs) (k : ℕ) (d : Run) → k ≡ count_by (below_run id) rs → ((get_or rs k d).0 ≡ id → ⊥) → k ≡ count_by (upto_run id) rs
upto_apart id rs k d e f =
    upto_other id rs k d e (λ l. elim (nat_eq (get_or rs k d).0 id) as (λ v. nat_eq (get_or rs k d).0 id ≡ v → nat_eq (get_or rs k d).0 id ≡ false) [
      | true ↦ λ t. absurd (f (eq_of (get_or rs k d).0 id t))
      | false ↦ λ t. t
    ] refl)

pub end_at : (rs : Runs) (n k : ℕ) (d : Run) → k < length rs → (get_or rs k d).1 ≡ run_end (drop k rs) n
end_at [] n k d l = absurd (omega arith)
end_at (r ∷ rs) n zero d l = refl
end_at (r ∷ rs) n (suc k) d l = end_at rs n k d (omega arith)

pub end_past : (rs : Runs) (n k : ℕ) → length rs ≤ k → n ≡ run_end (drop k rs) n
end_past [] n zero l = refl
end_past [] n (suc k) l = refl
end_past (r ∷ rs) n zero l = absurd (omega arith)
end_past (r ∷ rs) n (suc k) l = end_past rs n k (omega arith)

pub upto_past : (id : ℕ) (rs : Runs) (k : ℕ) → k ≡ count_by (below_run id) rs → length rs ≤ k → k ≡ count_by (upto_run id) rs
upto_past id rs k e l = upto_other id rs k (0, 0) e (λ m. absurd (omega (arith, l, m)))

pub started : (rs : Runs) (p : Run → Bool) (qs ts : Runs) (k rows n m : ℕ) → qs ≡ rs → ts ≡ rs → rows ≡ n → k ≡ count_by p ts → m ≡ run_end (drop k qs) rows → m ≡ run_end (drop (count_by p rs) rs) n
started rs p qs ts k rows n m a b c d e = e ∙ (λ i. run_end (drop (d i) (a i)) (c i)) ∙ ap (λ x. run_end (drop (count_by p x) rs) n) b

-- ---- a run that has a place

module _ (place : ℕ) where
  begun_after : (r : Run) (rs : Runs) (n k : ℕ) (d : Run) → apart_after r rs ≡ true → k < suc (length rs) → (get_or (r ∷ rs) k d).1 ≤ place → place < run_end (drop (suc k) (r ∷ rs)) n → suc k ≡ count_by (begun place) (r ∷ rs)
  begun_after r rs n zero d h m l e = sym (begun_in place r rs l ∙ ap suc (none_begun place rs n e))
  begun_after r [] n (suc k) d h m l e = absurd (omega arith)
  begun_after r (s ∷ ss) n (suc k) d h m l e =
      let i = begun_after s ss n k d (rest_apart r s ss h) (omega arith) l e in
      let a = places_apart r s ss h in
      let f = first_begun s ss i in
      ap suc i ∙ sym (begun_in place r (s ∷ ss) (omega (arith, a, f)))
    where
      first_begun : (s : Run) (ss : Runs) → suc k ≡ count_by (begun place) (s ∷ ss) → s.1 ≤ place
      first_begun s ss i = elim (nat_le s.1 place) as (λ v. nat_le s.1 place ≡ v → suc k ≡ cond v (suc (count_by (begun place) ss)) 0 → s.1 ≤ place) [
        | true ↦ λ v j. le_of s.1 place v
        | false ↦ λ v j. absurd (omega (arith, j))
      ] refl i

  pub run_is : (rs : Runs) (n k : ℕ) (d : Run) → are_runs rs n ≡ true → k < length rs → (get_or rs k d).1 ≤ place → place < run_end (drop (k + 1) rs) n → k + 1 ≡ count_by (begun place) rs
  run_is [] n k d h m l e = absurd (omega arith)
  run_is (r ∷ rs) n k d h m l e =
      let p : k + 1 ≡ suc k = omega arith in
      p ∙ begun_after r rs n k d (runs_apart r rs n h) m l (subst (λ j. place < run_end (drop j (r ∷ rs)) n) p e)

  pub run_has : (rs : Runs) (n k : ℕ) (d : Run) (end : ℕ) → are_runs rs n ≡ true → k < length rs → (get_or rs k d).1 ≤ place → end ≡ run_end (drop (k + 1) rs) n → nat_lt place end ≡ true → k + 1 ≡ count_by (begun place) rs
  run_has rs n k d end h m l e t = run_is rs n k d h m l (subst (λ j. place < j) e (lt_of place end t))
