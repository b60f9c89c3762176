-- Ids and samples side by side.
use Rattle.std.proofs.Common.{◌≡◌, ℕ, zero, suc, ◌+◌, ◌-◌, ◌<◌, ◌≤◌, ℤ, Bool, true, false, cond, ◌&&◌, ◌||◌, List, [], ◌∷◌, ◌++◌, length, map, take, drop, get_or, refl, sym, ap, ◌∙◌, arith, append_assoc, subst}
use Rattle.std.specs.Prelude.{int_le, nat_eq, nat_lt, nat_le}
use Rattle.std.specs.List.{filter}
use Rattle.std.specs.Cmp.{first_so, second_so}
use Rattle.std.proofs.lemmas.Int.{ints}
use Rattle.std.proofs.lemmas.List.{length-append, length-drop}
use Rattle.std.proofs.Math.Seq.{take-length}
use Rattle.std.proofs.lemmas.Bool.Decides.{nat_tests}
use Rattle.pf_base.specs.declared.plain.Sample.{Sample}
use Rattle.pf_block.specs.Blocks.{Entries, ascends, ascends_after, entry_of, is_upto, leads, merged, no_entry, samples_in}
use Rattle.pf_block.specs.Runs.{are_runs, count_by, laid, last_run, paired, run_end, run_noted, spread}
use Rattle.pf_block.proofs.Runs.{id_at, last_spread, noted_runs, noted_spread, places_are, runs_last, spread_length}
use Rattle.pf_block.proofs.Canonical.{ascends_behind}
use Rattle.pf_block.proofs.Searches.{both}
use Rattle.pf_block.proofs.Merging.{merged_first, merged_lesser, merged_greater}

pub paired_length : (is : List ℕ) (ss : List Sample) → length is ≡ length ss → length (paired is ss) ≡ length ss
paired_length [] [] h = refl
paired_length [] (s ∷ ss) h = absurd (omega (arith, h))
paired_length (i ∷ is) [] h = refl
paired_length (i ∷ is) (s ∷ ss) h = ap suc (paired_length is ss (omega (arith, h)))

pub paired_at : (is : List ℕ) (ss : List Sample) (k i : ℕ) (s : Sample) (e : ℕ × Sample) → length is ≡ length ss → k < length ss → get_or (paired is ss) k e ≡ (get_or is k i, get_or ss k s)
paired_at [] [] k i s e h l = absurd (omega arith)
paired_at [] (x ∷ ss) k i s e h l = absurd (omega (arith, h))
paired_at (j ∷ is) [] k i s e h l = absurd (omega arith)
paired_at (j ∷ is) (x ∷ ss) zero i s e h l = refl
paired_at (j ∷ is) (x ∷ ss) (suc k) i s e h l = paired_at is ss k i s e (omega (arith, h)) (omega arith)

pub paired_push : (is : List ℕ) (ss : List Sample) (i : ℕ) (s : Sample) → length is ≡ length ss → paired (is ++ i ∷ []) (ss ++ s ∷ []) ≡ paired is ss ++ (i, s) ∷ []
paired_push [] [] i s h = refl
paired_push [] (x ∷ ss) i s h = absurd (omega (arith, h))
paired_push (j ∷ is) [] i s h = absurd (omega (arith, h))
paired_push (j ∷ is) (x ∷ ss) i s h = ap (λ l. (j, x) ∷ l) (paired_push is ss i s (omega (arith, h)))

pub drop_at : {X : Type 0} (k : ℕ) (xs : List X) (d : X) → k < length xs → drop k xs ≡ get_or xs k d ∷ drop (suc k) xs
drop_at k [] d l = absurd (omega arith)
drop_at zero (x ∷ xs) d l = refl
drop_at (suc k) (x ∷ xs) d l = drop_at k xs d (omega arith)

drop_past : {X : Type 0} (k : ℕ) (xs : List X) → length xs ≤ k → drop k xs ≡ []
drop_past k [] l = drop_none k
  where
    drop_none : {X : Type 0} (k : ℕ) → drop {A = X} k [] ≡ []
    drop_none zero = refl
    drop_none (suc k) = refl
drop_past zero (x ∷ xs) l = absurd (omega arith)
drop_past (suc k) (x ∷ xs) l = drop_past k xs (omega arith)

get_same : (k : ℕ) (es : Entries) (d e : ℕ × Sample) → k < length es → get_or es k d ≡ get_or es k e
get_same k [] d e l = absurd (omega arith)
get_same zero (x ∷ es) d e l = refl
get_same (suc k) (x ∷ es) d e l = get_same k es d e (omega arith)

-- ---- the ids of a sorted block

-- ids that don't fall
abbrev AreRising : List ℕ → Type 0
AreRising ids = (i j d : ℕ) → i ≤ j → j < length ids → get_or ids i d ≤ get_or ids j d

below_rest : (i j k : ℕ) (s t : ℤ) → (nat_lt i j || (nat_eq i j && int_le s t)) ≡ true → i ≤ j
below_rest i j k s t h = grind (arith, ints, nat_tests)

first_least : (i : ℕ) (s : Sample) (is : List ℕ) (ss : List Sample) (k d : ℕ) → length is ≡ length ss → ascends_after (i, s) (paired is ss) ≡ true → k < length is → i ≤ get_or is k d
first_least i s [] ss k d h a l = absurd (omega arith)
first_least i s (j ∷ is) [] k d h a l = absurd (omega (arith, h))
first_least i s (j ∷ is) (t ∷ ss) zero d h a l = below_rest i j 0 s.time t.time (first_so (is_upto (i, s) (j, t)) (ascends_after (j, t) (paired is ss)) a)
first_least i s (j ∷ is) (t ∷ ss) (suc k) d h a l =
    let f = below_rest i j 0 s.time t.time (first_so (is_upto (i, s) (j, t)) (ascends_after (j, t) (paired is ss)) a) in
    let r = first_least j t is ss k d (omega (arith, h)) (second_so (is_upto (i, s) (j, t)) (ascends_after (j, t) (paired is ss)) a) (omega arith) in
    omega (arith, f, r)

ids_rise : (is : List ℕ) (ss : List Sample) (k l d : ℕ) → length is ≡ length ss → ascends (paired is ss) ≡ true → k ≤ l → l < length is → get_or is k d ≤ get_or is l d
ids_rise [] ss k l d h a m n = absurd (omega arith)
ids_rise (i ∷ is) [] k l d h a m n = absurd (omega (arith, h))
ids_rise (i ∷ is) (s ∷ ss) zero zero d h a m n = omega arith
ids_rise (i ∷ is) (s ∷ ss) zero (suc l) d h a m n = first_least i s is ss l d (omega (arith, h)) a (omega arith)
ids_rise (i ∷ is) (s ∷ ss) (suc k) zero d h a m n = absurd (omega arith)
ids_rise (i ∷ is) (s ∷ ss) (suc k) (suc l) d h a m n = ids_rise is ss k l d (omega (arith, h)) (ascends_behind (i, s) (paired is ss) a) (omega arith) (omega arith)

are_rising : (is : List ℕ) (ss : List Sample) → length is ≡ length ss → ascends (paired is ss) ≡ true → AreRising is
are_rising is ss h a i j d l m = ids_rise is ss i j d h a l m

-- ---- the samples of a series stand together

abbrev pub below : ℕ → List ℕ → ℕ
below id is = count_by (λ i. nat_lt i id) is

abbrev pub upto : ℕ → List ℕ → ℕ
upto id is = count_by (λ i. nat_le i id) is

below_upto : (id : ℕ) (is : List ℕ) → below id is ≤ upto id is
below_upto id [] = omega arith
below_upto id (i ∷ is) =
    let r = below_upto id is in
    counted (nat_lt i id) (nat_le i id) refl refl r where
      counted : (v w : Bool) → nat_lt i id ≡ v → nat_le i id ≡ w → below id is ≤ upto id is → cond v (suc (below id is)) 0 ≤ cond w (suc (upto id is)) 0
      counted true true p q r = omega (arith, r)
      counted true false p q r = absurd (grind (arith, nat_tests))
      counted false w p q r = omega arith

none_above : (id i : ℕ) (s : Sample) (is : List ℕ) (ss : List Sample) → length is ≡ length ss → ascends_after (i, s) (paired is ss) ≡ true → id < i → samples_in id (paired is ss) ≡ []
none_above id i s [] ss h a l = refl
none_above id i s (j ∷ is) [] h a l = refl
none_above id i s (j ∷ is) (t ∷ ss) h a l =
    let f = below_rest i j 0 s.time t.time (first_so (is_upto (i, s) (j, t)) (ascends_after (j, t) (paired is ss)) a) in
    let e : nat_eq id j ≡ false = grind (arith, nat_tests) in
    ap (λ v. cond v (t ∷ samples_in id (paired is ss)) (samples_in id (paired is ss))) e
    ∙ none_above id j t is ss (omega (arith, h)) (second_so (is_upto (i, s) (j, t)) (ascends_after (j, t) (paired is ss)) a) (omega (arith, f))

none_below : (id i : ℕ) (s : Sample) (is : List ℕ) (ss : List Sample) → length is ≡ length ss → ascends_after (i, s) (paired is ss) ≡ true → id ≤ i → below id is ≡ 0
none_below id i s [] ss h a l = refl
none_below id i s (j ∷ is) [] h a l = absurd (omega (arith, h))
none_below id i s (j ∷ is) (t ∷ ss) h a l =
    let f = below_rest i j 0 s.time t.time (first_so (is_upto (i, s) (j, t)) (ascends_after (j, t) (paired is ss)) a) in
    let e : nat_lt j id ≡ false = grind (arith, nat_tests) in
    ap (λ v. cond v (suc (below id is)) 0) e

part_by : (id i : ℕ) (s : Sample) (is : List ℕ) (ss : List Sample) (u v w : Bool) → nat_lt i id ≡ u → nat_le i id ≡ v → nat_eq id i ≡ w → length is ≡ length ss → ascends_after (i, s) (paired is ss) ≡ true →
    take (upto id is - below id is) (drop (below id is) ss) ≡ samples_in id (paired is ss) →
    take (cond v (suc (upto id is)) 0 - cond u (suc (below id is)) 0) (drop (cond u (suc (below id is)) 0) (s ∷ ss)) ≡ cond w (s ∷ samples_in id (paired is ss)) (samples_in id (paired is ss))
part_by id i s is ss true true false p q r h a e = let n : suc (upto id is) - suc (below id is) ≡ upto id is - below id is = omega arith in ap (λ m. take m (drop (below id is) ss)) n ∙ e
part_by id i s is ss true true true p q r h a e = absurd (grind (arith, nat_tests))
part_by id i s is ss true false w p q r h a e = absurd (grind (arith, nat_tests))
part_by id i s is ss false true true p q r h a e =
    let l : id ≡ i = grind (arith, nat_tests) in
    let b : below id is ≡ 0 = none_below id i s is ss h a (omega (arith, l)) in
    let n : suc (upto id is) - 0 ≡ suc (upto id is) = omega arith in
    let m : upto id is - below id is ≡ upto id is = omega (arith, b) in
    ap (λ k. take k (s ∷ ss)) n ∙ ap (λ l. s ∷ l) (ap (λ k. take k ss) (sym m) ∙ ap (λ k. take (upto id is - below id is) (drop k ss)) (sym b) ∙ e)
part_by id i s is ss false true false p q r h a e = absurd (grind (arith, nat_tests))
part_by id i s is ss false false true p q r h a e = absurd (grind (arith, nat_tests))
part_by id i s is ss false false false p q r h a e = let l : id < i = grind (arith, nat_tests) in sym (none_above id i s is ss h a l)

part_is : (id : ℕ) (is : List ℕ) (ss : List Sample) → length is ≡ length ss → ascends (paired is ss) ≡ true → take (upto id is - below id is) (drop (below id is) ss) ≡ samples_in id (paired is ss)
part_is id [] [] h a = refl
part_is id [] (s ∷ ss) h a = absurd (omega (arith, h))
part_is id (i ∷ is) [] h a = absurd (omega (arith, h))
part_is id (i ∷ is) (s ∷ ss) h a =
    part_by id i s is ss (nat_lt i id) (nat_le i id) (nat_eq id i) refl refl refl (omega (arith, h)) a (part_is id is ss (omega (arith, h)) (ascends_behind (i, s) (paired is ss) a))

pub part_rest : (m n : ℕ) (ss : List Sample) → take m (take (length ss - n) (drop n ss)) ≡ take m (drop n ss)
part_rest m n ss = ap (take m) (ap (λ k. take k (drop n ss)) (sym (length-drop n ss)) ∙ take-length (drop n ss))

-- ---- the same in the forms that the code has

module _ (rs : List (ℕ × ℕ)) (ss : List Sample) (h : are_runs rs (length ss) ≡ true) where
  ids_length : length (spread rs (length ss)) ≡ length ss
  ids_length = spread_length rs (length ss) h

  laid_length : length (laid rs ss) ≡ length ss
  laid_length = paired_length (spread rs (length ss)) ss ids_length

  pub part_runs : (id m n : ℕ) → ascends (laid rs ss) ≡ true → m ≡ run_end (drop (count_by (λ r. nat_lt r.0 id) rs) rs) (length ss) → n ≡ run_end (drop (count_by (λ r. nat_le r.0 id) rs) rs) (length ss) → take (n - m) (drop m ss) ≡ samples_in id (laid rs ss)
  part_runs id m n a p q =
      let ids = spread rs (length ss) in
      ap (λ k. take (n - k) (drop k ss)) (p ∙ sym (places_are (λ i. nat_lt i id) rs (length ss) h))
      ∙ ap (λ k. take (k - below id ids) (drop (below id ids) ss)) (q ∙ sym (places_are (λ i. nat_le i id) rs (length ss) h))
      ∙ part_is id ids ss ids_length a

  pub places : (id m n : ℕ) → m ≡ run_end (drop (count_by (λ r. nat_lt r.0 id) rs) rs) (length ss) → n ≡ run_end (drop (count_by (λ r. nat_le r.0 id) rs) rs) (length ss) → m ≤ n
  places id m n p q =
      let b = below_upto id (spread rs (length ss)) in
      let f = places_are (λ i. nat_lt i id) rs (length ss) h in
      let g = places_are (λ i. nat_le i id) rs (length ss) h in
      omega (arith, b, f, g, p, q)

  pub rows_there : (now : Entries) → laid rs ss ≡ now → length ss ≡ length now
  rows_there now v = sym laid_length ∙ ap length v

  pub entry_there : (now : Entries) (k i : ℕ) (s : Sample) (e : ℕ × Sample) (d : ℕ × ℕ) → laid rs ss ≡ now → k < length now → i ≡ (get_or rs (count_by (λ r. nat_le r.1 k) rs - 1) d).0 → s ≡ get_or ss k s → ◌≡◌ {A = ℕ × Sample} (i, s) (get_or now k e)
  entry_there now k i s e d v l p q =
      let r = rows_there now v in
      let m : k < length ss = omega (arith, r, l) in
      (λ n. ((p ∙ sym (id_at k rs (length ss) i d h m)) n, q n)) ∙ sym (paired_at (spread rs (length ss)) ss k i s e ids_length m) ∙ ap (λ l. get_or l k e) v

rising_last : (xs : List ℕ) (a b : ℕ) → AreRising (xs ++ a ∷ b ∷ []) → a ≤ b
rising_last [] a b r = r 0 1 0 (omega arith) (omega arith)
rising_last (x ∷ xs) a b r = rising_last xs a b (λ i j d l m. r (suc i) (suc j) d (omega arith) (omega arith))

more_length : (ss : List Sample) (s : Sample) → length (ss ++ s ∷ []) ≡ suc (length ss)
more_length ss s = omega (arith, length-append ss (s ∷ []))

-- ---- a further entry
module _ (rs : List (ℕ × ℕ)) (ss : List Sample) (id : ℕ) (s : Sample) (h : are_runs rs (length ss) ≡ true) where
  ids : List ℕ
  ids = spread rs (length ss)

  ids_pushed : paired (spread rs (length ss) ++ id ∷ []) (ss ++ s ∷ []) ≡ laid rs ss ++ (id, s) ∷ []
  ids_pushed = paired_push (spread rs (length ss)) ss id s (ids_length rs ss h)

  ids_more : length (spread rs (length ss) ++ id ∷ []) ≡ length (ss ++ s ∷ [])
  ids_more = omega (arith, length-append (spread rs (length ss)) (id ∷ []), length-append ss (s ∷ []), ids_length rs ss h)

  pub laid_with : (new : List (ℕ × ℕ)) (ts : List Sample) → new ≡ run_noted rs (id, length ss) → ts ≡ ss ++ s ∷ [] → laid new ts ≡ laid rs ss ++ (id, s) ∷ []
  laid_with new ts p q =
      (λ n. laid (p n) (q n))
      ∙ ap (λ k. paired (spread (run_noted rs (id, length ss)) k) (ss ++ s ∷ [])) (more_length ss s)
      ∙ ap (λ is. paired is (ss ++ s ∷ [])) (noted_spread rs (length ss) id h)
      ∙ ids_pushed

  last_upto : ascends (laid rs ss ++ (id, s) ∷ []) ≡ true → (r : ℕ × ℕ) (qs : List (ℕ × ℕ)) → rs ≡ r ∷ qs → (last_run r qs).0 ≤ id
  last_upto a r qs e =
      let rising : AreRising (spread rs (length ss) ++ id ∷ []) = are_rising (spread rs (length ss) ++ id ∷ []) (ss ++ s ∷ []) ids_more (ap ascends ids_pushed ∙ a) in
      let l : (last_run r qs).1 < length ss = runs_last r qs (length ss) (ap (λ x. are_runs x (length ss)) (sym e) ∙ h) in
      let is : spread rs (length ss) ++ id ∷ [] ≡ spread (r ∷ qs) (length ss - 1) ++ (last_run r qs).0 ∷ id ∷ [] =
      ap (λ x. spread x (length ss) ++ id ∷ []) e
      ∙ ap (λ x. x ++ id ∷ []) (last_spread r qs (length ss) l)
      ∙ append_assoc (spread (r ∷ qs) (length ss - 1)) ((last_run r qs).0 ∷ []) (id ∷ []) in
      rising_last (spread (r ∷ qs) (length ss - 1)) (last_run r qs).0 id (subst AreRising is rising)

  pub runs_with : (new : List (ℕ × ℕ)) (ts : List Sample) → new ≡ run_noted rs (id, length ss) → ts ≡ ss ++ s ∷ [] → ascends (laid rs ss ++ (id, s) ∷ []) ≡ true → are_runs new (length ts) ≡ true
  runs_with new ts p q a =
      (λ n. are_runs (p n) (length (q n))) ∙ ap (are_runs (run_noted rs (id, length ss))) (more_length ss s) ∙ noted_runs rs (length ss) id h (last_upto a)

-- ---- entries one by one

front_after : (c : ℕ × Sample) (xs ys : Entries) → ascends_after c (xs ++ ys) ≡ true → ascends_after c xs ≡ true
front_after c [] ys h = refl
front_after c (x ∷ xs) ys h = both (is_upto c x) (ascends_after x xs) (first_so (is_upto c x) (ascends_after x (xs ++ ys)) h) (front_after x xs ys (second_so (is_upto c x) (ascends_after x (xs ++ ys)) h))

front_ascends : (xs ys : Entries) → ascends (xs ++ ys) ≡ true → ascends xs ≡ true
front_ascends [] ys h = refl
front_ascends (x ∷ xs) ys h = front_after x xs ys h

plus_one : (k : ℕ) → k + 1 ≡ suc k
plus_one k = omega arith

append_none : (es : Entries) → es ++ [] ≡ es
append_none [] = refl
append_none (e ∷ es) = ap (λ l. e ∷ l) (append_none es)

module _ (out whole rest behind : Entries) (e : ℕ × Sample) (q : rest ≡ e ∷ behind) (w : out ++ rest ≡ whole) where
  pub goes_on : (new : Entries) → new ≡ out ++ e ∷ [] → new ++ behind ≡ whole
  goes_on new p = ap (λ l. l ++ behind) p ∙ append_assoc out (e ∷ []) behind ∙ ap (λ r. out ++ r) (sym q) ∙ w

  pub fits : ascends whole ≡ true → ascends (out ++ e ∷ []) ≡ true
  fits a = front_ascends (out ++ e ∷ []) behind (ap ascends (goes_on (out ++ e ∷ []) refl) ∙ a)

pub sorted_next : (ks : List (ℕ × (ℤ × ℤ))) (k : ℕ) (e : ℕ × (ℤ × ℤ)) (t : ℤ) → k < length ks → e ≡ get_or ks k e → t ≡ e.1.0 → map entry_of (drop k ks) ≡ (e.0, record { time = t; value = e.1.1 }) ∷ map entry_of (drop (k + 1) ks)
sorted_next ks k e t l q h =
    ap (map entry_of) (drop_at k ks e l)
    ∙ ap (λ x. entry_of x ∷ map entry_of (drop (suc k) ks)) (sym q)
    ∙ ap (λ n. entry_of e ∷ map entry_of (drop n ks)) (sym (plus_one k))
    ∙ ap (λ u. (e.0, record { time = u; value = e.1.1 }) ∷ map entry_of (drop (k + 1) ks)) (sym h)

-- ---- a step of a merge: the next entry of the first block, or of the second
module _ (one other : Entries) (k l : ℕ) (e : ℕ × Sample) where
  first_step : k < length one → e ≡ get_or one k e → merged (e ∷ drop (suc k) one) (drop l other) ≡ e ∷ merged (drop (suc k) one) (drop l other) → merged (drop k one) (drop l other) ≡ e ∷ merged (drop (suc k) one) (drop l other)
  first_step m g f = ap (λ x. merged x (drop l other)) (drop_at k one e m) ∙ ap (λ x. merged (x ∷ drop (suc k) one) (drop l other)) (sym g) ∙ f

  second_step : l < length other → e ≡ get_or other l e → merged (drop k one) (e ∷ drop (suc l) other) ≡ e ∷ merged (drop k one) (drop (suc l) other) → merged (drop k one) (drop l other) ≡ e ∷ merged (drop k one) (drop (suc l) other)
  second_step m g f = ap (merged (drop k one)) (drop_at l other e m) ∙ ap (λ x. merged (drop k one) (x ∷ drop (suc l) other)) (sym g) ∙ f

  module _ (within : k ≤ length one) (inside : l ≤ length other) (some : k + l < length one + length other) where
    first_by : (u v w : Bool) → nat_le (length other) l ≡ u → nat_lt k (length one) ≡ v → is_upto (get_or one k no_entry) (get_or other l no_entry) ≡ w → (u || (v && w)) ≡ true →
        e ≡ get_or one k e → merged (drop k one) (drop l other) ≡ e ∷ merged (drop (suc k) one) (drop l other)
    first_by true v w a b c z g =
        let n : length other ≤ l = grind (arith, nat_tests) in
        first_step (omega (arith, n)) g (merged_first e (drop (suc k) one) (drop l other) (drop_past l other n))
    first_by false true true a b c z g =
        let m : k < length one = grind (arith, nat_tests) in
        let n : l < length other = grind (arith, nat_tests) in
        let o : get_or one k no_entry ≡ e = get_same k one no_entry e m ∙ sym g in
        first_step m g (ap (merged (e ∷ drop (suc k) one)) (drop_at l other no_entry n)
        ∙ merged_lesser e (get_or other l no_entry) (drop (suc k) one) (drop (suc l) other) (ap (λ x. is_upto x (get_or other l no_entry)) (sym o) ∙ c)
        ∙ ap (λ x. e ∷ merged (drop (suc k) one) x) (sym (drop_at l other no_entry n)))
    first_by false true false a b c z g = cc
    first_by false false w a b c z g = cc

    pub first_next : leads one k other l ≡ true → e ≡ get_or one k e → merged (drop k one) (drop l other) ≡ e ∷ merged (drop (k + 1) one) (drop l other)
    first_next z g = first_by (nat_le (length other) l) (nat_lt k (length one)) (is_upto (get_or one k no_entry) (get_or other l no_entry)) refl refl refl z g ∙ ap (λ n. e ∷ merged (drop n one) (drop l other)) (sym (plus_one k))

    second_by : (u v w : Bool) → nat_le (length other) l ≡ u → nat_lt k (length one) ≡ v → is_upto (get_or one k no_entry) (get_or other l no_entry) ≡ w → (u || (v && w)) ≡ false →
        e ≡ get_or other l e → merged (drop k one) (drop l other) ≡ e ∷ merged (drop k one) (drop (suc l) other)
    second_by true v w a b c z g = cc
    second_by false true true a b c z g = cc
    second_by false true false a b c z g =
        let m : k < length one = grind (arith, nat_tests) in
        let n : l < length other = grind (arith, nat_tests) in
        let o : get_or other l no_entry ≡ e = get_same l other no_entry e n ∙ sym g in
        second_step n g (ap (λ x. merged x (e ∷ drop (suc l) other)) (drop_at k one no_entry m)
        ∙ merged_greater (get_or one k no_entry) e (drop (suc k) one) (drop (suc l) other) (ap (is_upto (get_or one k no_entry)) (sym o) ∙ c)
        ∙ ap (λ x. e ∷ merged x (drop (suc l) other)) (sym (drop_at k one no_entry m)))
    second_by false false w a b c z g =
        let m : length one ≤ k = grind (arith, nat_tests) in
        let n : l < length other = grind (arith, nat_tests) in
        let z : drop k one ≡ [] = drop_past k one m in
        second_step n g (ap (λ x. merged x (e ∷ drop (suc l) other)) z ∙ ap (λ x. e ∷ merged x (drop (suc l) other)) (sym z))

    pub second_next : leads one k other l ≡ false → e ≡ get_or other l e → merged (drop k one) (drop l other) ≡ e ∷ merged (drop k one) (drop (l + 1) other)
    second_next z g = second_by (nat_le (length other) l) (nat_lt k (length one)) (is_upto (get_or one k no_entry) (get_or other l no_entry)) refl refl refl z g ∙ ap (λ n. e ∷ merged (drop k one) (drop n other)) (sym (plus_one l))

-- ---- which list has a next entry
pub first_has : (one other : Entries) (k l : ℕ) → l ≤ length other → k + l < length one + length other → leads one k other l ≡ true → k < length one
first_has one other k l m n z = has_by (nat_le (length other) l) (nat_lt k (length one)) (is_upto (get_or one k no_entry) (get_or other l no_entry)) refl refl z where
  has_by : (u v w : Bool) → nat_le (length other) l ≡ u → nat_lt k (length one) ≡ v → (u || (v && w)) ≡ true → k < length one
  has_by true v w a b z = let p : length other ≤ l = grind (arith, nat_tests) in omega (arith, p)
  has_by false true w a b z = grind (arith, nat_tests)
  has_by false false w a b z = cc

pub second_has : (one other : Entries) (k l : ℕ) → leads one k other l ≡ false → l < length other
second_has one other k l z = has_by (nat_le (length other) l) (nat_lt k (length one) && is_upto (get_or one k no_entry) (get_or other l no_entry)) refl z where
  has_by : (u v : Bool) → nat_le (length other) l ≡ u → (u || v) ≡ false → l < length other
  has_by true v a z = cc
  has_by false v a z = grind (arith, nat_tests)

-- ---- entries that stay
module _ (p : ℕ × Sample → Bool) (es : Entries) (k : ℕ) (e : ℕ × Sample) (l : k < length es) (g : e ≡ get_or es k e) where
  filter_next : filter p (drop k es) ≡ cond (p e) (e ∷ filter p (drop (suc k) es)) (filter p (drop (suc k) es))
  filter_next = ap (filter p) (drop_at k es e l ∙ ap (λ x. x ∷ drop (suc k) es) (sym g))

  pub stays : p e ≡ true → filter p (drop k es) ≡ e ∷ filter p (drop (k + 1) es)
  stays h = filter_next ∙ ap (λ v. cond v (e ∷ filter p (drop (suc k) es)) (filter p (drop (suc k) es))) h ∙ ap (λ n. e ∷ filter p (drop n es)) (sym (plus_one k))

  pub goes_out : (whole front : Entries) → p e ≡ false → front ++ filter p (drop k es) ≡ whole → front ++ filter p (drop (k + 1) es) ≡ whole
  goes_out whole front h w =
      ap (λ n. front ++ filter p (drop n es)) (plus_one k)
      ∙ ap (λ x. front ++ x) (sym (filter_next ∙ ap (λ v. cond v (e ∷ filter p (drop (suc k) es)) (filter p (drop (suc k) es))) h)) ∙ w

pub filter_done : (p : ℕ × Sample → Bool) (out es : Entries) (k : ℕ) → length es ≤ k → out ++ filter p (drop k es) ≡ filter p es → out ≡ filter p es
filter_done p out es k l e = sym (ap (λ x. out ++ filter p x) (drop_past k es l) ∙ append_none out) ∙ e
