-- Where a search by halves comes out in the samples of a series.
use Rattle.std.proofs.Common.{◌≡◌, ℕ, zero, suc, ◌-◌, ◌<◌, ◌≤◌, ℤ, pos, ◌-ℤ◌, Bool, true, false, cond, ◌&&◌, ◌||◌, not, List, [], ◌∷◌, length, take, drop, get_or, min, refl, sym, ap, ◌∙◌, subst, arith, Some, None, Option}
use Rattle.std.specs.Prelude.{int_le, int_lt, is_some}
use Rattle.std.specs.List.{filter, list_all, insert, slice_get, AllWithin}
use Rattle.std.specs.List.Sorted.{IsPartitionedBy}
use Rattle.std.specs.Ordering.{int_eq}
use Rattle.std.specs.Cmp.{first_so, second_so}
use Rattle.std.proofs.lemmas.Int.{ints}
use Rattle.std.proofs.lemmas.List.{length-drop}
use Rattle.std.proofs.Math.Seq.{take-length}
use Rattle.pf_base.specs.declared.plain.Sample.{Sample}
use Rattle.pf_block.specs.Samples.{until, rises, rises_after, is_within, window_of, last_of, last_onto, value_at, put_sample, is_timed, is_series, is_outside}

pub both : (s t : Bool) → s ≡ true → t ≡ true → (s && t) ≡ true
both s t p q = λ i. p i && q i

-- ---- tests of two times

lt_trans : (a b c : ℤ) → int_lt a b ≡ true → int_lt b c ≡ true → int_lt a c ≡ true
lt_trans a b c p q = grind (arith, ints)

lt_le : (a b c : ℤ) → int_lt a b ≡ true → int_le b c ≡ true → int_le a c ≡ true
lt_le a b c p q = grind (arith, ints)

over : (a b c : ℤ) → int_le a b ≡ false → int_lt a c ≡ true → int_le c b ≡ false
over a b c p q = grind (arith, ints)

flip : (a b : ℤ) (v : Bool) → int_le a b ≡ v → int_lt b a ≡ not v
flip a b true p = grind (arith, ints)
flip a b false p = grind (arith, ints)

-- ---- lists in order of time

pub above : (a : ℤ) (xs : List Sample) (j : ℕ) (d : Sample) → rises_after a xs ≡ true → j < length xs → int_lt a (get_or xs j d).time ≡ true
above a [] j d r l = absurd (omega arith)
above a (x ∷ xs) zero d r l = first_so (int_lt a x.time) (rises_after x.time xs) r
above a (x ∷ xs) (suc j) d r l =
    lt_trans a x.time (get_or xs j d).time (first_so (int_lt a x.time) (rises_after x.time xs) r) (above x.time xs j d (second_so (int_lt a x.time) (rises_after x.time xs) r) (omega arith))

pub rises_behind : (a : ℤ) (xs : List Sample) → rises_after a xs ≡ true → rises xs ≡ true
rises_behind a [] r = refl
rises_behind a (x ∷ xs) r = second_so (int_lt a x.time) (rises_after x.time xs) r

pub rises_lower : (a b : ℤ) (xs : List Sample) → int_lt a b ≡ true → rises_after b xs ≡ true → rises_after a xs ≡ true
rises_lower a b [] l r = refl
rises_lower a b (x ∷ xs) l r =
    both (int_lt a x.time) (rises_after x.time xs) (lt_trans a b x.time l (first_so (int_lt b x.time) (rises_after x.time xs) r)) (second_so (int_lt b x.time) (rises_after x.time xs) r)

module _ (p : Sample → Bool) where
  rises_after_filter : (a : ℤ) (xs : List Sample) → rises_after a xs ≡ true → rises_after a (filter p xs) ≡ true
  rises_after_filter a [] r = refl
  rises_after_filter a (x ∷ xs) r =
      let l = first_so (int_lt a x.time) (rises_after x.time xs) r in
      let t = rises_after_filter x.time xs (second_so (int_lt a x.time) (rises_after x.time xs) r) in
      elim (p x) as (λ b. rises_after a (cond b (x ∷ filter p xs) (filter p xs)) ≡ true) [
        | true ↦ both (int_lt a x.time) (rises_after x.time (filter p xs)) l t
        | false ↦ rises_lower a x.time (filter p xs) l t
      ]

  pub rises_filter : (xs : List Sample) → rises xs ≡ true → rises (filter p xs) ≡ true
  rises_filter [] r = refl
  rises_filter (x ∷ xs) r =
      let t = rises_after_filter x.time xs r in
      elim (p x) as (λ b. rises (cond b (x ∷ filter p xs) (filter p xs)) ≡ true) [ true ↦ t | false ↦ rises_behind x.time (filter p xs) t ]

-- ---- what `partition_point` asks, and what it gives

partitioned : (t : ℤ) (xs : List Sample) → rises xs ≡ true → (i j : ℕ) (d : Sample) → i ≤ j → j < length xs → int_le (get_or xs j d).time t ≡ true → int_le (get_or xs i d).time t ≡ true
partitioned t [] r i j d l m h = absurd (omega arith)
partitioned t (x ∷ xs) r zero zero d l m h = h
partitioned t (x ∷ xs) r zero (suc j) d l m h = lt_le x.time (get_or xs j d).time t (above x.time xs j d r (omega arith)) h
partitioned t (x ∷ xs) r (suc i) zero d l m h = absurd (omega arith)
partitioned t (x ∷ xs) r (suc i) (suc j) d l m h = partitioned t xs (rises_behind x.time xs r) i j d (omega arith) (omega arith) h

pub is_partitioned : (t : ℤ) (xs : List Sample) → rises xs ≡ true → IsPartitionedBy (λ s. int_le s.time t) xs
is_partitioned t xs r i j d l m h = partitioned t xs r i j d l m h

pub until_is : (t : ℤ) (xs : List Sample) (i : ℕ) → i ≤ length xs → AllWithin (λ s. int_le s.time t ≡ true) xs 0 i → AllWithin (λ s. int_le s.time t ≡ false) xs i (length xs) → i ≡ until t xs
until_is t [] i l p q = omega arith
until_is t (x ∷ xs) zero l p q = let e : int_le x.time t ≡ false = q 0 x (omega arith) (omega arith) in sym (ap (λ b. cond b (suc (until t xs)) 0) e)
until_is t (x ∷ xs) (suc i) l p q =
    let e : int_le x.time t ≡ true = p 0 x (omega arith) (omega arith) in
    let r : i ≡ until t xs = until_is t xs i (omega arith) (λ k d a b. p (suc k) d (omega arith) (omega arith)) (λ k d a b. q (suc k) d (omega arith) (omega arith)) in
    ap suc r ∙ sym (ap (λ b. cond b (suc (until t xs)) 0) e)

-- ---- the front and the back of a list

none_below : (t a : ℤ) (xs : List Sample) → int_le a t ≡ false → rises_after a xs ≡ true → filter (λ s. int_le s.time t) xs ≡ []
none_below t a [] h r = refl
none_below t a (x ∷ xs) h r =
    let e = over a t x.time h (first_so (int_lt a x.time) (rises_after x.time xs) r) in
    ap (λ b. cond b (x ∷ filter (λ s. int_le s.time t) xs) (filter (λ s. int_le s.time t) xs)) e
    ∙ none_below t x.time xs e (second_so (int_lt a x.time) (rises_after x.time xs) r)

front_by : (t : ℤ) (x : Sample) (xs : List Sample) (v : Bool) → int_le x.time t ≡ v → rises_after x.time xs ≡ true → take (until t xs) xs ≡ filter (λ s. int_le s.time t) xs →
    take (cond v (suc (until t xs)) 0) (x ∷ xs) ≡ cond v (x ∷ filter (λ s. int_le s.time t) xs) (filter (λ s. int_le s.time t) xs)
front_by t x xs true e r h = ap (λ l. x ∷ l) h
front_by t x xs false e r h = sym (none_below t x.time xs e r)

pub front : (t : ℤ) (xs : List Sample) → rises xs ≡ true → take (until t xs) xs ≡ filter (λ s. int_le s.time t) xs
front t [] r = refl
front t (x ∷ xs) r = front_by t x xs (int_le x.time t) refl r (front t xs (rises_behind x.time xs r))

all_above : (t a : ℤ) (xs : List Sample) → int_lt t a ≡ true → rises_after a xs ≡ true → filter (λ s. int_lt t s.time) xs ≡ xs
all_above t a [] h r = refl
all_above t a (x ∷ xs) h r =
    let e = lt_trans t a x.time h (first_so (int_lt a x.time) (rises_after x.time xs) r) in
    ap (λ b. cond b (x ∷ filter (λ s. int_lt t s.time) xs) (filter (λ s. int_lt t s.time) xs)) e
    ∙ ap (λ l. x ∷ l) (all_above t x.time xs e (second_so (int_lt a x.time) (rises_after x.time xs) r))

back_by : (t : ℤ) (x : Sample) (xs : List Sample) (v : Bool) → int_le x.time t ≡ v → rises_after x.time xs ≡ true → drop (until t xs) xs ≡ filter (λ s. int_lt t s.time) xs →
    drop (cond v (suc (until t xs)) 0) (x ∷ xs) ≡ cond (not v) (x ∷ filter (λ s. int_lt t s.time) xs) (filter (λ s. int_lt t s.time) xs)
back_by t x xs true e r h = h
back_by t x xs false e r h = ap (λ l. x ∷ l) (sym (all_above t x.time xs (flip x.time t false e) r))

pub back : (t : ℤ) (xs : List Sample) → rises xs ≡ true → drop (until t xs) xs ≡ filter (λ s. int_lt t s.time) xs
back t [] r = refl
back t (x ∷ xs) r =
    back_by t x xs (int_le x.time t) refl r (back t xs (rises_behind x.time xs r))
    ∙ sym (ap (λ b. cond b (x ∷ filter (λ s. int_lt t s.time) xs) (filter (λ s. int_lt t s.time) xs)) (flip x.time t (int_le x.time t) refl))

filters_by : (a u : ℤ) (x : Sample) (xs : List Sample) (v w : Bool) →
    filter (λ s. int_lt a s.time) (filter (λ s. int_le s.time u) xs) ≡ filter (is_within a u) xs → int_lt a x.time ≡ v →
    filter (λ s. int_lt a s.time) (cond w (x ∷ filter (λ s. int_le s.time u) xs) (filter (λ s. int_le s.time u) xs)) ≡ cond (v && w) (x ∷ filter (is_within a u) xs) (filter (is_within a u) xs)
filters_by a u x xs true true h e = ap (λ b. cond b (x ∷ filter (λ s. int_lt a s.time) (filter (λ s. int_le s.time u) xs)) (filter (λ s. int_lt a s.time) (filter (λ s. int_le s.time u) xs))) e ∙ ap (λ l. x ∷ l) h
filters_by a u x xs false true h e = ap (λ b. cond b (x ∷ filter (λ s. int_lt a s.time) (filter (λ s. int_le s.time u) xs)) (filter (λ s. int_lt a s.time) (filter (λ s. int_le s.time u) xs))) e ∙ h
filters_by a u x xs true false h e = h
filters_by a u x xs false false h e = h

pub filters : (a u : ℤ) (xs : List Sample) → filter (λ s. int_lt a s.time) (filter (λ s. int_le s.time u) xs) ≡ window_of xs a u
filters a u [] = refl
filters a u (x ∷ xs) = filters_by a u x xs (int_lt a x.time) (int_le x.time u) (filters a u xs) refl

-- a window, by two searches
pub front_rises : (u : ℤ) (xs : List Sample) → rises xs ≡ true → rises (take (until u xs) xs) ≡ true
front_rises u xs r = subst (λ l. rises l ≡ true) (sym (front u xs r)) (rises_filter (λ s. int_le s.time u) xs r)

pub window_is : (a u : ℤ) (xs ys : List Sample) → rises xs ≡ true → ys ≡ take (until u xs) xs → drop (until a ys) ys ≡ window_of xs a u
window_is a u xs ys r e =
    let f : ys ≡ filter (λ s. int_le s.time u) xs = e ∙ front u xs r in
    let h : rises ys ≡ true = subst (λ l. rises l ≡ true) (sym e) (front_rises u xs r) in
    back a ys h ∙ ap (filter (λ s. int_lt a s.time)) f ∙ filters a u xs

pub window_rises : (a u : ℤ) (xs : List Sample) → rises xs ≡ true → rises (window_of xs a u) ≡ true
window_rises a u xs r = rises_filter (is_within a u) xs r

-- ---- the last of a list

last_after : (s : Option Sample) (x : Sample) (xs : List Sample) → last_onto s (x ∷ xs) ≡ slice_get (x ∷ xs) (length xs)
last_after s x [] = refl
last_after s x (y ∷ ys) = last_after (Some x) y ys

pub last_is : (xs : List Sample) → last_of xs ≡ slice_get xs (length xs - 1)
last_is [] = refl
last_is (x ∷ xs) = let e : length xs ≡ length (x ∷ xs) - 1 = omega arith in last_after None x xs ∙ ap (slice_get (x ∷ xs)) e

-- ---- the value at a time

abbrev pub valued : Option Sample → Option ℤ
valued None = None
valued (Some s) = Some s.value

none_within : (a u b : ℤ) (xs : List Sample) → int_lt b u ≡ false → rises_after b xs ≡ true → window_of xs a u ≡ []
none_within a u b [] h r = refl
none_within a u b (x ∷ xs) h r =
    let l = first_so (int_lt b x.time) (rises_after x.time xs) r in
    let e : (int_lt a x.time && int_le x.time u) ≡ false = elim (int_lt a x.time) as (λ v. (v && int_le x.time u) ≡ false) [ true ↦ grind (arith, ints) | false ↦ refl ] in
    let g : int_lt x.time u ≡ false = grind (arith, ints) in
    ap (λ b. cond b (x ∷ window_of xs a u) (window_of xs a u)) e ∙ none_within a u x.time xs g (second_so (int_lt b x.time) (rises_after x.time xs) r)

at_by : (t : ℤ) (x : Sample) (xs : List Sample) (v : Bool) → int_eq x.time t ≡ v → rises_after x.time xs ≡ true → value_at xs t ≡ valued (last_of (window_of xs (t -ℤ pos 1) t)) →
    cond v (Some x.value) (value_at xs t) ≡ valued (last_of (cond v (x ∷ window_of xs (t -ℤ pos 1) t) (window_of xs (t -ℤ pos 1) t)))
at_by t x xs true e r h =
    let g : int_lt x.time t ≡ false = grind (arith, ints) in
    ap (λ l. valued (last_onto (Some x) l)) (sym (none_within (t -ℤ pos 1) t x.time xs g r))
at_by t x xs false e r h = h

same_test : (t z : ℤ) → int_eq z t ≡ (int_lt (t -ℤ pos 1) z && int_le z t)
same_test t z = grind (arith, ints)

pub at_is : (t : ℤ) (xs : List Sample) → rises xs ≡ true → value_at xs t ≡ valued (last_of (window_of xs (t -ℤ pos 1) t))
at_is t [] r = refl
at_is t (x ∷ xs) r =
    at_by t x xs (int_eq x.time t) refl r (at_is t xs (rises_behind x.time xs r))
    ∙ ap (λ b. valued (last_of (cond b (x ∷ window_of xs (t -ℤ pos 1) t) (window_of xs (t -ℤ pos 1) t)))) (same_test t x.time)

-- no sample is later than the latest time
pub none_at : (t : ℤ) (xs : List Sample) → int_lt (pos 4398046511103) t ≡ true → list_all is_timed xs ≡ true → value_at xs t ≡ None
none_at t [] l h = refl
none_at t (x ∷ xs) l h =
    let w = second_so (int_le (pos 0) x.time) (int_le x.time (pos 4398046511103)) (first_so (is_timed x) (list_all is_timed xs) h) in
    let e : int_eq x.time t ≡ false = grind (arith, ints) in
    ap (λ b. cond b (Some x.value) (value_at xs t)) e ∙ none_at t xs l (second_so (is_timed x) (list_all is_timed xs) h)

-- ---- a sample put in

apart_le : (a b : ℤ) → int_eq a b ≡ false → int_le a b ≡ int_lt a b
apart_le a b h = grind (arith, ints)

put_by : (s x : Sample) (xs : List Sample) (v w : Bool) → int_le x.time s.time ≡ int_lt x.time s.time → int_lt x.time s.time ≡ v → (put_sample s xs ≡ insert xs (until s.time xs) s) →
    cond v (x ∷ put_sample s xs) (s ∷ x ∷ xs) ≡ insert (x ∷ xs) (cond v (suc (until s.time xs)) 0) s
put_by s x xs true w e d h = ap (λ l. x ∷ l) h
put_by s x xs false w e d h = refl

pub held_cons : (v : Bool) (z : ℤ) (o : Option ℤ) → is_some (cond v (Some z) o) ≡ false → (v ≡ false) × (is_some o ≡ false)
held_cons true z o h = cc
held_cons false z o h = (refl, h)

pub put_is : (s : Sample) (xs : List Sample) → is_some (value_at xs s.time) ≡ false → put_sample s xs ≡ insert xs (until s.time xs) s
put_is s [] h = refl
put_is s (x ∷ xs) h =
    let c = held_cons (int_eq x.time s.time) x.value (value_at xs s.time) h in
    let e = apart_le x.time s.time c.0 in
    put_by s x xs (int_lt x.time s.time) true e refl (put_is s xs c.1)
    ∙ ap (λ b. insert (x ∷ xs) (cond b (suc (until s.time xs)) 0) s) (sym e)

-- ---- samples cut out

outside_same : (from to : ℕ) (z : ℤ) → int_le (pos 0) z ≡ true → int_le z (pos 4398046511103) ≡ true → (f t : ℤ) → f ≡ pos (min from 4398046511104) → t ≡ pos (min to 4398046511103) →
    (int_lt z f || int_lt t z) ≡ (int_lt z (pos from) || int_lt (pos to) z)
outside_same from to z l h f t p q = grind (arith, ints)

pub cut_same : (from to : ℕ) (f t : ℤ) → f ≡ pos (min from 4398046511104) → t ≡ pos (min to 4398046511103) → (xs : List Sample) → list_all is_timed xs ≡ true →
    filter (is_outside f t) xs ≡ filter (is_outside (pos from) (pos to)) xs
cut_same from to f t p q [] h = refl
cut_same from to f t p q (x ∷ xs) h =
    let w = first_so (is_timed x) (list_all is_timed xs) h in
    let e = outside_same from to x.time (first_so (int_le (pos 0) x.time) (int_le x.time (pos 4398046511103)) w) (second_so (int_le (pos 0) x.time) (int_le x.time (pos 4398046511103)) w) f t p q in
    let g = cut_same from to f t p q xs (second_so (is_timed x) (list_all is_timed xs) h) in
    λ i. cond (e i) (x ∷ g i) (g i)

pub series_rises : (xs : List Sample) → is_series xs ≡ true → rises xs ≡ true
series_rises xs h = first_so (rises xs) (list_all is_timed xs) h

pub series_timed : (xs : List Sample) → is_series xs ≡ true → list_all is_timed xs ≡ true
series_timed xs h = second_so (rises xs) (list_all is_timed xs) h

-- ---- the same in the forms that the code has

pub front_rises_at : (u : ℤ) (xs : List Sample) (n : ℕ) → rises xs ≡ true → n ≡ until u xs → rises (take n xs) ≡ true
front_rises_at u xs n r e = subst (λ m. rises (take m xs) ≡ true) (sym e) (front_rises u xs r)

take_rest : (m : ℕ) (xs : List Sample) → take (length xs - m) (drop m xs) ≡ drop m xs
take_rest m xs = ap (λ n. take n (drop m xs)) (sym (length-drop m xs)) ∙ take-length (drop m xs)

pub slice_is : (a u : ℤ) (xs : List Sample) (n m : ℕ) → rises xs ≡ true → n ≡ until u xs → m ≡ until a (take n xs) → take (length (take n xs) - m) (drop m (take n xs)) ≡ window_of xs a u
slice_is a u xs n m r e f =
    take_rest m (take n xs)
    ∙ ap (λ k. drop k (take n xs)) f
    ∙ window_is a u xs (take n xs) r (ap (λ k. take k xs) e)

pub held_from : (t a u : ℤ) (xs : List Sample) (o : Option Sample) → rises xs ≡ true → a ≡ t -ℤ pos 1 → u ≡ t → o ≡ last_of (window_of xs a u) → valued o ≡ value_at xs t
held_from t a u xs o r p q e = ap valued e ∙ ap (λ b. valued (last_of (window_of xs b u))) p ∙ ap (λ b. valued (last_of (window_of xs (t -ℤ pos 1) b))) q ∙ sym (at_is t xs r)
