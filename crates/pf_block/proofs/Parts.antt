-- Samples of a series side by side, and what lies outside some times.
use Rattle.std.proofs.Common.{◌≡◌, ℕ, zero, suc, ◌+◌, ◌-◌, ◌<◌, ◌≤◌, ◌≤ℤ◌, ℤ, pos, Bool, true, false, cond, ◌&&◌, ◌||◌, List, [], ◌∷◌, ◌++◌, length, take, drop, get_or, refl, sym, ap, ◌∙◌, subst, arith}
use Rattle.std.specs.Prelude.{◌-ℤ◌, int_le, int_lt, nat_eq, nat_lt}
use Rattle.std.specs.List.{filter}
use Rattle.std.specs.Ordering.{int_eq}
use Rattle.std.specs.Cmp.{first_so, second_so}
use Rattle.std.proofs.lemmas.Int.{ints}
use Rattle.std.proofs.lemmas.Bool.Decides.{nat_tests}
use Rattle.pf_base.specs.declared.plain.Sample.{Sample}
use Rattle.pf_block.specs.Blocks.{Entries, ascends, ascends_after, is_upto, samples_in, same_sample, times_in}
use Rattle.pf_block.specs.Layers.{has_time, labelled}
use Rattle.pf_block.specs.Samples.{is_outside, rises, rises_after, until, window_of}
use Rattle.pf_block.proofs.Canonical.{same_is}
use Rattle.pf_block.proofs.Pairing.{drop_at}
use Rattle.pf_block.proofs.Searches.{above, back, both, front, rises_behind}

-- ---- a time among samples

over : (a t c : ℤ) → int_le a t ≡ false → int_lt a c ≡ true → int_le c t ≡ false
over a t c p q = grind (arith, ints)

not_at : (a t : ℤ) → int_le a t ≡ false → int_eq a t ≡ false
not_at a t p = grind (arith, ints)

at_most : (a t : ℤ) → int_le a t ≡ true → int_eq a t ≡ int_le t a
at_most a t p = grind (arith, ints)

not_below : (a b t : ℤ) → int_lt a b ≡ true → int_le t b ≡ false → int_eq a t ≡ false
not_below a b t p q = grind (arith, ints)

none_after : (t a : ℤ) (xs : List Sample) → int_le a t ≡ false → rises_after a xs ≡ true → has_time xs t ≡ false
none_after t a [] h r = refl
none_after t a (x ∷ xs) h r =
    let e = over a t x.time h (first_so (int_lt a x.time) (rises_after x.time xs) r) in
    ap (λ v. v || has_time xs t) (not_at x.time t e) ∙ none_after t x.time xs e (second_so (int_lt a x.time) (rises_after x.time xs) r)

none_by : (t : ℤ) (x : Sample) (xs : List Sample) (v : Bool) → int_le x.time t ≡ v → rises_after x.time xs ≡ true → 0 ≡ cond v (suc (until t xs)) 0 → has_time (x ∷ xs) t ≡ false
none_by t x xs true e r h = absurd (omega (arith, h))
none_by t x xs false e r h = ap (λ v. v || has_time xs t) (not_at x.time t e) ∙ none_after t x.time xs e r

pub none_has : (t : ℤ) (xs : List Sample) → rises xs ≡ true → 0 ≡ until t xs → has_time xs t ≡ false
none_has t [] r h = refl
none_has t (x ∷ xs) r h = none_by t x xs (int_le x.time t) refl r h

until_within : (t : ℤ) (xs : List Sample) → until t xs ≤ length xs
until_within t [] = omega arith
until_within t (x ∷ xs) = let r = until_within t xs in elim (int_le x.time t) as (λ v. cond v (suc (until t xs)) 0 ≤ suc (length xs)) [ true ↦ omega (arith, r) | false ↦ omega arith ]

behind_by : (t a : ℤ) (y : Sample) (h : Bool) (v : Bool) → int_le t y.time ≡ v → int_lt a y.time ≡ true → h ≡ int_le t y.time → (int_eq a t || h) ≡ int_le t y.time
behind_by t a y h true e l q = elim (int_eq a t) as (λ w. (w || h) ≡ int_le t y.time) [ true ↦ sym e | false ↦ q ]
behind_by t a y h false e l q = ap (λ w. w || h) (not_below a y.time t l e) ∙ q

has_by : (t : ℤ) (x : Sample) (xs : List Sample) (n : ℕ) (d : Sample) (v : Bool) → int_le x.time t ≡ v → rises_after x.time xs ≡ true → suc n ≡ cond v (suc (until t xs)) 0 →
    ((m : ℕ) → suc m ≡ until t xs → has_time xs t ≡ int_le t (get_or xs m d).time) → has_time (x ∷ xs) t ≡ int_le t (get_or (x ∷ xs) n d).time
has_by t x xs n d false e r h f = absurd (omega (arith, h))
has_by t x xs zero d true e r h f =
    let z : 0 ≡ until t xs = omega (arith, h) in
    ap (λ w. int_eq x.time t || w) (none_has t xs (rises_behind x.time xs r) z) ∙ or_none (int_eq x.time t) ∙ at_most x.time t e where
      or_none : (w : Bool) → (w || false) ≡ w
      or_none true = refl
      or_none false = refl
has_by t x xs (suc m) d true e r h f =
    let z : suc m ≡ until t xs = omega (arith, h) in
    let l : m < length xs = let w = until_within t xs in omega (arith, z, w) in
    behind_by t x.time (get_or xs m d) (has_time xs t) (int_le t (get_or xs m d).time) refl (above x.time xs m d r l) (f m z)

pub has_last : (t : ℤ) (xs : List Sample) (n : ℕ) (d : Sample) → rises xs ≡ true → suc n ≡ until t xs → has_time xs t ≡ int_le t (get_or xs n d).time
has_last t [] n d r h = absurd (omega (arith, h))
has_last t (x ∷ xs) n d r h = has_by t x xs n d (int_le x.time t) refl r h (λ m z. has_last t xs m d (rises_behind x.time xs r) z)

-- a sample is there at its time
member_by : (x s : Sample) (ss : List Sample) (v : Bool) → same_sample x s ≡ v → 0 < cond v 1 0 + times_in x ss → (0 < times_in x ss → has_time ss x.time ≡ true) → (int_eq s.time x.time || has_time ss x.time) ≡ true
member_by x s ss true e l f = let q : x ≡ s = same_is x s e in let w : int_eq s.time s.time ≡ true = grind (arith, ints) in ap (λ v. v || has_time ss x.time) (ap (λ z. int_eq s.time z.time) q ∙ w)
member_by x s ss false e l f = ap (λ w. int_eq s.time x.time || w) (f (omega (arith, l))) ∙ or_all (int_eq s.time x.time) where
  or_all : (w : Bool) → (w || true) ≡ true
  or_all true = refl
  or_all false = refl

pub member_has : (x : Sample) (ss : List Sample) → 0 < times_in x ss → has_time ss x.time ≡ true
member_has x [] l = absurd (omega (arith, l))
member_has x (s ∷ ss) l = member_by x s ss (same_sample x s) refl l (λ m. member_has x ss m)

-- a time outside is there as before, and no other one
module _ (f u : ℤ) where
  outside_at : (s : Sample) (t : ℤ) → int_eq s.time t ≡ true → is_outside f u s ≡ (int_lt t f || int_lt u t)
  outside_at s t e = grind (arith, ints)

  spared_by : (v w h o r : Bool) → (w ≡ true → v ≡ o) → r ≡ (h && o) → cond v (w || r) r ≡ ((w || h) && o)
  spared_by true true h o r k q = let e : true ≡ o = k refl in e
  spared_by false true h true r k q = let e : false ≡ true = k refl in cc
  spared_by false true true false r k q = q
  spared_by false true false false r k q = q
  spared_by true false h o r k q = q
  spared_by false false h o r k q = q

  has_cond : (v : Bool) (s : Sample) (xs : List Sample) (t : ℤ) → has_time (cond v (s ∷ xs) xs) t ≡ cond v (int_eq s.time t || has_time xs t) (has_time xs t)
  has_cond true s xs t = refl
  has_cond false s xs t = refl

  pub spared_has : (ss : List Sample) (t : ℤ) → has_time (filter (is_outside f u) ss) t ≡ (has_time ss t && (int_lt t f || int_lt u t))
  spared_has [] t = refl
  spared_has (s ∷ ss) t =
      has_cond (is_outside f u s) s (filter (is_outside f u) ss) t
      ∙ spared_by (is_outside f u s) (int_eq s.time t) (has_time ss t) (int_lt t f || int_lt u t) (has_time (filter (is_outside f u) ss) t) (outside_at s t) (spared_has ss t)

-- ---- what lies outside two times

module _ (f u : ℤ) (fits : f ≤ℤ u) where
  spared_front : (x : ℤ) → int_le x (f -ℤ pos 1) ≡ true → (int_lt x f || int_lt u x) ≡ true
  spared_front x e = grind (arith, ints)

  not_behind : (x : ℤ) → int_le x (f -ℤ pos 1) ≡ true → int_lt u x ≡ false
  not_behind x e = grind (arith, ints)

  spared_back : (x : ℤ) → int_le x (f -ℤ pos 1) ≡ false → (int_lt x f || int_lt u x) ≡ int_lt u x
  spared_back x e = grind (arith, ints)

  back_only : (a : ℤ) (xs : List Sample) → int_le a (f -ℤ pos 1) ≡ false → rises_after a xs ≡ true → filter (is_outside f u) xs ≡ filter (λ s. int_lt u s.time) xs
  back_only a [] h r = refl
  back_only a (x ∷ xs) h r =
      let e = over a (f -ℤ pos 1) x.time h (first_so (int_lt a x.time) (rises_after x.time xs) r) in
      let i = back_only x.time xs e (second_so (int_lt a x.time) (rises_after x.time xs) r) in
      (λ j. cond (spared_back x.time e j) (x ∷ i j) (i j))

  no_front : (a : ℤ) (xs : List Sample) → int_le a (f -ℤ pos 1) ≡ false → rises_after a xs ≡ true → filter (λ s. int_le s.time (f -ℤ pos 1)) xs ≡ []
  no_front a [] h r = refl
  no_front a (x ∷ xs) h r =
      let e = over a (f -ℤ pos 1) x.time h (first_so (int_lt a x.time) (rises_after x.time xs) r) in
      ap (λ v. cond v (x ∷ filter (λ s. int_le s.time (f -ℤ pos 1)) xs) (filter (λ s. int_le s.time (f -ℤ pos 1)) xs)) e ∙ no_front x.time xs e (second_so (int_lt a x.time) (rises_after x.time xs) r)

  halves_by : (x : Sample) (xs : List Sample) (v : Bool) → int_le x.time (f -ℤ pos 1) ≡ v → rises_after x.time xs ≡ true →
      filter (is_outside f u) xs ≡ filter (λ s. int_le s.time (f -ℤ pos 1)) xs ++ filter (λ s. int_lt u s.time) xs →
      filter (is_outside f u) (x ∷ xs) ≡ cond v (x ∷ filter (λ s. int_le s.time (f -ℤ pos 1)) xs) (filter (λ s. int_le s.time (f -ℤ pos 1)) xs) ++ filter (λ s. int_lt u s.time) (x ∷ xs)
  halves_by x xs true e r h =
      ap (λ v. cond v (x ∷ filter (is_outside f u) xs) (filter (is_outside f u) xs)) (spared_front x.time e) ∙ ap (λ l. x ∷ l) h
      ∙ ap (λ v. x ∷ filter (λ s. int_le s.time (f -ℤ pos 1)) xs ++ cond v (x ∷ filter (λ s. int_lt u s.time) xs) (filter (λ s. int_lt u s.time) xs)) (sym (not_behind x.time e))
  halves_by x xs false e r h =
      let i = back_only x.time xs e r in
      (λ j. cond (spared_back x.time e j) (x ∷ i j) (i j)) ∙ ap (λ l. l ++ filter (λ s. int_lt u s.time) (x ∷ xs)) (sym (no_front x.time xs e r))

  halves : (xs : List Sample) → rises xs ≡ true → filter (is_outside f u) xs ≡ filter (λ s. int_le s.time (f -ℤ pos 1)) xs ++ filter (λ s. int_lt u s.time) xs
  halves [] r = refl
  halves (x ∷ xs) r = halves_by x xs (int_le x.time (f -ℤ pos 1)) refl r (halves xs (rises_behind x.time xs r))

  pub outside_parts : (xs : List Sample) → rises xs ≡ true → filter (is_outside f u) xs ≡ take (until (f -ℤ pos 1) xs) xs ++ drop (until u xs) xs
  outside_parts xs r = halves xs r ∙ (λ j. sym (front (f -ℤ pos 1) xs r) j ++ sym (back u xs r) j)

append_none : {X : Type 0} (xs : List X) → xs ++ [] ≡ xs
append_none [] = refl
append_none (x ∷ xs) = ap (λ l. x ∷ l) (append_none xs)

-- ---- parts of parts

pub drop_taken : {X : Type 0} (b c : ℕ) (ys : List X) → drop b (take c ys) ≡ take (c - b) (drop b ys)
drop_taken zero c ys = let e : c ≡ c - 0 = omega arith in ap (λ n. take n ys) e
drop_taken (suc b) zero ys = let e : zero - suc b ≡ 0 = omega arith in sym (ap (λ n. take n (drop (suc b) ys)) e)
drop_taken (suc b) (suc c) [] = sym (none (suc c - suc b)) where
  none : {X : Type 0} (n : ℕ) → take {A = X} n [] ≡ []
  none zero = refl
  none (suc n) = refl
drop_taken (suc b) (suc c) (y ∷ ys) = let e : c - b ≡ suc c - suc b = omega arith in drop_taken b c ys ∙ ap (λ n. take n (drop b ys)) e

pub drop_dropped : {X : Type 0} (b s : ℕ) (ys : List X) → drop b (drop s ys) ≡ drop (s + b) ys
drop_dropped b zero ys = let e : b ≡ 0 + b = omega arith in ap (λ n. drop n ys) e
drop_dropped b (suc s) [] = none b ∙ sym (none (suc s + b)) where
  none : {X : Type 0} (n : ℕ) → drop {A = X} n [] ≡ []
  none zero = refl
  none (suc n) = refl
drop_dropped b (suc s) (y ∷ ys) = let e : suc (s + b) ≡ suc s + b = omega arith in drop_dropped b s ys ∙ ap (λ n. drop n (y ∷ ys)) e

pub take_taken : {X : Type 0} (a c : ℕ) (ys : List X) → a ≤ length (take c ys) → take a ys ≡ take a (take c ys)
take_taken zero c ys l = refl
take_taken (suc a) zero ys l = absurd (omega (arith, l))
take_taken (suc a) (suc c) [] l = absurd (omega (arith, l))
take_taken (suc a) (suc c) (y ∷ ys) l = ap (λ x. y ∷ x) (take_taken a c ys (omega (arith, l)))

drop_all : {X : Type 0} (n : ℕ) (ys : List X) → length ys ≤ n → drop n ys ≡ []
drop_all zero [] l = refl
drop_all (suc n) [] l = refl
drop_all zero (y ∷ ys) l = absurd (omega (arith, l))
drop_all (suc n) (y ∷ ys) l = drop_all n ys (omega (arith, l))

-- ---- a part without its front, without its end, and one that is copied

module _ (all samples : List Sample) (passed count first behind : ℕ) (f g t u : ℤ) (is : samples ≡ take count (drop passed all)) (r : rises samples ≡ true) (fits : f ≤ℤ t) (p : g ≡ f -ℤ pos 1) (a : first ≡ until g samples) (b : behind ≡ until u samples) (q : u ≡ t) where
  whole_is : filter (is_outside f t) samples ≡ take first samples ++ drop behind samples
  whole_is = outside_parts f t fits samples r ∙ (λ j. take (until (sym p j) samples) samples ++ drop (until (sym q j) samples) samples) ∙ (λ j. take (sym a j) samples ++ drop (sym b j) samples)

  pub without_front : first ≡ 0 → take (count - behind) (drop (passed + behind) all) ≡ filter (is_outside f t) samples
  without_front z =
      sym (whole_is ∙ ap (λ n. take n samples ++ drop behind samples) z ∙ ap (drop behind) is ∙ drop_taken behind count (drop passed all) ∙ ap (take (count - behind)) (drop_dropped behind passed all))

  pub without_end : length samples ≤ behind → first ≤ length samples → take first (drop passed all) ≡ filter (is_outside f t) samples
  without_end l m =
      take_taken first count (drop passed all) (subst (λ x. first ≤ length x) is m)
      ∙ ap (take first) (sym is)
      ∙ sym (append_none (take first samples))
      ∙ ap (λ x. take first samples ++ x) (sym (drop_all behind samples l))
      ∙ sym whole_is

-- ---- samples with the id of their series

pub labelled_in : (id : ℕ) (ss : List Sample) → samples_in id (labelled id ss) ≡ ss
labelled_in id [] = refl
labelled_in id (s ∷ ss) = let e : nat_eq id id ≡ true = grind (arith, nat_tests) in ap (λ v. cond v (s ∷ samples_in id (labelled id ss)) (samples_in id (labelled id ss))) e ∙ ap (λ l. s ∷ l) (labelled_in id ss)

pub labelled_length : (id : ℕ) (ss : List Sample) → length (labelled id ss) ≡ length ss
labelled_length id [] = refl
labelled_length id (s ∷ ss) = ap suc (labelled_length id ss)

labelled_after : (id : ℕ) (s : Sample) (ss : List Sample) → rises_after s.time ss ≡ true → ascends_after (id, s) (labelled id ss) ≡ true
labelled_after id s [] r = refl
labelled_after id s (x ∷ ss) r =
    let h : int_lt s.time x.time ≡ true = first_so (int_lt s.time x.time) (rises_after x.time ss) r in
    let e : (nat_lt id id || (nat_eq id id && int_le s.time x.time)) ≡ true = grind (arith, ints, nat_tests) in
    both (is_upto (id, s) (id, x)) (ascends_after (id, x) (labelled id ss)) e (labelled_after id x ss (second_so (int_lt s.time x.time) (rises_after x.time ss) r))

pub labelled_ascends : (id : ℕ) (ss : List Sample) → rises ss ≡ true → ascends (labelled id ss) ≡ true
labelled_ascends id [] r = refl
labelled_ascends id (s ∷ ss) r = labelled_after id s ss r

taken_all : {X : Type 0} (xs : List X) (n : ℕ) → length xs ≤ n → take n xs ≡ xs
taken_all [] zero l = refl
taken_all [] (suc n) l = refl
taken_all (x ∷ xs) zero l = absurd (omega (arith, l))
taken_all (x ∷ xs) (suc n) l = ap (λ y. x ∷ y) (taken_all xs n (omega (arith, l)))

pub copied_part : (id count : ℕ) (es : Entries) (ss : List Sample) → es ≡ labelled id ss → count ≡ length es → take count (drop 0 (samples_in id es)) ≡ ss
copied_part id count es ss e h =
    let l : length ss ≤ count = let z = ap length e in let w = labelled_length id ss in omega (arith, h, z, w) in
    ap (λ x. take count (samples_in id x)) e ∙ ap (take count) (labelled_in id ss) ∙ taken_all ss count l

-- times between which a sample lies
window_some : (a u : ℤ) (xs : List Sample) → 0 < length (window_of xs a u) → int_lt a u ≡ true
window_some a u [] l = absurd (omega (arith, l))
window_some a u (x ∷ xs) l = some_by (int_lt a x.time) (int_le x.time u) refl refl l (λ m. window_some a u xs m) where
  some_by : (v w : Bool) → int_lt a x.time ≡ v → int_le x.time u ≡ w → 0 < length (cond (v && w) (x ∷ window_of xs a u) (window_of xs a u)) → (0 < length (window_of xs a u) → int_lt a u ≡ true) → int_lt a u ≡ true
  some_by true true p q m f = grind (arith, ints)
  some_by true false p q m f = f m
  some_by false w p q m f = f m

pub times_fit : (f t : ℤ) (xs : List Sample) → 0 < length (window_of xs (f -ℤ pos 1) t) → f ≤ℤ t
times_fit f t xs l = let e = window_some (f -ℤ pos 1) t xs l in grind (arith, ints)

module _ (xs ws : List Sample) (a u f t : ℤ) (e : ws ≡ window_of xs a u) (p : a ≡ f -ℤ pos 1) (q : u ≡ t) where
  same_window : ws ≡ window_of xs (f -ℤ pos 1) t
  same_window = e ∙ (λ i. window_of xs (p i) (q i))

  pub empty_window : length ws ≡ 0 → window_of xs (f -ℤ pos 1) t ≡ []
  empty_window z = sym same_window ∙ none ws z where
    none : (ys : List Sample) → length ys ≡ 0 → ys ≡ []
    none [] h = refl
    none (y ∷ ys) h = absurd (omega (arith, h))

  pub times_in_order : 0 < length ws → f ≤ℤ t
  times_in_order l = times_fit f t xs (subst (λ y. 0 < length y) same_window l)

-- ---- one more sample that is copied

plus_one : (k : ℕ) → k + 1 ≡ suc k
plus_one k = omega arith

module _ (p : Sample → Bool) (id : ℕ) (ss : List Sample) (k : ℕ) (s : Sample) (l : k < length ss) (g : s ≡ get_or ss k s) where
  part_next : filter p (drop k ss) ≡ cond (p s) (s ∷ filter p (drop (suc k) ss)) (filter p (drop (suc k) ss))
  part_next = ap (filter p) (drop_at k ss s l ∙ ap (λ x. x ∷ drop (suc k) ss) (sym g))

  pub part_stays : p s ≡ true → labelled id (filter p (drop k ss)) ≡ (id, s) ∷ labelled id (filter p (drop (k + 1) ss))
  part_stays h = ap (labelled id) (part_next ∙ ap (λ v. cond v (s ∷ filter p (drop (suc k) ss)) (filter p (drop (suc k) ss))) h) ∙ ap (λ n. (id, s) ∷ labelled id (filter p (drop n ss))) (sym (plus_one k))

  pub part_goes : p s ≡ false → labelled id (filter p (drop (k + 1) ss)) ≡ labelled id (filter p (drop k ss))
  part_goes h = ap (λ n. labelled id (filter p (drop n ss))) (plus_one k) ∙ ap (labelled id) (sym (part_next ∙ ap (λ v. cond v (s ∷ filter p (drop (suc k) ss)) (filter p (drop (suc k) ss))) h))
