-- A list of samples whose times rise is the only ordered one with these samples.
use Rattle.std.proofs.Common.{◌≡◌, ℕ, ◌+◌, ◌<◌, ℤ, Bool, true, false, cond, ◌&&◌, ◌||◌, List, [], ◌∷◌, ◌++◌, refl, sym, ap, subst, arith}
use Rattle.std.specs.Prelude.{int_lt, int_le, nat_eq, nat_lt}
use Rattle.std.specs.List.{list_all}
use Rattle.std.specs.Cmp.{first_so, second_so}
use Rattle.std.proofs.lemmas.Int.{ints}
use Rattle.std.proofs.lemmas.Bool.Decides.{nat_tests}
use Rattle.pf_base.specs.declared.plain.Sample.{Sample}
use Rattle.pf_block.specs.Blocks.{Entries, ascends, ascends_after, is_upto, samples_in, same_sample, times_in}
use Rattle.pf_block.specs.Samples.{rises, rises_after}
use Rattle.pf_block.specs.Stacks.{is_not_after}
use Rattle.pf_block.proofs.Merging.{times_append, upto_trans}
use Rattle.pf_block.proofs.Searches.{both, rises_behind}

-- ---- equal samples

time_same : (s t u v : ℤ) → (int_le s t && int_le t s && int_le u v && int_le v u) ≡ true → s ≡ t
time_same s t u v h = grind (arith, ints)

value_same : (s t u v : ℤ) → (int_le s t && int_le t s && int_le u v && int_le v u) ≡ true → u ≡ v
value_same s t u v h = grind (arith, ints)

pub same_is : (a b : Sample) → same_sample a b ≡ true → a ≡ b
same_is a b h = let t = time_same a.time b.time a.value b.value h in let v = value_same a.time b.time a.value b.value h in λ i. record { time = t i; value = v i }

own_by : (s u : ℤ) → (int_le s s && int_le s s && int_le u u && int_le u u) ≡ true
own_by s u = grind (arith, ints)

pub same_own : (a : Sample) → same_sample a a ≡ true
same_own a = own_by a.time a.value

-- what holds of each sample holds of one that is there
module _ (P : Sample → Type 0) where
  there_by : (x s : Sample) (n : ℕ) (v : Bool) → same_sample x s ≡ v → P s → (0 < n → P x) → 0 < cond v 1 0 + n → P x
  there_by x s n true e p h l = subst P (sym (same_is x s e)) p
  there_by x s n false e p h l = h (omega arith)

-- ---- lists in order

-- no time is below the one before it
abbrev pub goes_after : ℤ → List Sample → Bool
goes_after time [] = true
goes_after time (s ∷ ss) = int_le time s.time && goes_after s.time ss

abbrev pub goes : List Sample → Bool
goes [] = true
goes (s ∷ ss) = goes_after s.time ss

le_trans : (a b c : ℤ) → int_le a b ≡ true → int_le b c ≡ true → int_le a c ≡ true
le_trans a b c p q = grind (arith, ints)

lt_trans : (a b c : ℤ) → int_lt a b ≡ true → int_lt b c ≡ true → int_lt a c ≡ true
lt_trans a b c p q = grind (arith, ints)

lt_le : (a b : ℤ) → int_lt a b ≡ true → int_le a b ≡ true
lt_le a b p = grind (arith, ints)

pub goes_member : (a : ℤ) (ys : List Sample) (x : Sample) → goes_after a ys ≡ true → 0 < times_in x ys → int_le a x.time ≡ true
goes_member a [] x h l = absurd (omega arith)
goes_member a (y ∷ ys) x h l =
    let f = first_so (int_le a y.time) (goes_after y.time ys) h in
    there_by (λ z. int_le a z.time ≡ true) x y (times_in x ys) (same_sample x y) refl f
    (λ m. le_trans a y.time x.time f (goes_member y.time ys x (second_so (int_le a y.time) (goes_after y.time ys) h) m)) l

pub rises_member : (a : ℤ) (ys : List Sample) (x : Sample) → rises_after a ys ≡ true → 0 < times_in x ys → int_lt a x.time ≡ true
rises_member a [] x h l = absurd (omega arith)
rises_member a (y ∷ ys) x h l =
    let f = first_so (int_lt a y.time) (rises_after y.time ys) h in
    there_by (λ z. int_lt a z.time ≡ true) x y (times_in x ys) (same_sample x y) refl f
    (λ m. lt_trans a y.time x.time f (rises_member y.time ys x (second_so (int_lt a y.time) (rises_after y.time ys) h) m)) l

pub rises_goes_after : (a : ℤ) (xs : List Sample) → rises_after a xs ≡ true → goes_after a xs ≡ true
rises_goes_after a [] h = refl
rises_goes_after a (x ∷ xs) h =
    both (int_le a x.time) (goes_after x.time xs) (lt_le a x.time (first_so (int_lt a x.time) (rises_after x.time xs) h)) (rises_goes_after x.time xs (second_so (int_lt a x.time) (rises_after x.time xs) h))

pub rises_goes : (xs : List Sample) → rises xs ≡ true → goes xs ≡ true
rises_goes [] h = refl
rises_goes (x ∷ xs) h = rises_goes_after x.time xs h

-- ---- the same samples, the same list

own_le : (a : ℤ) → int_le a a ≡ true
own_le a = grind (arith, ints)

not_both : (a b : ℤ) → int_le a b ≡ true → int_lt b a ≡ true → ⊥
not_both a b p q = grind (arith, ints)

own_times : (x : Sample) (xs : List Sample) → 0 < times_in x (x ∷ xs)
own_times x xs = let e : ◌≡◌ {A = ℕ} (cond (same_sample x x) 1 0) 1 = ap (λ v. cond v 1 0) (same_own x) in omega (arith, e)

least : (x y : Sample) (ys : List Sample) → goes (y ∷ ys) ≡ true → 0 < times_in x (y ∷ ys) → int_le y.time x.time ≡ true
least x y ys g l = there_by (λ z. int_le y.time z.time ≡ true) x y (times_in x ys) (same_sample x y) refl (own_le y.time) (λ m. goes_member y.time ys x g m) l

heads : (x y : Sample) (xs ys : List Sample) → rises (x ∷ xs) ≡ true → goes (y ∷ ys) ≡ true → ((z : Sample) → times_in z (x ∷ xs) ≡ times_in z (y ∷ ys)) → y ≡ x
heads x y xs ys r g e =
    let l : int_le y.time x.time ≡ true = least x y ys g (subst (λ n. 0 < n) (e x) (own_times x xs)) in
    there_by (λ z. z ≡ x) y x (times_in y xs) (same_sample y x) refl refl (λ m. absurd (not_both y.time x.time l (rises_member x.time xs y r m))) (subst (λ n. 0 < n) (sym (e y)) (own_times y ys))

tails : (x y : Sample) (xs ys : List Sample) → y ≡ x → (z : Sample) → times_in z (x ∷ xs) ≡ times_in z (y ∷ ys) → times_in z xs ≡ times_in z ys
tails x y xs ys h z e =
    let q : ◌≡◌ {A = ℕ} (cond (same_sample z y) 1 0) (cond (same_sample z x) 1 0) = ap (λ w. cond (same_sample z w) 1 0) h in
    omega (arith, q, e)

goes_behind : (a : ℤ) (xs : List Sample) → goes_after a xs ≡ true → goes xs ≡ true
goes_behind a [] h = refl
goes_behind a (x ∷ xs) h = second_so (int_le a x.time) (goes_after x.time xs) h

pub one_list : (xs ys : List Sample) → rises xs ≡ true → goes ys ≡ true → ((z : Sample) → times_in z xs ≡ times_in z ys) → ys ≡ xs
one_list [] [] r g e = refl
one_list [] (y ∷ ys) r g e = let h = own_times y ys in absurd (omega (arith, h, e y))
one_list (x ∷ xs) [] r g e = let h = own_times x xs in absurd (omega (arith, h, e x))
one_list (x ∷ xs) (y ∷ ys) r g e =
    let h = heads x y xs ys r g e in
    let t = one_list xs ys (rises_behind x.time xs r) (goes_behind y.time ys g) (λ z. tails x y xs ys h z (e z)) in
    λ i. h i ∷ t i

pub no_times : (xs : List Sample) → ((z : Sample) → times_in z xs ≡ 0) → xs ≡ []
no_times [] h = refl
no_times (x ∷ xs) h = let l = own_times x xs in absurd (omega (arith, l, h x))

-- ---- one list behind another

goes_on_after : (a : ℤ) (xs ys : List Sample) → goes_after a xs ≡ true → goes ys ≡ true → ((y : Sample) → 0 < times_in y ys → int_le a y.time ≡ true) →
    ((x y : Sample) → 0 < times_in x xs → 0 < times_in y ys → int_le x.time y.time ≡ true) → goes_after a (xs ++ ys) ≡ true
goes_on_after a [] [] g h f k = refl
goes_on_after a [] (y ∷ ys) g h f k = both (int_le a y.time) (goes_after y.time ys) (f y (own_times y ys)) h
goes_on_after a (x ∷ xs) ys g h f k =
    both (int_le a x.time) (goes_after x.time (xs ++ ys)) (first_so (int_le a x.time) (goes_after x.time xs) g)
    (goes_on_after x.time xs ys (second_so (int_le a x.time) (goes_after x.time xs) g) h (λ y l. k x y (own_times x xs) l) (λ z y m l. k z y (omega (arith, m)) l))

pub goes_on : (xs ys : List Sample) → goes xs ≡ true → goes ys ≡ true → ((x y : Sample) → 0 < times_in x xs → 0 < times_in y ys → int_le x.time y.time ≡ true) → goes (xs ++ ys) ≡ true
goes_on [] ys g h k = h
goes_on (x ∷ xs) ys g h k = goes_on_after x.time xs ys g h (λ y l. k x y (own_times x xs) l) (λ z y m l. k z y (omega (arith, m)) l)

rises_apart_after : (a : ℤ) (xs ys : List Sample) (y : Sample) → rises_after a (xs ++ ys) ≡ true → 0 < times_in y ys → int_lt a y.time ≡ true
rises_apart_after a xs ys y r l = rises_member a (xs ++ ys) y r (let e = times_append y xs ys in omega (arith, e, l))

pub rises_apart : (xs ys : List Sample) (x y : Sample) → rises (xs ++ ys) ≡ true → 0 < times_in x xs → 0 < times_in y ys → int_le x.time y.time ≡ true
rises_apart [] ys x y r m l = absurd (omega arith)
rises_apart (s ∷ ss) ys x y r m l =
    there_by (λ z. int_le z.time y.time ≡ true) x s (times_in x ss) (same_sample x s) refl (lt_le s.time y.time (rises_apart_after s.time ss ys y r l))
    (λ n. rises_apart ss ys x y (rises_behind s.time (ss ++ ys) r) n l) m

rises_front_after : (a : ℤ) (xs ys : List Sample) → rises_after a (xs ++ ys) ≡ true → rises_after a xs ≡ true
rises_front_after a [] ys r = refl
rises_front_after a (x ∷ xs) ys r =
    both (int_lt a x.time) (rises_after x.time xs) (first_so (int_lt a x.time) (rises_after x.time (xs ++ ys)) r) (rises_front_after x.time xs ys (second_so (int_lt a x.time) (rises_after x.time (xs ++ ys)) r))

pub rises_front : (xs ys : List Sample) → rises (xs ++ ys) ≡ true → rises xs ≡ true
rises_front [] ys r = refl
rises_front (x ∷ xs) ys r = rises_front_after x.time xs ys r

pub rises_back : (xs ys : List Sample) → rises (xs ++ ys) ≡ true → rises ys ≡ true
rises_back [] ys r = r
rises_back (x ∷ xs) ys r = rises_back xs ys (rises_behind x.time (xs ++ ys) r)

-- ---- the samples of a series in a block

same_series : (i j k : ℕ) (s t : ℤ) → nat_eq k i ≡ true → nat_eq k j ≡ true → (nat_lt i j || (nat_eq i j && int_le s t)) ≡ true → int_le s t ≡ true
same_series i j k s t p q h = grind (arith, ints, nat_tests)

pub ascends_lower : (a e : ℕ × Sample) (es : Entries) → is_upto a e ≡ true → ascends_after e es ≡ true → ascends_after a es ≡ true
ascends_lower a e [] h s = refl
ascends_lower a e (f ∷ es) h s =
    both (is_upto a f) (ascends_after f es) (upto_trans a e f h (first_so (is_upto e f) (ascends_after f es) s)) (second_so (is_upto e f) (ascends_after f es) s)

pub ascends_behind : (a : ℕ × Sample) (es : Entries) → ascends_after a es ≡ true → ascends es ≡ true
ascends_behind a [] h = refl
ascends_behind a (e ∷ es) h = second_so (is_upto a e) (ascends_after e es) h

module _ (id : ℕ) where
  series_after : (a : ℕ × Sample) (es : Entries) → nat_eq id a.0 ≡ true → ascends_after a es ≡ true → goes_after a.1.time (samples_in id es) ≡ true
  series_after a [] q h = refl
  series_after a (e ∷ es) q h =
      let f = first_so (is_upto a e) (ascends_after e es) h in
      let g = second_so (is_upto a e) (ascends_after e es) h in
      elim (nat_eq id e.0) as (λ v. nat_eq id e.0 ≡ v → goes_after a.1.time (cond v (e.1 ∷ samples_in id es) (samples_in id es)) ≡ true) [
        | true ↦ λ p. both (int_le a.1.time e.1.time) (goes_after e.1.time (samples_in id es)) (same_series a.0 e.0 id a.1.time e.1.time q p f) (series_after e es p g)
        | false ↦ λ p. series_after a es q (ascends_lower a e es f g)
      ] refl

  pub series_goes : (es : Entries) → ascends es ≡ true → goes (samples_in id es) ≡ true
  series_goes [] h = refl
  series_goes (e ∷ es) h =
      elim (nat_eq id e.0) as (λ v. nat_eq id e.0 ≡ v → goes (cond v (e.1 ∷ samples_in id es) (samples_in id es)) ≡ true) [
        | true ↦ λ p. series_after e es p h
        | false ↦ λ p. series_goes es (ascends_behind e es h)
      ] refl

-- ---- not after a time

pub all_not_after : (t : ℤ) (xs : List Sample) (x : Sample) → list_all (is_not_after t) xs ≡ true → 0 < times_in x xs → int_le x.time t ≡ true
all_not_after t [] x h l = absurd (omega arith)
all_not_after t (s ∷ ss) x h l =
    there_by (λ z. int_le z.time t ≡ true) x s (times_in x ss) (same_sample x s) refl (first_so (int_le s.time t) (list_all (is_not_after t) ss) h)
    (λ m. all_not_after t ss x (second_so (int_le s.time t) (list_all (is_not_after t) ss) h) m) l
