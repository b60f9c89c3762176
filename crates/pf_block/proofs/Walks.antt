-- Walks over blocks, from the newest to the oldest and on.
use Rattle.std.proofs.Common.{◌≡◌, ℕ, zero, suc, ◌+◌, ◌-◌, ◌*◌, ◌/◌, ◌<◌, ◌≤◌, ℤ, pos, Bool, true, false, ◌&&◌, ◌||◌, List, [], ◌∷◌, ◌++◌, length, map, take, drop, get_or, min, refl, sym, ap, ◌∙◌, subst, arith, Some, None, Option}
use Rattle.std.specs.Prelude.{int_le, int_lt, nat_eq, nat_lt, nat_le}
use Rattle.std.specs.List.{list_all, slice_get}
use Rattle.std.specs.Cmp.{first_so, second_so}
use Rattle.std.proofs.lemmas.Int.{ints}
use Rattle.std.proofs.lemmas.Bool.Decides.{nat_tests}
use Rattle.pf_base.specs.declared.plain.Sample.{Sample}
use Rattle.pf_block.specs.Blocks.{Entries, ascends, ascends_after, is_upto, merged, samples_in}
use Rattle.pf_block.specs.Samples.{is_within, last_of, last_onto, rises, rises_after, window_of}
use Rattle.pf_block.specs.declared.stack.Order.{Order}
use Rattle.pf_block.specs.Stacks.{IsStacked, doubles, is_clear, is_not_after, merged_into, joined_in, order_on, takes_in, topped}
use Rattle.pf_block.proofs.Canonical.{rises_back, rises_front}
use Rattle.pf_block.proofs.Pairing.{drop_at}
use Rattle.pf_block.proofs.Searches.{both, last_is}
use Rattle.pf_block.proofs.Series.{front_less, joined_append, joined_split}
use Rattle.pf_block.proofs.Stacking.{filter_append}

pub map_take : {X Y : Type 0} (f : X → Y) (n : ℕ) (xs : List X) → map f (take n xs) ≡ take n (map f xs)
map_take f zero xs = refl
map_take f (suc n) [] = refl
map_take f (suc n) (x ∷ xs) = ap (λ l. f x ∷ l) (map_take f n xs)

pub map_length : {X Y : Type 0} (f : X → Y) (xs : List X) → length (map f xs) ≡ length xs
map_length f [] = refl
map_length f (x ∷ xs) = ap suc (map_length f xs)

pub map_at : {X Y : Type 0} (f : X → Y) (xs : List X) (k : ℕ) (d : X) (e : Y) → k < length xs → get_or (map f xs) k e ≡ f (get_or xs k d)
map_at f [] k d e l = absurd (omega arith)
map_at f (x ∷ xs) zero d e l = refl
map_at f (x ∷ xs) (suc k) d e l = map_at f xs k d e (omega arith)

take_all : {X : Type 0} (xs : List X) → take (length xs) xs ≡ xs
take_all [] = refl
take_all (x ∷ xs) = ap (λ l. x ∷ l) (take_all xs)

take_next : {X : Type 0} (n : ℕ) (xs : List X) (x d : X) → n < length xs → x ≡ get_or xs n d → take (suc n) xs ≡ take n xs ++ x ∷ []
take_next n [] x d l h = absurd (omega arith)
take_next zero (y ∷ ys) x d l h = ap (λ z. z ∷ []) (sym h)
take_next (suc n) (y ∷ ys) x d l h = ap (λ z. y ∷ z) (take_next n ys x d (omega arith) h)

append_none : {X : Type 0} (xs : List X) → xs ++ [] ≡ xs
append_none [] = refl
append_none (x ∷ xs) = ap (λ l. x ∷ l) (append_none xs)

-- ---- the samples of a series up to a block

module _ (id : ℕ) (bs : List Entries) (n : ℕ) (b : Entries) (l : n < length bs) (h : b ≡ get_or bs n []) where
  pub series_next : joined_in id (take (suc n) bs) ≡ joined_in id (take n bs) ++ samples_in id b
  series_next = ap (joined_in id) (take_next n bs b [] l h) ∙ joined_append id (take n bs) (b ∷ []) ∙ ap (λ x. joined_in id (take n bs) ++ x) (append_none (samples_in id b))

  front_rises : rises (joined_in id bs) ≡ true → rises (joined_in id (take (suc n) bs)) ≡ true
  front_rises r = rises_front (joined_in id (take (suc n) bs)) (joined_in id (drop (suc n) bs)) (subst (λ x. rises x ≡ true) (sym (joined_split id (suc n) bs)) r)

  pub block_rises : rises (joined_in id bs) ≡ true → rises (samples_in id b) ≡ true
  block_rises r = rises_back (joined_in id (take n bs)) (samples_in id b) (subst (λ x. rises x ≡ true) series_next (front_rises r))

-- ---- the last of two lists

last_kept : (o : Option Sample) (xs ys : List Sample) → last_onto o (xs ++ ys) ≡ last_onto (last_onto o xs) ys
last_kept o [] ys = refl
last_kept o (x ∷ xs) ys = last_kept (Some x) xs ys

last_some : (o p : Option Sample) (y : Sample) (ys : List Sample) → last_onto o (y ∷ ys) ≡ last_onto p (y ∷ ys)
last_some o p y ys = refl

last_found : (o : Option Sample) (ys : List Sample) (s : Sample) → last_of ys ≡ Some s → last_onto o ys ≡ Some s
last_found o [] s h = cc
last_found o (y ∷ ys) s h = h

some_onto : (s : Sample) (ys : List Sample) → last_onto (Some s) ys ≡ None → ⊥
some_onto s [] h = cc
some_onto s (y ∷ ys) h = some_onto y ys h

pub last_missing : (ys : List Sample) → last_of ys ≡ None → ys ≡ []
last_missing [] h = refl
last_missing (y ∷ ys) h = absurd (some_onto y ys h)

module _ (id : ℕ) (after upto : ℤ) (bs : List Entries) (n : ℕ) (b : Entries) (l : n < length bs) (h : b ≡ get_or bs n []) (ws : List Sample) (w : ws ≡ window_of (samples_in id b) after upto) where
  pub window_next : window_of (joined_in id (take (suc n) bs)) after upto ≡ window_of (joined_in id (take n bs)) after upto ++ ws
  window_next =
      ap (λ x. window_of x after upto) (series_next id bs n b l h) ∙ filter_append (is_within after upto) (joined_in id (take n bs)) (samples_in id b)
      ∙ ap (λ x. window_of (joined_in id (take n bs)) after upto ++ x) (sym w)

  pub last_here : (s : Sample) → Some s ≡ slice_get ws (length ws - 1) → last_of (window_of (joined_in id (take (suc n) bs)) after upto) ≡ Some s
  last_here s g =
      ap last_of window_next ∙ last_kept None (window_of (joined_in id (take n bs)) after upto) ws
      ∙ last_found (last_of (window_of (joined_in id (take n bs)) after upto)) ws s (last_is ws ∙ sym g)

  pub last_before : None ≡ slice_get ws (length ws - 1) → last_of (window_of (joined_in id (take (suc n) bs)) after upto) ≡ last_of (window_of (joined_in id (take n bs)) after upto)
  last_before g =
      let e : ws ≡ [] = last_missing ws (last_is ws ∙ sym g) in
      ap last_of (window_next ∙ ap (λ x. window_of (joined_in id (take n bs)) after upto ++ x) e ∙ append_none (window_of (joined_in id (take n bs)) after upto))

-- ---- not after a time

le_trans : (a b c : ℤ) → int_le a b ≡ true → int_le b c ≡ true → int_le a c ≡ true
le_trans a b c p q = grind (arith, ints)

lt_le_trans : (a b c : ℤ) → int_lt a b ≡ true → int_le b c ≡ true → int_le a c ≡ true
lt_le_trans a b c p q = grind (arith, ints)

last_most : (x : Sample) (xs : List Sample) (s : Sample) (t : ℤ) → rises_after x.time xs ≡ true → last_onto (Some x) xs ≡ Some s → int_le s.time t ≡ true → list_all (is_not_after t) (x ∷ xs) ≡ true
last_most x [] s t r h u = let e : x ≡ s = some_same x s h in both (int_le x.time t) true (ap (λ z. int_le z.time t) e ∙ u) refl where
  some_same : (a b : Sample) → ◌≡◌ {A = Option Sample} (Some a) (Some b) → a ≡ b
  some_same a b h = cc
last_most x (y ∷ ys) s t r h u =
    let f = first_so (int_lt x.time y.time) (rises_after y.time ys) r in
    let k = last_most y ys s t (second_so (int_lt x.time y.time) (rises_after y.time ys) r) h u in
    both (int_le x.time t) (list_all (is_not_after t) (y ∷ ys)) (lt_le_trans x.time y.time t f (first_so (int_le y.time t) (list_all (is_not_after t) ys) k)) k

all_upto_last : (xs : List Sample) (s : Sample) (t : ℤ) → rises xs ≡ true → last_of xs ≡ Some s → int_le s.time t ≡ true → list_all (is_not_after t) xs ≡ true
all_upto_last [] s t r h u = refl
all_upto_last (x ∷ xs) s t r h u = last_most x xs s t r h u

-- fewer blocks, or a later time
module _ (t u : ℤ) (m : int_le t u ≡ true) where
  not_after_later : (xs : List Sample) → list_all (is_not_after t) xs ≡ true → list_all (is_not_after u) xs ≡ true
  not_after_later [] h = refl
  not_after_later (x ∷ xs) h =
      both (int_le x.time u) (list_all (is_not_after u) xs) (le_trans x.time t u (first_so (int_le x.time t) (list_all (is_not_after t) xs) h) m)
      (not_after_later xs (second_so (int_le x.time t) (list_all (is_not_after t) xs) h))

module _ (p : Sample → Bool) where
  all_front : (xs ys : List Sample) → list_all p (xs ++ ys) ≡ true → list_all p xs ≡ true
  all_front [] ys h = refl
  all_front (x ∷ xs) ys h = both (p x) (list_all p xs) (first_so (p x) (list_all p (xs ++ ys)) h) (all_front xs ys (second_so (p x) (list_all p (xs ++ ys)) h))

  all_back : (xs ys : List Sample) → list_all p (xs ++ ys) ≡ true → list_all p ys ≡ true
  all_back [] ys h = h
  all_back (x ∷ xs) ys h = all_back xs ys (second_so (p x) (list_all p (xs ++ ys)) h)

  all_both : (xs ys : List Sample) → list_all p xs ≡ true → list_all p ys ≡ true → list_all p (xs ++ ys) ≡ true
  all_both [] ys h g = g
  all_both (x ∷ xs) ys h g = both (p x) (list_all p (xs ++ ys)) (first_so (p x) (list_all p xs) h) (all_both xs ys (second_so (p x) (list_all p xs) h) g)

  all_fewer : (id m n : ℕ) (bs : List Entries) → m ≤ n → list_all p (joined_in id (take n bs)) ≡ true → list_all p (joined_in id (take m bs)) ≡ true
  all_fewer id zero n bs l h = refl
  all_fewer id (suc m) zero bs l h = absurd (omega arith)
  all_fewer id (suc m) (suc n) [] l h = refl
  all_fewer id (suc m) (suc n) (b ∷ bs) l h =
      all_both (samples_in id b) (joined_in id (take m bs)) (all_front (samples_in id b) (joined_in id (take n bs)) h) (all_fewer id m n bs (omega arith) (all_back (samples_in id b) (joined_in id (take n bs)) h))

-- the first blocks have no sample after a time
abbrev pub AreBefore : ℕ → ℤ → List Entries → ℕ → Type 0
AreBefore id t bs m = list_all (is_not_after t) (joined_in id (take m bs)) ≡ true

module _ (id : ℕ) (t : ℤ) (bs : List Entries) (n : ℕ) (b : Entries) (l : n < length bs) (h : b ≡ get_or bs n []) (ys : List Sample) (w : ys ≡ samples_in id b) where
  pub clear_here : (s : Sample) (ordered : ℕ) → n < ordered → rises (joined_in id (take ordered bs)) ≡ true → Some s ≡ slice_get ys (length ys - 1) → int_le s.time t ≡ true → AreBefore id t bs (suc n)
  clear_here s ordered m r g u =
      let last : last_of (joined_in id (take (suc n) bs)) ≡ Some s =
      ap last_of (series_next id bs n b l h) ∙ last_kept None (joined_in id (take n bs)) (samples_in id b)
      ∙ last_found (last_of (joined_in id (take n bs))) (samples_in id b) s (ap last_of (sym w) ∙ last_is ys ∙ sym g) in
      all_upto_last (joined_in id (take (suc n) bs)) s t (front_less id (suc n) ordered bs (omega (arith, m)) r) last u

  pub clear_none : None ≡ slice_get ys (length ys - 1) → AreBefore id t bs n → AreBefore id t bs (suc n)
  clear_none g a =
      let e : samples_in id b ≡ [] = sym w ∙ last_missing ys (last_is ys ∙ sym g) in
      ap (list_all (is_not_after t)) (series_next id bs n b l h ∙ ap (λ x. joined_in id (take n bs) ++ x) e ∙ append_none (joined_in id (take n bs))) ∙ a

  pub clear_upto : (s : Sample) → rises (samples_in id b) ≡ true → Some s ≡ slice_get ys (length ys - 1) → int_le s.time t ≡ true → AreBefore id t bs n → AreBefore id t bs (suc n)
  clear_upto s r g u a =
      ap (list_all (is_not_after t)) (series_next id bs n b l h)
      ∙ all_both (is_not_after t) (joined_in id (take n bs)) (samples_in id b) a (all_upto_last (samples_in id b) s t r (ap last_of (sym w) ∙ last_is ys ∙ sym g) u)

pub clear_fewer : (m n : ℕ) (bs : List Entries) (es : Entries) → m ≤ n → is_clear (take n bs) es ≡ true → is_clear (take m bs) es ≡ true
clear_fewer m n bs [] l h = refl
clear_fewer m n bs (e ∷ es) l h =
    let one = list_all (is_not_after e.1.time) (joined_in e.0 (take n bs)) in
    both (list_all (is_not_after e.1.time) (joined_in e.0 (take m bs))) (is_clear (take m bs) es) (all_fewer (is_not_after e.1.time) e.0 m n bs l (first_so one (is_clear (take n bs) es) h))
    (clear_fewer m n bs es l (second_so one (is_clear (take n bs) es) h))

clear_push : (bs : List Entries) (es : Entries) (e : ℕ × Sample) → is_clear bs es ≡ true → list_all (is_not_after e.1.time) (joined_in e.0 bs) ≡ true → is_clear bs (es ++ e ∷ []) ≡ true
clear_push bs [] e h k = both (list_all (is_not_after e.1.time) (joined_in e.0 bs)) true k refl
clear_push bs (f ∷ es) e h k =
    let one = list_all (is_not_after f.1.time) (joined_in f.0 bs) in
    both one (is_clear bs (es ++ e ∷ [])) (first_so one (is_clear bs es) h) (clear_push bs es e (second_so one (is_clear bs es) h) k)

module _ (bs : List Entries) (es : Entries) (k : ℕ) (e : ℕ × Sample) (l : k < length es) (h : e ≡ get_or es k e) where
  pub clear_tested : (m c n : ℕ) → n ≡ min m c → is_clear (take m bs) (take k es) ≡ true → list_all (is_not_after e.1.time) (joined_in e.0 (take c bs)) ≡ true → is_clear (take n bs) (take (suc k) es) ≡ true
  clear_tested m c n q g f =
      ap (is_clear (take n bs)) (take_next k es e e l h)
      ∙ clear_push (take n bs) (take k es) e (clear_fewer n m bs (take k es) (omega (arith, q)) g) (all_fewer (is_not_after e.1.time) e.0 n c bs (omega (arith, q)) f)

at_time : (i j : ℕ) (s t : ℤ) → i ≡ j → (nat_lt i j || (nat_eq i j && int_le s t)) ≡ true → int_le s t ≡ true
at_time i j s t e h = grind (arith, ints, nat_tests)

next_after : (a : ℕ × Sample) (es : Entries) (k : ℕ) (d : ℕ × Sample) → ascends_after a es ≡ true → suc k < length es → is_upto (get_or es k d) (get_or es (suc k) d) ≡ true
next_after a [] k d h l = absurd (omega arith)
next_after a (x ∷ []) k d h l = absurd (omega arith)
next_after a (x ∷ y ∷ es) zero d h l = first_so (is_upto x y) (ascends_after y es) (second_so (is_upto a x) (ascends_after x (y ∷ es)) h)
next_after a (x ∷ y ∷ es) (suc k) d h l = next_after x (y ∷ es) k d (second_so (is_upto a x) (ascends_after x (y ∷ es)) h) (omega arith)

next_upto : (es : Entries) (k : ℕ) (d : ℕ × Sample) → ascends es ≡ true → suc k < length es → is_upto (get_or es k d) (get_or es (suc k) d) ≡ true
next_upto [] k d h l = absurd (omega arith)
next_upto (x ∷ []) k d h l = absurd (omega arith)
next_upto (x ∷ y ∷ es) zero d h l = first_so (is_upto x y) (ascends_after y es) h
next_upto (x ∷ y ∷ es) (suc k) d h l = next_after x (y ∷ es) k d h (omega arith)

clear_one : (bs : List Entries) (es : Entries) (k : ℕ) (d : ℕ × Sample) → is_clear bs es ≡ true → k < length es → list_all (is_not_after (get_or es k d).1.time) (joined_in (get_or es k d).0 bs) ≡ true
clear_one bs [] k d h l = absurd (omega arith)
clear_one bs (e ∷ es) zero d h l = first_so (list_all (is_not_after e.1.time) (joined_in e.0 bs)) (is_clear bs es) h
clear_one bs (e ∷ es) (suc k) d h l = clear_one bs es k d (second_so (list_all (is_not_after e.1.time) (joined_in e.0 bs)) (is_clear bs es) h) (omega arith)

take_get : {X : Type 0} (m k : ℕ) (xs : List X) (d : X) → k < m → get_or (take m xs) k d ≡ get_or xs k d
take_get zero k xs d l = absurd (omega arith)
take_get (suc m) k [] d l = refl
take_get (suc m) zero (x ∷ xs) d l = refl
take_get (suc m) (suc k) (x ∷ xs) d l = take_get m k xs d (omega arith)

take_size : {X : Type 0} (m : ℕ) (xs : List X) → m ≤ length xs → length (take m xs) ≡ m
take_size zero xs l = refl
take_size (suc m) [] l = absurd (omega arith)
take_size (suc m) (x ∷ xs) l = ap suc (take_size m xs (omega arith))

-- an entry of the series of the one before it
pub clear_again : (bs : List Entries) (es : Entries) (k : ℕ) (e f : ℕ × Sample) → ascends es ≡ true → suc k < length es → e ≡ get_or es (suc k) e → f ≡ get_or es k e → f.0 ≡ e.0 →
    is_clear bs (take (suc k) es) ≡ true → is_clear bs (take (suc (suc k)) es) ≡ true
clear_again bs es k e f a l h g s c =
    let o : list_all (is_not_after f.1.time) (joined_in f.0 bs) ≡ true =
    subst (λ z. list_all (is_not_after z.1.time) (joined_in z.0 bs) ≡ true) (take_get (suc k) k es e (omega arith) ∙ sym g)
    (clear_one bs (take (suc k) es) k e c (let z = take_size (suc k) es (omega (arith, l)) in omega (arith, z))) in
    let u : is_upto f e ≡ true = ap (λ z. is_upto z e) g ∙ ap (is_upto (get_or es k e)) h ∙ next_upto es k e a l in
    let t : int_le f.1.time e.1.time ≡ true = at_time f.0 e.0 f.1.time e.1.time s u in
    let o' : list_all (is_not_after e.1.time) (joined_in e.0 bs) ≡ true = not_after_later f.1.time e.1.time t (joined_in e.0 bs) (subst (λ i. list_all (is_not_after f.1.time) (joined_in i bs) ≡ true) s o) in
    ap (is_clear bs) (take_next (suc k) es e e l h) ∙ clear_push bs (take (suc k) es) e c o'

-- ---- blocks that take in those before them

pub into_next : (bs : List Entries) (n : ℕ) (b top new es : Entries) → n < length bs → b ≡ get_or bs n [] → top ≡ merged_into (drop (suc n) bs) es → new ≡ merged b top → new ≡ merged_into (drop n bs) es
into_next bs n b top new es l h e q = q ∙ ap (merged b) e ∙ ap (λ x. merged x (merged_into (drop (suc n) bs) es)) h ∙ ap (λ x. merged_into x es) (sym (drop_at n bs [] l))

doubles_one : (ns : List ℕ) (m : ℕ) → doubles (m ∷ ns) ≡ true → doubles ns ≡ true
doubles_one [] m h = refl
doubles_one (n ∷ ns) m h = second_so (nat_le (2 * n) m) (doubles (n ∷ ns)) h

-- the front of numbers that double, and a further one
front_doubles : (ns : List ℕ) (k m : ℕ) → doubles ns ≡ true → k < length ns → 2 * m ≤ get_or ns k 0 → doubles (take (suc k) ns ++ m ∷ []) ≡ true
front_doubles [] k m h l d = absurd (omega arith)
front_doubles (n ∷ []) zero m h l d = both (nat_le (2 * m) n) true (grind (arith, nat_tests)) refl
front_doubles (n ∷ []) (suc k) m h l d = absurd (omega arith)
front_doubles (n ∷ o ∷ ns) zero m h l d = both (nat_le (2 * m) n) true (grind (arith, nat_tests)) refl
front_doubles (n ∷ o ∷ ns) (suc k) m h l d =
    both (nat_le (2 * o) n) (doubles (take (suc k) (o ∷ ns) ++ m ∷ [])) (first_so (nat_le (2 * o) n) (doubles (o ∷ ns)) h)
    (front_doubles (o ∷ ns) k m (second_so (nat_le (2 * o) n) (doubles (o ∷ ns)) h) (omega arith) d)

take_doubles : (ns : List ℕ) (k : ℕ) → doubles ns ≡ true → doubles (take k ns) ≡ true
take_doubles ns zero h = refl
take_doubles [] (suc k) h = refl
take_doubles (n ∷ []) (suc zero) h = refl
take_doubles (n ∷ []) (suc (suc k)) h = refl
take_doubles (n ∷ o ∷ ns) (suc zero) h = refl
take_doubles (n ∷ o ∷ ns) (suc (suc k)) h =
    both (nat_le (2 * o) n) (doubles (take (suc k) (o ∷ ns))) (first_so (nat_le (2 * o) n) (doubles (o ∷ ns)) h) (take_doubles (o ∷ ns) (suc k) (second_so (nat_le (2 * o) n) (doubles (o ∷ ns)) h))

map_append : {X Y : Type 0} (f : X → Y) (xs ys : List X) → map f (xs ++ ys) ≡ map f xs ++ map f ys
map_append f [] ys = refl
map_append f (x ∷ xs) ys = ap (λ l. f x ∷ l) (map_append f xs ys)

topped_doubles : (sizes : List ℕ) (count : ℕ) (top : Entries) → count ≤ length sizes → doubles sizes ≡ true → ((k : ℕ) → count ≡ suc k → 2 * length top ≤ get_or sizes k 0) → doubles (take count sizes ++ map length (topped top)) ≡ true
topped_doubles sizes count [] l h d = ap doubles (append_none (take count sizes)) ∙ take_doubles sizes count h
topped_doubles sizes zero (e ∷ es) l h d = refl
topped_doubles sizes (suc k) (e ∷ es) l h d = front_doubles sizes k (length (e ∷ es)) h (omega (arith, l)) (d k refl)

half : (m n : ℕ) → nat_lt (m / 2) n ≡ false → 2 * n ≤ m
half m n h = grind (arith, nat_tests)

pub stack_made : (bs : List Entries) (sizes : List ℕ) (old new : Order) (kept clear count : ℕ) (es top : Entries) (stack : List Entries) (numbers : List ℕ) → count ≤ length sizes → count ≤ length bs → top ≡ merged_into (drop count bs) es → doubles sizes ≡ true →
    takes_in sizes kept count top ≡ false → stack ≡ take count bs ++ topped top → numbers ≡ take count sizes ++ map length (topped top) → new ≡ order_on old clear count (length stack) → IsStacked bs sizes old kept clear es stack numbers new
stack_made bs sizes old new kept clear zero es top stack numbers l i e h t q m o = record {
  count = 0;
  within = omega arith;
  inside = i;
  same = q ∙ ap (λ x. take 0 bs ++ topped x) e;
  numbered = m ∙ ap (λ x. take 0 sizes ++ map length (topped x)) e;
  doubles = ap doubles m ∙ topped_doubles sizes 0 top l h (λ k z. absurd (omega (arith, z)));
  ordered = o;
}
stack_made bs sizes old new kept clear (suc k) es top stack numbers l i e h t q m o =
    let f : nat_lt kept (suc k) ≡ false = (neither (nat_lt kept (suc k)) (nat_lt (get_or sizes k 0 / 2) (length top)) t).0 in
    let g : nat_lt (get_or sizes k 0 / 2) (length top) ≡ false = (neither (nat_lt kept (suc k)) (nat_lt (get_or sizes k 0 / 2) (length top)) t).1 in
    record {
      count = suc k;
      within = grind (arith, nat_tests);
      inside = i;
      same = q ∙ ap (λ x. take (suc k) bs ++ topped x) e;
      numbered = m ∙ ap (λ x. take (suc k) sizes ++ map length (topped x)) e;
      doubles = ap doubles m ∙ topped_doubles sizes (suc k) top l h (λ j z. let i : j ≡ k = omega (arith, z) in subst (λ n. 2 * length top ≤ get_or sizes n 0) (sym i) (half (get_or sizes k 0) (length top) g));
      ordered = o;
    } where
      neither : (a b : Bool) → (a || b) ≡ false → (a ≡ false) × (b ≡ false)
      neither true b h = cc
      neither false b h = (refl, h)

-- ---- the same in the forms that the code has

pub block_is : {X : Type 0} (f : X → Entries) (xs : List X) (n : ℕ) (a : X) (b : Entries) → n < length xs → a ≡ get_or xs n a → b ≡ f a → b ≡ get_or (map f xs) n []
block_is f xs n a b l h e = e ∙ ap f h ∙ sym (map_at f xs n a [] l)

pub in_map : {X : Type 0} (f : X → Entries) (xs : List X) (n : ℕ) → n < length xs → n < length (map f xs)
in_map f xs n l = let e = map_length f xs in omega (arith, e, l)

pub push_map : {X : Type 0} (f : X → Entries) (xs old new : List X) (k : ℕ) (a x : X) → new ≡ old ++ a ∷ [] → map f old ≡ take k (map f xs) → f a ≡ f x → x ≡ get_or xs k x → k < length xs → map f new ≡ take (k + 1) (map f xs)
push_map f xs old new k a x p q e h l =
    let n : suc k ≡ k + 1 = omega arith in
    ap (map f) p ∙ map_append f old (a ∷ []) ∙ ap (λ y. map f old ++ y ∷ []) (e ∙ ap f h ∙ sym (map_at f xs k x [] l)) ∙ ap (λ y. y ++ get_or (map f xs) k [] ∷ []) q
    ∙ sym (take_next k (map f xs) (get_or (map f xs) k []) [] (in_map f xs k l) refl) ∙ ap (λ m. take m (map f xs)) n

pub takes_last : (sizes : List ℕ) (clear count : ℕ) (top : Entries) (v : Bool) → 0 < count → count ≤ clear → v ≡ nat_lt (get_or sizes (count - 1) 0 / 2) (length top) → v ≡ takes_in sizes clear count top
takes_last sizes clear zero top v l m e = absurd (omega arith)
takes_last sizes clear (suc k) top v l m e =
    let z : (suc k) - 1 ≡ k = omega arith in
    let f : nat_lt clear (suc k) ≡ false = grind (arith, nat_tests) in
    e ∙ ap (λ j. nat_lt (get_or sizes j 0 / 2) (length top)) z ∙ sym (ap (λ w. w || nat_lt (get_or sizes k 0 / 2) (length top)) f)

pub takes_none : (sizes : List ℕ) (clear count : ℕ) (top : Entries) → takes_in sizes clear count top ≡ true → 0 < count
takes_none sizes clear zero top h = cc
takes_none sizes clear (suc k) top h = omega arith

pub push_taken : (xs old new : List ℕ) (k x : ℕ) → new ≡ old ++ x ∷ [] → old ≡ take k xs → x ≡ get_or xs k x → k < length xs → new ≡ take (k + 1) xs
push_taken xs old new k x p q h l =
    let n : suc k ≡ k + 1 = omega arith in
    p ∙ ap (λ y. y ++ x ∷ []) q ∙ sym (take_next k xs x x l h) ∙ ap (λ m. take m xs) n

pub down : (k : ℕ) → 0 < k → k ≡ suc (k - 1)
down k l = omega (arith, l)

next_place : (bs : List Entries) (n k : ℕ) (es : Entries) → is_clear (take n bs) (take (suc k) es) ≡ true → is_clear (take n bs) (take (k + 1) es) ≡ true
next_place bs n k es h = let z : k + 1 ≡ suc k = omega arith in ap (λ m. is_clear (take n bs) (take m es)) z ∙ h

pub clear_by_test : (bs : List Entries) (es : Entries) (k : ℕ) (e : ℕ × Sample) (m c n : ℕ) (t : ℤ) → k < length es → e ≡ get_or es k e → n ≡ min m c → t ≡ e.1.time → is_clear (take m bs) (take k es) ≡ true →
    list_all (is_not_after t) (joined_in e.0 (take c bs)) ≡ true → is_clear (take n bs) (take (k + 1) es) ≡ true
clear_by_test bs es k e m c n t l h q p g f =
    next_place bs n k es (clear_tested bs es k e l h m c n q g (ap (λ u. list_all (is_not_after u) (joined_in e.0 (take c bs))) (sym p) ∙ f))

pub clear_by_last : (bs : List Entries) (es : Entries) (k n : ℕ) → ascends es ≡ true → k < length es → ((e : ℕ × Sample) → (0 < k) × ((get_or es (k - 1) e).0 ≡ (get_or es k e).0)) → is_clear (take n bs) (take k es) ≡ true → is_clear (take n bs) (take (k + 1) es) ≡ true
clear_by_last bs es zero n a l h g = let z : 0 < 0 = (h (get_or es 0 (0, record { time = suc_none; value = suc_none }))).0 in absurd (omega (arith, z)) where
  suc_none : ℤ
  suc_none = pos 0
clear_by_last bs es (suc k) n a l h g =
    let d : ℕ × Sample = (0, record { time = pos 0; value = pos 0 }) in
    let z : (suc k) - 1 ≡ k = omega arith in
    let e = get_or es (suc k) d in
    let f = get_or es k d in
    next_place bs n (suc k) es (clear_again (take n bs) es k e f a l (get_own (suc k) es d l) (get_other k es d e (omega (arith, l))) (ap (λ j. (get_or es j d).0) (sym z) ∙ (h d).1) g) where
      get_own : (j : ℕ) (xs : Entries) (d : ℕ × Sample) → j < length xs → get_or xs j d ≡ get_or xs j (get_or xs j d)
      get_own j [] d l = absurd (omega arith)
      get_own zero (x ∷ xs) d l = refl
      get_own (suc j) (x ∷ xs) d l = get_own j xs d (omega arith)

      get_other : (j : ℕ) (xs : Entries) (d e : ℕ × Sample) → j < length xs → get_or xs j d ≡ get_or xs j e
      get_other j [] d e l = absurd (omega arith)
      get_other zero (x ∷ xs) d e l = refl
      get_other (suc j) (x ∷ xs) d e l = get_other j xs d e (omega arith)

pub last_same : (id : ℕ) (bs : List Entries) (m n : ℕ) (a u : ℤ) (o : Option Sample) → m ≡ suc n → last_of (window_of (joined_in id (take (suc n) bs)) a u) ≡ o → last_of (window_of (joined_in id (take m bs)) a u) ≡ o
last_same id bs m n a u o e h = ap (λ k. last_of (window_of (joined_in id (take k bs)) a u)) e ∙ h

pub same_window : (xs : List Sample) (a u b v : ℤ) → a ≡ b → u ≡ v → last_of (window_of xs a u) ≡ last_of (window_of xs b v)
same_window xs a u b v p q = λ i. last_of (window_of xs (p i) (q i))

-- a window over a first block and those behind it
pub first_window : (id : ℕ) (a u : ℤ) (b : Entries) (bs : List Entries) (ws : List Sample) → ws ≡ window_of (samples_in id b) a u → ws ++ window_of (joined_in id bs) a u ≡ window_of (joined_in id (b ∷ bs)) a u
first_window id a u b bs ws e = ap (λ x. x ++ window_of (joined_in id bs) a u) e ∙ sym (filter_append (is_within a u) (samples_in id b) (joined_in id bs))

pub first_rises : (id : ℕ) (b : Entries) (bs : List Entries) → rises (joined_in id (b ∷ bs)) ≡ true → rises (samples_in id b) ≡ true
first_rises id b bs r = rises_front (samples_in id b) (joined_in id bs) r

pub behind_rises : (id : ℕ) (b : Entries) (bs : List Entries) → rises (joined_in id (b ∷ bs)) ≡ true → rises (joined_in id bs) ≡ true
behind_rises id b bs r = rises_back (samples_in id b) (joined_in id bs) r

module _ {X : Type 0} (f : X → Entries) (id : ℕ) (more behind : List X) (x : X) (b : Entries) (m : more ≡ x ∷ behind) (e : b ≡ f x) where
  pub walk_on : (a u : ℤ) (rest ws target : List Sample) → rest ≡ [] → ws ≡ window_of (samples_in id b) a u → rest ++ window_of (joined_in id (map f more)) a u ≡ target → ws ++ window_of (joined_in id (map f behind)) a u ≡ target
  walk_on a u rest ws target n w t =
      first_window id a u b (map f behind) ws w ∙ ap (λ y. window_of (joined_in id (y ∷ map f behind)) a u) e ∙ ap (λ l. window_of (joined_in id (map f l)) a u) (sym m)
      ∙ ap (λ l. l ++ window_of (joined_in id (map f more)) a u) (sym n) ∙ t

  rises_all : rises (joined_in id (map f more)) ≡ true → rises (joined_in id (b ∷ map f behind)) ≡ true
  rises_all r = ap (λ y. rises (joined_in id (y ∷ map f behind))) e ∙ ap (λ l. rises (joined_in id (map f l))) (sym m) ∙ r

  pub walk_first : rises (joined_in id (map f more)) ≡ true → rises (samples_in id b) ≡ true
  walk_first r = first_rises id b (map f behind) (rises_all r)

  pub walk_behind : rises (joined_in id (map f more)) ≡ true → rises (joined_in id (map f behind)) ≡ true
  walk_behind r = behind_rises id b (map f behind) (rises_all r)

pub none_left : (xs : List Sample) → length xs ≡ 0 → xs ≡ []
none_left [] h = refl
none_left (x ∷ xs) h = absurd (omega (arith, h))

-- ---- each block cut

pub push_cut : {X : Type 0} (f : X → Entries) (g : Entries → Entries) (xs old new : List X) (k : ℕ) (a x : X) → new ≡ old ++ a ∷ [] → map f old ≡ take k (map g (map f xs)) → f a ≡ g (f x) → x ≡ get_or xs k x → k < length xs → map f new ≡ take (k + 1) (map g (map f xs))
push_cut f g xs old new k a x p q e h l =
    let n : suc k ≡ k + 1 = omega arith in
    let m : k < length (map g (map f xs)) = let z = map_length g (map f xs) in let w = map_length f xs in omega (arith, z, w, l) in
    let w : k < length (map f xs) = in_map f xs k l in
    ap (map f) p ∙ map_append f old (a ∷ []) ∙ ap (λ y. y ++ f a ∷ []) q
    ∙ sym (take_next k (map g (map f xs)) (f a) [] m (e ∙ ap g (ap f h ∙ sym (map_at f xs k x [] l)) ∙ sym (map_at g (map f xs) k [] [] w))) ∙ ap (λ i. take i (map g (map f xs))) n
