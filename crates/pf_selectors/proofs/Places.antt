-- Places among samples by rising time.
use Rattle.std.proofs.Common.{◌≡◌, ℕ, zero, suc, ◌-◌, ◌<◌, ◌≤◌, ℤ, Bool, true, false, cond, ◌&&◌, Option, Some, None, List, [], ◌∷◌, length, take, drop, get_or, refl, sym, ap, ◌∙◌, subst, arith}
use Rattle.std.specs.Prelude.{int_le, int_lt, ◌≤ℤ◌, ◌<ℤ◌}
use Rattle.std.specs.List.{filter, list_all}
use Rattle.std.specs.Cmp.{first_so}
use Rattle.std.proofs.lemmas.Int.{ints}
use Rattle.pf_base.specs.declared.plain.Sample.{Sample}
use Rattle.pf_block.specs.Samples.{is_within, last_of, rises, rises_after, until, window_of}
use Rattle.pf_block.proofs.Searches.{above, filters, front, rises_behind, window_rises}

-- ---- tests of times

le_is : (a b : ℤ) → a ≤ℤ b → int_le a b ≡ true
le_is a b h = grind (arith, ints)

not_le : (a b : ℤ) → a <ℤ b → int_le b a ≡ false
not_le a b h = grind (arith, ints)

lt_le : (a b c : ℤ) → int_lt a b ≡ true → b ≤ℤ c → int_le a c ≡ true
lt_le a b c p q = grind (arith, ints)

lt_trans : (a b c : ℤ) → int_lt a b ≡ true → int_lt b c ≡ true → int_lt a c ≡ true
lt_trans a b c p q = grind (arith, ints)

later : (a b c : ℤ) → int_le b a ≡ false → int_lt b c ≡ true → int_le c a ≡ false
later a b c p q = grind (arith, ints)

not_after : (a b : ℤ) → int_le b a ≡ true → int_lt a b ≡ false
not_after a b p = grind (arith, ints)

is_after : (a b : ℤ) → int_le b a ≡ false → int_lt a b ≡ true
is_after a b p = grind (arith, ints)

le_trans : (a b c : ℤ) → int_le a b ≡ true → b ≤ℤ c → int_le a c ≡ true
le_trans a b c p q = grind (arith, ints)

-- ---- how many are not after a time

pub until_fits : (t : ℤ) (xs : List Sample) → until t xs ≤ length xs
until_fits t [] = omega arith
until_fits t (x ∷ xs) =
    let h = until_fits t xs in
    elim (int_le x.time t) as (λ b. cond b (suc (until t xs)) 0 ≤ suc (length xs)) [ true ↦ omega (arith, h) | false ↦ omega arith ]

pub early : (t : ℤ) (xs : List Sample) (i : ℕ) (d : Sample) → rises xs ≡ true → i < length xs → (get_or xs i d).time ≤ℤ t → i < until t xs
early t [] i d r l h = absurd (omega (arith, l))
early t (x ∷ xs) zero d r l h = subst (λ b. 0 < cond b (suc (until t xs)) 0) (sym (le_is x.time t h)) (omega arith)
early t (x ∷ xs) (suc i) d r l h =
    let m : i < length xs = omega (arith, l) in
    let w = early t xs i d (rises_behind x.time xs r) m h in
    subst (λ b. suc i < cond b (suc (until t xs)) 0) (sym (lt_le x.time (get_or xs i d).time t (above x.time xs i d r m) h)) (omega (arith, w))

pub late : (t : ℤ) (xs : List Sample) (i : ℕ) (d : Sample) → rises xs ≡ true → i < length xs → t <ℤ (get_or xs i d).time → until t xs ≤ i
late t [] i d r l h = omega arith
late t (x ∷ xs) zero d r l h = subst (λ b. cond b (suc (until t xs)) 0 ≤ 0) (sym (not_le t x.time h)) (omega arith)
late t (x ∷ xs) (suc i) d r l h =
    let w = late t xs i d (rises_behind x.time xs r) (omega (arith, l)) h in
    elim (int_le x.time t) as (λ b. cond b (suc (until t xs)) 0 ≤ suc i) [ true ↦ omega (arith, w) | false ↦ omega arith ]

pub until_rises : (a u : ℤ) (xs : List Sample) → a ≤ℤ u → until a xs ≤ until u xs
until_rises a u [] h = omega arith
until_rises a u (x ∷ xs) h = by (int_le x.time a) refl (until_rises a u xs h) where
  by : (b : Bool) → int_le x.time a ≡ b → until a xs ≤ until u xs → cond b (suc (until a xs)) 0 ≤ until u (x ∷ xs)
  by true e w = subst (λ c. suc (until a xs) ≤ cond c (suc (until u xs)) 0) (sym (le_trans x.time a u e h)) (omega (arith, w))
  by false e w = omega arith

pub early_at : (t : ℤ) (xs : List Sample) (i : ℕ) (s : Sample) → rises xs ≡ true → i < length xs → s ≡ get_or xs i s → s.time ≤ℤ t → i < until t xs
early_at t xs i s r l e h = early t xs i s r l (subst (λ (q : Sample). q.time ≤ℤ t) e h)

pub late_at : (t : ℤ) (xs : List Sample) (i : ℕ) (s : Sample) → rises xs ≡ true → i < length xs → s ≡ get_or xs i s → t <ℤ s.time → until t xs ≤ i
late_at t xs i s r l e h = late t xs i s r l (subst (λ (q : Sample). t <ℤ q.time) e h)

-- ---- a window as a part of them

none_until : (a b : ℤ) (xs : List Sample) → int_le b a ≡ false → rises_after b xs ≡ true → until a xs ≡ 0
none_until a b [] h r = refl
none_until a b (x ∷ xs) h r = ap (λ c. cond c (suc (until a xs)) 0) (later a b x.time h (first_so (int_lt b x.time) (rises_after x.time xs) r))

slice_by : (a u : ℤ) (x : Sample) (xs : List Sample) (b c : Bool) → int_le x.time a ≡ b → int_le x.time u ≡ c → a ≤ℤ u → rises_after x.time xs ≡ true
    → take (until u xs - until a xs) (drop (until a xs) xs) ≡ window_of xs a u
    → take (cond c (suc (until u xs)) 0 - cond b (suc (until a xs)) 0) (drop (cond b (suc (until a xs)) 0) (x ∷ xs)) ≡ window_of (x ∷ xs) a u
slice_by a u x xs true true e f o r h =
    let less : suc (until u xs) - suc (until a xs) ≡ until u xs - until a xs = omega arith in
    ap (λ n. take n (drop (until a xs) xs)) less ∙ h
    ∙ sym (ap (λ d. cond (d && int_le x.time u) (x ∷ window_of xs a u) (window_of xs a u)) (not_after a x.time e))
slice_by a u x xs true false e f o r h = let no : true ≡ false = sym (le_trans x.time a u e o) ∙ f in cc
slice_by a u x xs false true e f o r h =
    let none = none_until a x.time xs e r in
    let all : until u xs ≡ until u xs - 0 = omega arith in
    let rest : take (until u xs) xs ≡ window_of xs a u = ap (λ n. take n xs) all ∙ ap (λ n. take (until u xs - n) (drop n xs)) (sym none) ∙ h in
    let more : suc (until u xs) - 0 ≡ suc (until u xs) = omega arith in
    ap (λ n. take n (x ∷ xs)) more ∙ ap (λ ys. x ∷ ys) rest
    ∙ sym (λ i. cond (is_after a x.time e i && f i) (x ∷ window_of xs a u) (window_of xs a u))
slice_by a u x xs false false e f o r h =
    let none = none_until u x.time xs f r in
    let zero_left : until u xs - until a xs ≡ 0 = omega (arith, none) in
    let rest : [] ≡ window_of xs a u = sym (ap (λ n. take n (drop (until a xs) xs)) zero_left) ∙ h in
    let same : 0 - 0 ≡ 0 = omega arith in
    ap (λ n. take n (x ∷ xs)) same ∙ rest ∙ sym (λ i. cond (is_after a x.time e i && f i) (x ∷ window_of xs a u) (window_of xs a u))

slice : (a u : ℤ) (xs : List Sample) → a ≤ℤ u → rises xs ≡ true → take (until u xs - until a xs) (drop (until a xs) xs) ≡ window_of xs a u
slice a u [] o r = refl
slice a u (x ∷ xs) o r = slice_by a u x xs (int_le x.time a) (int_le x.time u) refl refl o r (slice a u xs o (rises_behind x.time xs r))

pub slice_is : (a u : ℤ) (xs : List Sample) (n m : ℕ) → a ≤ℤ u → rises xs ≡ true → n ≡ until a xs → m ≡ until u xs → take (m - n) (drop n xs) ≡ window_of xs a u
slice_is a u xs n m o r p q = (λ i. take (q i - p i) (drop (p i) xs)) ∙ slice a u xs o r

all_within_by : (a u : ℤ) (x : Sample) (ys : List Sample) (b : Bool) → is_within a u x ≡ b → list_all (is_within a u) ys ≡ true → list_all (is_within a u) (cond b (x ∷ ys) ys) ≡ true
all_within_by a u x ys true e h = λ i. e i && h i
all_within_by a u x ys false e h = h

all_within : (a u : ℤ) (xs : List Sample) → list_all (is_within a u) (window_of xs a u) ≡ true
all_within a u [] = refl
all_within a u (x ∷ xs) = all_within_by a u x (window_of xs a u) (is_within a u x) refl (all_within a u xs)

pub within_is : (a u : ℤ) (xs ys : List Sample) → ys ≡ window_of xs a u → list_all (is_within a u) ys ≡ true
within_is a u xs ys e = ap (list_all (is_within a u)) e ∙ all_within a u xs

pub slice_rises : (a u : ℤ) (xs ys : List Sample) → rises xs ≡ true → ys ≡ window_of xs a u → rises ys ≡ true
slice_rises a u xs ys r e = ap rises e ∙ window_rises a u xs r

-- ---- the last one after a time

last_by : (a : ℤ) (x y : Sample) (ys : List Sample) (b c : Bool) → int_lt a x.time ≡ b → int_lt a y.time ≡ c → int_lt x.time y.time ≡ true
    → last_of (cond b (x ∷ cond c (y ∷ ys) ys) (cond c (y ∷ ys) ys)) ≡ last_of (cond c (y ∷ ys) ys)
last_by a x y ys true true e f l = refl
last_by a x y ys true false e f l = let no : true ≡ false = sym (lt_trans a x.time y.time e l) ∙ f in cc
last_by a x y ys false c e f l = refl

last_after : (a : ℤ) (xs : List Sample) (n : ℕ) (d : Sample) → rises xs ≡ true → n < length xs
    → last_of (filter (λ s. int_lt a s.time) (take (suc n) xs)) ≡ cond (int_lt a (get_or xs n d).time) (Some (get_or xs n d)) None
last_after a [] n d r l = absurd (omega (arith, l))
last_after a (x ∷ xs) zero d r l =
    elim (int_lt a x.time) as (λ b. last_of (cond b (x ∷ []) []) ≡ cond b (Some x) None) [ true ↦ refl | false ↦ refl ]
last_after a (x ∷ []) (suc n) d r l = absurd (omega (arith, l))
last_after a (x ∷ y ∷ ys) (suc n) d r l =
    last_by a x y (filter (λ s. int_lt a s.time) (take n ys)) (int_lt a x.time) (int_lt a y.time) refl refl (first_so (int_lt x.time y.time) (rises_after y.time ys) r)
    ∙ last_after a (y ∷ ys) n d (rises_behind x.time (y ∷ ys) r) (omega (arith, l))

pub newest_by : (a : ℤ) (xs : List Sample) (n : ℕ) (s : Sample) (b : Bool) → rises xs ≡ true → 0 < n → n ≤ length xs → s ≡ get_or xs (n - 1) s → int_lt a s.time ≡ b
    → cond b (Some s) None ≡ last_of (filter (λ s. int_lt a s.time) (take n xs))
newest_by a xs zero s b r p l e f = absurd (omega (arith, p))
newest_by a xs (suc n) s b r p l e f =
    let one : suc n - 1 ≡ n = omega arith in
    let is : s ≡ get_or xs n s = e ∙ ap (λ k. get_or xs k s) one in
    (λ i. cond (sym f i) (Some s) None) ∙ ap (λ (q : Sample). cond (int_lt a q.time) (Some q) None) is ∙ sym (last_after a xs n s r (omega (arith, l)))

pub after_is : (a b : ℤ) → a <ℤ b → int_lt a b ≡ true
after_is a b h = grind (arith, ints)

pub not_after_is : (a b : ℤ) → b ≤ℤ a → int_lt a b ≡ false
not_after_is a b h = grind (arith, ints)

-- the last one in a window
pub last_in : (a u : ℤ) (xs : List Sample) (n : ℕ) (o : Option Sample) → rises xs ≡ true → n ≡ until u xs → o ≡ last_of (filter (λ s. int_lt a s.time) (take n xs)) → o ≡ last_of (window_of xs a u)
last_in a u xs n o r e p =
    p ∙ ap (λ k. last_of (filter (λ s. int_lt a s.time) (take k xs))) e
    ∙ ap (λ ys. last_of (filter (λ s. int_lt a s.time) ys)) (front u xs r)
    ∙ ap last_of (filters a u xs)

pub last_in_at : (xs : List Sample) (n : ℕ) (o : Option Sample) (a b u : ℤ) → rises xs ≡ true → n ≡ until u xs → o ≡ last_of (filter (λ s. int_lt a s.time) (take n xs)) → a ≡ b → o ≡ last_of (window_of xs b u)
last_in_at xs n o a b u r e p q = last_in b u xs n o r e (p ∙ ap (λ c. last_of (filter (λ s. int_lt c s.time) (take n xs))) q)

-- ---- a window within a window

narrower_by : (a b u v : ℤ) (x : Sample) (ws vs : List Sample) (p q r s : Bool) → int_lt a x.time ≡ p → int_le x.time u ≡ q → int_lt b x.time ≡ r → int_le x.time v ≡ s
    → int_le a b ≡ true → int_le v u ≡ true → window_of ws b v ≡ vs
    → window_of (cond (p && q) (x ∷ ws) ws) b v ≡ cond (r && s) (x ∷ vs) vs
narrower_by a b u v x ws vs true true r s e f g h l m w = (λ i. cond (g i && h i) (x ∷ w i) (w i))
narrower_by a b u v x ws vs p q false s e f g h l m w = inner (p && q) where
  inner : (c : Bool) → window_of (cond c (x ∷ ws) ws) b v ≡ vs
  inner true = ap (λ d. cond (d && int_le x.time v) (x ∷ window_of ws b v) (window_of ws b v)) g ∙ w
  inner false = w
narrower_by a b u v x ws vs false q true s e f g h l m w =
    let no : true ≡ false = sym (lowered a b x.time l g) ∙ e in cc where
      lowered : (a b x : ℤ) → int_le a b ≡ true → int_lt b x ≡ true → int_lt a x ≡ true
      lowered a b x i j = grind (arith, ints)
narrower_by a b u v x ws vs true false true true e f g h l m w =
    let no : true ≡ false = sym (raised x.time v u h m) ∙ f in cc where
      raised : (a b c : ℤ) → int_le a b ≡ true → int_le b c ≡ true → int_le a c ≡ true
      raised a b c i j = grind (arith, ints)
narrower_by a b u v x ws vs true false true false e f g h l m w = w

pub narrower : (a b u v : ℤ) (xs : List Sample) → int_le a b ≡ true → int_le v u ≡ true → window_of (window_of xs a u) b v ≡ window_of xs b v
narrower a b u v [] l m = refl
narrower a b u v (x ∷ xs) l m =
    narrower_by a b u v x (window_of xs a u) (window_of xs b v) (int_lt a x.time) (int_le x.time u) (int_lt b x.time) (int_le x.time v) refl refl refl refl l m
    (narrower a b u v xs l m)
