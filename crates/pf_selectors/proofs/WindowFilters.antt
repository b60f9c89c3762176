-- Lists of whole numbers in order, and those of them that pass a test.
use Rattle.std.proofs.Common.{◌≡◌, ◌<◌, ◌⊎◌, inl, inr, ℕ, zero, suc, ℤ, pos, ◌≤ℤ◌, ◌<ℤ◌, Bool, true, false, cond, ◌||◌, List, [], ◌∷◌, ◌++◌, length, refl, sym, ap, ◌∙◌, arith}
use Rattle.std.specs.Prelude.{int_lt, slice_index_or}
use Rattle.std.specs.List.{filter}
use Rattle.std.proofs.lemmas.Int.{ints}
use Rattle.pf_columns.proofs.Below.{first_below}
use Rattle.pf_model.specs.Lists.{Each}
use Rattle.pf_model.specs.Merging.{below}

-- ---- tests

pub int_cases : (a b : ℤ) → (a <ℤ b) ⊎ (b ≤ℤ a)
int_cases a b = by (int_lt a b) refl where
  by : (c : Bool) → int_lt a b ≡ c → (a <ℤ b) ⊎ (b ≤ℤ a)
  by true h = inl (grind (arith, ints))
  by false h = inr (grind (arith, ints))

pub or_left : (b c : Bool) → b ≡ true → (b || c) ≡ true
or_left b c h = ap (λ x. x || c) h

pub or_right : (b c : Bool) → c ≡ true → (b || c) ≡ true
or_right true c h = refl
or_right false c h = h

pub or_cases : (b c : Bool) → (b || c) ≡ true → (b ≡ true) ⊎ (c ≡ true)
or_cases true c h = inl refl
or_cases false c h = inr h

pub same_truth : (b c : Bool) → (b ≡ true → c ≡ true) → (c ≡ true → b ≡ true) → b ≡ c
same_truth true c f g = sym (f refl)
same_truth false true f g = g refl
same_truth false false f g = refl

module _ {X : Type 0} (p q : X → Bool) where
  -- a test that asks for more
  pub filter_within : ((x : X) → p x ≡ true → q x ≡ true) → (xs : List X) → filter p (filter q xs) ≡ filter p xs
  filter_within f [] = refl
  filter_within f (x ∷ xs) = by (p x) (q x) refl refl (filter_within f xs) where
    by : (b c : Bool) → p x ≡ b → q x ≡ c → filter p (filter q xs) ≡ filter p xs → filter p (cond c (x ∷ filter q xs) (filter q xs)) ≡ cond b (x ∷ filter p xs) (filter p xs)
    by b true h k r = (λ i. cond (h i) (x ∷ r i) (r i))
    by true false h k r = let no : true ≡ false = sym (f x h) ∙ k in cc
    by false false h k r = r

  -- a test that those that are left pass
  pub filter_passing : ((x : X) → q x ≡ true → p x ≡ true) → (xs : List X) → filter p (filter q xs) ≡ filter q xs
  filter_passing f [] = refl
  filter_passing f (x ∷ xs) = by (q x) refl (filter_passing f xs) where
    by : (c : Bool) → q x ≡ c → filter p (filter q xs) ≡ filter q xs → filter p (cond c (x ∷ filter q xs) (filter q xs)) ≡ cond c (x ∷ filter q xs) (filter q xs)
    by true k r = (λ i. cond (f x k i) (x ∷ r i) (r i))
    by false k r = r

-- ---- order

pub each_weaker : {X : Type 0} (P Q : X → Type 0) → ((x : X) → P x → Q x) → (xs : List X) → Each P xs → Each Q xs
each_weaker P Q f [] a = tt
each_weaker P Q f (x ∷ xs) a = (f x a.0, each_weaker P Q f xs a.1)

pub each_filter : {X : Type 0} (P : X → Type 0) (p : X → Bool) (xs : List X) → Each P xs → Each P (filter p xs)
each_filter P p [] a = tt
each_filter P p (x ∷ xs) a = by (p x) (each_filter P p xs a.1) where
  by : (b : Bool) → Each P (filter p xs) → Each P (cond b (x ∷ filter p xs) (filter p xs))
  by true r = (a.0, r)
  by false r = r

pub each_passes : {X : Type 0} (p : X → Bool) (xs : List X) → Each (λ x. p x ≡ true) (filter p xs)
each_passes p [] = tt
each_passes p (x ∷ xs) = by (p x) refl (each_passes p xs) where
  by : (b : Bool) → p x ≡ b → Each (λ y. p y ≡ true) (filter p xs) → Each (λ y. p y ≡ true) (cond b (x ∷ filter p xs) (filter p xs))
  by true h r = (h, r)
  by false h r = r

pub each_at : (P : ℤ → Type 0) (us : List ℤ) (k : ℕ) → Each P us → k < length us → P (slice_index_or us k (pos 0))
each_at P [] k a h = absurd (omega (arith, h))
each_at P (u ∷ us) zero a h = a.0
each_at P (u ∷ us) (suc k) a h = each_at P us k a.1 (omega (arith, h))

-- each number is below those behind it
abbrev pub Rises : List ℤ → Type 0
Rises [] = Unit {0}
Rises (u ∷ us) = Each (λ v. u <ℤ v) us × Rises us

pub rises_filter : (p : ℤ → Bool) (us : List ℤ) → Rises us → Rises (filter p us)
rises_filter p [] r = tt
rises_filter p (u ∷ us) r = by (p u) (rises_filter p us r.1) where
  by : (b : Bool) → Rises (filter p us) → Rises (cond b (u ∷ filter p us) (filter p us))
  by true s = (each_filter (λ v. u <ℤ v) p us r.0, s)
  by false s = s

pub rises_at : (us : List ℤ) (k : ℕ) → Rises us → suc k < length us → slice_index_or us k (pos 0) <ℤ slice_index_or us (suc k) (pos 0)
rises_at [] k r h = absurd (omega (arith, h))
rises_at (u ∷ []) k r h = absurd (omega (arith, h))
rises_at (u ∷ v ∷ vs) zero r h = r.0.0
rises_at (u ∷ v ∷ vs) (suc k) r h = rises_at (v ∷ vs) k r.1 (omega (arith, h))

none_up : (e : ℤ) (p : ℤ → Bool) → ((u : ℤ) → p u ≡ true → u ≤ℤ e) → (us : List ℤ) → Each (λ u. e <ℤ u) us → filter p us ≡ []
none_up e p f [] a = refl
none_up e p f (u ∷ us) a = by (p u) refl (none_up e p f us a.1) where
  by : (b : Bool) → p u ≡ b → filter p us ≡ [] → cond b (u ∷ filter p us) (filter p us) ≡ []
  by true h r = let l = f u h in let g = a.0 in absurd (omega (arith, ints, l, g))
  by false h r = r

-- those that pass one test, and behind them those that pass the other
pub filter_both : (e : ℤ) (p q : ℤ → Bool) → ((u : ℤ) → p u ≡ true → u ≤ℤ e) → ((u : ℤ) → q u ≡ true → e <ℤ u) → (us : List ℤ) → Rises us
    → filter p us ++ filter q us ≡ filter (λ u. p u || q u) us
filter_both e p q f g [] r = refl
filter_both e p q f g (u ∷ us) r = by (p u) (q u) refl refl (filter_both e p q f g us r.1) where
  by : (b c : Bool) → p u ≡ b → q u ≡ c → filter p us ++ filter q us ≡ filter (λ v. p v || q v) us
      → cond b (u ∷ filter p us) (filter p us) ++ cond c (u ∷ filter q us) (filter q us) ≡ cond (b || c) (u ∷ filter (λ v. p v || q v) us) (filter (λ v. p v || q v) us)
  by true true h k s = let l = f u h in let m = g u k in absurd (omega (arith, ints, l, m))
  by true false h k s = ap (λ vs. u ∷ vs) s
  by false true h k s =
      let m = g u k in
      let none : filter p us ≡ [] = none_up e p f us (each_weaker (λ v. u <ℤ v) (λ v. e <ℤ v) (λ v l. omega (arith, ints, l, m)) us r.0) in
      ap (λ vs. vs ++ (u ∷ filter q us)) none ∙ ap (λ vs. u ∷ vs) (sym (ap (λ vs. vs ++ filter q us) none) ∙ s)
  by false false h k s = s

-- a list is known by its places
pub list_below : (h : ℕ → ℤ) (us : List ℤ) → ((k : ℕ) → k < length us → h k ≡ slice_index_or us k (pos 0)) → below h (length us) ≡ us
list_below h [] e = refl
list_below h (u ∷ us) e =
    first_below h (length us) ∙ λ i. e 0 (omega arith) i ∷ list_below (λ k. h (suc k)) us (λ k l. e (suc k) (omega (arith, l))) i
