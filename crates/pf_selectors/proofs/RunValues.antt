-- The values of a run, step by step, from the samples that were read for all of it.
use Rattle.std.proofs.Common.{◌≡◌, ◌<◌, ◌≤◌, ◌+◌, ◌⊎◌, inl, inr, ℕ, zero, suc, ℤ, pos, ◌-ℤ◌, ◌≤ℤ◌, true, cond, is_some, Option, Some, None, option_map, List, [], ◌∷◌, ◌++◌, length, refl, sym, ap, ◌∙◌, add-one, arith}
use Rattle.std.specs.Prelude.{int_le, slice_index_or, slice_set}
use Rattle.std.proofs.lemmas.Int.{ints}
use Rattle.pf_base.specs.Limits.{lookback}
use Rattle.pf_base.specs.declared.plain.Sample.{Sample}
use Rattle.pf_block.specs.Samples.{last_of, last_onto, until, window_of}
use Rattle.pf_model.specs.declared.functions.RangeFn.{RangeFn}
use Rattle.pf_model.specs.Merging.{below}
use Rattle.pf_model.specs.RangeFunctions.{range_function}
use Rattle.pf_selectors.specs.SeriesColumns.{read_at, unless_some, value_read, values_over, values_read, window_at}
use Rattle.pf_selectors.specs.Times.{time_at}
use Rattle.pf_selectors.specs.declared.instant.Reading.{Reading}
use Rattle.pf_selectors.specs.declared.times.Times.{Times}
use Rattle.pf_selectors.proofs.Places.{narrower, until_rises}

pub below_more : {X : Type 0} (f : ℕ → X) (n : ℕ) → below f n ++ (f n ∷ []) ≡ below f (n + 1)
below_more f n = ap (below f) (sym (add-one n))

pub below_alike : {X : Type 0} (f g : ℕ → X) (n : ℕ) → ((k : ℕ) → k < n → f k ≡ g k) → below f n ≡ below g n
below_alike f g zero h = refl
below_alike f g (suc n) h = λ i. below_alike f g n (λ k l. h k (omega (arith, l))) i ++ (h n (omega arith) i ∷ [])

-- ---- what was read for a whole run is enough for each step

moved_back : (a b d : ℤ) → int_le a b ≡ true → int_le (a -ℤ d) (b -ℤ d) ≡ true
moved_back a b d h = grind (arith, ints)

module _ (times : Times) (xs ys : List Sample) (lo hi a u : ℤ) (is : ys ≡ window_of xs a u) (e : u ≡ hi)
    (low : (k : ℕ) → k < times.len → int_le lo (time_at times k) ≡ true) (high : (k : ℕ) → k < times.len → int_le (time_at times k) hi ≡ true) where
  part : (d : ℤ) → a ≡ lo -ℤ d → (k : ℕ) → k < times.len → window_of ys (time_at times k -ℤ d) (time_at times k) ≡ window_of xs (time_at times k -ℤ d) (time_at times k)
  part d f k h =
      let t = time_at times k in
      ap (λ zs. window_of zs (t -ℤ d) t) (is ∙ λ i. window_of xs (f i) (e i))
      ∙ narrower (lo -ℤ d) (t -ℤ d) hi t xs (moved_back lo t d (low k h)) (high k h)

  pub read_alike : (r : Reading) → a ≡ lo -ℤ pos lookback → values_read r ys times ≡ values_read r xs times
  read_alike r f =
      below_alike (λ k. option_map (value_read r) (read_at ys (time_at times k))) (λ k. option_map (value_read r) (read_at xs (time_at times k))) times.len
      (λ k h. ap (λ ws. option_map (value_read r) (last_of ws)) (part (pos lookback) f k h))

  pub windows_alike : (range : ℕ) → a ≡ lo -ℤ pos range → (k : ℕ) → k < times.len → window_at range ys times k ≡ window_at range xs times k
  windows_alike range f k h = part (pos range) f k h

pub over_alike : (f : RangeFn) (range : ℕ) (times : Times) (xs ys : List Sample) → ((k : ℕ) → k < times.len → window_at range ys times k ≡ window_at range xs times k)
    → values_over f range ys times ≡ values_over f range xs times
over_alike f range times xs ys h =
    below_alike (λ k. range_function f (window_at range ys times k) (time_at times k -ℤ pos range) (time_at times k))
    (λ k. range_function f (window_at range xs times k) (time_at times k -ℤ pos range) (time_at times k)) times.len
    (λ k l. ap (λ ws. range_function f ws (time_at times k -ℤ pos range) (time_at times k)) (h k l))

-- ---- one step more

pub places_rise : (xs : List Sample) (n m : ℕ) (a u : ℤ) → n ≡ until a xs → m ≡ until u xs → a ≤ℤ u → n ≤ m
places_rise xs n m a u p q h = let r = until_rises a u xs h in omega (arith, r, p, q)

pub over_next : (f : RangeFn) (range : ℕ) (xs : List Sample) (times : Times) (i : ℕ) (found next : List (Option ℤ)) (v : Option ℤ) (w : List Sample) (a u b z : ℤ)
    → next ≡ found ++ (v ∷ []) → v ≡ range_function f w a u → w ≡ window_of xs b z
    → a ≡ time_at times i -ℤ pos range → u ≡ time_at times i → b ≡ time_at times i -ℤ pos range → z ≡ time_at times i
    → found ≡ below (λ k. range_function f (window_at range xs times k) (time_at times k -ℤ pos range) (time_at times k)) i
    → next ≡ below (λ k. range_function f (window_at range xs times k) (time_at times k -ℤ pos range) (time_at times k)) (i + 1)
over_next f range xs times i found next v w a u b z n e g p q r s h =
    n ∙ (λ j. h j ++ ((e ∙ (λ m. range_function f (g m) (p m) (q m)) ∙ (λ m. range_function f (window_of xs (r m) (s m)) (time_at times i -ℤ pos range) (time_at times i))) j ∷ []))
    ∙ below_more (λ k. range_function f (window_at range xs times k) (time_at times k -ℤ pos range) (time_at times k)) i

-- ---- a value that is taken away

last_some : (x : Sample) (xs : List Sample) → is_some (last_onto (Some x) xs) ≡ true
last_some x [] = refl
last_some x (y ∷ ys) = last_some y ys

unless_last : (ws : List Sample) (v : Option ℤ) → cond (is_some (last_of ws)) None v ≡ unless_some ws v
unless_last [] v = refl
unless_last (w ∷ ws) v = ap (λ b. cond b None v) (last_some w ws)

set_here : (vs : List (Option ℤ)) (i : ℕ) (x d : Option ℤ) → i < length vs → slice_index_or (slice_set vs i x) i d ≡ x
set_here [] i x d h = absurd (omega (arith, h))
set_here (v ∷ vs) zero x d h = refl
set_here (v ∷ vs) (suc i) x d h = set_here vs i x d (omega (arith, h))

set_below : (vs : List (Option ℤ)) (i k : ℕ) (x d : Option ℤ) → k < i → slice_index_or (slice_set vs i x) k d ≡ slice_index_or vs k d
set_below [] i k x d h = refl
set_below (v ∷ vs) zero k x d h = absurd (omega (arith, h))
set_below (v ∷ vs) (suc i) zero x d h = refl
set_below (v ∷ vs) (suc i) (suc k) x d h = set_below vs i k x d (omega (arith, h))

set_above : (vs : List (Option ℤ)) (i k : ℕ) (x d : Option ℤ) → i < k → slice_index_or (slice_set vs i x) k d ≡ slice_index_or vs k d
set_above [] i k x d h = refl
set_above (v ∷ vs) i zero x d h = absurd (omega (arith, h))
set_above (v ∷ vs) zero (suc k) x d h = refl
set_above (v ∷ vs) (suc i) (suc k) x d h = set_above vs i k x d (omega (arith, h))

length_set : (vs : List (Option ℤ)) (i : ℕ) (x : Option ℤ) → length (slice_set vs i x) ≡ length vs
length_set [] i x = refl
length_set (v ∷ vs) zero x = refl
length_set (v ∷ vs) (suc i) x = ap suc (length_set vs i x)

-- the values noted up to a step, and those behind it as they were
pub record AreNoted (range : ℕ) (samples : List Sample) (times : Times) (old vs : List (Option ℤ)) (i : ℕ) : Type 0 where
  pub size : length vs ≡ times.len
  pub noted : (k : ℕ) → k < i → slice_index_or vs k None ≡ unless_some (window_at range samples times k) (slice_index_or old k None)
  pub left : (k : ℕ) → i ≤ k → slice_index_or vs k None ≡ slice_index_or old k None

less_or_is : (k i : ℕ) → k < i + 1 → (k < i) ⊎ (k ≡ i)
less_or_is zero zero h = inr refl
less_or_is zero (suc i) h = inl (omega arith)
less_or_is (suc k) zero h = absurd (omega (arith, h))
less_or_is (suc k) (suc i) h = elim (less_or_is k i (omega (arith, h))) [ inl a ↦ inl (omega (arith, a)) | inr a ↦ inr (ap suc a) ]

pub note_next : (range : ℕ) (samples : List Sample) (times : Times) (old vs next : List (Option ℤ)) (i : ℕ) (x v : Option ℤ) (o : Option Sample) → i < times.len
    → next ≡ slice_set vs i x → x ≡ cond (is_some o) None v → v ≡ slice_index_or vs i v → o ≡ last_of (window_at range samples times i)
    → AreNoted range samples times old vs i → AreNoted range samples times old next (i + 1)
note_next range samples times old vs next i x v o l n e g w h = record {
  size = ap length n ∙ length_set vs i x ∙ h.size;
  noted = λ k b. elim (less_or_is k i b) [
    | inl a ↦ ap (λ ys. slice_index_or ys k None) n ∙ set_below vs i k x None a ∙ h.noted k a
    | inr a ↦
        ap (λ j. slice_index_or next j None) a ∙ ap (λ ys. slice_index_or ys i None) n ∙ set_here vs i x None m
        ∙ e ∙ (λ j. cond (is_some (w j)) None (was j)) ∙ unless_last (window_at range samples times i) (slice_index_or old i None)
        ∙ sym (ap (λ j. unless_some (window_at range samples times j) (slice_index_or old j None)) a)
  ];
  left = λ k b.
      ap (λ ys. slice_index_or ys k None) n ∙ set_above vs i k x None (omega (arith, b)) ∙ h.left k (omega (arith, b));
} where
  m : i < length vs
  m = omega (arith, l, h.size)

  was : v ≡ slice_index_or old i None
  was = g ∙ any vs i v None m ∙ h.left i (omega arith) where
    any : (ys : List (Option ℤ)) (j : ℕ) (a b : Option ℤ) → j < length ys → slice_index_or ys j a ≡ slice_index_or ys j b
    any [] j a b q = absurd (omega (arith, q))
    any (y ∷ ys) zero a b q = refl
    any (y ∷ ys) (suc j) a b q = any ys j a b (omega (arith, q))
