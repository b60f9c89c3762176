-- What a snapshot is stays so where rows are put in and samples are cut out.
use Rattle.std.proofs.Common.{◌≡◌, ℕ, zero, suc, ◌+◌, ◌<◌, ℤ, pos, Bool, true, false, cond, ◌&&◌, is_some, List, [], ◌∷◌, length, get_or, set, refl, sym, ap, ◌∙◌, subst, arith, Some, Option}
use Rattle.std.specs.Prelude.{int_lt, int_le, nat_eq, nat_le}
use Rattle.std.specs.List.{list_all, list_any, position_from, filter}
use Rattle.std.specs.Ordering.{int_eq, is_eq}
use Rattle.std.specs.Cmp.{first_so, second_so}
use Rattle.std.proofs.lemmas.Int.{ints}
use Rattle.std.proofs.lemmas.Bool.Decides.{nat_tests}
use Rattle.std.proofs.Math.ListN.{length-set}
use Rattle.pf_base.specs.declared.plain.Sample.{Sample}
use Rattle.pf_base.specs.LabelSets.{Pairs}
use Rattle.pf_base.specs.LabelOrder.{labels_cmp}
use Rattle.pf_block.specs.Samples.{rises, rises_after, value_at, put_sample, is_timed, is_series, is_outside}
use Rattle.pf_block.specs.SeriesIds.{id_of}
use Rattle.pf_block.specs.Snaps.{SnapData, IsSnap, samples_of, cut_from}
use Rattle.pf_block.proofs.Searches.{both, rises_filter, series_rises, series_timed, held_cons as absent}

-- ---- ids

inside_by : (n i m : ℕ) (o : Option ℕ) (v : Bool) → cond v (Some n) o ≡ Some i → (o ≡ Some i → i < (n + 1) + m) → i < n + suc m
inside_by n i m o true e r = let z : n ≡ i = cc in omega arith
inside_by n i m o false e r = let w = r e in omega (arith, w)

inside : (K : Type 0) (t : K → Bool) (n i : ℕ) (xs : List K) → position_from t n xs ≡ Some i → i < n + length xs
inside K t n i [] h = cc
inside K t n i (x ∷ xs) h = inside_by n i (length xs) (position_from t (n + 1) xs) (t x) h (λ e. inside K t (n + 1) i xs e)

pub id_within : (l : Pairs) (ls : List Pairs) (i : ℕ) → Some i ≡ id_of l ls → i < length ls
id_within l ls i h = let r = inside Pairs (λ x. is_eq (labels_cmp l x)) 0 i ls (sym h) in omega (arith, r)

-- ---- lists

module _ {X : Type 0} (p : X → Bool) where
  all_set : (xs : List X) (i : ℕ) (y : X) → list_all p xs ≡ true → p y ≡ true → list_all p (set xs i y) ≡ true
  all_set [] i y h k = refl
  all_set (x ∷ xs) zero y h k = both (p y) (list_all p xs) k (second_so (p x) (list_all p xs) h)
  all_set (x ∷ xs) (suc i) y h k = both (p x) (list_all p (set xs i y)) (first_so (p x) (list_all p xs) h) (all_set xs i y (second_so (p x) (list_all p xs) h) k)

  pub all_at : (xs : List X) (i : ℕ) (d : X) → list_all p xs ≡ true → i < length xs → p (get_or xs i d) ≡ true
  all_at [] i d h l = absurd (omega arith)
  all_at (x ∷ xs) zero d h l = first_so (p x) (list_all p xs) h
  all_at (x ∷ xs) (suc i) d h l = all_at xs i d (second_so (p x) (list_all p xs) h) (omega arith)

  all_filter : (q : X → Bool) (xs : List X) → list_all p xs ≡ true → list_all p (filter q xs) ≡ true
  all_filter q [] h = refl
  all_filter q (x ∷ xs) h =
      let t = all_filter q xs (second_so (p x) (list_all p xs) h) in
      elim (q x) as (λ b. list_all p (cond b (x ∷ filter q xs) (filter q xs)) ≡ true) [
        | true ↦ both (p x) (list_all p (filter q xs)) (first_so (p x) (list_all p xs) h) t
        | false ↦ t
      ]

-- ---- a sample put in

later : (a b : ℤ) → int_lt a b ≡ false → int_eq a b ≡ false → int_lt b a ≡ true
later a b h k = grind (arith, ints)

pub put_after_by : (a : ℤ) (s x : Sample) (xs : List Sample) (v : Bool) → int_lt x.time s.time ≡ v → int_lt a s.time ≡ true → rises_after a (x ∷ xs) ≡ true → int_eq x.time s.time ≡ false → rises_after x.time xs ≡ true →
    (int_lt x.time s.time ≡ true → rises_after x.time (put_sample s xs) ≡ true) → rises_after a (cond v (x ∷ put_sample s xs) (s ∷ x ∷ xs)) ≡ true
put_after_by a s x xs true e l r k t h = both (int_lt a x.time) (rises_after x.time (put_sample s xs)) (first_so (int_lt a x.time) (rises_after x.time xs) r) (h e)
put_after_by a s x xs false e l r k t h = both (int_lt a s.time) (rises_after s.time (x ∷ xs)) l (both (int_lt s.time x.time) (rises_after x.time xs) (later x.time s.time e k) t)

rises_after_put : (a : ℤ) (s : Sample) (xs : List Sample) → int_lt a s.time ≡ true → rises_after a xs ≡ true → is_some (value_at xs s.time) ≡ false → rises_after a (put_sample s xs) ≡ true
rises_after_put a s [] l r n = both (int_lt a s.time) true l refl
rises_after_put a s (x ∷ xs) l r n =
    let c = absent (int_eq x.time s.time) x.value (value_at xs s.time) n in
    let t = second_so (int_lt a x.time) (rises_after x.time xs) r in
    put_after_by a s x xs (int_lt x.time s.time) refl l r c.0 t (λ e. rises_after_put x.time s xs e t c.1)

pub rises_put_by : (s x : Sample) (xs : List Sample) (v : Bool) → int_lt x.time s.time ≡ v → int_eq x.time s.time ≡ false → rises_after x.time xs ≡ true → (int_lt x.time s.time ≡ true → rises_after x.time (put_sample s xs) ≡ true) →
    rises (cond v (x ∷ put_sample s xs) (s ∷ x ∷ xs)) ≡ true
rises_put_by s x xs true e k t h = h e
rises_put_by s x xs false e k t h = both (int_lt s.time x.time) (rises_after x.time xs) (later x.time s.time e k) t

rises_put : (s : Sample) (xs : List Sample) → rises xs ≡ true → is_some (value_at xs s.time) ≡ false → rises (put_sample s xs) ≡ true
rises_put s [] r n = refl
rises_put s (x ∷ xs) r n =
    let c = absent (int_eq x.time s.time) x.value (value_at xs s.time) n in
    rises_put_by s x xs (int_lt x.time s.time) refl c.0 r (λ e. rises_after_put x.time s xs e r c.1)

timed_put : (s : Sample) (xs : List Sample) → is_timed s ≡ true → list_all is_timed xs ≡ true → list_all is_timed (put_sample s xs) ≡ true
timed_put s [] t h = both (is_timed s) true t refl
timed_put s (x ∷ xs) t h =
    elim (int_lt x.time s.time) as (λ b. list_all is_timed (cond b (x ∷ put_sample s xs) (s ∷ x ∷ xs)) ≡ true) [
      | true ↦ both (is_timed x) (list_all is_timed (put_sample s xs)) (first_so (is_timed x) (list_all is_timed xs) h) (timed_put s xs t (second_so (is_timed x) (list_all is_timed xs) h))
      | false ↦ both (is_timed s) (list_all is_timed (x ∷ xs)) t h
    ]

series_put : (s : Sample) (xs : List Sample) → is_series xs ≡ true → is_timed s ≡ true → is_some (value_at xs s.time) ≡ false → is_series (put_sample s xs) ≡ true
series_put s xs h t n = both (rises (put_sample s xs)) (list_all is_timed (put_sample s xs)) (rises_put s xs (series_rises xs h) n) (timed_put s xs t (series_timed xs h))

pub put_snap : (s : SnapData) (id : ℕ) (x : Sample) (new : List (List Sample)) → new ≡ set s.samples id (put_sample x (samples_of s id)) → IsSnap s → id < length s.labels → is_some (value_at (samples_of s id) x.time) ≡ false → is_timed x ≡ true →
    IsSnap (record { labels = s.labels; samples = new })
put_snap s id x new e h l n t =
    let alike : length s.samples ≡ length s.labels = h.alike in
    let one : is_series (samples_of s id) ≡ true = all_at is_series s.samples id [] h.lawful (omega arith) in
    record {
      apart = h.apart;
      alike = ap length e ∙ length-set s.samples id (put_sample x (samples_of s id)) ∙ h.alike;
      lawful = ap (list_all is_series) e ∙ all_set is_series s.samples id (put_sample x (samples_of s id)) h.lawful (series_put x (samples_of s id) one t n);
      few = h.few;
    }

pub timed_row : (z : ℤ) (n : ℕ) → nat_le n 4398046511103 ≡ true → z ≡ pos n → (int_le (pos 0) z && int_le z (pos 4398046511103)) ≡ true
timed_row z n h e = subst (λ t. (int_le (pos 0) t && int_le t (pos 4398046511103)) ≡ true) (sym e) (grind (arith, ints, nat_tests))

-- ---- samples cut out

module _ (from to : ℤ) where
  cut_by : (b : Bool) (xs : List Sample) → is_series xs ≡ true → is_series (cond b (filter (is_outside from to) xs) xs) ≡ true
  cut_by true xs h =
      both (rises (filter (is_outside from to) xs)) (list_all is_timed (filter (is_outside from to) xs)) (rises_filter (is_outside from to) xs (series_rises xs h)) (all_filter is_timed (is_outside from to) xs (series_timed xs h))
  cut_by false xs h = h

  module _ (series : List ℕ) where
    cut_lawful : (n : ℕ) (xss : List (List Sample)) → list_all is_series xss ≡ true → list_all is_series (cut_from n series from to xss) ≡ true
    cut_lawful n [] h = refl
    cut_lawful n (xs ∷ xss) h =
        both (is_series (cond (list_any (nat_eq n) series) (filter (is_outside from to) xs) xs)) (list_all is_series (cut_from (n + 1) series from to xss))
        (cut_by (list_any (nat_eq n) series) xs (first_so (is_series xs) (list_all is_series xss) h)) (cut_lawful (n + 1) xss (second_so (is_series xs) (list_all is_series xss) h))

    cut_length : (n : ℕ) (xss : List (List Sample)) → length (cut_from n series from to xss) ≡ length xss
    cut_length n [] = refl
    cut_length n (xs ∷ xss) = let r = cut_length (n + 1) xss in omega (arith, r)

pub cut_snap : (s : SnapData) (series : List ℕ) (from to : ℤ) (labels : List Pairs) (new : List (List Sample)) → IsSnap s → labels ≡ s.labels → new ≡ cut_from 0 series from to s.samples → IsSnap (record { labels = labels; samples = new })
cut_snap s series from to labels new h f e = subst (λ x. IsSnap (record { labels = x; samples = new })) (sym f) (record {
  apart = h.apart;
  alike = ap length e ∙ cut_length from to series 0 s.samples ∙ h.alike;
  lawful = ap (list_all is_series) e ∙ cut_lawful from to series 0 s.samples h.lawful;
  few = h.few;
})

pub both_lists : (labels others : List Pairs) (samples news : List (List Sample)) → labels ≡ others → samples ≡ news → ◌≡◌ {A = SnapData} (record { labels = labels; samples = samples }) (record { labels = others; samples = news })
both_lists labels others samples news p q = λ i. record { labels = p i; samples = q i }
