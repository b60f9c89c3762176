-- Some first samples of a list, as reads lend them.
use Rattle.std.proofs.Common.{◌≡◌, ℕ, zero, suc, ◌+◌, ◌-◌, ◌<◌, ℤ, Bool, true, false, cond, ◌&&◌, List, [], ◌∷◌, ◌++◌, length, take, drop, refl, sym, ap, ◌∙◌, subst, arith, Some, None, Option}
use Rattle.std.specs.Prelude.{int_lt, int_le}
use Rattle.std.specs.List.{list_all, slice_get}
use Rattle.std.specs.Cmp.{first_so, second_so}
use Rattle.std.proofs.lemmas.Int.{ints}
use Rattle.pf_base.specs.declared.plain.Sample.{Sample}
use Rattle.pf_block.specs.Blocks.{same_sample, times_in}
use Rattle.pf_block.specs.Samples.{ends_at, is_within, last_of, last_onto, later_of, merged_samples, put_earlier, rises, rises_after, stretch_of, until, window_of}
use Rattle.pf_block.specs.Stacks.{is_not_after}
use Rattle.pf_block.proofs.Canonical.{same_is, same_own}
use Rattle.pf_block.proofs.MergedSamples.{merged_times, parts_after}
use Rattle.pf_block.proofs.Searches.{both, last_is, rises_behind}

append_none : (xs : List Sample) → xs ++ [] ≡ xs
append_none [] = refl
append_none (x ∷ xs) = ap (λ l. x ∷ l) (append_none xs)

pub merged_none : (xs : List Sample) → merged_samples xs [] ≡ xs
merged_none [] = refl
merged_none (x ∷ xs) = ap (λ l. x ∷ l) (merged_none xs)

take_drop : (n : ℕ) (xs : List Sample) → take n xs ++ drop n xs ≡ xs
take_drop zero xs = refl
take_drop (suc n) [] = refl
take_drop (suc n) (x ∷ xs) = ap (λ l. x ∷ l) (take_drop n xs)

-- ---- some first samples, and none only of none

pub record IsFront (xs ys : List Sample) : Type 0 where
  pub behind : List Sample
  pub whole : xs ++ behind ≡ ys
  pub none : xs ≡ [] → ys ≡ []

pub whole_front : (xs : List Sample) → IsFront xs xs
whole_front xs = record { behind = []; whole = append_none xs; none = λ h. h }

-- ---- the first samples of two lists

-- those of the first list that are not after the first of the second
front_first : (y : Sample) (ys xs : List Sample) → take (until y.time xs) xs ++ merged_samples (drop (until y.time xs) xs) (y ∷ ys) ≡ merged_samples xs (y ∷ ys)
front_first y ys [] = refl
front_first y ys (x ∷ xs) = by (int_le x.time y.time) (front_first y ys xs) refl where
  by : (v : Bool) → take (until y.time xs) xs ++ merged_samples (drop (until y.time xs) xs) (y ∷ ys) ≡ merged_samples xs (y ∷ ys) → int_le x.time y.time ≡ v →
      take (cond v (suc (until y.time xs)) 0) (x ∷ xs) ++ merged_samples (drop (cond v (suc (until y.time xs)) 0) (x ∷ xs)) (y ∷ ys) ≡ cond v (x ∷ merged_samples xs (y ∷ ys)) (y ∷ merged_samples (x ∷ xs) ys)
  by true h e = ap (λ l. x ∷ l) h
  by false h e = ap (λ v. cond v (x ∷ merged_samples xs (y ∷ ys)) (y ∷ merged_samples (x ∷ xs) ys)) e

-- those of the second list that are not after the first of the first
not_before : (a b : ℤ) → int_lt a b ≡ true → int_le b a ≡ false
not_before a b h = grind (arith, ints)

front_second : (x : Sample) (xs zs ys : List Sample) → rises (merged_samples (x ∷ xs) (ys ++ zs)) ≡ true → take (until x.time ys) ys ++ merged_samples (x ∷ xs) (drop (until x.time ys) ys ++ zs) ≡ merged_samples (x ∷ xs) (ys ++ zs)
front_second x xs zs [] r = refl
front_second x xs zs (y ∷ ys) r = by (int_le x.time y.time) (int_le y.time x.time) refl refl r (λ q. front_second x xs zs ys q) where
  by : (v w : Bool) → int_le x.time y.time ≡ v → int_le y.time x.time ≡ w → rises (cond v (x ∷ merged_samples xs (y ∷ ys ++ zs)) (y ∷ merged_samples (x ∷ xs) (ys ++ zs))) ≡ true →
      (rises (merged_samples (x ∷ xs) (ys ++ zs)) ≡ true → take (until x.time ys) ys ++ merged_samples (x ∷ xs) (drop (until x.time ys) ys ++ zs) ≡ merged_samples (x ∷ xs) (ys ++ zs)) →
      take (cond w (suc (until x.time ys)) 0) (y ∷ ys) ++ merged_samples (x ∷ xs) (drop (cond w (suc (until x.time ys)) 0) (y ∷ ys) ++ zs) ≡ cond v (x ∷ merged_samples xs (y ∷ ys ++ zs)) (y ∷ merged_samples (x ∷ xs) (ys ++ zs))
  by true false e f r h = ap (λ v. cond v (x ∷ merged_samples xs (y ∷ ys ++ zs)) (y ∷ merged_samples (x ∷ xs) (ys ++ zs))) e
  by true true e f r h =
      let l = first_so (int_lt x.time y.time) (rises_after y.time (ys ++ zs)) (parts_after x.time xs (y ∷ ys ++ zs) r).1 in
      let z : false ≡ true = sym (not_before x.time y.time l) ∙ f in
      cc
  by false true e f r h = ap (λ l. y ∷ l) (h (rises_behind y.time (merged_samples (x ∷ xs) (ys ++ zs)) r))
  by false false e f r h = let z = neither x.time y.time e f in absurd z where
    neither : (a b : ℤ) → int_le a b ≡ false → int_le b a ≡ false → ⊥
    neither a b e f = grind (arith, ints)

some_taken : (t : ℤ) (x : Sample) (xs : List Sample) → int_le x.time t ≡ true → take (until t (x ∷ xs)) (x ∷ xs) ≡ [] → ⊥
some_taken t x xs e h = let z : x ∷ take (until t xs) xs ≡ [] = sym (ap (λ v. take (cond v (suc (until t xs)) 0) (x ∷ xs)) e) ∙ h in cc

turned : (a b : ℤ) → int_le a b ≡ false → int_le b a ≡ true
turned a b h = grind (arith, ints)

pub stretch_front : (ws run whole : List Sample) → rises (merged_samples ws whole) ≡ true → IsFront run whole → IsFront (stretch_of ws run) (merged_samples ws whole)
stretch_front [] run whole r f = f
stretch_front (a ∷ os) [] whole r f =
    let e : whole ≡ [] = f.none refl in
    subst (λ w. IsFront (a ∷ os) (merged_samples (a ∷ os) w)) (sym e) (subst (λ w. IsFront (a ∷ os) w) (sym (merged_none (a ∷ os))) (whole_front (a ∷ os)))
stretch_front (a ∷ os) (y ∷ ys) whole r f =
    subst (λ w. IsFront (stretch_of (a ∷ os) (y ∷ ys)) (merged_samples (a ∷ os) w)) f.whole
    (by (int_le a.time y.time) refl (subst (λ w. rises (merged_samples (a ∷ os) w) ≡ true) (sym f.whole) r)) where
      by : (v : Bool) → int_le a.time y.time ≡ v → rises (merged_samples (a ∷ os) ((y ∷ ys) ++ f.behind)) ≡ true →
          IsFront (cond v (take (until y.time (a ∷ os)) (a ∷ os)) (take (until a.time (y ∷ ys)) (y ∷ ys))) (merged_samples (a ∷ os) ((y ∷ ys) ++ f.behind))
      by true e q = record {
        behind = merged_samples (drop (until y.time (a ∷ os)) (a ∷ os)) ((y ∷ ys) ++ f.behind);
        whole = front_first y (ys ++ f.behind) (a ∷ os);
        none = λ h. absurd (some_taken y.time a os e h);
      }
      by false e q = record {
        behind = merged_samples (a ∷ os) (drop (until a.time (y ∷ ys)) (y ∷ ys) ++ f.behind);
        whole = front_second a os f.behind (y ∷ ys) q;
        none = λ h. absurd (some_taken a.time y ys (turned a.time y.time e) h);
      }

-- ---- what is left behind first samples

narrow_by : (a t u z : ℤ) → int_lt a t ≡ true → (int_lt t z && int_le z u) ≡ true → (int_lt a z && int_le z u) ≡ true
narrow_by a t u z l h = grind (arith, ints)

narrower : (a t u : ℤ) → int_lt a t ≡ true → (xs : List Sample) → window_of (window_of xs a u) t u ≡ window_of xs t u
narrower a t u l [] = refl
narrower a t u l (x ∷ xs) = by (is_within a u x) (is_within t u x) refl refl (narrower a t u l xs) where
  by : (v w : Bool) → is_within a u x ≡ v → is_within t u x ≡ w → window_of (window_of xs a u) t u ≡ window_of xs t u → window_of (cond v (x ∷ window_of xs a u) (window_of xs a u)) t u ≡ cond w (x ∷ window_of xs t u) (window_of xs t u)
  by true w e f h = ap (λ b. cond b (x ∷ window_of (window_of xs a u) t u) (window_of (window_of xs a u) t u)) f ∙ (λ i. cond w (x ∷ h i) (h i))
  by false true e f h = let z : false ≡ true = sym e ∙ narrow_by a t u x.time l f in cc
  by false false e f h = h

all_within : (a u : ℤ) (xs : List Sample) → list_all (is_within a u) (window_of xs a u) ≡ true
all_within a u [] = refl
all_within a u (x ∷ xs) = by (is_within a u x) refl (all_within a u xs) where
  by : (v : Bool) → is_within a u x ≡ v → list_all (is_within a u) (window_of xs a u) ≡ true → list_all (is_within a u) (cond v (x ∷ window_of xs a u) (window_of xs a u)) ≡ true
  by true e h = both (is_within a u x) (list_all (is_within a u) (window_of xs a u)) e h
  by false e h = h

within_here : (a u t z : ℤ) → int_lt t z ≡ true → (int_lt a z && int_le z u) ≡ true → (int_lt t z && int_le z u) ≡ true
within_here a u t z l h = grind (arith, ints)

lt_trans : (a b c : ℤ) → int_lt a b ≡ true → int_lt b c ≡ true → int_lt a c ≡ true
lt_trans a b c p q = grind (arith, ints)

all_in : (a u t c : ℤ) (zs : List Sample) → int_le t c ≡ true → rises_after c zs ≡ true → list_all (is_within a u) zs ≡ true → window_of zs t u ≡ zs
all_in a u t c [] l r h = refl
all_in a u t c (z ∷ zs) l r h =
    let f = first_so (int_lt c z.time) (rises_after z.time zs) r in
    let m : int_lt t z.time ≡ true = le_lt t c z.time l f in
    ap (λ b. cond b (z ∷ window_of zs t u) (window_of zs t u)) (within_here a u t z.time m (first_so (is_within a u z) (list_all (is_within a u) zs) h))
    ∙ ap (λ x. z ∷ x) (all_in a u t z.time zs (le_of t z.time m) (second_so (int_lt c z.time) (rises_after z.time zs) r) (second_so (is_within a u z) (list_all (is_within a u) zs) h)) where
      le_lt : (a b c : ℤ) → int_le a b ≡ true → int_lt b c ≡ true → int_lt a c ≡ true
      le_lt a b c p q = grind (arith, ints)

      le_of : (a b : ℤ) → int_lt a b ≡ true → int_le a b ≡ true
      le_of a b h = grind (arith, ints)

le_same : (a : ℤ) → int_le a a ≡ true
le_same a = grind (arith, ints)

lt_le : (a b c : ℤ) → int_lt a b ≡ true → int_le b c ≡ true → int_le a c ≡ true
lt_le a b c p q = grind (arith, ints)

ends_above : (c : ℤ) (xs zs : List Sample) → rises_after c (xs ++ zs) ≡ true → int_le c (ends_at c xs) ≡ true
ends_above c [] zs r = le_same c
ends_above c (x ∷ xs) zs r =
    lt_le c x.time (ends_at x.time xs) (first_so (int_lt c x.time) (rises_after x.time (xs ++ zs)) r) (ends_above x.time xs zs (second_so (int_lt c x.time) (rises_after x.time (xs ++ zs)) r))

out_by : (t u z : ℤ) → int_le z t ≡ true → (int_lt t z && int_le z u) ≡ false
out_by t u z h = grind (arith, ints)

past : (a u : ℤ) (y : Sample) (ys zs : List Sample) → rises_after y.time (ys ++ zs) ≡ true → list_all (is_within a u) zs ≡ true → window_of (y ∷ ys ++ zs) (ends_at y.time ys) u ≡ zs
past a u y [] zs r h =
    ap (λ b. cond b (y ∷ window_of zs y.time u) (window_of zs y.time u)) (out_by y.time u y.time (le_same y.time)) ∙ all_in a u y.time y.time zs (le_same y.time) r h
past a u y (x ∷ ys) zs r h =
    let t = ends_at x.time ys in
    ap (λ b. cond b (y ∷ window_of (x ∷ ys ++ zs) t u) (window_of (x ∷ ys ++ zs) t u)) (out_by t u y.time (ends_above y.time (x ∷ ys) zs r))
    ∙ past a u x ys zs (second_so (int_lt y.time x.time) (rises_after x.time (ys ++ zs)) r) h

all_behind : (p : Sample → Bool) (xs ys : List Sample) → list_all p (xs ++ ys) ≡ true → list_all p ys ≡ true
all_behind p [] ys h = h
all_behind p (x ∷ xs) ys h = all_behind p xs ys (second_so (p x) (list_all p (xs ++ ys)) h)

lt_of : (a u t z : ℤ) → (int_lt a z && int_le z u) ≡ true → int_le z t ≡ true → int_lt a t ≡ true
lt_of a u t z h l = grind (arith, ints)

left_by : (a u : ℤ) (whole : List Sample) (y : Sample) (ys zs : List Sample) → rises whole ≡ true → (y ∷ ys) ++ zs ≡ window_of whole a u → rises (window_of whole a u) ≡ true →
    window_of whole (ends_at y.time ys) u ≡ zs
left_by a u whole y ys zs r e q =
    let g : rises_after y.time (ys ++ zs) ≡ true = ap rises e ∙ q in
    let h : list_all (is_within a u) (y ∷ ys ++ zs) ≡ true = ap (list_all (is_within a u)) e ∙ all_within a u whole in
    let l : int_lt a (ends_at y.time ys) ≡ true = lt_of a u (ends_at y.time ys) y.time (first_so (is_within a u y) (list_all (is_within a u) (ys ++ zs)) h) (ends_above y.time ys zs g) in
    sym (narrower a (ends_at y.time ys) u l whole) ∙ ap (λ w. window_of w (ends_at y.time ys) u) (sym e)
    ∙ past a u y ys zs g (all_behind (is_within a u) (y ∷ ys) zs h)

pub stretch_left : (a u : ℤ) (whole run : List Sample) → rises whole ≡ true → rises (window_of whole a u) ≡ true → IsFront run (window_of whole a u) → run ++ window_of whole (ends_at a run) u ≡ window_of whole a u
stretch_left a u whole [] r q f = refl
stretch_left a u whole (y ∷ ys) r q f = ap (λ l. (y ∷ ys) ++ l) (left_by a u whole y ys f.behind r f.whole q) ∙ f.whole

-- ---- the time of the last sample

pub ends_last : (t : ℤ) (xs : List Sample) (s : Sample) → last_onto None xs ≡ Some s → s.time ≡ ends_at t xs
ends_last t [] s h = cc
ends_last t (x ∷ xs) s h = by x xs h where
  by : (x : Sample) (xs : List Sample) → last_onto (Some x) xs ≡ Some s → s.time ≡ ends_at x.time xs
  by x [] h = let e : x ≡ s = same x s h in ap (λ z. z.time) (sym e) where
    same : (a b : Sample) → ◌≡◌ {A = Option Sample} (Some a) (Some b) → a ≡ b
    same a b h = cc
  by x (y ∷ ys) h = by y ys h

-- ---- the later of two last samples

last_missing : (ys : List Sample) → last_of ys ≡ None → ys ≡ []
last_missing [] h = refl
last_missing (y ∷ ys) h = absurd (some_onto y ys h) where
  some_onto : (s : Sample) (ys : List Sample) → last_onto (Some s) ys ≡ None → ⊥
  some_onto s [] h = cc
  some_onto s (y ∷ ys) h = some_onto y ys h

last_there : (x : Sample) (xs : List Sample) (s : Sample) → last_onto (Some x) xs ≡ Some s → 0 < times_in s (x ∷ xs)
last_there x [] s h = let e : x ≡ s = same x s h in let g : same_sample s x ≡ true = ap (same_sample s) e ∙ same_own s in let o : ◌≡◌ {A = ℕ} (cond (same_sample s x) 1 0) 1 = ap (λ v. cond v 1 0) g in omega (arith, o) where
  same : (a b : Sample) → ◌≡◌ {A = Option Sample} (Some a) (Some b) → a ≡ b
  same a b h = cc
last_there x (y ∷ ys) s h = let r = last_there y ys s h in omega (arith, r)

some_there : (xs : List Sample) (s : Sample) → last_of xs ≡ Some s → 0 < times_in s xs
some_there [] s h = cc
some_there (x ∷ xs) s h = last_there x xs s h

last_most : (x : Sample) (xs : List Sample) (s : Sample) (t : ℤ) → rises_after x.time xs ≡ true → last_onto (Some x) xs ≡ Some s → int_le s.time t ≡ true → list_all (is_not_after t) (x ∷ xs) ≡ true
last_most x [] s t r h u = let e : x ≡ s = same x s h in both (int_le x.time t) true (ap (λ z. int_le z.time t) e ∙ u) refl where
  same : (a b : Sample) → ◌≡◌ {A = Option Sample} (Some a) (Some b) → a ≡ b
  same a b h = cc
last_most x (y ∷ ys) s t r h u =
    let f = first_so (int_lt x.time y.time) (rises_after y.time ys) r in
    let k = last_most y ys s t (second_so (int_lt x.time y.time) (rises_after y.time ys) r) h u in
    both (int_le x.time t) (list_all (is_not_after t) (y ∷ ys)) (lt_le x.time y.time t f (first_so (int_le y.time t) (list_all (is_not_after t) ys) k)) k

pub all_upto : (xs : List Sample) (s : Sample) (t : ℤ) → rises xs ≡ true → last_of xs ≡ Some s → int_le s.time t ≡ true → list_all (is_not_after t) xs ≡ true
all_upto [] s t r h u = refl
all_upto (x ∷ xs) s t r h u = last_most x xs s t r h u

module _ (p : Sample → Bool) where
  all_put : (a : Sample) (rest : List Sample → List Sample) → p a ≡ true → ((ys : List Sample) → list_all p ys ≡ true → list_all p (rest ys) ≡ true) → (ys : List Sample) → list_all p ys ≡ true → list_all p (put_earlier a rest ys) ≡ true
  all_put a rest h k [] g = both (p a) (list_all p (rest [])) h (k [] refl)
  all_put a rest h k (y ∷ ys) g = elim (int_le a.time y.time) as (λ v. list_all p (cond v (a ∷ rest (y ∷ ys)) (y ∷ put_earlier a rest ys)) ≡ true) [
    | true ↦ both (p a) (list_all p (rest (y ∷ ys))) h (k (y ∷ ys) g)
    | false ↦ both (p y) (list_all p (put_earlier a rest ys)) (first_so (p y) (list_all p ys) g) (all_put a rest h k ys (second_so (p y) (list_all p ys) g))
  ]

  all_merged : (xs ys : List Sample) → list_all p xs ≡ true → list_all p ys ≡ true → list_all p (merged_samples xs ys) ≡ true
  all_merged [] ys h g = g
  all_merged (x ∷ xs) ys h g = all_put x (merged_samples xs) (first_so (p x) (list_all p xs) h) (λ zs k. all_merged xs zs (second_so (p x) (list_all p xs) h) k) ys g

not_same : (a b c : ℤ) → int_lt a b ≡ true → int_le b c ≡ true → a ≡ c → ⊥
not_same a b c p q e = grind (arith, ints)

top_after : (x : Sample) (xs : List Sample) (s : Sample) → rises_after x.time xs ≡ true → list_all (is_not_after s.time) xs ≡ true → 0 < times_in s (x ∷ xs) → last_onto (Some x) xs ≡ Some s
top_after x [] s r h l = by (same_sample s x) refl l where
  by : (v : Bool) → same_sample s x ≡ v → 0 < cond v 1 0 + 0 → ◌≡◌ {A = Option Sample} (Some x) (Some s)
  by true e l = ap Some (sym (same_is s x e))
  by false e l = absurd (omega arith)
top_after x (y ∷ ys) s r h l = by (same_sample s x) refl (λ m. top_after y ys s (second_so (int_lt x.time y.time) (rises_after y.time ys) r) (second_so (int_le y.time s.time) (list_all (is_not_after s.time) ys) h) m) l where
  by : (v : Bool) → same_sample s x ≡ v → (0 < times_in s (y ∷ ys) → last_onto (Some y) ys ≡ Some s) → 0 < cond v 1 0 + times_in s (y ∷ ys) → last_onto (Some y) ys ≡ Some s
  by true e k l =
      absurd (not_same x.time y.time s.time (first_so (int_lt x.time y.time) (rises_after y.time ys) r) (first_so (int_le y.time s.time) (list_all (is_not_after s.time) ys) h) (ap (λ z. z.time) (sym (same_is s x e))))
  by false e k l = k (omega arith)

top_of : (xs : List Sample) (s : Sample) → rises xs ≡ true → list_all (is_not_after s.time) xs ≡ true → 0 < times_in s xs → last_of xs ≡ Some s
top_of [] s r h l = absurd (omega arith)
top_of (x ∷ xs) s r h l = top_after x xs s r (second_so (int_le x.time s.time) (list_all (is_not_after s.time) xs) h) l

later_some : (xs ys : List Sample) (s x : Sample) → rises xs ≡ true → rises ys ≡ true → rises (merged_samples xs ys) ≡ true → last_of xs ≡ Some s → last_of ys ≡ Some x → (v : Bool) → int_le s.time x.time ≡ v →
    cond v (Some x) (Some s) ≡ last_of (merged_samples xs ys)
later_some xs ys s x f g r p q true e =
    sym (top_of (merged_samples xs ys) x r (all_merged (is_not_after x.time) xs ys (all_upto xs s x.time f p e) (all_upto ys x x.time g q (le_same x.time)))
    (let t = merged_times x xs ys in let l = some_there ys x q in omega (arith, t, l)))
later_some xs ys s x f g r p q false e =
    sym (top_of (merged_samples xs ys) s r (all_merged (is_not_after s.time) xs ys (all_upto xs s s.time f p (le_same s.time)) (all_upto ys x s.time g q (turned s.time x.time e)))
    (let t = merged_times s xs ys in let l = some_there xs s p in omega (arith, t, l)))

pub later_last : (xs ys : List Sample) → rises xs ≡ true → rises ys ≡ true → rises (merged_samples xs ys) ≡ true → later_of (last_of xs) (last_of ys) ≡ last_of (merged_samples xs ys)
later_last xs ys f g r = by (last_of xs) (last_of ys) refl refl where
  by : (o p : Option Sample) → last_of xs ≡ o → last_of ys ≡ p → later_of o p ≡ last_of (merged_samples xs ys)
  by None p h k = let e = last_missing xs h in sym k ∙ ap (λ l. last_of (merged_samples l ys)) (sym e)
  by (Some s) None h k = let e = last_missing ys k in sym h ∙ ap last_of (sym (merged_none xs)) ∙ ap (λ l. last_of (merged_samples xs l)) (sym e)
  by (Some s) (Some x) h k = later_some xs ys s x f g r h k (int_le s.time x.time) refl

-- ---- one list before another

over_after : (c : ℤ) (xs : List Sample) (y : Sample) (ys zs : List Sample) → rises_after c (xs ++ y ∷ ys) ≡ true → rises_after y.time (ys ++ zs) ≡ true → rises_after c (xs ++ ((y ∷ ys) ++ zs)) ≡ true
over_after c [] y ys zs h g = both (int_lt c y.time) (rises_after y.time (ys ++ zs)) (first_so (int_lt c y.time) (rises_after y.time ys) h) g
over_after c (x ∷ xs) y ys zs h g =
    both (int_lt c x.time) (rises_after x.time (xs ++ ((y ∷ ys) ++ zs))) (first_so (int_lt c x.time) (rises_after x.time (xs ++ y ∷ ys)) h) (over_after x.time xs y ys zs (second_so (int_lt c x.time) (rises_after x.time (xs ++ y ∷ ys)) h) g)

rises_over : (xs : List Sample) (y : Sample) (ys zs : List Sample) → rises (xs ++ y ∷ ys) ≡ true → rises ((y ∷ ys) ++ zs) ≡ true → rises (xs ++ ((y ∷ ys) ++ zs)) ≡ true
rises_over [] y ys zs h g = g
rises_over (x ∷ xs) y ys zs h g = over_after x.time xs y ys zs h g

pub before_front : (xs run whole : List Sample) → rises (xs ++ run) ≡ true → IsFront run whole → rises whole ≡ true → rises (xs ++ whole) ≡ true
before_front xs [] whole h f r = let e : whole ≡ [] = f.none refl in subst (λ w. rises (xs ++ w) ≡ true) (sym e) h
before_front xs (y ∷ ys) whole h f r = subst (λ w. rises (xs ++ w) ≡ true) f.whole (rises_over xs y ys f.behind h (ap rises f.whole ∙ r))

pub front_on : (xs whole : List Sample) (x : Sample) (ss : List Sample) → xs ≡ x ∷ ss → IsFront xs (xs ++ whole)
front_on xs whole x ss e = record { behind = whole; whole = refl; none = λ h. let z : x ∷ ss ≡ [] = sym e ∙ h in cc }

pub joined_rises : (xs : List Sample) (y : Sample) (ys : List Sample) (s : Sample) → rises xs ≡ true → last_of xs ≡ Some s → int_lt s.time y.time ≡ true → rises (y ∷ ys) ≡ true → rises (xs ++ y ∷ ys) ≡ true
joined_rises [] y ys s r h l g = g
joined_rises (x ∷ xs) y ys s r h l g = by x xs r h where
  by : (x : Sample) (xs : List Sample) → rises_after x.time xs ≡ true → last_onto (Some x) xs ≡ Some s → rises_after x.time (xs ++ y ∷ ys) ≡ true
  by x [] r h = let e : x ≡ s = same x s h in both (int_lt x.time y.time) (rises_after y.time ys) (ap (λ z. int_lt z.time y.time) e ∙ l) g where
    same : (a b : Sample) → ◌≡◌ {A = Option Sample} (Some a) (Some b) → a ≡ b
    same a b h = cc
  by x (z ∷ zs) r h = both (int_lt x.time z.time) (rises_after z.time (zs ++ y ∷ ys)) (first_so (int_lt x.time z.time) (rises_after z.time zs) r) (by z zs (second_so (int_lt x.time z.time) (rises_after z.time zs) r) h)

pub ends_rise : (xs ys : List Sample) (s x : Sample) → rises xs ≡ true → rises ys ≡ true → Some s ≡ slice_get xs (length xs - 1) → Some x ≡ slice_get ys 0 → int_lt s.time x.time ≡ true → rises (xs ++ ys) ≡ true
ends_rise xs [] s x r g h k l = cc
ends_rise xs (y ∷ ys) s x r g h k l = let e : x ≡ y = same x y k in joined_rises xs y ys s r (last_is xs ∙ sym h) (ap (λ z. int_lt s.time z.time) (sym e) ∙ l) g where
  same : (a b : Sample) → ◌≡◌ {A = Option Sample} (Some a) (Some b) → a ≡ b
  same a b h = cc
