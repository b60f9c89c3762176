-- The last value in a window, by what is held at each time: what rows give, and what the samples of a series give, is
-- determined by it.
use Rattle.std.proofs.Common.{◌≡◌, ℕ, ◌<◌, ◌≤◌, ℤ, pos, negsuc, Bool, true, false, cond, ◌&&◌, Option, Some, None, option_map, List, [], ◌∷◌, nat_lt, nat_eq, refl, sym, ap, ◌∙◌, subst, arith}
use Rattle.std.specs.Prelude.{int_le, int_lt}
use Rattle.std.specs.List.{filter, list_all}
use Rattle.std.specs.Ordering.{int_eq}
use Rattle.std.specs.Cmp.{first_so, second_so}
use Rattle.std.proofs.lemmas.Int.{ints}
use Rattle.std.proofs.lemmas.Bool.{eq-eqb}
use Rattle.std.proofs.lemmas.Bool.Decides.{Decides-int_eq, nat_tests}
use Rattle.pf_base.specs.declared.plain.Row.{Row}
use Rattle.pf_base.specs.declared.plain.Sample.{Sample}
use Rattle.pf_base.specs.LabelSets.{Pairs}
use Rattle.pf_block.specs.Samples as samples
use Rattle.pf_block.specs.Samples.{rises, rises_after, is_series, is_timed, last_of, value_at, window_of}
use Rattle.pf_block.proofs.Searches.{rises_behind}
use Rattle.pf_model.specs.Cells.{element}
use Rattle.pf_model.specs.Evaluation.{element_of}
use Rattle.pf_model.specs.Log.{held_value}
use Rattle.pf_model.specs.Selection.{same_labels, later, last_onto, last_row}
use Rattle.pf_model.proofs.SelectorLabels.{HasLabels}

-- a time lies in (from, to]
abbrev pub inside : ℤ → ℤ → ℕ → Bool
inside from to u = int_lt from (pos u) && int_le (pos u) to

-- a value or nothing, else another
abbrev either : {X : Type 0} → Option X → Option X → Option X
either None b = b
either (Some v) b = Some v

-- of times with a test: no value is held at one of them
abbrev pub IsNever : (ℕ → Bool) → (ℕ → Option ℤ) → Type 0
IsNever w f = (u : ℕ) → w u ≡ true → f u ≡ None

-- v is held at n, which passes, and nothing behind n
pub record IsLast (w : ℕ → Bool) (f : ℕ → Option ℤ) (n : ℕ) (v : ℤ) : Type 0 where
  pub passes : w n ≡ true
  pub held : f n ≡ Some v
  pub last : (u : ℕ) → n < u → w u ≡ true → f u ≡ None

-- ---- there is one last value

never_last : (w : ℕ → Bool) (f : ℕ → Option ℤ) (n : ℕ) (v : ℤ) → IsNever w f → IsLast w f n v → ⊥
never_last w f n v h a = let both : None ≡ Some v = sym (h n a.passes) ∙ a.held in cc

one_value_by : (w : ℕ → Bool) (f : ℕ → Option ℤ) (n m : ℕ) (v x : ℤ) (b c : Bool) → nat_lt n m ≡ b → nat_lt m n ≡ c → IsLast w f n v → IsLast w f m x → v ≡ x
one_value_by w f n m v x true c d e p q =
    let l : n < m = grind (arith, nat_tests) in
    let both : None ≡ Some x = sym (p.last m l q.passes) ∙ q.held in cc
one_value_by w f n m v x false true d e p q =
    let l : m < n = grind (arith, nat_tests) in
    let both : None ≡ Some v = sym (q.last n l p.passes) ∙ p.held in cc
one_value_by w f n m v x false false d e p q =
    let l : n ≡ m = grind (arith, nat_tests) in
    let both : Some v ≡ Some x = sym p.held ∙ ap f l ∙ q.held in cc

one_value : (w : ℕ → Bool) (f : ℕ → Option ℤ) (n m : ℕ) (v x : ℤ) → IsLast w f n v → IsLast w f m x → v ≡ x
one_value w f n m v x p q = one_value_by w f n m v x (nat_lt n m) (nat_lt m n) refl refl p q

-- ---- rows

abbrev pub IsLastRow : (ℕ → Bool) → (ℕ → Option ℤ) → Option Row → Type 0
IsLastRow w f None = IsNever w f
IsLastRow w f (Some r) = IsLast w f r.time r.value

either_none : (a : Option ℤ) → either a None ≡ a
either_none None = refl
either_none (Some v) = refl

either_more : (a : Option ℤ) (b : Bool) (v : ℤ) (c : Option ℤ) → either (either a (cond b (Some v) None)) c ≡ either a (cond b (Some v) c)
either_more None true v c = refl
either_more None false v c = refl
either_more (Some x) b v c = refl

-- only what is held at times that pass counts
pub held_alike : (w : ℕ → Bool) (f g : ℕ → Option ℤ) (o : Option Row) → ((u : ℕ) → w u ≡ true → f u ≡ g u) → IsLastRow w f o → IsLastRow w g o
held_alike w f g None e h = λ u a. sym (e u a) ∙ h u a
held_alike w f g (Some r) e h = record {
  passes = h.passes;
  held = sym (e r.time h.passes) ∙ h.held;
  last = λ u a b. sym (e u b) ∙ h.last u a b;
}

own_time : (n : ℕ) → nat_eq n n ≡ true
own_time n = eq-eqb n n refl

other_time : (m n : ℕ) → m < n → nat_eq m n ≡ false
other_time m n h = grind (arith, nat_tests)

module _ (l : Pairs) (w : ℕ → Bool) where
  -- a row is of these labels and this time
  abbrev is_at : Row → ℕ → Bool
  is_at r u = same_labels r.labels l && nat_eq r.time u

  -- what is held with a further row
  abbrev more : (ℕ → Option ℤ) → Row → ℕ → Option ℤ
  more f r u = either (f u) (cond (is_at r u) (Some r.value) None)

  -- a row of these labels at a time that passes
  abbrev pub counts : Row → Bool
  counts r = same_labels r.labels l && w r.time

  now_held : (f : ℕ → Option ℤ) (r : Row) → same_labels r.labels l ≡ true → f r.time ≡ None → more f r r.time ≡ Some r.value
  now_held f r s n =
      (λ i. either (n i) (cond (s i && nat_eq r.time r.time) (Some r.value) None))
      ∙ ap (λ b. cond {A = Option ℤ} b (Some r.value) None) (own_time r.time)

  not_held : (f : ℕ → Option ℤ) (r : Row) (u : ℕ) → nat_eq r.time u ≡ false → f u ≡ None → more f r u ≡ None
  not_held f r u e n =
      ap (λ a. either a (cond (is_at r u) (Some r.value) None)) n
      ∙ ap (λ b. cond {A = Option ℤ} (same_labels r.labels l && b) (Some r.value) None) e
      ∙ elim (same_labels r.labels l) as (λ b. ◌≡◌ {A = Option ℤ} (cond (b && false) (Some r.value) None) None) [ true ↦ refl | false ↦ refl ]

  still_held : (f : ℕ → Option ℤ) (r : Row) (u : ℕ) (v : ℤ) → f u ≡ Some v → more f r u ≡ Some v
  still_held f r u v e = ap (λ a. either a (cond (is_at r u) (Some r.value) None)) e

  taken_by : (f : ℕ → Option ℤ) (a r : Row) (b : Bool) → nat_lt a.time r.time ≡ b → same_labels r.labels l ≡ true → w r.time ≡ true
      → IsLast w f a.time a.value → IsLastRow w (more f r) (cond b (Some r) (Some a))
  taken_by f a r true e s p h =
      let k : a.time < r.time = grind (arith, nat_tests) in
      record {
        passes = p;
        held = now_held f r s (h.last r.time k p);
        last = λ u x y. not_held f r u (other_time r.time u x) (h.last u (omega (arith, x, k)) y);
      }
  taken_by f a r false e s p h =
      let k : r.time ≤ a.time = grind (arith, nat_tests) in
      record {
        passes = h.passes;
        held = still_held f r a.time a.value h.held;
        last = λ u x y. not_held f r u (other_time r.time u (omega (arith, x, k))) (h.last u x y);
      }

  taken : (f : ℕ → Option ℤ) (o : Option Row) (r : Row) → same_labels r.labels l ≡ true → w r.time ≡ true → IsLastRow w f o → IsLastRow w (more f r) (later o r)
  taken f None r s p h = record {
    passes = p;
    held = now_held f r s (h r.time p);
    last = λ u x y. not_held f r u (other_time r.time u x) (h u y);
  }
  taken f (Some a) r s p h = taken_by f a r (nat_lt a.time r.time) refl s p h

  passed_labels : (f : ℕ → Option ℤ) (r : Row) (u : ℕ) → same_labels r.labels l ≡ false → f u ≡ more f r u
  passed_labels f r u s = sym (ap (λ b. either (f u) (cond (b && nat_eq r.time u) (Some r.value) None)) s ∙ either_none (f u))

  another_time : (r : Row) (u : ℕ) (b : Bool) → nat_eq r.time u ≡ b → w r.time ≡ false → w u ≡ true → nat_eq r.time u ≡ false
  another_time r u true e n p =
      let is : r.time ≡ u = grind (arith, nat_tests) in
      let no : false ≡ true = sym n ∙ ap w is ∙ p in cc
  another_time r u false e n p = e

  passed_time : (f : ℕ → Option ℤ) (r : Row) (u : ℕ) → nat_eq r.time u ≡ false → f u ≡ more f r u
  passed_time f r u e =
      sym (ap (λ b. either (f u) (cond (same_labels r.labels l && b) (Some r.value) None)) e
      ∙ elim (same_labels r.labels l) as (λ b. either (f u) (cond (b && false) (Some r.value) None) ≡ f u) [ true ↦ either_none (f u) | false ↦ either_none (f u) ])

  step_by : (f : ℕ → Option ℤ) (o : Option Row) (r : Row) (s d : Bool) → same_labels r.labels l ≡ s → w r.time ≡ d → IsLastRow w f o → IsLastRow w (more f r) (cond (s && d) (later o r) o)
  step_by f o r true true e k h = taken f o r e k h
  step_by f o r true false e k h = held_alike w f (more f r) o (λ u a. passed_time f r u (another_time r u (nat_eq r.time u) refl k a)) h
  step_by f o r false d e k h = held_alike w f (more f r) o (λ u a. passed_labels f r u e) h

  onto_by : (f : ℕ → Option ℤ) (o : Option Row) (r : Row) (rs : List Row) (b : Bool) → IsLastRow w (more f r) (cond b (later o r) o)
      → ((p : Option Row) → IsLastRow w (more f r) p → IsLastRow w (λ u. either (more f r u) (held_value rs l u)) (last_onto p (filter counts rs)))
      → IsLastRow w (λ u. either (more f r u) (held_value rs l u)) (last_onto o (cond b (r ∷ filter counts rs) (filter counts rs)))
  onto_by f o r rs true h g = g (later o r) h
  onto_by f o r rs false h g = g o h

  onto : (rows : List Row) (f : ℕ → Option ℤ) (o : Option Row) → IsLastRow w f o → IsLastRow w (λ u. either (f u) (held_value rows l u)) (last_onto o (filter counts rows))
  onto [] f o h = held_alike w f (λ u. either (f u) None) o (λ u a. sym (either_none (f u))) h
  onto (r ∷ rs) f o h =
      held_alike w (λ u. either (more f r u) (held_value rs l u)) (λ u. either (f u) (held_value (r ∷ rs) l u)) _
      (λ u a. either_more (f u) (is_at r u) r.value (held_value rs l u))
      (onto_by f o r rs (counts r) (step_by f o r (same_labels r.labels l) (w r.time) refl refl h) (λ p k. onto rs (more f r) p k))

  -- the last row of these labels at a time that passes
  pub last_row_held : (rows : List Row) → IsLastRow w (λ u. held_value rows l u) (last_row (filter counts rows))
  last_row_held rows = onto rows (λ u. None) None (λ u a. refl)

-- ---- samples

-- a sample of a time n
pub record IsLastAt (w : ℕ → Bool) (f : ℕ → Option ℤ) (s : Sample) : Type 0 where
  pub n : ℕ
  pub time : s.time ≡ pos n
  pub last : IsLast w f n s.value

abbrev pub IsLastSample : (ℕ → Bool) → (ℕ → Option ℤ) → Option Sample → Type 0
IsLastSample w f None = IsNever w f
IsLastSample w f (Some s) = IsLastAt w f s

record IsNatural (z : ℤ) : Type 0 where
  pub n : ℕ
  pub is : z ≡ pos n

natural : (z : ℤ) → int_le (pos 0) z ≡ true → IsNatural z
natural (pos n) h = record { n = n; is = refl }
natural (negsuc n) h = cc

above_time : (z : ℤ) (u : ℕ) → int_lt z (pos u) ≡ true → int_eq z (pos u) ≡ false
above_time z u h = grind (arith, ints)

time_below : (z : ℤ) (n u : ℕ) → z ≡ pos n → n < u → int_lt z (pos u) ≡ true
time_below z n u e h = grind (arith, ints)

below_trans : (z : ℤ) (n u : ℕ) → int_lt z (pos n) ≡ true → n < u → int_lt z (pos u) ≡ true
below_trans z n u h k = grind (arith, ints)

first_held : (x : Sample) (xs : List Sample) (u : ℕ) → int_eq x.time (pos u) ≡ true → value_at (x ∷ xs) (pos u) ≡ Some x.value
first_held x xs u e = ap (λ b. cond b (Some x.value) (value_at xs (pos u))) e

behind_held : (x : Sample) (xs : List Sample) (u : ℕ) → int_eq x.time (pos u) ≡ false → value_at (x ∷ xs) (pos u) ≡ value_at xs (pos u)
behind_held x xs u e = ap (λ b. cond b (Some x.value) (value_at xs (pos u))) e

held_above_by : (a z v : ℤ) (x : Sample) (xs : List Sample) (b : Bool) → int_eq x.time z ≡ b → int_lt a x.time ≡ true
    → cond b (Some x.value) (value_at xs z) ≡ Some v → (value_at xs z ≡ Some v → int_lt a z ≡ true) → int_lt a z ≡ true
held_above_by a z v x xs true e l h f = subst (λ y. int_lt a y ≡ true) ((Decides-int_eq x.time z).0 e) l
held_above_by a z v x xs false e l h f = f h

lt_trans : (a b c : ℤ) → int_lt a b ≡ true → int_lt b c ≡ true → int_lt a c ≡ true
lt_trans a b c p q = grind (arith, ints)

held_above : (a z v : ℤ) (xs : List Sample) → rises_after a xs ≡ true → value_at xs z ≡ Some v → int_lt a z ≡ true
held_above a z v [] r h = cc
held_above a z v (x ∷ xs) r h =
    let l = first_so (int_lt a x.time) (rises_after x.time xs) r in
    let k = second_so (int_lt a x.time) (rises_after x.time xs) r in
    held_above_by a z v x xs (int_eq x.time z) refl l h (λ m. lt_trans a x.time z l (held_above x.time z v xs k m))

either_assoc : (a b c : Option Sample) → either (either a b) c ≡ either a (either b c)
either_assoc None b c = refl
either_assoc (Some s) b c = refl

last_else : (xs : List Sample) (o : Option Sample) → samples.last_onto o xs ≡ either (last_of xs) o
last_else [] o = refl
last_else (x ∷ xs) o =
    last_else xs (Some x)
    ∙ sym (either_assoc (last_of xs) (Some x) o)
    ∙ ap (λ p. either p o) (sym (last_else xs (Some x)))

module _ (from to : ℤ) where
  abbrev w : ℕ → Bool
  w = inside from to

  abbrev in_window : Sample → Bool
  in_window s = samples.is_within from to s

  passes_at : (s : Sample) (n : ℕ) → s.time ≡ pos n → in_window s ≡ w n
  passes_at s n e = ap (λ z. int_lt from z && int_le z to) e

  outside_time : (s : Sample) (u : ℕ) (b : Bool) → int_eq s.time (pos u) ≡ b → in_window s ≡ false → w u ≡ true → int_eq s.time (pos u) ≡ false
  outside_time s u true e n p =
      let no : false ≡ true = sym n ∙ passes_at s u ((Decides-int_eq s.time (pos u)).0 e) ∙ p in cc
  outside_time s u false e n p = e

  module _ (x : Sample) (xs : List Sample) (r : rises_after x.time xs ≡ true) where
    abbrev now : ℕ → Option ℤ
    now u = value_at (x ∷ xs) (pos u)

    abbrev before : ℕ → Option ℤ
    before u = value_at xs (pos u)

    stays_last : (s : Sample) → IsLastAt w before s → IsLastAt w now s
    stays_last s h =
        let k : int_lt x.time (pos h.n) ≡ true = held_above x.time (pos h.n) s.value xs r h.last.held in
        record {
          n = h.n;
          time = h.time;
          last = record {
            passes = h.last.passes;
            held = behind_held x xs h.n (above_time x.time h.n k) ∙ h.last.held;
            last = λ u a b. behind_held x xs u (above_time x.time u (below_trans x.time h.n u k a)) ∙ h.last.last u a b;
          };
        }

    becomes_last : (n : ℕ) → x.time ≡ pos n → in_window x ≡ true → IsNever w before → IsLastAt w now x
    becomes_last n e p h = record {
      n = n;
      time = e;
      last = record {
        passes = sym (passes_at x n e) ∙ p;
        held = first_held x xs n ((Decides-int_eq x.time (pos n)).1 e);
        last = λ u a b. behind_held x xs u (above_time x.time u (time_below x.time n u e a)) ∙ h u b;
      };
    }

    stays_never : in_window x ≡ false → IsNever w before → IsNever w now
    stays_never n h = λ u a. behind_held x xs u (outside_time x u (int_eq x.time (pos u)) refl n a) ∙ h u a

    sample_by : (o : Option Sample) (d : Bool) → in_window x ≡ d → int_le (pos 0) x.time ≡ true → IsLastSample w before o → IsLastSample w now (cond d (either o (Some x)) o)
    sample_by (Some s) true e z h = stays_last s h
    sample_by (Some s) false e z h = stays_last s h
    sample_by None true e z h = let m = natural x.time z in becomes_last m.n m.is e h
    sample_by None false e z h = stays_never e h

  last_by : (x : Sample) (ys : List Sample) (d : Bool) → last_of (cond d (x ∷ ys) ys) ≡ cond d (either (last_of ys) (Some x)) (last_of ys)
  last_by x ys true = last_else ys (Some x)
  last_by x ys false = refl

  last_held : (xs : List Sample) → rises xs ≡ true → list_all is_timed xs ≡ true → IsLastSample w (λ u. value_at xs (pos u)) (last_of (window_of xs from to))
  last_held [] r z = λ u a. refl
  last_held (x ∷ xs) r z =
      let timed = first_so (is_timed x) (list_all is_timed xs) z in
      let h = last_held xs (rises_behind x.time xs r) (second_so (is_timed x) (list_all is_timed xs) z) in
      subst (IsLastSample w (λ u. value_at (x ∷ xs) (pos u))) (sym (last_by x (window_of xs from to) (in_window x)))
      (sample_by x xs r (last_of (window_of xs from to)) (in_window x) refl (first_so (int_le (pos 0) x.time) (int_le x.time (pos 4398046511103)) timed) h)

  pub series_last : (xs : List Sample) → is_series xs ≡ true → IsLastSample w (λ u. value_at xs (pos u)) (last_of (window_of xs from to))
  series_last xs h = last_held xs (first_so (rises xs) (list_all is_timed xs) h) (second_so (rises xs) (list_all is_timed xs) h)

-- ---- the element of both

pub same_element : (w : ℕ → Bool) (f : ℕ → Option ℤ) (l : Pairs) (o : Option Row) (p : Option Sample) → HasLabels l o → IsLastRow w f o → IsLastSample w f p
    → element_of o ≡ element l (option_map (λ s. s.value) p)
same_element w f l None None e h k = refl
same_element w f l None (Some s) e h k = absurd (never_last w f k.n s.value h k.last)
same_element w f l (Some r) None e h k = absurd (never_last w f r.time r.value k h)
same_element w f l (Some r) (Some s) e h k =
    let v = one_value w f r.time k.n r.value s.value h k.last in
    λ i. record { labels = e i; value = v i } ∷ []
