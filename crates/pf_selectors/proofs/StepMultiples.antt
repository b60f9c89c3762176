-- The multiples of a step among times.
use Rattle.std.proofs.Common.{◌≡◌, ℕ, zero, suc, ◌+◌, ◌-◌, ◌*◌, ◌/◌, ◌<◌, ◌≤◌, ◌⊎◌, inl, inr, min, ℤ, pos, negsuc, ◌+ℤ◌, ◌-ℤ◌, ◌*ℤ◌, neg_ℤ, ◌≤ℤ◌, ◌<ℤ◌, FitsSigned, w64, to_z, of_z, unsigned_abs, Bool, true, false, cond, ◌||◌, Option, None, Some, IfSome, List, [], ◌∷◌, ◌++◌, length, refl, sym, ap, ◌∙◌, subst, add-one, arith}
use Rattle.std.specs.Prelude.{int_le, slice_index_or}
use Rattle.std.specs.Int.{int_max}
use Rattle.std.specs.List.{filter}
use Rattle.std.proofs.Math.IntN.{suc_ℤ, suc_ℤ-*ℤ, zero-*ℤ, +ℤ_idr}
use Rattle.std.proofs.lemmas.Bool.{cases_lt}
use Rattle.std.proofs.lemmas.Int.{ints, to_z-of_z}
use Rattle.std.proofs.lemmas.Nat.{div-add-mod', le-div}
use Rattle.std.proofs.Math.Nat.{mul-le-mul_right, div-le_self, div-eq_of_lt, min-eq_left, min-eq_right, mod-lt, div-zero}
use Rattle.std.proofs.lemmas.List.{append_assoc}
use Rattle.std.proofs.lemmas.List.Elements.{filter_agree}
use Rattle.pf_model.specs.Evaluation.{multiples, multiples_behind}
use Rattle.pf_model.specs.Lists.{Each}
use Rattle.pf_model.specs.Merging.{below}
use Rattle.pf_model.specs.Micros.{cut_down}
use Rattle.pf_range.specs.Windows.{IsTime}
use Rattle.pf_selectors.specs.Subqueries.{AreBetween, AreMultiplesOver, AreOrdered, AreTouching, HoldWindows, IsListOver, is_read, lies_in}
use Rattle.pf_selectors.specs.Times.{AreStarts, AreTimes, time_at}
use Rattle.pf_selectors.specs.declared.times.Times.{Times}
use Rattle.pf_columns.proofs.Below.{first_below}
use Rattle.pf_selectors.proofs.RunValues.{below_alike, below_more}
use Rattle.pf_selectors.proofs.StepTimes.{from_list, greater, lt_or_is, run_at}
use Rattle.pf_selectors.proofs.WindowFilters.{Rises, each_at, each_passes, each_weaker, filter_both, filter_passing, filter_within, int_cases, list_below, or_cases, or_left, or_right, rises_at, rises_filter, same_truth}

down_times : (a d : ℕ) → negsuc a *ℤ pos d ≡ neg_ℤ (pos (suc a * d))
down_times a d = refl

-- a step that isn't 0
module _ (d : ℕ) (s : 0 < d) where
  pub up_to : (m z : ℤ) → m ≤ℤ cut_down z d → (m *ℤ pos d) ≤ℤ z
  up_to (pos a) (pos n) h =
      let p : a * d ≤ (n / d) * d = mul-le-mul_right d (omega (arith, ints, h)) in omega (arith, ints, p, div-add-mod' n d)
  up_to (pos a) (negsuc n) h = absurd (omega (arith, ints, h))
  up_to (negsuc a) (pos n) h = omega (arith, ints, down_times a d)
  up_to (negsuc a) (negsuc n) h =
      let p : suc (n / d) * d ≤ suc a * d = mul-le-mul_right d (omega (arith, ints, h)) in
      omega (arith, ints, p, div-add-mod' n d, mod-lt n s, down_times a d)

  pub above : (m z : ℤ) → cut_down z d <ℤ m → z <ℤ (m *ℤ pos d)
  above (pos a) (pos n) h =
      let p : suc (n / d) * d ≤ a * d = mul-le-mul_right d (omega (arith, ints, h)) in omega (arith, ints, p, div-add-mod' n d, mod-lt n s)
  above (pos a) (negsuc n) h = omega (arith, ints)
  above (negsuc a) (pos n) h = absurd (omega (arith, ints, h))
  above (negsuc a) (negsuc n) h =
      let p : suc a * d ≤ (n / d) * d = mul-le-mul_right d (omega (arith, ints, h)) in
      omega (arith, ints, p, div-add-mod' n d, down_times a d)

-- cut down, times stay in order, and grow no larger
div_mono : (d a b : ℕ) → a ≤ b → a / d ≤ b / d
div_mono zero a b h = omega (arith, div-zero a, div-zero b)
div_mono (suc d) a b h = le-div (a / suc d) b (suc d) (omega arith) (omega (arith, h, div-add-mod' a (suc d)))

pub in_steps : (d : ℕ) (a b : ℤ) → a ≤ℤ b → cut_down a d ≤ℤ cut_down b d
in_steps d (pos a) (pos b) o = let p : a / d ≤ b / d = div_mono d a b (omega (arith, ints, o)) in omega (arith, ints, p)
in_steps d (pos a) (negsuc b) o = absurd (omega (arith, ints, o))
in_steps d (negsuc a) (pos b) o = omega (arith, ints)
in_steps d (negsuc a) (negsuc b) o = let p : b / d ≤ a / d = div_mono d b a (omega (arith, ints, o)) in omega (arith, ints, p)

pub smaller : (d : ℕ) (z : ℤ) → unsigned_abs (cut_down z d) ≤ unsigned_abs z
smaller d (pos n) = div-le_self n d
smaller d (negsuc n) = let p : n / d ≤ n = div-le_self n d in omega (arith, p)

onto : (l f : ℤ) → f ≤ℤ l → f +ℤ pos (unsigned_abs (l -ℤ f)) ≡ l
onto l f h = grind (arith, ints)

pub counted : (d : ℕ) (a b : ℤ) → a ≤ℤ b → cut_down a d +ℤ pos (unsigned_abs (cut_down b d -ℤ cut_down a d)) ≡ cut_down b d
counted d a b o = onto (cut_down b d) (cut_down a d) (in_steps d a b o)

-- the first one behind a time
pub first_within : (d : ℕ) (a b : ℤ) → 0 < d → (cut_down a d +ℤ pos 1) ≤ℤ cut_down b d → (a ≤ℤ ((cut_down a d +ℤ pos 1) *ℤ pos d)) × (((cut_down a d +ℤ pos 1) *ℤ pos d) ≤ℤ b)
first_within d a b s h =
    let l : a <ℤ ((cut_down a d +ℤ pos 1) *ℤ pos d) = above d s (cut_down a d +ℤ pos 1) a (omega (arith, ints)) in
    (omega (arith, ints, l), up_to d s (cut_down a d +ℤ pos 1) b h)

pub first_time : (d : ℕ) (a b : ℤ) → 0 < d → IsTime a → IsTime b → (cut_down a d +ℤ pos 1) ≤ℤ cut_down b d → IsTime ((cut_down a d +ℤ pos 1) *ℤ pos d)
first_time d a b s p q h =
    let w = first_within d a b s h in
    (omega (arith, ints, p.0, w.0), omega (arith, ints, q.1, w.1))

next_fits : (d : ℕ) (a : ℤ) → IsTime a → FitsSigned w64 (cut_down a d +ℤ pos 1)
next_fits d a h = let n = smaller d a in omega (arith, ints, n, h.0, h.1)

pub next_is : (d : ℕ) (a r : ℤ) → IsTime a → r ≡ cut_down a d → to_z w64 (of_z w64 (r +ℤ pos 1)) ≡ cut_down a d +ℤ pos 1
next_is d a r h e =
    to_z-of_z w64 (r +ℤ pos 1) (subst (λ z. FitsSigned w64 (z +ℤ pos 1)) (sym e) (next_fits d a h)) ∙ ap (λ z. z +ℤ pos 1) e

-- ---- some of the multiples behind a number

one_more : (m : ℤ) (i : ℕ) → (m +ℤ pos 1) +ℤ pos (suc i) ≡ m +ℤ pos (suc (suc i))
one_more m i = omega (arith, ints)

module _ (s : ℤ) (p : ℤ → Bool) where
  drops : (m : ℤ) (n r : ℕ) → ((i : ℕ) → i < n → p ((m +ℤ pos (suc i)) *ℤ s) ≡ false) → filter p (multiples_behind s m (n + r)) ≡ filter p (multiples_behind s (m +ℤ pos n) r)
  drops m zero r h =
      let here : m ≡ m +ℤ pos 0 = omega (arith, ints) in
      let plus : 0 + r ≡ r = omega arith in
      ap (λ k. filter p (multiples_behind s m k)) plus ∙ ap (λ k. filter p (multiples_behind s k r)) here
  drops m (suc n) r h =
      let more : suc n + r ≡ suc (n + r) = omega arith in
      let next : (m +ℤ pos 1) +ℤ pos n ≡ m +ℤ pos (suc n) = omega (arith, ints) in
      ap (λ k. filter p (multiples_behind s m k)) more
      ∙ ap (λ b. cond b (((m +ℤ pos 1) *ℤ s) ∷ filter p (multiples_behind s (m +ℤ pos 1) (n + r))) (filter p (multiples_behind s (m +ℤ pos 1) (n + r)))) (h 0 (omega arith))
      ∙ drops (m +ℤ pos 1) n r (λ i l. ap (λ k. p (k *ℤ s)) (one_more m i) ∙ h (suc i) (omega (arith, l)))
      ∙ ap (λ k. filter p (multiples_behind s k r)) next

  keeps : (m : ℤ) (n r : ℕ) → ((i : ℕ) → i < n → p ((m +ℤ pos (suc i)) *ℤ s) ≡ true) → filter p (multiples_behind s m (n + r)) ≡ multiples_behind s m n ++ filter p (multiples_behind s (m +ℤ pos n) r)
  keeps m zero r h =
      let here : m ≡ m +ℤ pos 0 = omega (arith, ints) in
      let plus : 0 + r ≡ r = omega arith in
      ap (λ k. filter p (multiples_behind s m k)) plus ∙ ap (λ k. filter p (multiples_behind s k r)) here
  keeps m (suc n) r h =
      let more : suc n + r ≡ suc (n + r) = omega arith in
      let next : (m +ℤ pos 1) +ℤ pos n ≡ m +ℤ pos (suc n) = omega (arith, ints) in
      ap (λ k. filter p (multiples_behind s m k)) more
      ∙ ap (λ b. cond b (((m +ℤ pos 1) *ℤ s) ∷ filter p (multiples_behind s (m +ℤ pos 1) (n + r))) (filter p (multiples_behind s (m +ℤ pos 1) (n + r)))) (h 0 (omega arith))
      ∙ ap (λ ys. ((m +ℤ pos 1) *ℤ s) ∷ ys)
      (keeps (m +ℤ pos 1) n r (λ i l. ap (λ k. p (k *ℤ s)) (one_more m i) ∙ h (suc i) (omega (arith, l)))
      ∙ ap (λ k. multiples_behind s (m +ℤ pos 1) n ++ filter p (multiples_behind s k r)) next)

  none : (m : ℤ) (n : ℕ) → ((i : ℕ) → i < n → p ((m +ℤ pos (suc i)) *ℤ s) ≡ false) → filter p (multiples_behind s m n) ≡ []
  none m n h =
      let same : n ≡ n + 0 = omega arith in
      ap (λ k. filter p (multiples_behind s m k)) same ∙ drops m n 0 h

nothing : {X : Type 0} (xs : List X) → xs ++ [] ≡ xs
nothing [] = refl
nothing (x ∷ xs) = ap (λ ys. x ∷ ys) (nothing xs)

late_is : (from to u : ℤ) → to <ℤ u → lies_in from to u ≡ false
late_is from to u h = grind (arith, ints)

early_is : (from to u : ℤ) → u ≤ℤ from → lies_in from to u ≡ false
early_is from to u h = grind (arith, ints)

inside_is : (from to u : ℤ) → from <ℤ u → u ≤ℤ to → lies_in from to u ≡ true
inside_is from to u h k = grind (arith, ints)

-- those in a window are the window's own
module _ (d : ℕ) (s : 0 < d) (from to m : ℤ) (n : ℕ) (low : m ≤ℤ cut_down from d) (order : from ≤ℤ to) (high : cut_down to d ≤ℤ (m +ℤ pos n)) where
  abbrev before : ℕ
  before = unsigned_abs (cut_down from d -ℤ m)

  abbrev within : ℕ
  within = unsigned_abs (cut_down to d -ℤ cut_down from d)

  abbrev after : ℕ
  after = unsigned_abs ((m +ℤ pos n) -ℤ cut_down to d)

  first_is : m +ℤ pos before ≡ cut_down from d
  first_is = onto (cut_down from d) m low

  last_is : cut_down from d +ℤ pos within ≡ cut_down to d
  last_is = counted d from to order

  end_is : cut_down to d +ℤ pos after ≡ m +ℤ pos n
  end_is = onto (m +ℤ pos n) (cut_down to d) high

  all_is : n ≡ before + (within + after)
  all_is = omega (arith, ints, first_is, last_is, end_is)

  pub those_within : filter (lies_in from to) (multiples_behind (pos d) m n) ≡ multiples d from to
  those_within =
      let test = lies_in from to in
      ap (λ k. filter test (multiples_behind (pos d) m k)) all_is
      ∙ drops (pos d) test m before (within + after)
      (λ i l. early_is from to ((m +ℤ pos (suc i)) *ℤ pos d) (up_to d s (m +ℤ pos (suc i)) from (omega (arith, ints, l, first_is))))
      ∙ ap (λ k. filter test (multiples_behind (pos d) k (within + after))) first_is
      ∙ keeps (pos d) test (cut_down from d) within after
      (λ i l. inside_is from to ((cut_down from d +ℤ pos (suc i)) *ℤ pos d)
      (above d s (cut_down from d +ℤ pos (suc i)) from (omega (arith, ints)))
      (up_to d s (cut_down from d +ℤ pos (suc i)) to (omega (arith, ints, l, last_is))))
      ∙ ap (λ ys. multiples_behind (pos d) (cut_down from d) within ++ ys)
      (ap (λ k. filter test (multiples_behind (pos d) k after)) last_is
      ∙ none (pos d) test (cut_down to d) after
      (λ i l. late_is from to ((cut_down to d +ℤ pos (suc i)) *ℤ pos d) (above d s (cut_down to d +ℤ pos (suc i)) to (omega (arith, ints)))))
      ∙ nothing (multiples_behind (pos d) (cut_down from d) within)

-- ---- the times of a run of multiples

one_on : (m : ℤ) → m +ℤ pos 1 ≡ suc_ℤ m
one_on (pos n) = omega (arith, ints)
one_on (negsuc zero) = refl
one_on (negsuc (suc n)) = omega (arith, ints)

next_time : (m : ℤ) (d : ℕ) → (m +ℤ pos 1) *ℤ pos d ≡ (m *ℤ pos d) +ℤ pos d
next_time m d = ap (λ x. x *ℤ pos d) (one_on m) ∙ suc_ℤ-*ℤ m (pos d)

sums_up : (a b c e x y : ℤ) → a +ℤ b ≡ c → x ≡ b +ℤ e → y ≡ c +ℤ e → a +ℤ x ≡ y
sums_up a b c e x y h p q = omega (arith, ints)

times_up : (m : ℤ) (d j : ℕ) → ((m +ℤ pos 1) *ℤ pos d) +ℤ (pos j *ℤ pos d) ≡ (m +ℤ pos (suc j)) *ℤ pos d
times_up m d zero = ap (λ x. ((m +ℤ pos 1) *ℤ pos d) +ℤ x) (zero-*ℤ (pos d)) ∙ +ℤ_idr ((m +ℤ pos 1) *ℤ pos d)
times_up m d (suc j) =
    let on : m +ℤ pos (suc (suc j)) ≡ (m +ℤ pos (suc j)) +ℤ pos 1 = omega (arith, ints) in
    sums_up ((m +ℤ pos 1) *ℤ pos d) (pos j *ℤ pos d) ((m +ℤ pos (suc j)) *ℤ pos d) (pos d) (pos (suc j) *ℤ pos d) ((m +ℤ pos (suc (suc j))) *ℤ pos d)
    (times_up m d j) (suc_ℤ-*ℤ (pos j) (pos d)) (ap (λ x. x *ℤ pos d) on ∙ next_time (m +ℤ pos (suc j)) d)

pub between_is : (from to : ℤ) (d : ℕ) (at : Times) → at.list.now ≡ [] → at.start ≡ (cut_down from d +ℤ pos 1) *ℤ pos d → at.step ≡ pos d → cut_down from d +ℤ pos at.len ≡ cut_down to d
    → from ≤ℤ at.start → at.start ≤ℤ to → AreBetween from to d at
between_is from to d at e a b n l h = record {
  len = n;
  times = λ j u. run_at at j e ∙ (λ i. a i +ℤ (pos j *ℤ b i)) ∙ times_up (cut_down from d) d j;
  start = (l, h);
}

pub none_between : (from to : ℤ) (d : ℕ) (at : Times) → at.start ≡ to → at.len ≡ 0 → from ≤ℤ to → cut_down from d +ℤ pos 0 ≡ cut_down to d → AreBetween from to d at
none_between from to d at a n o e = record {
  len = ap (λ k. cut_down from d +ℤ pos k) n ∙ e;
  times = λ j u. absurd (omega (arith, u, n));
  start = (omega (arith, ints, a, o), omega (arith, ints, a));
}

pub above_from : (from to : ℤ) (d : ℕ) (at : Times) (j : ℕ) → 0 < d → AreBetween from to d at → j < at.len → from <ℤ time_at at j
above_from from to d at j s b u =
    subst (λ z. from <ℤ z) (sym (b.times j u)) (above d s (cut_down from d +ℤ pos (suc j)) from (omega (arith, ints)))

pub up_to_last : (from to : ℤ) (d : ℕ) (at : Times) (j : ℕ) → 0 < d → AreBetween from to d at → j < at.len → time_at at j ≤ℤ to
up_to_last from to d at j s b u =
    let l = b.len in
    subst (λ z. z ≤ℤ to) (sym (b.times j u)) (up_to d s (cut_down from d +ℤ pos (suc j)) to (omega (arith, ints, u, l)))

pub between_times : (from to : ℤ) (d : ℕ) (at : Times) → 0 < d → IsTime from → IsTime to → AreBetween from to d at → AreTimes at
between_times from to d at s first last b = λ j u.
    let l = above_from from to d at j s b u in
    let h = up_to_last from to d at j s b u in
    (omega (arith, ints, l, first.0), omega (arith, ints, h, last.1))

one_later : (m : ℤ) (k : ℕ) → m +ℤ pos (suc (suc k)) ≡ (m +ℤ pos 1) +ℤ pos (suc k)
one_later m k = omega (arith, ints)

behind_below : (s m : ℤ) (n : ℕ) → below (λ j. (m +ℤ pos (suc j)) *ℤ s) n ≡ multiples_behind s m n
behind_below s m zero = refl
behind_below s m (suc n) =
    first_below (λ j. (m +ℤ pos (suc j)) *ℤ s) n
    ∙ ap (λ xs. ((m +ℤ pos 1) *ℤ s) ∷ xs)
    (below_alike (λ j. (m +ℤ pos (suc (suc j))) *ℤ s) (λ j. ((m +ℤ pos 1) +ℤ pos (suc j)) *ℤ s) n (λ j u. ap (λ k. k *ℤ s) (one_later m j))
    ∙ behind_below s (m +ℤ pos 1) n)

pub between_behind : (from to : ℤ) (d : ℕ) (at : Times) → AreBetween from to d at → below (time_at at) at.len ≡ multiples_behind (pos d) (cut_down from d) at.len
between_behind from to d at b =
    below_alike (time_at at) (λ j. (cut_down from d +ℤ pos (suc j)) *ℤ pos d) at.len b.times ∙ behind_below (pos d) (cut_down from d) at.len

count_is : (a b : ℤ) (n : ℕ) → a +ℤ pos n ≡ b → n ≡ unsigned_abs (b -ℤ a)
count_is a b n h = grind (arith, ints)

pub between_all : (from to : ℤ) (d : ℕ) (at : Times) → AreBetween from to d at → below (time_at at) at.len ≡ multiples d from to
between_all from to d at b =
    between_behind from to d at b ∙ ap (multiples_behind (pos d) (cut_down from d)) (count_is (cut_down from d) (cut_down to d) at.len b.len)

-- ---- the multiples in a part

pub part_is : (d : ℕ) (a z f g : ℤ) → 0 < d → a ≤ℤ f → f ≤ℤ g → g ≤ℤ z → filter (lies_in f g) (multiples d a z) ≡ multiples d f g
part_is d a z f g s p o q =
    those_within d s f g (cut_down a d) (unsigned_abs (cut_down z d -ℤ cut_down a d)) (in_steps d a f p) o
    (subst (λ x. cut_down g d ≤ℤ x) (sym (counted d a z (omega (arith, ints, p, o, q)))) (in_steps d g z q))

-- a test that only times in a part pass
pub narrow : (test : ℤ → Bool) (d : ℕ) (a z f g : ℤ) → 0 < d → a ≤ℤ f → f ≤ℤ g → g ≤ℤ z → ((u : ℤ) → test u ≡ true → lies_in f g u ≡ true)
    → filter test (multiples d a z) ≡ filter test (multiples d f g)
narrow test d a z f g s p o q h =
    sym (filter_within test (lies_in f g) h (multiples d a z)) ∙ ap (filter test) (part_is d a z f g s p o q)

-- a test that all times in a part pass
pub all_pass : (test : ℤ → Bool) (d : ℕ) (f g : ℤ) → 0 < d → f ≤ℤ g → ((u : ℤ) → lies_in f g u ≡ true → test u ≡ true) → multiples d f g ≡ filter test (multiples d f g)
all_pass test d f g s o h =
    let own = part_is d f g f g s (omega (arith, ints)) o (omega (arith, ints)) in
    sym own ∙ sym (filter_passing test (lies_in f g) h (multiples d f g)) ∙ ap (filter test) own

behind_rise : (d : ℕ) (m : ℤ) (n : ℕ) → 0 < d → Each (λ y. (m *ℤ pos d) <ℤ y) (multiples_behind (pos d) m n) × Rises (multiples_behind (pos d) m n)
behind_rise d m zero s = (tt, tt)
behind_rise d m (suc n) s =
    let r = behind_rise d (m +ℤ pos 1) n s in
    let e = next_time m d in
    let l : (m *ℤ pos d) <ℤ ((m +ℤ pos 1) *ℤ pos d) = omega (arith, ints, e, s) in
    ((l, each_weaker (λ y. ((m +ℤ pos 1) *ℤ pos d) <ℤ y) (λ y. (m *ℤ pos d) <ℤ y) (λ y h. omega (arith, ints, l, h)) (multiples_behind (pos d) (m +ℤ pos 1) n) r.0), r)

pub multiples_rise : (d : ℕ) (a z : ℤ) → 0 < d → Rises (multiples d a z)
multiples_rise d a z s = (behind_rise d (cut_down a d) (unsigned_abs (cut_down z d -ℤ cut_down a d)) s).1

-- ---- steps longer than all times

abbrev low_or_zero : ℤ → ℤ
low_or_zero (pos n) = pos 0
low_or_zero (negsuc n) = negsuc 0

long_down : (d : ℕ) (z : ℤ) → 1125899906842624 < d → IsTime z → cut_down z d ≡ low_or_zero z
long_down d (pos n) l h = ap pos (div-eq_of_lt (omega (arith, ints, l, h.1)))
long_down d (negsuc n) l h = ap negsuc (div-eq_of_lt (omega (arith, ints, l, h.0)))

few_alike : (d r : ℕ) (a b : ℤ) → a ≤ℤ b
    → multiples_behind (pos d) (low_or_zero a) (unsigned_abs (low_or_zero b -ℤ low_or_zero a)) ≡ multiples_behind (pos r) (low_or_zero a) (unsigned_abs (low_or_zero b -ℤ low_or_zero a))
few_alike d r (pos x) (pos y) o = refl
few_alike d r (pos x) (negsuc y) o = absurd (omega (arith, ints, o))
few_alike d r (negsuc x) (pos y) o = ap (λ z. z ∷ []) (zero-*ℤ (pos d) ∙ sym (zero-*ℤ (pos r)))
few_alike d r (negsuc x) (negsuc y) o = refl

-- a step, and the longest that is needed
pub record IsShortened (r d : ℕ) : Type 0 where
  pub some : 0 < d
  pub down : (z : ℤ) → IsTime z → cut_down z d ≡ cut_down z r
  pub alike : (a b : ℤ) → IsTime a → IsTime b → a ≤ℤ b → multiples d a b ≡ multiples r a b

long_alike : (r d : ℕ) (a b : ℤ) → 1125899906842624 < r → 1125899906842624 < d → IsTime a → IsTime b → a ≤ℤ b → multiples d a b ≡ multiples r a b
long_alike r d a b l k p q o =
    (λ i. multiples_behind (pos d) (long_down d a k p i) (unsigned_abs (long_down d b k q i -ℤ long_down d a k p i)))
    ∙ few_alike d r a b o
    ∙ sym (λ i. multiples_behind (pos r) (long_down r a l p i) (unsigned_abs (long_down r b l q i -ℤ long_down r a l p i)))

shortened_same : (r d : ℕ) → 0 < r → d ≡ r → IsShortened r d
shortened_same r d s e = record {
  some = omega (arith, s, e);
  down = λ z h. ap (cut_down z) e;
  alike = λ a b p q o. ap (λ k. multiples k a b) e;
}

shortened_long : (r d : ℕ) → 1125899906842624 < r → 1125899906842624 < d → IsShortened r d
shortened_long r d l k = record {
  some = omega (arith, k);
  down = λ z h. long_down d z k h ∙ sym (long_down r z l h);
  alike = λ a b p q o. long_alike r d a b l k p q o;
}

min_is : (r l : ℕ) → (min r l ≡ r) ⊎ ((l < r) × (min r l ≡ l))
min_is r l = elim (cases_lt l r) [
  | inl a ↦ inr (a, min-eq_right (omega (arith, a)))
  | inr b ↦ inl (min-eq_left b)
]

pub shortened : (r : ℕ) → 0 < r → IsShortened r (min r 2251799813685248)
shortened r s = elim (min_is r 2251799813685248) [
  | inl e ↦ shortened_same r (min r 2251799813685248) s e
  | inr e ↦ shortened_long r (min r 2251799813685248) (omega (arith, e.0)) (omega (arith, e.1))
]

-- ---- the times that are read

pub lies_low : (from to u : ℤ) → lies_in from to u ≡ true → from <ℤ u
lies_low from to u h = grind (arith, ints)

pub lies_high : (from to u : ℤ) → lies_in from to u ≡ true → u ≤ℤ to
lies_high from to u h = grind (arith, ints)

module _ (range : ℕ) (times : Times) where
  abbrev from_at : ℕ → ℤ
  from_at k = time_at times k -ℤ pos range

  abbrev first : ℤ
  first = from_at 0

  abbrev last : ℤ
  last = time_at times (times.len - 1)

  -- where the window before a step ends
  abbrev pub end_at : ℕ → ℤ
  end_at zero = first
  end_at (suc n) = time_at times n

  pub window_rises : (k : ℕ) → from_at k ≤ℤ time_at times k
  window_rises k = omega (arith, ints)

  pub none_read : (us : List ℤ) → filter (is_read range times 0) us ≡ []
  none_read [] = refl
  none_read (u ∷ us) = none_read us

  -- what is in a window is read
  pub is_in : (n k : ℕ) (u : ℤ) → k < n → lies_in (from_at k) (time_at times k) u ≡ true → is_read range times n u ≡ true
  is_in zero k u l h = absurd (omega (arith, l))
  is_in (suc n) k u l h = elim (lt_or_is k n l) as (λ _. is_read range times (suc n) u ≡ true) [
    | inl i ↦ or_left (is_read range times n u) (lies_in (from_at n) (time_at times n) u) (is_in n k u i h)
    | inr i ↦ or_right (is_read range times n u) (lies_in (from_at n) (time_at times n) u) (ap (λ j. lies_in (from_at j) (time_at times j) u) (sym i) ∙ h)
  ]

  -- and what is read is in one of them
  pub in_one : (P : ℤ → Type 0) (n : ℕ) (u : ℤ) → ((k : ℕ) → k < n → lies_in (from_at k) (time_at times k) u ≡ true → P u) → is_read range times n u ≡ true → P u
  in_one P zero u f h = cc
  in_one P (suc n) u f h = elim (or_cases (is_read range times n u) (lies_in (from_at n) (time_at times n) u) h) as (λ _. P u) [
    | inl a ↦ in_one P n u (λ k l i. f k (omega (arith, l)) i) a
    | inr b ↦ f n (omega arith) b
  ]

  module _ (ordered : AreOrdered times) where
    in_order : (j k : ℕ) → j ≤ k → k < times.len → time_at times j ≤ℤ time_at times k
    in_order j zero l h =
        let e : j ≡ 0 = omega (arith, l) in
        subst (λ i. time_at times i ≤ℤ time_at times 0) (sym e) (omega (arith, ints))
    in_order j (suc k) l h = elim (lt_or_is j (suc k) (omega (arith, l))) as (λ _. time_at times j ≤ℤ time_at times (suc k)) [
      | inl a ↦ let p = in_order j k (omega (arith, a)) (omega (arith, h)) in let q = ordered k h in omega (arith, ints, p, q)
      | inr e ↦ subst (λ i. time_at times i ≤ℤ time_at times (suc k)) (sym e) (omega (arith, ints))
    ]

    pub low_ordered : (k : ℕ) → k < times.len → first ≤ℤ from_at k
    low_ordered k l = let p = in_order 0 k (omega arith) l in omega (arith, ints, p)

    pub high_ordered : (k : ℕ) → k < times.len → time_at times k ≤ℤ last
    high_ordered k l = in_order k (times.len - 1) (omega (arith, l)) (omega (arith, l))

    pub read_between : (u : ℤ) → is_read range times times.len u ≡ true → lies_in first last u ≡ true
    read_between u h = in_one (λ v. lies_in first last v ≡ true) times.len u
        (λ k l i.
        let a = lies_low (from_at k) (time_at times k) u i in
        let b = lies_high (from_at k) (time_at times k) u i in
        let p = low_ordered k l in
        let q = high_ordered k l in
        inside_is first last u (omega (arith, ints, a, p)) (omega (arith, ints, b, q))) h

    -- where the windows touch, all times are read
    pub covers : AreTouching range times → (n : ℕ) → n < times.len → (u : ℤ) → first <ℤ u → u ≤ℤ time_at times n → is_read range times (suc n) u ≡ true
    covers touch zero l u a b = inside_is first (time_at times 0) u a b
    covers touch (suc n) l u a b = elim (int_cases (time_at times n) u) as (λ _. is_read range times (suc (suc n)) u ≡ true) [
      | inl h ↦ let t = touch n l in
          or_right (is_read range times (suc n) u) (lies_in (from_at (suc n)) (time_at times (suc n)) u)
          (inside_is (from_at (suc n)) (time_at times (suc n)) u (omega (arith, ints, t, h)) b)
      | inr h ↦ or_left (is_read range times (suc n) u) (lies_in (from_at (suc n)) (time_at times (suc n)) u) (covers touch n (omega (arith, l)) u a h)
    ]

    -- ---- window by window

    read_end : (n : ℕ) (u : ℤ) → n ≤ times.len → is_read range times n u ≡ true → u ≤ℤ end_at n
    read_end zero u l h = cc
    read_end (suc n) u l h = in_one (λ v. v ≤ℤ time_at times n) (suc n) u
        (λ k m i. let b = lies_high (from_at k) (time_at times k) u i in let q = in_order k n (omega (arith, m)) (omega (arith, l)) in omega (arith, ints, b, q)) h

    behind_end : (n : ℕ) (u : ℤ) → n < times.len → from_at n <ℤ u → u ≤ℤ end_at n → is_read range times n u ≡ true
    behind_end zero u l a b = absurd (omega (arith, ints, a, b))
    behind_end (suc n) u l a b =
        let o = ordered n l in
        or_right (is_read range times n u) (lies_in (from_at n) (time_at times n) u) (inside_is (from_at n) (time_at times n) u (omega (arith, ints, a, o)) b)

    pub before_end : (k : ℕ) → k < times.len → end_at k ≤ℤ time_at times k
    before_end zero h = window_rises 0
    before_end (suc k) h = ordered k h

    -- what isn't read yet of the next window
    module _ (n : ℕ) (l : n < times.len) (f : ℤ) (low : from_at n ≤ℤ f) (high : end_at n ≤ℤ f) (one : (f ≡ from_at n) ⊎ (f ≡ end_at n)) where
      rest_of : (u : ℤ) (b : Bool) → is_read range times n u ≡ b → (b || lies_in f (time_at times n) u) ≡ (b || lies_in (from_at n) (time_at times n) u)
      rest_of u true e = refl
      rest_of u false e = same_truth (lies_in f (time_at times n) u) (lies_in (from_at n) (time_at times n) u)
          (λ h. let a = lies_low f (time_at times n) u h in inside_is (from_at n) (time_at times n) u (omega (arith, ints, a, low)) (lies_high f (time_at times n) u h))
          (λ h.
          let a = lies_low (from_at n) (time_at times n) u h in
          let b = lies_high (from_at n) (time_at times n) u h in
          elim one as (λ _. lies_in f (time_at times n) u ≡ true) [
            | inl g ↦ inside_is f (time_at times n) u (omega (arith, ints, g, a)) b
            | inr g ↦ elim (int_cases f u) as (λ _. lies_in f (time_at times n) u ≡ true) [
              | inl c ↦ inside_is f (time_at times n) u c b
              | inr c ↦ let no : false ≡ true = sym e ∙ behind_end n u l a (omega (arith, ints, g, c)) in cc
            ]
          ])

      pub window_more : (d : ℕ) → 0 < d
          → filter (is_read range times n) (multiples d first last) ++ multiples d f (time_at times n) ≡ filter (is_read range times (suc n)) (multiples d first last)
      window_more d s =
          let p = low_ordered n l in
          let o : f ≤ℤ time_at times n = ends one in
          ap (λ us. filter (is_read range times n) (multiples d first last) ++ us)
          (sym (part_is d first last f (time_at times n) s (omega (arith, ints, p, low)) o (high_ordered n l)))
          ∙ filter_both (end_at n) (is_read range times n) (lies_in f (time_at times n)) (λ u h. read_end n u (omega (arith, l)) h)
          (λ u h. let a = lies_low f (time_at times n) u h in omega (arith, ints, a, high)) (multiples d first last) (multiples_rise d first last s)
          ∙ filter_agree (λ u. is_read range times n u || lies_in f (time_at times n) u) (is_read range times (suc n)) (λ u. rest_of u (is_read range times n u) refl) (multiples d first last) where
            ends : (f ≡ from_at n) ⊎ (f ≡ end_at n) → f ≤ℤ time_at times n
            ends (inl g) = let w = window_rises n in omega (arith, ints, g, w)
            ends (inr g) = let w = before_end n l in omega (arith, ints, g, w)

-- ---- the multiples over all windows of a run

module _ (range r d : ℕ) (times : Times) (from to : ℤ) (s : 0 < r) (short : IsShortened r d) (some : 0 < times.len) (first : IsTime from) (last : IsTime to) (bounded : AreTimes times) (starts : AreStarts range times)
    (low : (k : ℕ) → k < times.len → from ≤ℤ (time_at times k -ℤ pos range)) (high : (k : ℕ) → k < times.len → time_at times k ≤ℤ to)
    (least : (bound : ℤ) → ((k : ℕ) → k < times.len → bound ≤ℤ (time_at times k -ℤ pos range)) → bound ≤ℤ from)
    (greatest : (bound : ℤ) → ((k : ℕ) → k < times.len → time_at times k ≤ℤ bound) → to ≤ℤ bound) where
  rises : from ≤ℤ to
  rises = let l = low 0 some in let h = high 0 some in let w = window_rises range times 0 in omega (arith, ints, l, h, w)

  lowest : (l h : ℤ) → HoldWindows l h range times → l ≤ℤ from
  lowest l h w = least l (λ k u. (w.windows k u).0)

  highest : (l h : ℤ) → HoldWindows l h range times → to ≤ℤ h
  highest l h w = greatest h (λ k u. (w.windows k u).1)

  read_within : (u : ℤ) → is_read range times times.len u ≡ true → lies_in from to u ≡ true
  read_within u h = in_one range times (λ v. lies_in from to v ≡ true) times.len u
      (λ k l i.
      let a = lies_low (time_at times k -ℤ pos range) (time_at times k) u i in
      let b = lies_high (time_at times k -ℤ pos range) (time_at times k) u i in
      let p = low k l in
      let q = high k l in
      inside_is from to u (omega (arith, ints, a, p)) (omega (arith, ints, b, q))) h

  -- the multiples that are read are those of any bounds
  any_bounds : (l h : ℤ) → HoldWindows l h range times → filter (is_read range times times.len) (multiples r from to) ≡ filter (is_read range times times.len) (multiples r l h)
  any_bounds l h w = sym (narrow (is_read range times times.len) r l h from to s (lowest l h w) rises (highest l h w) read_within)

  window_of_all : (k : ℕ) → k < times.len → filter (lies_in (time_at times k -ℤ pos range) (time_at times k)) (multiples d from to) ≡ multiples r (time_at times k -ℤ pos range) (time_at times k)
  window_of_all k u =
      part_is d from to (time_at times k -ℤ pos range) (time_at times k) short.some (low k u) (window_rises range times k) (high k u)
      ∙ short.alike (time_at times k -ℤ pos range) (time_at times k) (starts k u) (bounded k u) (window_rises range times k)

  -- as one run
  module _ (at : Times) (b : AreBetween from to d at) (touch : AreOrdered times → AreTouching range times) where
    time_after : (j : ℕ) → suc j < at.len → time_at at (suc j) ≡ time_at at j +ℤ pos d
    time_after j u =
        let on : cut_down from d +ℤ pos (suc (suc j)) ≡ (cut_down from d +ℤ pos (suc j)) +ℤ pos 1 = omega (arith, ints) in
        b.times (suc j) u ∙ ap (λ x. x *ℤ pos d) on ∙ next_time (cut_down from d +ℤ pos (suc j)) d ∙ ap (λ x. x +ℤ pos d) (sym (b.times j (omega (arith, u))))

    all_read : AreOrdered times → (u : ℤ) → lies_in from to u ≡ true → is_read range times times.len u ≡ true
    all_read o u h =
        let a = lies_low from to u h in
        let e = lies_high from to u h in
        let p = least (time_at times 0 -ℤ pos range) (low_ordered range times o) in
        let q = greatest (time_at times (times.len - 1)) (high_ordered range times o) in
        let n : suc (times.len - 1) ≡ times.len = omega (arith, some) in
        ap (λ k. is_read range times k u) (sym n)
        ∙ covers range times o (touch o) (times.len - 1) (omega (arith, some)) u (omega (arith, ints, a, p)) (omega (arith, ints, e, q))

    pub are_over : AreMultiplesOver range r at times
    are_over = record {
      bounded = between_times from to d at short.some first last b;
      rising = λ j u. let e = time_after j u in let o = short.some in omega (arith, ints, e, o);
      windows = λ k u.
          ap (filter (lies_in (time_at times k -ℤ pos range) (time_at times k))) (between_all from to d at b) ∙ window_of_all k u;
      read = λ o l h w.
          between_all from to d at b ∙ short.alike from to first last rises ∙ all_pass (is_read range times times.len) r from to s rises (all_read o) ∙ any_bounds l h w;
      start = λ l h w.
          let a = lowest l h w in
          let e = highest l h w in
          (omega (arith, ints, a, b.start.0), omega (arith, ints, e, b.start.1));
      within = λ l h w j u.
          let a = lowest l h w in
          let e = highest l h w in
          let p = above_from from to d at j short.some b u in
          let q = up_to_last from to d at j short.some b u in
          (omega (arith, ints, a, p), omega (arith, ints, e, q));
    }

  -- as a list
  module _ (at : Times) (zero_first : at.start ≡ pos 0) (len : at.len ≡ length at.list.now) (list : at.list.now ≡ filter (is_read range times times.len) (multiples d from to)) where
    listed_time : (j : ℕ) → j < at.len → time_at at j ≡ slice_index_or at.list.now j (pos 0)
    listed_time j u = (λ i. zero_first i +ℤ from_list at.list.now at.step j (omega (arith, u, len)) i) ∙ nothing_more (slice_index_or at.list.now j (pos 0)) where
      nothing_more : (z : ℤ) → pos 0 +ℤ z ≡ z
      nothing_more z = omega (arith, ints)

    listed_all : below (time_at at) at.len ≡ at.list.now
    listed_all = ap (below (time_at at)) len ∙ list_below (time_at at) at.list.now (λ k u. listed_time k (omega (arith, u, len)))

    listed_within : (j : ℕ) → j < at.len → lies_in from to (time_at at j) ≡ true
    listed_within j u =
        ap (lies_in from to) (listed_time j u)
        ∙ each_at (λ v. lies_in from to v ≡ true) at.list.now j
        (subst (Each (λ v. lies_in from to v ≡ true)) (sym list)
        (each_weaker (λ v. is_read range times times.len v ≡ true) (λ v. lies_in from to v ≡ true) read_within (filter (is_read range times times.len) (multiples d from to))
        (each_passes (is_read range times times.len) (multiples d from to))))
        (omega (arith, u, len))

    listed_rise : Rises at.list.now
    listed_rise = subst Rises (sym list) (rises_filter (is_read range times times.len) (multiples d from to) (multiples_rise d from to short.some))

    pub list_is_over : AreMultiplesOver range r at times
    list_is_over = record {
      bounded = λ j u.
          let l = lies_low from to (time_at at j) (listed_within j u) in
          let h = lies_high from to (time_at at j) (listed_within j u) in
          (omega (arith, ints, l, first.0), omega (arith, ints, h, last.1));
      rising = λ j u.
          subst (λ z. z <ℤ time_at at (suc j)) (sym (listed_time j (omega (arith, u))))
          (subst (λ z. slice_index_or at.list.now j (pos 0) <ℤ z) (sym (listed_time (suc j) u)) (rises_at at.list.now j listed_rise (omega (arith, u, len))));
      windows = λ k u.
          let test = lies_in (time_at times k -ℤ pos range) (time_at times k) in
          ap (filter test) (listed_all ∙ list)
          ∙ filter_within test (is_read range times times.len) (λ v h. is_in range times times.len k v u h) (multiples d from to)
          ∙ window_of_all k u;
      read = λ o l h w.
          listed_all ∙ list ∙ ap (filter (is_read range times times.len)) (short.alike from to first last rises) ∙ any_bounds l h w;
      start = λ l h w.
          let z = w.zero in
          (omega (arith, ints, zero_first, z.0), omega (arith, ints, zero_first, z.1));
      within = λ l h w j u.
          let a = lowest l h w in
          let e = highest l h w in
          let p = lies_low from to (time_at at j) (listed_within j u) in
          let q = lies_high from to (time_at at j) (listed_within j u) in
          (omega (arith, ints, a, p), omega (arith, ints, e, q));
    }

-- a run without steps
pub none_over : (range r : ℕ) (at times : Times) → at.len ≡ 0 → times.len ≡ 0 → at.start ≡ times.start → AreMultiplesOver range r at times
none_over range r at times n m e = record {
  bounded = λ j u. absurd (omega (arith, u, n));
  rising = λ j u. absurd (omega (arith, u, n));
  windows = λ k u. absurd (omega (arith, u, m));
  read = λ o l h w. ap (below (time_at at)) n ∙ sym (ap (λ k. filter (is_read range times k) (multiples r l h)) m ∙ none_read range times (multiples r l h));
  start = λ l h w. (omega (arith, ints, e, w.start.0), omega (arith, ints, e, w.start.1));
  within = λ l h w j u. absurd (omega (arith, u, n));
}

-- ---- the calls

pub order_more : (t : Times) (i : ℕ) (a b : ℤ) → ((k : ℕ) → suc k < i → time_at t k ≤ℤ time_at t (suc k)) → a ≡ time_at t i → b ≡ time_at t (i - 1) → b ≤ℤ a
    → (k : ℕ) → suc k < i + 1 → time_at t k ≤ℤ time_at t (suc k)
order_more t i a b h p q o k l = elim (lt_or_is (suc k) i (omega (arith, l))) as (λ _. time_at t k ≤ℤ time_at t (suc k)) [
  | inl m ↦ h k m
  | inr e ↦ let n : i - 1 ≡ k = omega (arith, e) in
      subst (λ z. z ≤ℤ time_at t (suc k)) (q ∙ ap (time_at t) n) (subst (λ z. b ≤ℤ z) (p ∙ ap (time_at t) (sym e)) o)
]

pub touch_more : (range : ℕ) (t : Times) (i : ℕ) (a b : ℤ) → ((k : ℕ) → suc k < i → (time_at t (suc k) -ℤ pos range) ≤ℤ time_at t k) → a ≡ time_at t i -ℤ pos range → b ≡ time_at t (i - 1) → a ≤ℤ b
    → (k : ℕ) → suc k < i + 1 → (time_at t (suc k) -ℤ pos range) ≤ℤ time_at t k
touch_more range t i a b h p q o k l = elim (lt_or_is (suc k) i (omega (arith, l))) as (λ _. (time_at t (suc k) -ℤ pos range) ≤ℤ time_at t k) [
  | inl m ↦ h k m
  | inr e ↦ let n : i - 1 ≡ k = omega (arith, e) in
      subst (λ z. (time_at t (suc k) -ℤ pos range) ≤ℤ z) (q ∙ ap (time_at t) n) (subst (λ z. z ≤ℤ b) (p ∙ ap (λ j. time_at t j -ℤ pos range) (sym e)) o)
]

pub push_more : (f : ℕ → ℤ) (i : ℕ) (v : ℤ) (xs ys zs : List ℤ) → zs ≡ ys ++ (v ∷ []) → ys ≡ xs ++ below f i → v ≡ f i → zs ≡ xs ++ below f (i + 1)
push_more f i v xs ys zs p q e =
    p ∙ (λ j. q j ++ (e j ∷ [])) ∙ append_assoc xs (below f i) (f i ∷ []) ∙ ap (λ us. xs ++ us) (below_more f i)

-- the rest of a window behind those before it
pub push_window : (range d : ℕ) (times : Times) (ordered : AreOrdered times) (n : ℕ) (f t : ℤ) (ys zs : List ℤ) → 0 < d → n < times.len → f ≡ int_max (time_at times n -ℤ pos range) (end_at range times n) → t ≡ time_at times n
    → zs ≡ ys ++ multiples d f t
    → ys ≡ filter (is_read range times n) (multiples d (time_at times 0 -ℤ pos range) (time_at times (times.len - 1)))
    → zs ≡ filter (is_read range times (n + 1)) (multiples d (time_at times 0 -ℤ pos range) (time_at times (times.len - 1)))
push_window range d times ordered n f t ys zs s l e g p q =
    let w = greater (time_at times n -ℤ pos range) (end_at range times n) f e in
    p ∙ (λ i. q i ++ multiples d f (g i))
    ∙ window_more range times ordered n l f w.0 w.1 w.2 d s
    ∙ ap (λ k. filter (is_read range times k) (multiples d (time_at times 0 -ℤ pos range) (time_at times (times.len - 1)))) (sym (add-one n))

pub all_pushed : (f : ℕ → ℤ) (i n : ℕ) (xs ys ms : List ℤ) → ys ≡ xs ++ below f i → i ≡ n → below f n ≡ ms → ys ≡ xs ++ ms
all_pushed f i n xs ys ms p e q = p ∙ ap (λ us. xs ++ us) (ap (below f) e ∙ q)

le_of : (a b : ℤ) → int_le a b ≡ true → a ≤ℤ b
le_of a b h = grind (arith, ints, h)

pub rises_to : (range : ℕ) (first last t : ℤ) → int_le first t ≡ true → int_le t last ≡ true → (first -ℤ pos range) ≤ℤ last
rises_to range first last t h k = let a = le_of first t h in let b = le_of t last k in omega (arith, ints, a, b)

some_by : {X : Type 0} {P Q : X → Type 0} (o : Option X) → ((x : X) → P x → Q x) → IfSome o P → IfSome o Q
some_by None f h = h
some_by (Some x) f h = f x h

-- from the least time less the range to the greatest
pub record AreOuter (range : ℕ) (first last from to : ℤ) (times : Times) : Type 0 where
  pub from_is : from ≡ first -ℤ pos range
  pub to_is : to ≡ last
  pub from_time : IsTime from
  pub to_time : IsTime to
  pub low : (k : ℕ) → k < times.len → int_le first (time_at times k) ≡ true
  pub high : (k : ℕ) → k < times.len → int_le (time_at times k) last ≡ true
  pub least : (bound : ℤ) → ((k : ℕ) → k < times.len → bound ≤ℤ time_at times k) → bound ≤ℤ first
  pub greatest : (bound : ℤ) → ((k : ℕ) → k < times.len → time_at times k ≤ℤ bound) → last ≤ℤ bound

pub found_over : (range r d : ℕ) (times : Times) (first last from to : ℤ) (o : Option Times) → 0 < r → d ≡ min r 2251799813685248 → 0 < times.len → AreTimes times → AreStarts range times
    → (AreOrdered times → AreTouching range times) → AreOuter range first last from to times → IfSome o (AreBetween from to d) → IfSome o (λ at. AreMultiplesOver range r at times)
found_over range r d times first last from to o s e some bounded starts touch outer h =
    let short : IsShortened r d = subst (IsShortened r) (sym e) (shortened r s) in
    let low : (k : ℕ) → k < times.len → from ≤ℤ (time_at times k -ℤ pos range) =
    λ k u. let l : first ≤ℤ time_at times k = le_of first (time_at times k) (outer.low k u) in omega (arith, ints, l, outer.from_is) in
    let high : (k : ℕ) → k < times.len → time_at times k ≤ℤ to =
    λ k u. let l : time_at times k ≤ℤ last = le_of (time_at times k) last (outer.high k u) in omega (arith, ints, l, outer.to_is) in
    let least : (bound : ℤ) → ((k : ℕ) → k < times.len → bound ≤ℤ (time_at times k -ℤ pos range)) → bound ≤ℤ from =
    λ bound g. let l : (bound +ℤ pos range) ≤ℤ first = outer.least (bound +ℤ pos range) (λ k u. let x : bound ≤ℤ (time_at times k -ℤ pos range) = g k u in omega (arith, ints, x)) in omega (arith, ints, l, outer.from_is) in
    let greatest : (bound : ℤ) → ((k : ℕ) → k < times.len → time_at times k ≤ℤ bound) → to ≤ℤ bound =
    λ bound g. let l : last ≤ℤ bound = outer.greatest bound g in omega (arith, ints, l, outer.to_is) in
    some_by o (λ at b. are_over range r d times from to s short some outer.from_time outer.to_time bounded starts low high least greatest at b touch) h

pub listed_over : (range r d : ℕ) (times at : Times) → 0 < r → d ≡ min r 2251799813685248 → 0 < times.len → AreTimes times → AreStarts range times → AreOrdered times
    → IsListOver range d at times → AreMultiplesOver range r at times
listed_over range r d times at s e some bounded starts ordered list =
    let short : IsShortened r d = subst (IsShortened r) (sym e) (shortened r s) in
    let n : times.len - 1 < times.len = omega (arith, some) in
    list_is_over range r d times (time_at times 0 -ℤ pos range) (time_at times (times.len - 1)) s short some (starts 0 some) (bounded (times.len - 1) n) bounded starts
    (low_ordered range times ordered) (high_ordered range times ordered) (λ bound g. g 0 some) (λ bound g. g (times.len - 1) n) at list.start list.len list.list
