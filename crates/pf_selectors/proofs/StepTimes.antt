-- The times of a run, and the least and the greatest of them.
use Rattle.std.proofs.Common.{◌≡◌, ℕ, Bool, true, false, cond, ◌⊎◌, inl, inr, ◌+◌, ◌-◌, ◌*◌, ◌<◌, ◌≤◌, suc, ℤ, pos, negsuc, ◌+ℤ◌, ◌*ℤ◌, ◌≤ℤ◌, FitsSigned, w64, List, [], ◌∷◌, length, refl, sym, ap, ◌∙◌, subst, arith, ◌-ℤ◌}
use Rattle.std.specs.Prelude.{int_le, int_lt, slice_index_or}
use Rattle.std.specs.Int.{int_max, int_min}
use Rattle.std.proofs.lemmas.Int.{ints}
use Rattle.std.proofs.lemmas.Nat.{mul-le}
use Rattle.pf_range.specs.Windows.{IsTime}
use Rattle.pf_selectors.specs.Times.{AreEnds, AreStarts, AreTimes, IsAmong, Spans, away, time_at}
use Rattle.pf_selectors.specs.declared.times.Times.{Times}
pub use Rattle.pf_columns.proofs.Below.{lt_or_is}

-- a run without a list
pub run_at : (t : Times) (k : ℕ) → t.list.now ≡ [] → time_at t k ≡ t.start +ℤ (pos k *ℤ t.step)
run_at t k e = ap (λ us. t.start +ℤ away us t.step k) e

first_of_run : (a s : ℤ) → a +ℤ (pos 0 *ℤ s) ≡ a
first_of_run a s = omega (arith, ints)

pub at_first : (t : Times) → t.list.now ≡ [] → time_at t 0 ≡ t.start
at_first t e = run_at t 0 e ∙ first_of_run t.start t.step

pub first_time : (t : Times) → t.list.now ≡ [] → 0 < t.len → AreTimes t → IsTime t.start
first_time t e l h = subst IsTime (at_first t e) (h 0 l)

pub from_list : (us : List ℤ) (s : ℤ) (k : ℕ) → 0 < length us → away us s k ≡ slice_index_or us k (pos 0)
from_list [] s k h = absurd (omega (arith, h))
from_list (u ∷ us) s k h = refl

-- the step is not below zero, or it is
up : (a : ℤ) (s k n : ℕ) → k ≤ n → (a ≤ℤ (a +ℤ (pos k *ℤ pos s))) × ((a +ℤ (pos k *ℤ pos s)) ≤ℤ (a +ℤ (pos n *ℤ pos s)))
up a s k n h =
    let m : k * s ≤ n * s = mul-le k s n s h (omega arith) in
    (omega (arith, ints), omega (arith, ints, m))

down : (a : ℤ) (s k n : ℕ) → k ≤ n → ((a +ℤ (pos k *ℤ negsuc s)) ≤ℤ a) × ((a +ℤ (pos n *ℤ negsuc s)) ≤ℤ (a +ℤ (pos k *ℤ negsuc s)))
down a s k n h =
    let m : k * suc s ≤ n * suc s = mul-le k (suc s) n (suc s) h (omega arith) in
    (omega (arith, ints), omega (arith, ints, m))

low_by : (lo a s : ℤ) (k n : ℕ) → k ≤ n → lo ≤ℤ a → lo ≤ℤ (a +ℤ (pos n *ℤ s)) → lo ≤ℤ (a +ℤ (pos k *ℤ s))
low_by lo a (pos s) k n h p q = let b = (up a s k n h).0 in omega (arith, ints, b, p)
low_by lo a (negsuc s) k n h p q = let b = (down a s k n h).1 in omega (arith, ints, b, q)

high_by : (hi a s : ℤ) (k n : ℕ) → k ≤ n → a ≤ℤ hi → (a +ℤ (pos n *ℤ s)) ≤ℤ hi → (a +ℤ (pos k *ℤ s)) ≤ℤ hi
high_by hi a (pos s) k n h p q = let b = (up a s k n h).1 in omega (arith, ints, b, q)
high_by hi a (negsuc s) k n h p q = let b = (down a s k n h).0 in omega (arith, ints, b, p)

le_is : (a b : ℤ) → a ≤ℤ b → int_le a b ≡ true
le_is a b h = grind (arith, ints)

-- ---- the least and the greatest

lesser : (a b m : ℤ) → m ≡ int_min a b → (m ≤ℤ a) × (m ≤ℤ b) × ((m ≡ a) ⊎ (m ≡ b))
lesser a b m e = subst (λ z. (z ≤ℤ a) × (z ≤ℤ b) × ((z ≡ a) ⊎ (z ≡ b))) (sym e) (by (int_lt b a) refl) where
  by : (c : Bool) → int_lt b a ≡ c → (cond c b a ≤ℤ a) × (cond c b a ≤ℤ b) × ((cond c b a ≡ a) ⊎ (cond c b a ≡ b))
  by true h = let l : b ≤ℤ a = grind (arith, ints) in (l, omega (arith, ints), inr refl)
  by false h = let l : a ≤ℤ b = grind (arith, ints) in (omega (arith, ints), l, inl refl)

pub greater : (a b m : ℤ) → m ≡ int_max a b → (a ≤ℤ m) × (b ≤ℤ m) × ((m ≡ a) ⊎ (m ≡ b))
greater a b m e = subst (λ z. (a ≤ℤ z) × (b ≤ℤ z) × ((z ≡ a) ⊎ (z ≡ b))) (sym e) (by (int_lt b a) refl) where
  by : (c : Bool) → int_lt b a ≡ c → (a ≤ℤ cond c a b) × (b ≤ℤ cond c a b) × ((cond c a b ≡ a) ⊎ (cond c a b ≡ b))
  by true h = let l : b ≤ℤ a = grind (arith, ints) in (omega (arith, ints), l, inl refl)
  by false h = let l : a ≤ℤ b = grind (arith, ints) in (l, omega (arith, ints), inr refl)

among : (t : Times) (n : ℕ) (a b m : ℤ) → (m ≡ a) ⊎ (m ≡ b) → IsAmong a n t → IsAmong b n t → IsAmong m n t
among t n a b m (inl e) p q = record { step = p.step; below = p.below; is = e ∙ p.is }
among t n a b m (inr e) p q = record { step = q.step; below = q.below; is = e ∙ q.is }

later_among : (t : Times) (n : ℕ) (a : ℤ) → IsAmong a n t → IsAmong a (suc n) t
later_among t n a p = let l = p.below in record { step = p.step; below = omega (arith, l); is = p.is }

pub one_spans : (t : Times) (a b : ℤ) → a ≡ time_at t 0 → b ≡ time_at t 0 → Spans a b 1 t
one_spans t a b p q = record {
  low = λ k l. let z : k ≡ 0 = omega (arith, l) in let e : time_at t k ≡ a = ap (time_at t) z ∙ sym p in omega (arith, ints, e);
  high = λ k l. let z : k ≡ 0 = omega (arith, l) in let e : time_at t k ≡ b = ap (time_at t) z ∙ sym q in omega (arith, ints, e);
  least = record { step = 0; below = omega arith; is = p };
  greatest = record { step = 0; below = omega arith; is = q };
}

pub more_spans : (t : Times) (a b c d u : ℤ) (n : ℕ) → Spans a b n t → u ≡ time_at t n → c ≡ int_min a u → d ≡ int_max b u → Spans c d (suc n) t
more_spans t a b c d u n s e p q =
    let x = lesser a u c p in
    let y = greater b u d q in
    let own : IsAmong u (suc n) t = record { step = n; below = omega arith; is = e } in
    record {
      low = λ k l. elim (lt_or_is k n l) as (λ _. c ≤ℤ time_at t k) [
        | inl i ↦ let v = s.low k i in let w = x.0 in omega (arith, ints, v, w)
        | inr i ↦ subst (λ z. c ≤ℤ z) (e ∙ ap (time_at t) (sym i)) x.1
      ];
      high = λ k l. elim (lt_or_is k n l) as (λ _. time_at t k ≤ℤ d) [
        | inl i ↦ let v = s.high k i in let w = y.0 in omega (arith, ints, v, w)
        | inr i ↦ subst (λ z. z ≤ℤ d) (e ∙ ap (time_at t) (sym i)) y.1
      ];
      least = among t (suc n) a u c x.2 (later_among t n a s.least) own;
      greatest = among t (suc n) b u d y.2 (later_among t n b s.greatest) own;
    }

-- those of a run are the first time and the last
pub ends_span : (t : Times) (a b c d : ℤ) → t.list.now ≡ [] → 0 < t.len → a ≡ time_at t 0 → b ≡ time_at t (t.len - 1) → c ≡ int_min a b → d ≡ int_max a b → Spans c d t.len t
ends_span t a b c d e some p q f g =
    let x = lesser a b c f in
    let y = greater a b d g in
    let start : a ≡ t.start = p ∙ at_first t e in
    let end : b ≡ t.start +ℤ (pos (t.len - 1) *ℤ t.step) = q ∙ run_at t (t.len - 1) e in
    let first : IsAmong a t.len t = record { step = 0; below = some; is = p } in
    let last : IsAmong b t.len t = record { step = t.len - 1; below = omega (arith, some); is = q } in
    record {
      low = λ k l. subst (λ z. c ≤ℤ z) (sym (run_at t k e))
          (low_by c t.start t.step k (t.len - 1) (omega (arith, l)) (subst (λ z. c ≤ℤ z) start x.0) (subst (λ z. c ≤ℤ z) end x.1));
      high = λ k l. subst (λ z. z ≤ℤ d) (sym (run_at t k e))
          (high_by d t.start t.step k (t.len - 1) (omega (arith, l)) (subst (λ z. z ≤ℤ d) start y.0) (subst (λ z. z ≤ℤ d) end y.1));
      least = among t t.len a b c x.2 first last;
      greatest = among t t.len a b d y.2 first last;
    }

pub span_low : (t : Times) (a b : ℤ) (n k : ℕ) → Spans a b n t → k < n → int_le a (time_at t k) ≡ true
span_low t a b n k s l = le_is a (time_at t k) (s.low k l)

pub span_high : (t : Times) (a b : ℤ) (n k : ℕ) → Spans a b n t → k < n → int_le (time_at t k) b ≡ true
span_high t a b n k s l = le_is (time_at t k) b (s.high k l)

-- what is of each time is of one of them
pub of_one : (P : ℤ → Type 0) (t : Times) (a : ℤ) (n : ℕ) → IsAmong a n t → ((k : ℕ) → k < n → P (time_at t k)) → P a
of_one P t a n s h = subst P (sym s.is) (h s.step s.below)

-- ---- sums that fit

pub product_fits : (s p : ℤ) → IsTime s → IsTime (s +ℤ p) → FitsSigned w64 p
product_fits s p h k = omega (arith, ints, h.0, h.1, k.0, k.1)

pub time_fits : (z : ℤ) → IsTime z → FitsSigned w64 z
time_fits z h = omega (arith, ints, h.0, h.1)

-- the sum that gives a time, from its parts as the code has them
pub parts_fit : (t : Times) (k : ℕ) (x y : ℤ) → k < t.len → AreTimes t → x ≡ t.start → y ≡ away t.list.now t.step k → FitsSigned w64 (x +ℤ y)
parts_fit t k x y l h p q = subst (FitsSigned w64) (λ i. sym p i +ℤ sym q i) (time_fits (time_at t k) (h k l))

pub step_fits : (t : Times) (k : ℕ) → t.list.now ≡ [] → k < t.len → AreTimes t → FitsSigned w64 (pos k *ℤ t.step)
step_fits t k e l h = product_fits t.start (pos k *ℤ t.step) (first_time t e (omega (arith, l)) h) (subst IsTime (run_at t k e) (h k l))

-- ---- where the first and the last time are bounded, all are
module _ (range : ℕ) (t : Times) (a b : ℤ) (e : t.list.now ≡ []) (p : a ≡ t.start) (q : b ≡ (t.start +ℤ (pos (t.len - 1) *ℤ t.step))) (h : AreEnds range a b) where
  pub all_times : AreTimes t
  all_times k l =
      let f : IsTime t.start = subst IsTime p h.first in
      let g : IsTime (t.start +ℤ (pos (t.len - 1) *ℤ t.step)) = subst IsTime q h.last in
      subst IsTime (sym (run_at t k e))
      (low_by (negsuc 1125899906842623) t.start t.step k (t.len - 1) (omega (arith, l)) f.0 g.0, high_by (pos 1125899906842624) t.start t.step k (t.len - 1) (omega (arith, l)) f.1 g.1)

  pub all_starts : AreStarts range t
  all_starts k l =
      let f : IsTime (t.start -ℤ pos range) = subst (λ z. IsTime (z -ℤ pos range)) p h.first_start in
      let g : IsTime ((t.start +ℤ (pos (t.len - 1) *ℤ t.step)) -ℤ pos range) = subst (λ z. IsTime (z -ℤ pos range)) q h.last_start in
      let lo = low_by (negsuc 1125899906842623 +ℤ pos range) t.start t.step k (t.len - 1) (omega (arith, l)) (omega (arith, ints, f.0)) (omega (arith, ints, g.0)) in
      let hi = high_by (pos 1125899906842624 +ℤ pos range) t.start t.step k (t.len - 1) (omega (arith, l)) (omega (arith, ints, f.1)) (omega (arith, ints, g.1)) in
      subst (λ z. IsTime (z -ℤ pos range)) (sym (run_at t k e)) (omega (arith, ints, lo), omega (arith, ints, hi))

-- and where each time of a list is
pub bounded_more : (range : ℕ) (t : Times) (i : ℕ) (u : ℤ) → ((k : ℕ) → k < i → IsTime (time_at t k) × IsTime (time_at t k -ℤ pos range)) → u ≡ time_at t i → AreEnds range u u
    → (k : ℕ) → k < i + 1 → IsTime (time_at t k) × IsTime (time_at t k -ℤ pos range)
bounded_more range t i u h e b k l = elim (lt_or_is k i (omega (arith, l))) as (λ _. IsTime (time_at t k) × IsTime (time_at t k -ℤ pos range)) [
  | inl m ↦ h k m
  | inr n ↦ subst (λ z. IsTime z × IsTime (z -ℤ pos range)) (e ∙ ap (time_at t) (sym n)) (b.first, b.first_start)
]
