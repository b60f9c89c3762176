-- The multiples of a step in a window.
use Rattle.std.proofs.Common.{◌≡◌, ℕ, zero, suc, ◌+◌, ◌*◌, ◌/◌, ◌<◌, ◌≤◌, ℤ, pos, negsuc, ◌+ℤ◌, ◌-ℤ◌, ◌*ℤ◌, neg_ℤ, ◌≤ℤ◌, ◌<ℤ◌, unsigned_abs, map, Option, refl, ap, ◌∙◌, arith}
use Rattle.std.proofs.lemmas.Int.{ints}
use Rattle.std.proofs.lemmas.Nat.{div-add-mod', le-div}
use Rattle.std.proofs.Math.Nat.{mul-le-mul_right, div-le_self, mod-lt, div-zero}
use Rattle.pf_model.specs.Evaluation.{multiples_behind}
use Rattle.pf_model.specs.Micros.{cut_down}
use Rattle.pf_model.specs.Reach.{Times, all_together, together}

up_times : (a d : ℕ) → pos a *ℤ pos d ≡ pos (a * d)
up_times a d = refl

pub down_times : (a d : ℕ) → negsuc a *ℤ pos d ≡ neg_ℤ (pos (suc a * d))
down_times a d = refl

-- a step that isn't 0
module _ (d : ℕ) (s : 0 < d) where
  pub up_to : (m z : ℤ) → m ≤ℤ cut_down z d → (m *ℤ pos d) ≤ℤ z
  up_to (pos a) (pos n) h =
      let p : a * d ≤ (n / d) * d = mul-le-mul_right d (omega (arith, ints, h)) in omega (arith, ints, p, div-add-mod' n d)
  up_to (pos a) (negsuc n) h = absurd (omega (arith, ints, h))
  up_to (negsuc a) (pos n) h = omega (arith, ints, down_times a d)
  up_to (negsuc a) (negsuc n) h =
      let p : suc (n / d) * d ≤ suc a * d = mul-le-mul_right d (omega (arith, ints, h)) in
      omega (arith, ints, p, div-add-mod' n d, mod-lt n s, down_times a d)

  pub above : (m z : ℤ) → cut_down z d <ℤ m → z <ℤ (m *ℤ pos d)
  above (pos a) (pos n) h =
      let p : suc (n / d) * d ≤ a * d = mul-le-mul_right d (omega (arith, ints, h)) in omega (arith, ints, p, div-add-mod' n d, mod-lt n s)
  above (pos a) (negsuc n) h = omega (arith, ints)
  above (negsuc a) (pos n) h = absurd (omega (arith, ints, h))
  above (negsuc a) (negsuc n) h =
      let p : suc a * d ≤ (n / d) * d = mul-le-mul_right d (omega (arith, ints, h)) in
      omega (arith, ints, p, div-add-mod' n d, down_times a d)

-- a step of 0
zero_between : (p q : ℕ) (m : ℤ) (a b : ℤ) → p ≡ 0 → q ≡ 0 → negsuc p <ℤ m → m ≤ℤ pos q → a ≤ℤ pos 0 → pos 0 ≤ℤ b → (a ≤ℤ (m *ℤ pos 0)) × ((m *ℤ pos 0) ≤ℤ b)
zero_between p q (pos n) a b e f h k x y = let z : n * 0 ≡ 0 = omega arith in (omega (arith, ints, z, x), omega (arith, ints, z, y))
zero_between p q (negsuc n) a b e f h k x y = absurd (omega (arith, ints, h, e))

at_zero : (m a b : ℤ) → a ≤ℤ b → cut_down a 0 <ℤ m → m ≤ℤ cut_down b 0 → (a ≤ℤ (m *ℤ pos 0)) × ((m *ℤ pos 0) ≤ℤ b)
at_zero m (pos n) (pos k) o h l = absurd (omega (arith, ints, h, l, div-zero n, div-zero k))
at_zero m (pos n) (negsuc k) o h l = absurd (omega (arith, ints, o))
at_zero m (negsuc n) (pos k) o h l = zero_between (n / 0) (k / 0) m (negsuc n) (pos k) (div-zero n) (div-zero k) h l (omega (arith, ints)) (omega (arith, ints))
at_zero m (negsuc n) (negsuc k) o h l = absurd (omega (arith, ints, h, l, div-zero n, div-zero k))

pub between : (d : ℕ) (m a b : ℤ) → a ≤ℤ b → cut_down a d <ℤ m → m ≤ℤ cut_down b d → (a ≤ℤ (m *ℤ pos d)) × ((m *ℤ pos d) ≤ℤ b)
between zero m a b o h k = at_zero m a b o h k
between (suc d) m a b o h k =
    let l = above (suc d) (omega arith) m a h in
    (omega (arith, ints, l), up_to (suc d) (omega arith) m b k)

-- cut down, times stay in order, and grow no larger
div_mono : (d a b : ℕ) → a ≤ b → a / d ≤ b / d
div_mono zero a b h = omega (arith, div-zero a, div-zero b)
div_mono (suc d) a b h = le-div (a / suc d) b (suc d) (omega arith) (omega (arith, h, div-add-mod' a (suc d)))

pub in_steps : (d : ℕ) (a b : ℤ) → a ≤ℤ b → cut_down a d ≤ℤ cut_down b d
in_steps d (pos a) (pos b) o = let p : a / d ≤ b / d = div_mono d a b (omega (arith, ints, o)) in omega (arith, ints, p)
in_steps d (pos a) (negsuc b) o = absurd (omega (arith, ints, o))
in_steps d (negsuc a) (pos b) o = omega (arith, ints)
in_steps d (negsuc a) (negsuc b) o = let p : b / d ≤ a / d = div_mono d b a (omega (arith, ints, o)) in omega (arith, ints, p)

pub smaller : (d : ℕ) (z : ℤ) → unsigned_abs (cut_down z d) ≤ unsigned_abs z
smaller d (pos n) = div-le_self n d
smaller d (negsuc n) = let p : n / d ≤ n = div-le_self n d in omega (arith, p)

back_to : (l f : ℤ) → f ≤ℤ l → l -ℤ pos (unsigned_abs (l -ℤ f)) ≡ f
back_to l f h = grind (arith, ints)

-- as many steps back from the last as there are
pub whole : (d : ℕ) (a b : ℤ) → a ≤ℤ b → cut_down b d -ℤ pos (unsigned_abs (cut_down b d -ℤ cut_down a d)) ≡ cut_down a d
whole d a b o = back_to (cut_down b d) (cut_down a d) (in_steps d a b o)

still_above : (l f : ℤ) (k : ℕ) → f ≤ℤ l → k < unsigned_abs (l -ℤ f) → (f <ℤ (l -ℤ pos k)) × ((l -ℤ pos k) ≤ℤ l)
still_above l f k h b = (grind (arith, ints), grind (arith, ints))

-- a multiple with some behind it
pub multiple_between : (d k : ℕ) (a b : ℤ) → a ≤ℤ b → k < unsigned_abs (cut_down b d -ℤ cut_down a d)
    → (a ≤ℤ ((cut_down b d -ℤ pos k) *ℤ pos d)) × (((cut_down b d -ℤ pos k) *ℤ pos d) ≤ℤ b)
multiple_between d k a b o h =
    let s = still_above (cut_down b d) (cut_down a d) k (in_steps d a b o) h in
    between d (cut_down b d -ℤ pos k) a b o s.0 s.1

pub small_between : (x a b : ℤ) (n : ℕ) → a ≤ℤ x → x ≤ℤ b → unsigned_abs a ≤ n → unsigned_abs b ≤ n → unsigned_abs x ≤ n
small_between x a b n h k p q = grind (arith, ints)

-- a loop's step
one_back : (l : ℤ) (k : ℕ) → (l -ℤ pos (suc k)) +ℤ pos 1 ≡ l -ℤ pos k
one_back l k = grind (arith, ints)

pub behind_step : (f : ℤ → Option Times) (s l : ℤ) (k : ℕ)
    → all_together (map f (multiples_behind s (l -ℤ pos (k + 1)) (k + 1))) ≡ together (f ((l -ℤ pos k) *ℤ s)) (all_together (map f (multiples_behind s (l -ℤ pos k) k)))
behind_step f s l k =
    let n : k + 1 ≡ suc k = omega arith in
    ap (λ j. all_together (map f (multiples_behind s (l -ℤ pos j) j))) n
    ∙ ap (λ m. together (f (m *ℤ s)) (all_together (map f (multiples_behind s m k)))) (one_back l k)
