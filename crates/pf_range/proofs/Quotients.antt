-- Products and quotients of values and times, as the code computes them, are those of the whole numbers.
use Rattle.std.proofs.Math.Nat.{le-div_iff_mul-le, mul-pos}
use Rattle.std.proofs.Common.{inl, inr, mul-le-mul, ◌≡◌, ℕ, ◌*◌, ◌/◌, ◌<◌, ◌≤◌, ℤ, pos, negsuc, ◌*ℤ◌, ◌≤ℤ◌, ◌<ℤ◌, FitsSigned, to_z, of_z, w64, sym, ap, ◌∙◌, subst, arith, lit<, lit≤}
use Rattle.std.proofs.lemmas.Bool.{cases_lt}
use mir.Syntax.{w128}
use Rattle.std.specs.Prelude.{int_div, unsigned_abs}
use Rattle.std.specs.Int.{int_min}
use Rattle.std.proofs.lemmas.Int.{ints, fits_signed_from_abs, fits_signed_mul, quot_fits, to_z-of_z, unsigned_abs-mul}
use Rattle.pf_base.specs.Arithmetic.{clamp, IsValue}
use Rattle.pf_range.specs.Extrapolation.{IsLength}
use Rattle.pf_range.proofs.Sums.{value_small, wide, wide_is}

-- a number as it is passed on
abbrev pub long : ℤ → ℤ
long z = to_z w128 (of_z w128 z)

pub product_is : (a b : ℤ) (m n : ℕ) → unsigned_abs a ≤ m → unsigned_abs b ≤ n → m ≤ 1000000000000000000 → n ≤ 1000000000000000000 → FitsSigned w128 (a *ℤ b) → long (wide a *ℤ wide b) ≡ a *ℤ b
product_is a b m n h k p q f = rw (wide_is a (omega (arith, h, p)), wide_is b (omega (arith, k, q))) (to_z-of_z w128 (a *ℤ b) f)

time_fits : (a b : ℤ) → unsigned_abs a ≤ 1000000000000000000 → unsigned_abs b ≤ 9007199254740992 → FitsSigned w128 (a *ℤ b)
time_fits a b h k = fits_signed_mul w128 a b 1000000000000000000 9007199254740992 h k (lit< tt)

times_value : (a b : ℤ) → unsigned_abs a ≤ 9007199254740992 → unsigned_abs b ≤ 1000000000000000000 → long (wide a *ℤ wide b) ≡ a *ℤ b
times_value a b h k = product_is a b 9007199254740992 1000000000000000000 h k (lit≤ tt) (lit≤ tt) (fits_signed_mul w128 a b 9007199254740992 1000000000000000000 h k (lit< tt))

value_times : (a b : ℤ) → unsigned_abs a ≤ 1000000000000000000 → unsigned_abs b ≤ 9007199254740992 → long (wide a *ℤ wide b) ≡ a *ℤ b
value_times a b h k = product_is a b 1000000000000000000 9007199254740992 h k (lit≤ tt) (lit≤ tt) (time_fits a b h k)

-- a clamped quotient
pub quotient_clamped : (a d q r : ℤ) → FitsSigned w128 a → pos 0 <ℤ d → q ≡ int_div a d → r ≡ clamp (long q) → r ≡ clamp (int_div a d)
quotient_clamped a d q r f h e g = g ∙ ap (λ z. clamp (long z)) e ∙ ap clamp (to_z-of_z w128 (int_div a d) (quot_fits w128 a d f h))

-- ---- the less of a gap and a quotient

min_left : (a b : ℕ) → a ≤ b → pos a ≡ int_min (pos a) (pos b)
min_left a b h = grind (arith, ints)

min_right : (a b : ℕ) → b < a → pos b ≡ int_min (pos a) (pos b)
min_right a b h = grind (arith, ints)

below : (g p w : ℕ) → 0 < w → p < g * w → p / w < g
below g p w h k = elim (cases_lt (p / w) g) [ inl l ↦ l | inr l ↦ absurd (let m = (le-div_iff_mul-le {x = g} {y = p} h).0 l in omega (arith, m, k)) ]

pub gap_kept : (g p w : ℤ) → pos 0 ≤ℤ g → pos 0 ≤ℤ p → pos 0 <ℤ w → (g *ℤ w) ≤ℤ p → g ≡ int_min g (int_div p w)
gap_kept (pos g) (pos p) (pos w) a b c h = min_left g (p / w) ((le-div_iff_mul-le {x = g} {y = p} (omega (arith, ints, c))).1 (omega (arith, ints, h)))
gap_kept (negsuc g) p w a b c h = absurd (omega (arith, ints, a))
gap_kept (pos g) (negsuc p) w a b c h = absurd (omega (arith, ints, b))
gap_kept (pos g) (pos p) (negsuc w) a b c h = absurd (omega (arith, ints, c))

pub record Cut (g p w : ℤ) : Type 0 where
  pub least : int_div p w ≡ int_min g (int_div p w)
  pub low : pos 0 ≤ℤ int_div p w
  pub high : int_div p w <ℤ g

pub gap_cut : (g p w : ℤ) → pos 0 ≤ℤ g → pos 0 ≤ℤ p → pos 0 <ℤ w → p <ℤ (g *ℤ w) → Cut g p w
gap_cut (pos g) (pos p) (pos w) a b c h =
    let l : p / w < g = below g p w (omega (arith, ints, c)) (omega (arith, ints, h)) in
    record { least = min_right g (p / w) l; low = omega (arith, ints); high = omega (arith, ints, l) }
gap_cut (negsuc g) p w a b c h = absurd (omega (arith, ints, a))
gap_cut (pos g) (negsuc p) w a b c h = absurd (omega (arith, ints, b))
gap_cut (pos g) (pos p) (negsuc w) a b c h = absurd (omega (arith, ints, c))

not_below_zero : (a b : ℤ) → pos 0 ≤ℤ a → pos 0 ≤ℤ b → pos 0 ≤ℤ (a *ℤ b)
not_below_zero (pos a) (pos b) h k = omega (arith, ints)
not_below_zero (negsuc a) b h k = absurd (omega (arith, ints, h))
not_below_zero (pos a) (negsuc b) h k = absurd (omega (arith, ints, k))

-- a number as it is passed on
abbrev pub short : ℤ → ℤ
short z = to_z w64 (of_z w64 z)

pub short_is : (z : ℤ) → unsigned_abs z ≤ 1000000000000000000 → short z ≡ z
short_is z h = to_z-of_z w64 z (fits_signed_from_abs w64 z (omega (arith, h)))

pub length_abs : (z : ℤ) → IsLength z → unsigned_abs z ≤ 2251799813685248
length_abs z h = omega (arith, ints, h.0, h.1)

pub record Shorter (g s f w : ℤ) : Type 0 where
  pub gap : IsLength g
  pub span : IsLength s
  pub low : pos 0 ≤ℤ f
  pub high : f ≤ℤ pos 1000000000000000000
  pub some : pos 0 <ℤ w
  pub most : w ≤ℤ pos 1000000000000000000

module _ (g s f w : ℤ) (h : Shorter g s f w) where
  reach_is : long (wide s *ℤ wide f) ≡ s *ℤ f
  reach_is = let small = length_abs s h.span in times_value s f (omega (arith, small)) (omega (arith, ints, h.low, h.high))

  held_is : long (wide g *ℤ wide w) ≡ g *ℤ w
  held_is = let small = length_abs g h.gap in times_value g w (omega (arith, small)) (omega (arith, ints, h.some, h.most))

  pub kept : long (wide g *ℤ wide w) ≤ℤ long (wide s *ℤ wide f) → short g ≡ int_min g (int_div (s *ℤ f) w)
  kept k =
      let small = length_abs g h.gap in
      let k' = rw (held_is, reach_is) at k in
      short_is g (omega (arith, small)) ∙ gap_kept g (s *ℤ f) w h.gap.0 (not_below_zero s f h.span.0 h.low) h.some k'

  pub cut : long (wide s *ℤ wide f) <ℤ long (wide g *ℤ wide w) → Cut g (s *ℤ f) w
  cut k =
      let k' = rw (held_is, reach_is) at k in
      gap_cut g (s *ℤ f) w h.gap.0 (not_below_zero s f h.span.0 h.low) h.some k'

  module _ (q : ℤ) (k : long (wide s *ℤ wide f) <ℤ long (wide g *ℤ wide w)) (e : q ≡ int_div (long (wide s *ℤ wide f)) (wide w)) where
    quotient_is : q ≡ int_div (s *ℤ f) w
    quotient_is = e ∙ (λ i. int_div (reach_is i) (wide_is w (omega (arith, ints, h.some, h.most)) i))

    quotient_length : IsLength q
    quotient_length =
        let c = cut k in
        let i = quotient_is in
        (omega (arith, ints, i, c.low), omega (arith, ints, i, c.high, h.gap.1))

    pub quotient_fits : FitsSigned w64 (long q)
    quotient_fits =
        let small = length_abs q quotient_length in
        rw (to_z-of_z w128 q (fits_signed_from_abs w128 q (omega (arith, small)))) (fits_signed_from_abs w64 q (omega (arith, small)))

    same : short (long q) ≡ q
    same =
        let small = length_abs q quotient_length in
        ap short (to_z-of_z w128 q (fits_signed_from_abs w128 q (omega (arith, small)))) ∙ short_is q (omega (arith, small))

    pub quotient_least : short (long q) ≡ int_min g (int_div (s *ℤ f) w)
    quotient_least = same ∙ quotient_is ∙ (cut k).least

    pub quotient_within : IsLength (short (long q))
    quotient_within = subst IsLength (sym same) quotient_length

-- ---- a change as it is stretched

pub stretched_is : (m v cov span q r : ℤ) → IsValue m → m ≡ v → pos 0 ≤ℤ cov → cov ≤ℤ pos 9007199254740992 → pos 0 <ℤ span → span ≤ℤ pos 2251799813685248
    → q ≡ int_div (long (wide m *ℤ wide cov)) (wide span) → r ≡ clamp (long q) → r ≡ clamp (int_div (v *ℤ cov) span)
stretched_is m v cov span q r value e a b c d qe re =
    let small = value_small m value in
    let time : unsigned_abs cov ≤ 9007199254740992 = omega (arith, ints, a, b) in
    let f = time_fits m cov small time in
    quotient_clamped (m *ℤ cov) span q r f c (qe ∙ (λ i. int_div (value_times m cov small time i) (wide_is span (omega (arith, ints, c, d)) i))) re
    ∙ ap (λ z. clamp (int_div (z *ℤ cov) span)) e

pub product_abs : (a b : ℤ) (m n : ℕ) → unsigned_abs a ≤ m → unsigned_abs b ≤ n → unsigned_abs (a *ℤ b) ≤ m * n
product_abs a b m n h k = rw (unsigned_abs-mul a b) (mul-le-mul h k)

module _ (m cov : ℤ) (value : IsValue m) (low : pos 0 ≤ℤ cov) (high : cov ≤ℤ pos 9007199254740992) where
  time_abs : unsigned_abs cov ≤ 9007199254740992
  time_abs = omega (arith, ints, low, high)

  thousand_fits : FitsSigned w128 (m *ℤ cov *ℤ pos 1000)
  thousand_fits =
      let small = product_abs m cov 1000000000000000000 9007199254740992 (value_small m value) time_abs in
      fits_signed_mul w128 (m *ℤ cov) (pos 1000) 9007199254740992000000000000000000 1000 small (lit≤ tt) (lit< tt)

  pub thousand_fit : FitsSigned w128 (long (wide m *ℤ wide cov) *ℤ pos 1000)
  thousand_fit = rw (value_times m cov (value_small m value) time_abs) thousand_fits

  thousand_is : long (long (wide m *ℤ wide cov) *ℤ pos 1000) ≡ m *ℤ cov *ℤ pos 1000
  thousand_is = rw (value_times m cov (value_small m value) time_abs) (to_z-of_z w128 (m *ℤ cov *ℤ pos 1000) thousand_fits)

  module _ (span range : ℤ) (s : pos 0 <ℤ span) (t : span ≤ℤ pos 2251799813685248) (u : pos 0 <ℤ range) (v : range ≤ℤ pos 2251799813685248) where
    divisor_is : long (wide span *ℤ wide range) ≡ span *ℤ range
    divisor_is =
        let a : unsigned_abs span ≤ 2251799813685248 = omega (arith, ints, s, t) in
        let b : unsigned_abs range ≤ 2251799813685248 = omega (arith, ints, u, v) in
        times_value span range (omega (arith, a)) (omega (arith, b))

    positive : (a b : ℤ) → pos 0 <ℤ a → pos 0 <ℤ b → pos 0 <ℤ (a *ℤ b)
    positive (pos a) (pos b) h k =
        let p : 0 < a * b = mul-pos (omega (arith, ints, h)) (omega (arith, ints, k)) in omega (arith, ints, p)
    positive (negsuc a) b h k = absurd (omega (arith, ints, h))
    positive (pos a) (negsuc b) h k = absurd (omega (arith, ints, k))

    pub divisor_some : pos 0 <ℤ long (wide span *ℤ wide range)
    divisor_some = rw divisor_is (positive span range s u)

    pub per_second_is : (w q r : ℤ) → m ≡ w → q ≡ int_div (long (long (wide m *ℤ wide cov) *ℤ pos 1000)) (long (wide span *ℤ wide range)) → r ≡ clamp (long q)
        → r ≡ clamp (int_div (w *ℤ cov *ℤ pos 1000) (span *ℤ range))
    per_second_is w q r e qe re =
        quotient_clamped (m *ℤ cov *ℤ pos 1000) (span *ℤ range) q r thousand_fits (positive span range s u) (qe ∙ (λ i. int_div (thousand_is i) (divisor_is i))) re
        ∙ ap (λ z. clamp (int_div (z *ℤ cov *ℤ pos 1000) (span *ℤ range))) e
