-- What a window's samples changed by, and the times that it is stretched over, as the code computes them.
use Rattle.std.proofs.Math.Nat.{div-le_self}
use Rattle.std.proofs.Common.{◌≡◌, ◌≤◌, ◌-◌, ◌/◌, ℕ, ℤ, pos, negsuc, ◌+ℤ◌, ◌-ℤ◌, ◌≤ℤ◌, ◌<ℤ◌, FitsSigned, to_z, w64, sym, ◌∙◌, subst, arith}
use Rattle.std.specs.Prelude.{int_div, unsigned_abs}
use Rattle.std.proofs.lemmas.Int.{ints, fits_signed_from_abs}
use Rattle.pf_base.specs.Arithmetic.{IsValue}
use Rattle.pf_model.specs.RangeFunctions.{gap}
use Rattle.pf_range.specs.Extrapolation.{Extends, IsLength, IsStretched, stretch_of}
use Rattle.pf_range.specs.Windows.{IsTime}
use Rattle.pf_range.specs.declared.extrapolation.Change.{Change}
use Rattle.pf_range.specs.declared.extrapolation.Stretch.{Stretch}
use Rattle.pf_range.proofs.Quotients.{length_abs, short, short_is}
use Rattle.pf_range.proofs.Sums.{value_small}
use Rattle.pf_range.proofs.Windows.{Steps}

quot_length : (p : ℤ) (d : ℕ) → IsLength p → IsLength (int_div p (pos d))
quot_length (pos p) d h = let less : p / d ≤ p = div-le_self p d in (omega (arith, ints), omega (arith, ints, less, h.1))
quot_length (negsuc p) d h = absurd (omega (arith, ints, h.0))

count_is : (n : ℕ) → n ≤ 9223372036854775807 → to_z w64 n ≡ pos n
count_is n h = omega (arith, ints)

module _ (a b f l : ℤ) (n : ℕ) (h : Extends a b f l n) where
  span_length : IsLength (l -ℤ f)
  span_length = (omega (arith, ints, h.apart, h.many), omega (arith, ints, h.left.0, h.right.1, h.low, h.high))

  pub few_times : n ≤ 2251799813685249
  few_times = let s = span_length.1 in omega (arith, ints, h.apart, s)

  pub span_is : short (short l -ℤ short f) ≡ l -ℤ f
  span_is = omega (arith, ints, h.left.0, h.right.1, h.low, h.high, h.apart, h.many)

  average_length : IsLength (int_div (l -ℤ f) (pos (n - 1)))
  average_length = quot_length (l -ℤ f) (n - 1) span_length

  pub average_is : short (int_div (short (short l -ℤ short f)) (to_z w64 (n - 1))) ≡ int_div (l -ℤ f) (pos (n - 1))
  average_is =
      let n' = few_times in
      let small = length_abs (int_div (l -ℤ f) (pos (n - 1))) average_length in
      rw (span_is, count_is (n - 1) (omega (arith, n'))) (short_is (int_div (l -ℤ f) (pos (n - 1))) (omega (arith, small)))

  pub average_within : IsLength (short (int_div (short (short l -ℤ short f)) (to_z w64 (n - 1))))
  average_within = subst IsLength (sym average_is) average_length

  pub times_are : Extends (short a) (short b) (short f) (short l) n
  times_are =
      let ea : short a ≡ a = omega (arith, ints, h.left.0, h.left.1) in
      let eb : short b ≡ b = omega (arith, ints, h.right.0, h.right.1) in
      let ef : short f ≡ f = omega (arith, ints, h.left.0, h.right.1, h.low, h.high, h.apart, h.many) in
      let el : short l ≡ l = omega (arith, ints, h.left.0, h.right.1, h.low, h.high, h.apart, h.many) in
      rw (ea, eb, ef, el) h

  pub stretch_same : stretch_of (short f) (short l) n (short a) (short b) ≡ stretch_of f l n a b
  stretch_same =
      let ea : short a ≡ a = omega (arith, ints, h.left.0, h.left.1) in
      let eb : short b ≡ b = omega (arith, ints, h.right.0, h.right.1) in
      let ef : short f ≡ f = omega (arith, ints, h.left.0, h.right.1, h.low, h.high, h.apart, h.many) in
      let el : short l ≡ l = omega (arith, ints, h.left.0, h.right.1, h.low, h.high, h.apart, h.many) in
      λ i. stretch_of (ef i) (el i) n (ea i) (eb i)

  pub stretched_over : (s t : ℤ) → s ≡ gap (short (int_div (short (short l -ℤ short f)) (to_z w64 (n - 1)))) (short (short f -ℤ short a)) → IsLength s
      → t ≡ gap (short (int_div (short (short l -ℤ short f)) (to_z w64 (n - 1)))) (short (short b -ℤ short l)) → IsLength t
      → ◌≡◌ {A = Stretch} (record { span = short (short l -ℤ short f); start = short s; end = short t }) (stretch_of f l n a b)
  stretched_over s t e u g v =
      let start : short (short f -ℤ short a) ≡ f -ℤ a = omega (arith, ints, h.left.0, h.right.1, h.low, h.high, h.apart, h.many) in
      let end : short (short b -ℤ short l) ≡ b -ℤ l = omega (arith, ints, h.left.0, h.right.1, h.low, h.high, h.apart, h.many) in
      let su = length_abs s u in
      let tv = length_abs t v in
      let s' = short_is s (omega (arith, su)) ∙ e ∙ (λ i. gap (average_is i) (start i)) in
      let t' = short_is t (omega (arith, tv)) ∙ g ∙ (λ i. gap (average_is i) (end i)) in
      λ i. record { span = span_is i; start = s' i; end = t' i }

-- ---- a change over its times

pub record Measured (c : Change) (value span covered : ℤ) : Type 0 where
  pub same : c ≡ record { value = value; span = span; covered = covered }
  pub times : IsStretched c

pub measured : (v w s a b s' a' b' : ℤ) → IsValue v → v ≡ w → s ≡ s' → a ≡ a' → b ≡ b' → pos 0 <ℤ s → s ≤ℤ pos 2251799813685248 → IsLength a → IsLength b
    → Measured (record { value = short v; span = short s; covered = short (short (short s +ℤ short a) +ℤ short b) }) w s' (s' +ℤ a' +ℤ b')
measured v w s a b s' a' b' value vw es ea eb low high al bl =
    let small = value_small v value in
    let kept : short v ≡ v = short_is v (omega (arith, small)) in
    let value' = kept ∙ vw in
    let span : short s ≡ s = omega (arith, ints, low, high) in
    let all : short (short (short s +ℤ short a) +ℤ short b) ≡ s +ℤ a +ℤ b = omega (arith, ints, low, high, al.0, al.1, bl.0, bl.1) in
    let all' = all ∙ (λ i. es i +ℤ ea i +ℤ eb i) in
    let span' = span ∙ es in
    record {
      same = λ i. record { value = value' i; span = span' i; covered = all' i };
      times = record {
        value = subst IsValue (sym kept) value;
        span = omega (arith, ints, span, low);
        short = omega (arith, ints, span, high);
        covered = omega (arith, ints, all, low, al.0, bl.0);
        wide = omega (arith, ints, all, high, al.1, bl.1);
      };
    }

-- ---- the times of ranges and of last steps

module _ (a b f l : ℤ) (n : ℕ) (h : Extends a b f l n) where
  pub range_is : short (short b -ℤ short a) ≡ b -ℤ a
  range_is = omega (arith, ints, h.left.0, h.left.1, h.right.0, h.right.1)

  pub range_within : (pos 0 <ℤ short (short b -ℤ short a)) × (short (short b -ℤ short a) ≤ℤ pos 2251799813685248)
  range_within =
      let r = range_is in
      (omega (arith, ints, r, h.low, h.high, h.apart, h.many), omega (arith, ints, r, h.left.0, h.right.1))

module _ (a b f l : ℤ) (left : IsTime a) (right : IsTime b) (h : Steps a b f l) where
  pub step_is : short (short l -ℤ short f) ≡ l -ℤ f
  step_is = omega (arith, ints, left.0, right.1, h.low, h.later, h.high)

  pub step_fits : FitsSigned w64 (short l -ℤ short f)
  step_fits =
      let ef : short f ≡ f = omega (arith, ints, left.0, right.1, h.low, h.later, h.high) in
      let el : short l ≡ l = omega (arith, ints, left.0, right.1, h.low, h.later, h.high) in
      let small : unsigned_abs (l -ℤ f) ≤ 2251799813685248 = omega (arith, ints, left.0, right.1, h.low, h.later, h.high) in
      rw (el, ef) (fits_signed_from_abs w64 (l -ℤ f) (omega (arith, small)))

  pub step_some : pos 0 <ℤ short (short l -ℤ short f)
  step_some = let s = step_is in omega (arith, ints, s, h.later)
