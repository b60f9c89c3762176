-- A value's text is read as that value.
use Rattle.std.proofs.Common.{◌≡◌, ℕ, ℤ, pos, negsuc, zero, suc, ◌+◌, ◌-◌, ◌*◌, ◌/◌, ◌%◌, ◌^◌, ◌<◌, ◌≤◌, true, false, List, [], ◌∷◌, ◌++◌, length, refl, ap, sym, ◌∙◌, subst, arith, Some, None, inl, inr, rules, append-nil, length-append, add-zero}
use Rattle.std.specs.Prelude.{nat_eq, neg_ℤ}
use Rattle.std.specs.Str.{all_ascii_digits}
use Rattle.std.specs.Char.{is_ascii_digit}
use Rattle.std.specs.Fmt.{decimal}
use Rattle.std.proofs.lemmas.Fmt.{digits_decimal, digits_value-decimal, length-decimal-le, decimal_nonempty}
use Rattle.std.proofs.lemmas.Str.Parse.{IsNumeralModel, numerals_by_fold}
use Rattle.std.proofs.lemmas.Int.{ints}
use Rattle.std.proofs.lemmas.Nat.{pow-add}
use Rattle.std.proofs.lemmas.Bool.Decides.{nat_tests}
use Rattle.std.proofs.Math.Nat.{pow-suc, mul-div_cancel, one-le-pow}
use Rattle.pf_base.specs.Arithmetic.{clamp, IsValue}
use Rattle.pf_base.specs.NumberTexts.{bare, minus, Decimal, decimal_text, decimal_micros, IsDecimal, Reads, number_after, with_digit, without_end_zeros, six_digits, micros_text, value_text}
use Rattle.pf_base.specs.declared.number.Read.TheVariants.{Number}
use Rattle.pf_base.proofs.Digits.{both, number_append}
use Rattle.pf_base.proofs.Readings.{bool_cases}

pub own : IsNumeralModel (λ ds. all_ascii_digits ds ≡ true) (number_after 0)
own = numerals_by_fold _ (search rules) number_after (search rules)

abbrev zeros : ℕ → List ℕ
zeros zero = []
zeros (suc k) = 48 ∷ zeros k

number_zeros : (n k : ℕ) → number_after n (zeros k) ≡ n * 10 ^ k
number_zeros n zero = omega arith
number_zeros n (suc k) =
    let p = pow-suc 10 k in
    let i = number_zeros (n * 10) k in
    let e : n * 10 + (48 - 48) ≡ n * 10 = omega arith in
    ap (λ x. number_after x (zeros k)) e ∙ i ∙ (let q : n * 10 * 10 ^ k ≡ n * (10 ^ k * 10) = omega arith in q) ∙ ap (λ x. n * x) (sym p)

length_zeros : (k : ℕ) → length (zeros k) ≡ k
length_zeros zero = refl
length_zeros (suc k) = ap suc (length_zeros k)

put_back : (b : ℕ) (w : List ℕ) (k : ℕ) → (j : ℕ) × (b ∷ (w ++ zeros k) ≡ with_digit b w ++ zeros j)
put_back b (c ∷ cs) k = (k, refl)
put_back b [] k = elim (bool_cases (nat_eq b 48)) [
  | inl e ↦ (suc k, rw e (let be : b ≡ 48 = grind (arith, nat_tests) in ap (λ x. x ∷ zeros k) be))
  | inr n ↦ (k, rw n refl)
]

with_zeros : (ds : List ℕ) → (k : ℕ) × (ds ≡ without_end_zeros ds ++ zeros k)
unfolding without_end_zeros
with_zeros [] = (0, refl)
with_zeros (b ∷ bs) =
    let i = with_zeros bs in
    let p = put_back b (without_end_zeros bs) i.0 in
    (p.0, ap (λ x. b ∷ x) i.1 ∙ p.1)

all_left : (xs ys : List ℕ) → all_ascii_digits (xs ++ ys) ≡ true → all_ascii_digits xs ≡ true
all_left [] ys h = refl
all_left (x ∷ xs) ys h =
    let t = both (is_ascii_digit x) (all_ascii_digits (xs ++ ys)) h in
    let e = t.0 in
    rw e (all_left xs ys t.1)

digit : (d : ℕ) → d < 10 → is_ascii_digit (48 + d) ≡ true
digit d h = grind (arith, nat_tests)

six_all : (m : ℕ) → m < 1000000 → all_ascii_digits (six_digits m) ≡ true
six_all m h =
    let a = digit (m / 100000) (omega arith) in
    let b = digit (m / 10000 % 10) (omega arith) in
    let c = digit (m / 1000 % 10) (omega arith) in
    let d = digit (m / 100 % 10) (omega arith) in
    let e = digit (m / 10 % 10) (omega arith) in
    let f = digit (m % 10) (omega arith) in
    rw (a, b, c, d, e, f) refl

six_value : (k m : ℕ) → m < 1000000 → number_after k (six_digits m) ≡ k * 1000000 + m
six_value k m h = omega arith

record IsFraction (m : ℕ) : Type 0 where
  tail : ℕ
  whole : six_digits m ≡ without_end_zeros (six_digits m) ++ zeros tail
  long : length (without_end_zeros (six_digits m)) + tail ≡ 6
  all : all_ascii_digits (without_end_zeros (six_digits m)) ≡ true

fraction_is : (m : ℕ) → m < 1000000 → IsFraction m
fraction_is m h =
    let w = with_zeros (six_digits m) in
    let l : length (six_digits m) ≡ length (without_end_zeros (six_digits m)) + length (zeros w.0) = ap length w.1 ∙ length-append (without_end_zeros (six_digits m)) (zeros w.0) in
    let z = length_zeros w.0 in
    let six : length (six_digits m) ≡ 6 = omega arith in
    record { tail = w.0; whole = w.1; long = omega arith; all = all_left (without_end_zeros (six_digits m)) (zeros w.0) (ap all_ascii_digits (sym w.1) ∙ six_all m h) }

fraction_value : (k m : ℕ) → m < 1000000 → number_after k (without_end_zeros (six_digits m)) * 10 ^ 6 / 10 ^ length (without_end_zeros (six_digits m)) ≡ k * 1000000 + m
fraction_value k m h =
    let f = fraction_is m h in
    let w = without_end_zeros (six_digits m) in
    let v = number_after k w in
    let scaled : v * 10 ^ f.tail ≡ k * 1000000 + m = sym (number_zeros v f.tail) ∙ sym (number_append k w (zeros f.tail)) ∙ ap (number_after k) (sym f.whole) ∙ six_value k m h in
    let e : f.tail + length w ≡ 6 = omega (arith, f.long) in
    let p : 10 ^ 6 ≡ 10 ^ f.tail * 10 ^ length w = ap (λ x. 10 ^ x) (sym e) ∙ pow-add 10 f.tail (length w) in
    let one = one-le-pow (length w) 10 (omega arith) in
    let q : v * (10 ^ f.tail * 10 ^ length w) ≡ v * 10 ^ f.tail * 10 ^ length w = omega arith in
    ap (λ x. v * x / 10 ^ length w) p ∙ ap (λ x. x / 10 ^ length w) q ∙ mul-div_cancel (v * 10 ^ f.tail) (omega arith) ∙ scaled

-- the parts of so many micros
pub record IsMicros (n : ℕ) : Type 0 where
  pub parts : Decimal
  pub lawful : IsDecimal parts
  pub spelled : micros_text n ≡ decimal_text parts
  pub short : length (micros_text n) ≤ 20
  pub value : decimal_micros parts ≡ n

units_small : (n : ℕ) → n ≤ 1000000000000000000 → length (decimal (n / 1000000)) ≤ 13
units_small n h = length-decimal-le 13 (n / 1000000) (omega arith) (omega arith) (omega arith)

micros_whole : (n : ℕ) → n ≤ 1000000000000000000 → nat_eq (n % 1000000) 0 ≡ true → IsMicros n
micros_whole n h e =
    let k = n / 1000000 in
    let w = decimal k in
    let few = units_small n h in
    let some = decimal_nonempty k (omega arith) in
    let value = digits_value-decimal own k (omega arith) in
    let none : n % 1000000 ≡ 0 = grind (arith, nat_tests) in
    let text : micros_text n ≡ w ++ [] = rw e refl in
    let long : length (micros_text n) ≡ length w = ap length (text ∙ append-nil w) in
    record {
      parts = record { whole = w; fraction = None; exponent = None };
      lawful = record { whole = digits_decimal own k (omega arith); fraction = refl; some = omega arith; exponent = tt };
      spelled = text;
      short = omega arith;
      value = ap (λ x. number_after 0 x * 10 ^ 6 / 10 ^ 0) (append-nil w) ∙ ap (λ x. x * 10 ^ 6 / 10 ^ 0) value ∙ omega arith;
    }

micros_part : (n : ℕ) → n ≤ 1000000000000000000 → nat_eq (n % 1000000) 0 ≡ false → IsMicros n
micros_part n h e =
    let k = n / 1000000 in
    let w = decimal k in
    let m = n % 1000000 in
    let f = without_end_zeros (six_digits m) in
    let part = fraction_is m (omega arith) in
    let few = units_small n h in
    let some = decimal_nonempty k (omega arith) in
    let value = digits_value-decimal own k (omega arith) in
    let text : micros_text n ≡ w ++ (46 ∷ f) = rw e refl in
    let long : length (micros_text n) ≡ length w + length (46 ∷ f) = ap length text ∙ length-append w (46 ∷ f) in
    let six = part.long in
    record {
      parts = record { whole = w; fraction = Some f; exponent = None };
      lawful = record { whole = digits_decimal own k (omega arith); fraction = part.all; some = omega arith; exponent = tt };
      spelled = text ∙ ap (λ x. w ++ (46 ∷ x)) (sym (append-nil f));
      short = omega arith;
      value = ap (λ x. number_after 0 (w ++ f) * 10 ^ 6 / 10 ^ x) (add-zero (length f)) ∙ ap (λ x. x * 10 ^ 6 / 10 ^ length f) (number_append 0 w f ∙ ap (λ x. number_after x f) value) ∙ fraction_value k m (omega arith) ∙ omega arith;
    }

pub micros_are : (n : ℕ) → n ≤ 1000000000000000000 → IsMicros n
micros_are n h = elim (bool_cases (nat_eq (n % 1000000) 0)) [ inl e ↦ micros_whole n h e | inr e ↦ micros_part n h e ]

pub clamp_value : (z : ℤ) → IsValue z → z ≡ clamp z
unfolding clamp
clamp_value z h = grind (arith, nat_tests, ints)

pub read_back : (z : ℤ) → IsValue z → Reads (value_text z) (Number z)
read_back (pos n) h =
    let m = micros_are n (omega (arith, h.1, ints)) in
    let short = m.short in
    inl (record { sign = bare; parts = m.parts; lawful = m.lawful; spelled = m.spelled; short = omega arith; value = clamp_value (pos n) h ∙ ap (λ x. clamp (pos x)) (sym m.value) })
read_back (negsuc n) h =
    let m = micros_are (suc n) (omega (arith, h.0, ints)) in
    let short = m.short in
    let l : length (45 ∷ micros_text (suc n)) ≡ suc (length (micros_text (suc n))) = refl in
    inl (record { sign = minus; parts = m.parts; lawful = m.lawful; spelled = ap (λ x. 45 ∷ x) m.spelled; short = omega arith; value = clamp_value (negsuc n) h ∙ ap (λ x. clamp (neg_ℤ (pos x))) (sym m.value) })

pub read_back_at : (z x : ℤ) → z ≡ x → IsValue z → Reads (value_text x) (Number x)
read_back_at z x e h = subst (λ y. Reads (value_text y) (Number y)) e (read_back z h)
