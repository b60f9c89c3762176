-- The parts of a number's text are those that a reader finds from the left.
use Rattle.std.proofs.Common.{◌≡◌, ℕ, ◌+◌, ◌<◌, ◌≤◌, ◌⊎◌, Bool, true, false, ◌&&◌, ◌||◌, List, [], ◌∷◌, ◌++◌, length, refl, ap, ◌∙◌, subst, arith, Option, Some, None, inl, inr, append-nil}
use Rattle.std.specs.Prelude.{nat_eq, nat_lt, nat_le, IfSome}
use Rattle.std.specs.Option.{is_some}
use Rattle.std.specs.Str.{all_ascii_digits}
use Rattle.std.specs.Char.{is_ascii_digit}
use Rattle.std.proofs.lemmas.Bool.Decides.{nat_tests}
use Rattle.pf_base.specs.NumberTexts.{Sign, bare, plus, minus, sign_text, Exponent, Decimal, exponent_text, point_text, decimal_text, fraction_digits, IsExponent, IsDecimal, number_after}
use Rattle.pf_base.specs.NumberScans.{digits_in_front, past_digits, sign_in_front, past_sign, fraction_in_front, past_fraction, small_of, exponent_of, with_digits, decimal_of}
use Rattle.pf_base.proofs.Digits.{both, in_range}

pub bool_cases : (x : Bool) → (x ≡ true) ⊎ (x ≡ false)
bool_cases true = inl refl
bool_cases false = inr refl

-- ---- signs

pub sign_split : (bs : List ℕ) → bs ≡ sign_text (sign_in_front bs) ++ past_sign bs
sign_split [] = refl
sign_split (b ∷ bs) = elim (bool_cases (nat_eq b 45)) [
  | inl e ↦ rw e (let be : b ≡ 45 = grind (arith, nat_tests) in ap (λ x. x ∷ bs) be)
  | inr n ↦ elim (bool_cases (nat_eq b 43)) [
    | inl e ↦ rw (n, e) (let be : b ≡ 43 = grind (arith, nat_tests) in ap (λ x. x ∷ bs) be)
    | inr m ↦ rw (n, m) refl
  ]
]

past_bare : (bs : List ℕ) → sign_in_front bs ≡ bare → past_sign bs ≡ bs
past_bare [] h = refl
past_bare (b ∷ bs) h = elim (bool_cases (nat_eq b 45)) [
  | inl e ↦ absurd (let g = rw e at h in cc)
  | inr n ↦ elim (bool_cases (nat_eq b 43)) [
    | inl e ↦ absurd (let g = rw (n, e) at h in cc)
    | inr m ↦ rw (n, m) refl
  ]
]

pub sign_spelled : (s : Sign) (r : List ℕ) → sign_in_front r ≡ bare → (sign_in_front (sign_text s ++ r) ≡ s) × (past_sign (sign_text s ++ r) ≡ r)
sign_spelled bare r h = (h, past_bare r h)
sign_spelled plus r h = (refl, refl)
sign_spelled minus r h = (refl, refl)

pub no_sign : (b : ℕ) (bs : List ℕ) → (b ≡ 45 → ⊥) → (b ≡ 43 → ⊥) → sign_in_front (b ∷ bs) ≡ bare
no_sign b bs h g =
    let n : nat_eq b 45 ≡ false = grind (arith, nat_tests) in
    let m : nat_eq b 43 ≡ false = grind (arith, nat_tests) in
    rw (n, m) refl

-- ---- digits

pub digits_split : (bs : List ℕ) → bs ≡ digits_in_front bs ++ past_digits bs
digits_split [] = refl
digits_split (b ∷ bs) = elim (bool_cases (is_ascii_digit b)) [
  | inl e ↦ rw e (ap (λ x. b ∷ x) (digits_split bs))
  | inr n ↦ rw n refl
]

pub digits_all : (bs : List ℕ) → all_ascii_digits (digits_in_front bs) ≡ true
digits_all [] = refl
digits_all (b ∷ bs) = elim (bool_cases (is_ascii_digit b)) [
  | inl e ↦ rw e (rw e (digits_all bs))
  | inr n ↦ rw n refl
]

no_digits : (bs : List ℕ) → digits_in_front bs ≡ [] → past_digits bs ≡ bs
no_digits [] h = refl
no_digits (b ∷ bs) h = elim (bool_cases (is_ascii_digit b)) [
  | inl e ↦ absurd (let g = rw e at h in cc)
  | inr n ↦ rw n refl
]

pub digits_spelled : (ds r : List ℕ) → all_ascii_digits ds ≡ true → digits_in_front r ≡ [] → (digits_in_front (ds ++ r) ≡ ds) × (past_digits (ds ++ r) ≡ r)
digits_spelled [] r h n = (n, no_digits r n)
digits_spelled (d ∷ ds) r h n =
    let t = both (is_ascii_digit d) (all_ascii_digits ds) h in
    let e = t.0 in
    let rest = digits_spelled ds r t.1 n in
    (rw e (ap (λ x. d ∷ x) rest.0), rw e rest.1)

pub all_in_front : (ds : List ℕ) → all_ascii_digits ds ≡ true → (digits_in_front ds ≡ ds) × (past_digits ds ≡ [])
all_in_front [] h = (refl, refl)
all_in_front (d ∷ ds) h =
    let t = both (is_ascii_digit d) (all_ascii_digits ds) h in
    let e = t.0 in
    let rest = all_in_front ds t.1 in
    (rw e (ap (λ x. d ∷ x) rest.0), rw e rest.1)

-- ---- fractions

pub fraction_split : (bs : List ℕ) → bs ≡ point_text (fraction_in_front bs) ++ past_fraction bs
fraction_split [] = refl
fraction_split (b ∷ bs) = elim (bool_cases (nat_eq b 46)) [
  | inl e ↦ rw e (let be : b ≡ 46 = grind (arith, nat_tests) in ap (λ x. x ∷ bs) be ∙ ap (λ x. 46 ∷ x) (digits_split bs))
  | inr n ↦ rw n refl
]

pub fraction_all : (bs : List ℕ) → all_ascii_digits (fraction_digits (fraction_in_front bs)) ≡ true
fraction_all [] = refl
fraction_all (b ∷ bs) = elim (bool_cases (nat_eq b 46)) [
  | inl e ↦ rw e (digits_all bs)
  | inr n ↦ rw n refl
]

no_point : (bs : List ℕ) → fraction_in_front bs ≡ None → past_fraction bs ≡ bs
no_point [] h = refl
no_point (b ∷ bs) h = elim (bool_cases (nat_eq b 46)) [
  | inl e ↦ absurd (let g = rw e at h in cc)
  | inr n ↦ rw n refl
]

pub fraction_spelled : (f : Option (List ℕ)) (r : List ℕ) → all_ascii_digits (fraction_digits f) ≡ true → digits_in_front r ≡ [] → fraction_in_front r ≡ None
    → (fraction_in_front (point_text f ++ r) ≡ f) × (past_fraction (point_text f ++ r) ≡ r)
fraction_spelled None r h n m = (m, no_point r m)
fraction_spelled (Some ds) r h n m = let rest = digits_spelled ds r h n in (ap Some rest.0, rest.1)

-- ---- exponents

digits_unsigned : (ds : List ℕ) → all_ascii_digits ds ≡ true → sign_in_front ds ≡ bare
digits_unsigned [] h = refl
digits_unsigned (d ∷ ds) h =
    let t = both (is_ascii_digit d) (all_ascii_digits ds) h in
    let r = in_range d t.0 in
    no_sign d ds (λ e. omega arith) (λ e. omega arith)

small_spelled : (ds : List ℕ) → all_ascii_digits ds ≡ true → 1 ≤ length ds → number_after 0 ds ≤ 9999 → is_some (small_of ds) ≡ true
small_spelled ds h one few =
    let front = all_in_front ds h in
    let f = front.0 in
    let p = front.1 in
    let a : nat_lt 0 (length ds) ≡ true = grind (arith, nat_tests) in
    let b : nat_le (number_after 0 ds) 9999 ≡ true = grind (arith, nat_tests) in
    rw (f, p, a, b) refl

letter_test : (b : ℕ) → ((b ≡ 101) ⊎ (b ≡ 69)) → (nat_eq b 101 || nat_eq b 69) ≡ true
letter_test b (inl e) = grind (arith, nat_tests)
letter_test b (inr e) = grind (arith, nat_tests)

pub exponent_spelled : (e : Option Exponent) → IfSome e IsExponent → exponent_of (exponent_text e) ≡ Some e
exponent_spelled None h = refl
exponent_spelled (Some e) h =
    let sign = sign_spelled e.sign e.digits (digits_unsigned e.digits h.digits) in
    let s = sign.0 in
    let p = sign.1 in
    let l = letter_test e.letter h.letter in
    let front = all_in_front e.digits h.digits in
    let f = front.0 in
    let small = small_spelled e.digits h.digits h.some h.small in
    rw (p, l, small, s, f) refl

some_is : {X : Type 0} (a b : X) → ◌≡◌ {A = Option X} (Some a) (Some b) → a ≡ b
some_is a b h = cc

small_sound : (ds : List ℕ) → is_some (small_of ds) ≡ true
    → (0 < length (digits_in_front ds)) × (past_digits ds ≡ []) × (number_after 0 (digits_in_front ds) ≤ 9999)
small_sound ds h =
    let x = nat_lt 0 (length (digits_in_front ds)) in
    let y = nat_eq (length (past_digits ds)) 0 in
    let z = nat_le (number_after 0 (digits_in_front ds)) 9999 in
    elim (bool_cases (x && y && z)) [
      | inl e ↦
          let outer = both (x && y) z e in
          let inner = both x y outer.0 in
          let ex = inner.0 in
          let ey = inner.1 in
          let ez = outer.1 in
          (grind (arith, nat_tests), nil_if (past_digits ds) ey, grind (arith, nat_tests))
      | inr n ↦ absurd (let g = rw n at h in cc)
    ]
  where
    nil_if : (xs : List ℕ) → nat_eq (length xs) 0 ≡ true → xs ≡ []
    nil_if [] h = refl
    nil_if (x ∷ xs) h = absurd (let lt : 0 < length (x ∷ xs) = omega arith in grind (arith, nat_tests))

letter_sound : (b : ℕ) → (nat_eq b 101 || nat_eq b 69) ≡ true → (b ≡ 101) ⊎ (b ≡ 69)
letter_sound b h = elim (bool_cases (nat_eq b 101)) [
  | inl e ↦ inl (grind (arith, nat_tests))
  | inr n ↦ let g = rw n at h in inr (grind (arith, nat_tests))
]

exponent_found : (b : ℕ) (bs : List ℕ) → (nat_eq b 101 || nat_eq b 69) ≡ true → is_some (small_of (past_sign bs)) ≡ true
    → (b ∷ bs ≡ exponent_text (Some (record { letter = b; sign = sign_in_front bs; digits = digits_in_front (past_sign bs) })))
    × IsExponent (record { letter = b; sign = sign_in_front bs; digits = digits_in_front (past_sign bs) })
exponent_found b bs hl hs =
    let small = small_sound (past_sign bs) hs in
    let front = digits_in_front (past_sign bs) in
    let rest : past_sign bs ≡ front = digits_split (past_sign bs) ∙ ap (λ x. front ++ x) small.1 ∙ append-nil front in (
      ap (λ x. b ∷ x) (sign_split bs ∙ ap (λ x. sign_text (sign_in_front bs) ++ x) rest),
      record { letter = letter_sound b hl; some = omega (arith, small.0); digits = digits_all (past_sign bs); small = small.2 },
    )

pub exponent_sound : (bs : List ℕ) (e : Option Exponent) → exponent_of bs ≡ Some e → (bs ≡ exponent_text e) × IfSome e IsExponent
exponent_sound [] e h =
    let P : Option Exponent → Type 0 = λ x. ([] ≡ exponent_text x) × IfSome x IsExponent in
    subst P (some_is None e h) (refl, tt)
exponent_sound (b ∷ bs) e h =
    let P : Option Exponent → Type 0 = λ x. (b ∷ bs ≡ exponent_text x) × IfSome x IsExponent in
    elim (bool_cases ((nat_eq b 101 || nat_eq b 69) && is_some (small_of (past_sign bs)))) [
      | inl t ↦
          let parts = both (nat_eq b 101 || nat_eq b 69) (is_some (small_of (past_sign bs))) t in
          let g = rw t at h in
          subst P (some_is (Some (record { letter = b; sign = sign_in_front bs; digits = digits_in_front (past_sign bs) })) e g) (exponent_found b bs parts.0 parts.1)
      | inr n ↦ absurd (let g = rw n at h in cc)
    ]

-- ---- numbers without a sign

exponent_front : (e : Option Exponent) → IfSome e IsExponent → (digits_in_front (exponent_text e) ≡ []) × (fraction_in_front (exponent_text e) ≡ None)
exponent_front None h = (refl, refl)
exponent_front (Some e) h = front_of e.letter (sign_text e.sign ++ e.digits) h.letter
  where
    front_of : (b : ℕ) (bs : List ℕ) → ((b ≡ 101) ⊎ (b ≡ 69)) → (digits_in_front (b ∷ bs) ≡ []) × (fraction_in_front (b ∷ bs) ≡ None)
    front_of b bs h =
        let n : is_ascii_digit b ≡ false = elim h [ inl e ↦ ap is_ascii_digit e | inr e ↦ ap is_ascii_digit e ] in
        let m : nat_eq b 46 ≡ false = elim h [ inl e ↦ ap (λ x. nat_eq x 46) e | inr e ↦ ap (λ x. nat_eq x 46) e ] in
        (rw n refl, rw m refl)

point_front : (f : Option (List ℕ)) (x : List ℕ) → digits_in_front x ≡ [] → digits_in_front (point_text f ++ x) ≡ []
point_front None x h = h
point_front (Some ds) x h = refl

pub decimal_spelled : (d : Decimal) → IsDecimal d → decimal_of (decimal_text d) ≡ Some d
decimal_spelled d h =
    let x = exponent_text d.exponent in
    let front = exponent_front d.exponent h.exponent in
    let dw = digits_spelled d.whole (point_text d.fraction ++ x) h.whole (point_front d.fraction x front.0) in
    let fs = fraction_spelled d.fraction x h.fraction front.0 front.1 in
    let e1 = dw.0 in
    let e2 = dw.1 in
    let e3 = fs.0 in
    let e4 = fs.1 in
    let e5 = exponent_spelled d.exponent h.exponent in
    let some = h.some in
    let lt : nat_lt 0 (length d.whole + length (fraction_digits d.fraction)) ≡ true = grind (arith, nat_tests) in
    rw (e1, e2, e3, e4, e5, lt) refl

with_sound : (w : List ℕ) (f : Option (List ℕ)) (e : Option (Option Exponent)) (d : Decimal) → with_digits w f e ≡ Some d
    → (x : Option Exponent) × ((e ≡ Some x) × (record { whole = w; fraction = f; exponent = x } ≡ d) × (0 < length w + length (fraction_digits f)))
with_sound w f None d h = absurd cc
with_sound w f (Some e) d h = elim (bool_cases (nat_lt 0 (length w + length (fraction_digits f)))) [
  | inl t ↦ let g = rw t at h in (e, (refl, some_is (record { whole = w; fraction = f; exponent = e }) d g, grind (arith, nat_tests)))
  | inr n ↦ absurd (let g = rw n at h in cc)
]

pub decimal_sound : (bs : List ℕ) (d : Decimal) → decimal_of bs ≡ Some d → (bs ≡ decimal_text d) × IsDecimal d
decimal_sound bs d h =
    let w = digits_in_front bs in
    let r = past_digits bs in
    let f = fraction_in_front r in
    let s = with_sound w f (exponent_of (past_fraction r)) d h in
    let e = exponent_sound (past_fraction r) s.0 s.1.0 in
    let P : Decimal → Type 0 = λ x. (bs ≡ decimal_text x) × IsDecimal x in
    subst P s.1.1 (
      digits_split bs ∙ ap (λ x. w ++ x) (fraction_split r ∙ ap (λ x. point_text f ++ x) e.0),
      record { whole = digits_all bs; fraction = fraction_all r; some = omega (arith, s.1.2); exponent = e.1 },
    )
