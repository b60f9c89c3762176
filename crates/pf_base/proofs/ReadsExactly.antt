-- What a text is read as is what the grammar says of it, and nothing else.
use Rattle.std.proofs.Common.{◌≡◌, ℕ, ℤ, ◌+◌, ◌≤◌, ◌⊎◌, Bool, true, false, ◌||◌, List, [], ◌∷◌, ◌++◌, length, map, refl, ap, sym, ◌∙◌, subst, arith, Option, Some, None, Result, Ok, inl, inr}
use Rattle.std.specs.Prelude.{nat_eq, nat_lt, codes}
use Rattle.std.specs.Str.{all_ascii_digits}
use Rattle.std.specs.Char.{is_ascii_digit, to_ascii_lowercase}
use Rattle.std.proofs.lemmas.Int.{ints}
use Rattle.std.proofs.lemmas.Bool.Decides.{nat_tests}
use Rattle.std.proofs.lemmas.Slice.Eq.{bytes_eq-Decides}
use Rattle.pf_base.specs.Arithmetic.{clamp}
use Rattle.pf_base.specs.NumberTexts.{Sign, bare, plus, minus, sign_text, signed, Decimal, decimal_text, point_text, exponent_text, fraction_digits, decimal_micros, IsDecimal, IsNumber, IsWord, Reads}
use Rattle.pf_base.specs.NumberScans.{capped, sign_in_front, past_sign, is_minus, decimal_of, signed_by, is_word, read_body, read_of}
use Rattle.pf_base.specs.declared.number.Read.{Read}
use Rattle.pf_base.specs.declared.number.Read.TheVariants.{Number, NotANumber}
use Rattle.pf_base.specs.declared.number.BadNumber.{BadNumber}
use Rattle.pf_base.proofs.Digits.{both, in_range}
use Rattle.pf_base.proofs.Readings.{bool_cases, sign_split, sign_spelled, no_sign, decimal_spelled, decimal_sound}

record Head (bytes : List ℕ) : Type 0 where
  first : ℕ
  rest : List ℕ
  same : bytes ≡ first ∷ rest
  low : 46 ≤ first
  high : first ≤ 57

head_of : (w : List ℕ) (f : Option (List ℕ)) (x : List ℕ) → all_ascii_digits w ≡ true → 1 ≤ length w + length (fraction_digits f) → Head (w ++ (point_text f ++ x))
head_of (d ∷ ds) f x h some =
    let r = in_range d (both (is_ascii_digit d) (all_ascii_digits ds) h).0 in
    record { first = d; rest = ds ++ (point_text f ++ x); same = refl; low = omega arith; high = r.1 }
head_of [] None x h some = absurd (omega arith)
head_of [] (Some ds) x h some = record { first = 46; rest = ds ++ x; same = refl; low = omega arith; high = omega arith }

not_word : (bs : List ℕ) (w : ℕ) (ws : List ℕ) → Head bs → 97 ≤ w → is_word (w ∷ ws) bs ≡ false
not_word bs w ws h k =
    let low = h.low in
    let high = h.high in
    let n : nat_eq (to_ascii_lowercase h.first) w ≡ false = grind (arith, nat_tests) in
    ap (is_word (w ∷ ws)) h.same ∙ rw n refl

letters_unsigned : (ls : List ℕ) (w : ℕ) (ws : List ℕ) → map to_ascii_lowercase ls ≡ w ∷ ws → 97 ≤ w → sign_in_front ls ≡ bare
letters_unsigned [] w ws h k = absurd cc
letters_unsigned (l ∷ ls) w ws h k =
    let e : to_ascii_lowercase l ≡ w = cc in
    no_sign l ls (λ q. let v : to_ascii_lowercase l ≡ 45 = ap to_ascii_lowercase q in omega (arith, e, v)) (λ q. let v : to_ascii_lowercase l ≡ 43 = ap to_ascii_lowercase q in omega (arith, e, v))

clamp_signed : (s : Sign) (n : ℕ) → signed_by (is_minus s) (capped n) ≡ clamp (signed s n)
unfolding clamp
clamp_signed bare n = grind (arith, nat_tests, ints)
clamp_signed plus n = grind (arith, nat_tests, ints)
clamp_signed minus n = grind (arith, nat_tests, ints)

same_sign : (s : Sign) (n : ℕ) → signed_by (is_minus s) n ≡ signed s n
same_sign bare n = refl
same_sign plus n = refl
same_sign minus n = refl

-- ---- from the grammar to the reader

body_is : (bytes body : List ℕ) (s : Sign) → bytes ≡ sign_text s ++ body → sign_in_front body ≡ bare → read_of bytes ≡ read_body (is_minus s) body (length bytes)
body_is bytes body s e h =
    let t = sign_spelled s body h in
    let front : sign_in_front bytes ≡ s = ap sign_in_front e ∙ t.0 in
    let past : past_sign bytes ≡ body = ap past_sign e ∙ t.1 in
    ap (λ x. read_body (is_minus x) (past_sign bytes) (length bytes)) front ∙ ap (λ x. read_body (is_minus s) x (length bytes)) past

decimal_body : (d : Decimal) (m : Bool) (n : ℕ) → IsDecimal d → n ≤ 128 → ◌≡◌ {A = Result Read BadNumber} (read_body m (decimal_text d) n) (Ok (Number (signed_by m (capped (decimal_micros d)))))
decimal_body d m n h short =
    let head = head_of d.whole d.fraction (exponent_text d.exponent) h.whole h.some in
    let a = not_word (decimal_text d) 110 (97 ∷ 110 ∷ []) head (omega arith) in
    let b = not_word (decimal_text d) 105 (110 ∷ 102 ∷ []) head (omega arith) in
    let c = not_word (decimal_text d) 105 (110 ∷ 102 ∷ 105 ∷ 110 ∷ 105 ∷ 116 ∷ 121 ∷ []) head (omega arith) in
    let l : nat_lt 128 n ≡ false = grind (arith, nat_tests) in
    let e = decimal_spelled d h in
    rw (a, b, c, l, e) refl

number_read : (bytes : List ℕ) (v : ℤ) → IsNumber bytes v → ◌≡◌ {A = Result Read BadNumber} (read_of bytes) (Ok (Number v))
number_read bytes v h =
    let head = head_of h.parts.whole h.parts.fraction (exponent_text h.parts.exponent) h.lawful.whole h.lawful.some in
    let low = head.low in
    let high = head.high in
    let free : sign_in_front (decimal_text h.parts) ≡ bare = ap sign_in_front head.same ∙ no_sign head.first head.rest (λ e. omega arith) (λ e. omega arith) in
    body_is bytes (decimal_text h.parts) h.sign h.spelled free ∙ decimal_body h.parts (is_minus h.sign) (length bytes) h.lawful h.short
    ∙ ap (λ x. Ok (Number x)) (clamp_signed h.sign (decimal_micros h.parts) ∙ sym h.value)

infinity_read : (bytes : List ℕ) (s : Sign) → (IsWord (codes "inf") bytes s ⊎ IsWord (codes "infinity") bytes s) → ◌≡◌ {A = Result Read BadNumber} (read_of bytes) (Ok (Number (signed s 1000000000000000000)))
infinity_read bytes s (inl h) =
    let e = h.same in
    body_is bytes h.letters s h.spelled (letters_unsigned h.letters 105 (110 ∷ 102 ∷ []) h.same (omega arith)) ∙ rw e (ap (λ x. Ok (Number x)) (same_sign s 1000000000000000000))
infinity_read bytes s (inr h) =
    let e = h.same in
    body_is bytes h.letters s h.spelled (letters_unsigned h.letters 105 (110 ∷ 102 ∷ 105 ∷ 110 ∷ 105 ∷ 116 ∷ 121 ∷ []) h.same (omega arith)) ∙ rw e (ap (λ x. Ok (Number x)) (same_sign s 1000000000000000000))

nan_read : (bytes : List ℕ) (s : Sign) → IsWord (codes "nan") bytes s → ◌≡◌ {A = Result Read BadNumber} (read_of bytes) (Ok NotANumber)
nan_read bytes s h =
    let e = h.same in
    body_is bytes h.letters s h.spelled (letters_unsigned h.letters 110 (97 ∷ 110 ∷ []) h.same (omega arith)) ∙ rw e refl

pub complete : (bytes : List ℕ) (r : Read) → Reads bytes r → ◌≡◌ {A = Result Read BadNumber} (read_of bytes) (Ok r)
complete bytes (Number v) (inl h) = number_read bytes v h
complete bytes (Number v) (inr h) = infinity_read bytes h.0 h.1.0 ∙ ap (λ x. Ok (Number x)) (sym h.1.1)
complete bytes NotANumber h = nan_read bytes h.0 h.1

-- ---- from the reader to the grammar

ok_is : (a b : Read) → ◌≡◌ {A = Result Read BadNumber} (Ok a) (Ok b) → a ≡ b
ok_is a b h = cc

option_cases : (x : Option Decimal) → (x ≡ None) ⊎ ((d : Decimal) × (x ≡ Some d))
option_cases None = inl refl
option_cases (Some d) = inr (d, refl)

word_of : (word bytes body : List ℕ) (s : Sign) → bytes ≡ sign_text s ++ body → is_word word body ≡ true → IsWord word bytes s
word_of word bytes body s e h = record { letters = body; same = (bytes_eq-Decides (map to_ascii_lowercase body) word).0 h; spelled = e }

either_word : (bytes body : List ℕ) (s : Sign) → bytes ≡ sign_text s ++ body → (is_word (codes "inf") body || is_word (codes "infinity") body) ≡ true
    → IsWord (codes "inf") bytes s ⊎ IsWord (codes "infinity") bytes s
either_word bytes body s e h = elim (bool_cases (is_word (codes "inf") body)) [
  | inl t ↦ inl (word_of (codes "inf") bytes body s e t)
  | inr n ↦ let g = rw n at h in inr (word_of (codes "infinity") bytes body s e g)
]

body_sound : (bytes body : List ℕ) (s : Sign) (r : Read) → bytes ≡ sign_text s ++ body → ◌≡◌ {A = Result Read BadNumber} (read_body (is_minus s) body (length bytes)) (Ok r) → Reads bytes r
body_sound bytes body s r e h = elim (bool_cases (is_word (codes "nan") body)) [
  | inl t ↦ let g = rw t at h in subst (Reads bytes) (ok_is NotANumber r g) (s, word_of (codes "nan") bytes body s e t)
  | inr n ↦ elim (bool_cases (is_word (codes "inf") body || is_word (codes "infinity") body)) [
    | inl t ↦
        let g = rw (n, t) at h in
        subst (Reads bytes) (ok_is (Number (signed_by (is_minus s) 1000000000000000000)) r g) (inr (s, (either_word bytes body s e t, same_sign s 1000000000000000000)))
    | inr m ↦ elim (bool_cases (nat_lt 128 (length bytes))) [
      | inl t ↦ absurd (let g = rw (n, m, t) at h in cc)
      | inr k ↦ elim (option_cases (decimal_of body)) [
        | inl t ↦ absurd (let g = rw (n, m, k, t) at h in cc)
        | inr t ↦
            let d = t.0 in
            let found = t.1 in
            let g = rw (n, m, k, found) at h in
            let sound = decimal_sound body d found in
            subst (Reads bytes) (ok_is (Number (signed_by (is_minus s) (capped (decimal_micros d)))) r g)
            (inl (record { sign = s; parts = d; lawful = sound.1; spelled = e ∙ ap (λ x. sign_text s ++ x) sound.0; short = grind (arith, nat_tests); value = clamp_signed s (decimal_micros d) }))
      ]
    ]
  ]
]

pub sound : (bytes : List ℕ) (r : Read) → ◌≡◌ {A = Result Read BadNumber} (read_of bytes) (Ok r) → Reads bytes r
sound bytes r h = body_sound bytes (past_sign bytes) (sign_in_front bytes) r (sign_split bytes) h
