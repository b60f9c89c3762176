-- Escaped texts and numbers are texts.
use Rattle.std.proofs.Common.{◌≡◌, ◌∙◌, sym, refl, ap, subst, ℕ, suc, ℤ, pos, negsuc, ◌+◌, ◌*◌, ◌/◌, ◌%◌, ◌<◌, ◌≤◌, inl, inr, Bool, true, false, cond, List, [], ◌∷◌, ◌++◌, length, take, get_or, nat_eq, codes, arith}
use Rattle.std.specs.Char.{encode_utf8}
use Rattle.std.specs.List.{list_all}
use Rattle.std.specs.Str.{IsUtf8}
use Rattle.std.proofs.lemmas.Bool.{and_parts, cases_lt}
use Rattle.std.proofs.lemmas.Bool.Decides.{nat_tests}
use Rattle.std.proofs.lemmas.Fmt.{IsAscii-decimal}
use Rattle.std.proofs.lemmas.Int.{ints}
use Rattle.std.proofs.lemmas.List.{append_assoc, append-nil}
use Rattle.std.proofs.Math.Seq.{take-suc}
use Rattle.std.proofs.lemmas.Str.{encode_ascii, IsUtf8-append, IsUtf8-encode, IsUtf8-from_ascii, IsUtf8-nil}
use Rattle.pf_base.specs.NumberTexts.{value_text, micros_text, fraction_text, six_digits, with_digit, without_end_zeros}
use Rattle.pf_base.specs.Arithmetic.{IsValue}
use Rattle.std.specs.Fmt.{decimal}
use Rattle.pf_model.specs.Canonical.{string_byte, string_bytes_of}
use Rattle.pf_lex.proofs.Utf8.{high_encode, is_high, one_low}
use lib.Utf8.{scalar, scalars, encodes}

pub escaped_onto : (xs ys : List ℕ) → string_bytes_of (xs ++ ys) ≡ string_bytes_of xs ++ string_bytes_of ys
escaped_onto [] ys = refl
escaped_onto (x ∷ xs) ys =
    ap (λ zs. string_byte x ++ zs) (escaped_onto xs ys) ∙ sym (append_assoc (string_byte x) (string_bytes_of xs) (string_bytes_of ys))

pub escaped_next : (xs : List ℕ) (i d : ℕ) → i < length xs
    → string_bytes_of (take (i + 1) xs) ≡ string_bytes_of (take i xs) ++ string_byte (get_or xs i d)
escaped_next xs i d l =
    ap (λ n. string_bytes_of (take n xs)) (plus i) ∙ (ap string_bytes_of (take-suc xs i d l)
    ∙ (escaped_onto (take i xs) (get_or xs i d ∷ []) ∙ ap (λ zs. string_bytes_of (take i xs) ++ zs) (append-nil (string_byte (get_or xs i d)))))
  where
    plus : (n : ℕ) → n + 1 ≡ suc n
    plus n = omega arith

pub escaped_all : (xs : List ℕ) → string_bytes_of (take (length xs) xs) ≡ string_bytes_of xs
escaped_all xs = ap string_bytes_of (all xs)
  where
    all : (xs : List ℕ) → take (length xs) xs ≡ xs
    all [] = refl
    all (x ∷ xs) = ap (λ ys. x ∷ ys) (all xs)

-- ---- bytes of higher characters

high_byte : (b : ℕ) → is_high b ≡ true → string_byte b ≡ b ∷ []
high_byte b h =
    let x : nat_eq b 92 ≡ false = grind (arith, nat_tests) in
    let y : nat_eq b 34 ≡ false = grind (arith, nat_tests) in
    let z : nat_eq b 10 ≡ false = grind (arith, nat_tests) in
    rw (x, y, z) refl

high_plain : (bs : List ℕ) → list_all is_high bs ≡ true → string_bytes_of bs ≡ bs
high_plain [] h = refl
high_plain (b ∷ bs) h =
    let p = and_parts (is_high b) (list_all is_high bs) h in
    ap (λ x. x ++ string_bytes_of bs) (high_byte b p.0) ∙ ap (λ x. b ∷ x) (high_plain bs p.1)

two_low : (a b : ℕ) → a < 128 → b < 128 → IsUtf8 (a ∷ b ∷ [])
two_low a b h k = IsUtf8-append (a ∷ []) (b ∷ []) (one_low a h) (one_low b k)

low_byte : (b : ℕ) → b < 128 → IsUtf8 (string_byte b)
low_byte b h = by_tests (nat_eq b 92) (nat_eq b 34) (nat_eq b 10)
  where
    by_tests : (x y z : Bool)
        → IsUtf8 (cond x (codes "\\\\") (cond y (codes "\\\"") (cond z (codes "\\n") (b ∷ []))))
    by_tests true y z = two_low 92 92 (omega arith) (omega arith)
    by_tests false true z = two_low 92 34 (omega arith) (omega arith)
    by_tests false false true = two_low 92 110 (omega arith) (omega arith)
    by_tests false false false = one_low b h

one_char : (c : ℕ) → scalar c ≡ true → IsUtf8 (string_bytes_of (encode_utf8 c))
one_char c s = elim (cases_lt c 128) [
  | inl l ↦ subst (λ x. IsUtf8 (string_bytes_of x)) (sym (encode_ascii c l)) (subst IsUtf8 (sym (append-nil (string_byte c))) (low_byte c l))
  | inr h ↦ subst IsUtf8 (sym (high_plain (encode_utf8 c) (high_encode c h))) (IsUtf8-encode c s)
]

all_chars : (cs : List ℕ) → scalars cs ≡ true → IsUtf8 (string_bytes_of (encodes cs))
all_chars [] h = IsUtf8-nil
all_chars (c ∷ cs) h =
    let p = and_parts (scalar c) (scalars cs) h in
    subst IsUtf8 (sym (escaped_onto (encode_utf8 c) (encodes cs)))
    (IsUtf8-append (string_bytes_of (encode_utf8 c)) (string_bytes_of (encodes cs)) (one_char c p.0) (all_chars cs p.1))

pub escaped_utf8 : (bs : List ℕ) → IsUtf8 bs → IsUtf8 (string_bytes_of bs)
escaped_utf8 bs u = subst (λ x. IsUtf8 (string_bytes_of x)) u.1.1 (all_chars u.0 u.1.0)

-- ---- numbers

abbrev AreLow : List ℕ → Type 0
AreLow [] = Unit {0}
AreLow (b ∷ bs) = (b < 128) × AreLow bs

low_utf8 : (bs : List ℕ) → AreLow bs → IsUtf8 bs
low_utf8 [] h = IsUtf8-nil
low_utf8 (b ∷ bs) h = IsUtf8-append (b ∷ []) bs (one_low b h.0) (low_utf8 bs h.1)

with_low : (b : ℕ) (bs : List ℕ) → b < 128 → AreLow bs → AreLow (with_digit b bs)
with_low b [] h l = by_test (nat_eq b 48)
  where
    by_test : (t : Bool) → AreLow (cond t [] (b ∷ []))
    by_test true = tt
    by_test false = (h, tt)
with_low b (c ∷ bs) h l = (h, l)

ended_low : (bs : List ℕ) → AreLow bs → AreLow (without_end_zeros bs)
unfolding without_end_zeros
ended_low [] h = tt
ended_low (b ∷ bs) h = with_low b (without_end_zeros bs) h.0 (ended_low bs h.1)

fraction_utf8 : (n : ℕ) → n < 1000000 → IsUtf8 (fraction_text n)
fraction_utf8 n h = by_test (nat_eq n 0)
  where
    digits_low : AreLow (six_digits n)
    digits_low = (omega arith, (omega arith, (omega arith, (omega arith, (omega arith, (omega arith, tt))))))

    by_test : (t : Bool) → IsUtf8 (cond t [] (codes "." ++ without_end_zeros (six_digits n)))
    by_test true = IsUtf8-nil
    by_test false =
        IsUtf8-append (codes ".") (without_end_zeros (six_digits n)) (one_low 46 (omega arith))
        (low_utf8 (without_end_zeros (six_digits n)) (ended_low (six_digits n) digits_low))

micros_utf8 : (n : ℕ) → n ≤ 1000000000000000000 → IsUtf8 (micros_text n)
micros_utf8 n h =
    IsUtf8-append (decimal (n / 1000000)) (fraction_text (n % 1000000))
    (IsUtf8-from_ascii (decimal (n / 1000000)) (IsAscii-decimal (n / 1000000) (omega arith)))
    (fraction_utf8 (n % 1000000) (omega arith))

pub value_utf8 : (v : ℤ) → IsValue v → IsUtf8 (value_text v)
value_utf8 (pos n) h = micros_utf8 n (omega (arith, ints, h.0, h.1))
value_utf8 (negsuc n) h = IsUtf8-append (codes "-") (micros_text (suc n)) (one_low 45 (omega arith)) (micros_utf8 (suc n) (omega (arith, ints, h.0, h.1)))

pub seconds_text : (m : ℕ) → value_text (pos (m * 1000)) ≡ decimal (m / 1000) ++ fraction_text (m % 1000 * 1000)
seconds_text m =
    ap (λ n. decimal n ++ fraction_text (m * 1000 % 1000000)) (whole m) ∙ ap (λ n. decimal (m / 1000) ++ fraction_text n) (rest m)
  where
    whole : (m : ℕ) → m * 1000 / 1000000 ≡ m / 1000
    whole m = omega arith

    rest : (m : ℕ) → m * 1000 % 1000000 ≡ m % 1000 * 1000
    rest m = omega arith
