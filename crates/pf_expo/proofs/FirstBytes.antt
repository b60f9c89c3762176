-- The first byte of a number's text.
use Rattle.std.proofs.Common.{◌≡◌, ◌∙◌, ℕ, ◌+◌, ◌≤◌, true, ◌⊎◌, inl, inr, Option, Some, None, List, [], ◌∷◌, ◌++◌, length, map, refl, ap, arith}
use Rattle.std.specs.Prelude.{codes}
use Rattle.std.specs.Char.{is_ascii_digit, to_ascii_lowercase}
use Rattle.std.specs.Str.{all_ascii_digits}
use Rattle.std.proofs.lemmas.Bool.{and_parts}
use Rattle.std.proofs.lemmas.Bool.Decides.{nat_tests}
use Rattle.pf_base.specs.NumberTexts.{IsWord, Reads, Sign, bare, decimal_text, exponent_text, fraction_digits, minus, plus, point_text, sign_text}
use Rattle.pf_base.specs.declared.number.Read.{Read}
use Rattle.pf_base.specs.declared.number.Read.TheVariants.{Number, NotANumber}

-- there is one, and it is no brace
pub record Begins (bytes : List ℕ) : Type 0 where
  pub first : ℕ
  pub rest : List ℕ
  pub same : bytes ≡ first ∷ rest
  pub other : first ≡ 123 → ⊥

digit_other : (b : ℕ) → is_ascii_digit b ≡ true → b ≡ 123 → ⊥
digit_other b h e = grind (arith, nat_tests)

decimal_begins : (whole : List ℕ) (fraction : Option (List ℕ)) (e : List ℕ) → all_ascii_digits whole ≡ true → 1 ≤ length whole + length (fraction_digits fraction) → Begins (whole ++ (point_text fraction ++ e))
decimal_begins [] None e h s = absurd (omega arith)
decimal_begins [] (Some ds) e h s = record { first = 46; rest = ds ++ e; same = refl; other = λ k. absurd (omega arith) }
decimal_begins (d ∷ ds) fraction e h s = record { first = d; rest = ds ++ (point_text fraction ++ e); same = refl; other = digit_other d (and_parts _ _ h).0 }

signed_begins : (s : Sign) (bytes body : List ℕ) → bytes ≡ sign_text s ++ body → Begins body → Begins bytes
signed_begins bare bytes body e b = record { first = b.first; rest = b.rest; same = e ∙ b.same; other = b.other }
signed_begins plus bytes body e b = record { first = 43; rest = body; same = e; other = λ k. absurd (omega arith) }
signed_begins minus bytes body e b = record { first = 45; rest = body; same = e; other = λ k. absurd (omega arith) }

lower_brace : to_ascii_lowercase 123 ≡ 123
lower_brace = refl

word_begins : (letters word : List ℕ) (w : ℕ) → map to_ascii_lowercase letters ≡ w ∷ word → (w ≡ 123 → ⊥) → Begins letters
word_begins [] word w e f = cc
word_begins (b ∷ bs) word w e f = record { first = b; rest = bs; same = refl; other = λ k. f (head ∙ ap to_ascii_lowercase k ∙ lower_brace) }
  where
    head : w ≡ to_ascii_lowercase b
    head = cc

pub reads_begins : (bytes : List ℕ) (r : Read) → Reads bytes r → Begins bytes
reads_begins bytes (Number v) (inl h) = signed_begins h.sign bytes (decimal_text h.parts) h.spelled (decimal_begins h.parts.whole h.parts.fraction (exponent_text h.parts.exponent) h.lawful.whole h.lawful.some)
reads_begins bytes (Number v) (inr h) = by h.0 h.1.0
  where
    by : (s : Sign) → (IsWord (codes "inf") bytes s ⊎ IsWord (codes "infinity") bytes s) → Begins bytes
    by s (inl k) = signed_begins s bytes k.letters k.spelled (word_begins k.letters _ 105 k.same (λ e. absurd (omega arith)))
    by s (inr k) = signed_begins s bytes k.letters k.spelled (word_begins k.letters _ 105 k.same (λ e. absurd (omega arith)))
reads_begins bytes NotANumber h = signed_begins h.0 bytes h.1.letters h.1.spelled (word_begins h.1.letters _ 110 h.1.same (λ e. absurd (omega arith)))
