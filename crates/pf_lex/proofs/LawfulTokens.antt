-- The tokens of a text are words that stand for themselves, and numbers within the bounds.
use Rattle.std.proofs.Common.{◌≡◌, ◌∙◌, ℕ, pos, ◌≤◌, inl, inr, Bool, true, false, not, List, [], ◌∷◌, drop, sym, ap, subst, arith, codes}
use Rattle.std.specs.Prelude.{int_lt}
use Rattle.std.specs.Str.{str_eq_ignore_ascii_case}
use Rattle.std.proofs.lemmas.Bool.{and_from, not_from_false}
use Rattle.std.proofs.lemmas.Bool.Decides.{nat_tests}
use Rattle.std.proofs.lemmas.Int.{ints}
use Rattle.pf_base.specs.Arithmetic.{clamp}
use Rattle.pf_base.specs.NumberTexts.{decimal_micros, signed}
use Rattle.pf_base.proofs.Readings.{bool_cases}
use Rattle.pf_model.specs.Tokens.{Sort, Token, BeginsWith, Forms, duration, inside_behind, is_infinite, is_word, may_precede, number, part, sign, string, word}
use Rattle.pf_lex.specs.CanonicalTokens.{IsAmount, IsLawfulSort}

-- ---- each form

clamped : (n : ℕ) → IsAmount (clamp (pos n))
unfolding clamp
clamped n = elim (bool_cases (int_lt (pos 1000000000000000000) (pos n))) [
  | inl t ↦ rw t (omega arith)
  | inr m ↦ rw m (small n m)
]
  where
    small : (n : ℕ) → int_lt (pos 1000000000000000000) (pos n) ≡ false → n ≤ 1000000000000000000
    small n h = grind (arith, nat_tests, ints)

forms_lawful : (inside : Bool) (xs behind : List ℕ) (s : Sort) → Forms inside xs s → may_precede s behind ≡ true → IsLawfulSort s
forms_lawful inside xs behind (word w) h ok =
    let is : is_word w ≡ true = ap is_word h.3 ∙ h.1 in
    let inf : is_infinite w ≡ false = ap is_infinite h.3 ∙ h.2 in
    and_from (is_word w) _ is (and_from (not (str_eq_ignore_ascii_case w (codes "nan"))) _ ok (not_from_false (is_infinite w) inf))
forms_lawful inside xs behind (number v) (inl h) ok = subst IsAmount (sym h.3) (omega arith)
forms_lawful inside xs behind (number v) (inr h) ok =
    subst IsAmount (sym (h.0.value ∙ ap (λ s. clamp (signed s (decimal_micros h.0.parts))) h.1)) (clamped (decimal_micros h.0.parts))
forms_lawful inside xs behind (duration n) h ok = tt
forms_lawful inside xs behind (string w) h ok = tt
forms_lawful inside xs behind (sign w) h ok = tt

-- ---- each token

abbrev pub AllLawful : List Token → Type 0
AllLawful [] = Unit {0}
AllLawful (t ∷ ts) = IsLawfulSort t.sort × AllLawful ts

pub tokens_lawful : (text : List ℕ) (inside : Bool) (at : ℕ) (ts : List Token) → BeginsWith text inside at ts → AllLawful ts
tokens_lawful text inside at [] h = tt
tokens_lawful text inside at (t ∷ ts) h = (forms_lawful inside (part text t.from t.to) (drop t.to text) t.sort h.1.forms h.1.alone, tokens_lawful text (inside_behind inside t.sort) t.to ts h.2)
