-- The sign in front.
use Rattle.std.proofs.Common.{◌≡◌, ◌∙◌, ℕ, zero, suc, ◌<◌, ◌≤◌, Bool, true, false, ◌&&◌, ◌||◌, Some, None, List, [], ◌∷◌, length, get_or, take, refl, sym, ap, arith, codes}
use Rattle.std.specs.Prelude.{nat_eq}
use Rattle.std.specs.List.{list_all, list_any}
use Rattle.std.specs.Str.{bytes_eq}
use Rattle.std.proofs.lemmas.Bool.{and_parts}
use Rattle.pf_model.specs.Cuts.{only_if}
use Rattle.pf_model.specs.TokenScans.{form, token_at}
use Rattle.pf_model.specs.Tokens.{Sort, is_sign, sign, signs}
use Rattle.pf_model.specs.FirstBytes.{begins_mark, first_passes}
use Rattle.pf_lex.specs.Scans.{IsInFront, Marks, MarksTwo}
use Rattle.pf_lex.specs.Seen.{mark_text}
use Rattle.pf_lex.specs.declared.token.Mark.{Mark}
use Rattle.pf_lex.specs.declared.token.TokenSort.TheVariants as token
use Rattle.pf_model.proofs.TokenForms.{form_of_mark}
use Rattle.pf_model.proofs.LongestToken.{in_front, none_in_front}

and_false : (t : Bool) → (t && false) ≡ false
and_false true = refl
and_false false = refl

-- ---- at most two bytes

abbrev is_short : List ℕ → Bool
is_short [] = true
is_short (b ∷ []) = true
is_short (b ∷ (c ∷ [])) = true
is_short (b ∷ (c ∷ (d ∷ ds))) = false

longer_eq : (b c d : ℕ) (ds s : List ℕ) → is_short s ≡ true → bytes_eq (b ∷ (c ∷ (d ∷ ds))) s ≡ false
longer_eq b c d ds [] h = refl
longer_eq b c d ds (k ∷ []) h = and_false (nat_eq b k)
longer_eq b c d ds (k ∷ (l ∷ [])) h = ap (λ t. nat_eq b k && t) (and_false (nat_eq c l)) ∙ and_false (nat_eq b k)
longer_eq b c d ds (k ∷ (l ∷ (m ∷ ms))) h = cc

none_long : (b c d : ℕ) (ds : List ℕ) (ss : List (List ℕ)) → list_all is_short ss ≡ true → list_any (bytes_eq (b ∷ (c ∷ (d ∷ ds)))) ss ≡ false
none_long b c d ds [] h = refl
none_long b c d ds (s ∷ ss) h =
    let parts = and_parts (is_short s) (list_all is_short ss) h in
    ap (λ t. t || list_any (bytes_eq (b ∷ (c ∷ (d ∷ ds)))) ss) (longer_eq b c d ds s parts.0) ∙ none_long b c d ds ss parts.1

no_long_sign : (inside : Bool) (b c d : ℕ) (ds : List ℕ) → is_sign inside (b ∷ (c ∷ (d ∷ ds))) ≡ false
no_long_sign inside b c d ds =
    ap (λ t. t || (inside && bytes_eq (b ∷ (c ∷ (d ∷ ds))) (codes ":"))) (none_long b c d ds signs refl)
    ∙ ap (λ t. inside && t) (and_false (nat_eq b 58)) ∙ and_false inside

-- two bytes are no `:`
two_same : (inside : Bool) (b c : ℕ) → is_sign inside (b ∷ (c ∷ [])) ≡ is_sign false (b ∷ (c ∷ []))
two_same inside b c = ap (λ t. list_any (bytes_eq (b ∷ (c ∷ []))) signs || t) (ap (λ t. inside && t) (and_false (nat_eq b 58)) ∙ and_false inside)

unsigned : (bytes : List ℕ) (t : Bool) → t ≡ false → only_if t (sign bytes) ≡ None
unsigned bytes t h = ap (λ t. only_if t (sign bytes)) h

signed : (bytes : List ℕ) (t : Bool) → t ≡ true → only_if t (sign bytes) ≡ Some (sign bytes)
signed bytes t h = ap (λ t. only_if t (sign bytes)) h

none_past_two : (inside : Bool) (b c : ℕ) (bs : List ℕ) (m : ℕ) → begins_mark inside b ≡ true → 2 < m → m ≤ length (b ∷ (c ∷ bs)) → form inside (take m (b ∷ (c ∷ bs))) ≡ None
none_past_two inside b c bs zero h low high = absurd (omega (arith, low))
none_past_two inside b c bs (suc zero) h low high = absurd (omega (arith, low))
none_past_two inside b c bs (suc (suc zero)) h low high = absurd (omega (arith, low))
none_past_two inside b c [] (suc (suc (suc m))) h low high = absurd (omega (arith, high))
none_past_two inside b c (d ∷ ds) (suc (suc (suc m))) h low high =
    form_of_mark inside b (c ∷ (d ∷ take m ds)) h ∙ unsigned _ _ (no_long_sign inside b c d (take m ds))

none_past_one : (inside : Bool) (b : ℕ) (bs : List ℕ) (m : ℕ) → begins_mark inside b ≡ true → MarksTwo (b ∷ bs) None → 1 < m → m ≤ length (b ∷ bs) → form inside (take m (b ∷ bs)) ≡ None
none_past_one inside b [] m h two low high = absurd (omega (arith, low, high))
none_past_one inside b (c ∷ cs) zero h two low high = absurd (omega (arith, low))
none_past_one inside b (c ∷ cs) (suc zero) h two low high = absurd (omega (arith, low))
none_past_one inside b (c ∷ cs) (suc (suc zero)) h two low high =
    form_of_mark inside b (c ∷ []) h ∙ unsigned _ _ (two_same inside b c ∙ two (omega arith))
none_past_one inside b (c ∷ cs) (suc (suc (suc m))) h two low high = none_past_two inside b c cs (suc (suc (suc m))) h (omega arith) high

pub two_in_front : (inside : Bool) (bytes : List ℕ) (m : Mark) → first_passes (begins_mark inside) bytes ≡ true → MarksTwo bytes (Some m) → IsInFront inside bytes (token.Mark m) 2
two_in_front inside [] m h two = cc
two_in_front inside (b ∷ []) m h two = absurd (omega (arith, two.0))
two_in_front inside (b ∷ (c ∷ cs)) m h two =
    let fits : form inside (b ∷ (c ∷ [])) ≡ Some (sign (mark_text m)) =
    form_of_mark inside b (c ∷ []) h ∙ signed _ _ (two_same inside b c ∙ two.1) ∙ ap (λ t. Some (sign t)) (sym two.2) in
    record {
      token = in_front inside (b ∷ (c ∷ cs)) 2 (sign (mark_text m)) (omega arith) (omega arith) fits (λ k low high. none_past_two inside b c cs k h low high);
      exact = tt;
      some = omega arith;
      within = omega arith;
    }

pub one_in_front : (inside : Bool) (bytes : List ℕ) (m : Mark) → first_passes (begins_mark inside) bytes ≡ true → MarksTwo bytes None → Marks inside (get_or bytes 0 0 ∷ []) (Some m) → IsInFront inside bytes (token.Mark m) 1
one_in_front inside [] m h two one = cc
one_in_front inside (b ∷ bs) m h two one =
    let fits : form inside (b ∷ []) ≡ Some (sign (mark_text m)) = form_of_mark inside b [] h ∙ signed _ _ one.0 ∙ ap (λ t. Some (sign t)) (sym one.1) in
    record {
      token = in_front inside (b ∷ bs) 1 (sign (mark_text m)) (omega arith) (omega arith) fits (λ k low high. none_past_one inside b bs k h two low high);
      exact = tt;
      some = omega arith;
      within = omega arith;
    }

pub no_mark_in_front : (inside : Bool) (bytes : List ℕ) → first_passes (begins_mark inside) bytes ≡ true → MarksTwo bytes None → Marks inside (get_or bytes 0 0 ∷ []) None → token_at inside bytes 0 ≡ None
no_mark_in_front inside [] h two one = cc
no_mark_in_front inside (b ∷ bs) h two one = none_in_front inside (b ∷ bs) (λ n s some within fits above. absurd (none n s some within fits))
  where
    none : (n : ℕ) (s : Sort) → 1 ≤ n → n ≤ length (b ∷ bs) → form inside (take n (b ∷ bs)) ≡ Some s → ⊥
    none zero s some within fits = omega (arith, some)
    none (suc zero) s some within fits = let e = sym fits ∙ form_of_mark inside b [] h ∙ unsigned _ _ one in cc
    none (suc (suc n)) s some within fits = let e = sym fits ∙ none_past_one inside b bs (suc (suc n)) h two (omega arith) within in cc
