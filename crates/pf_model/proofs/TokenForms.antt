-- What bytes are found to be as a token, by the first of them.
use Rattle.std.proofs.Common.{◌≡◌, ◌∙◌, ℕ, Bool, true, false, not, ◌&&◌, ◌||◌, inl, inr, Option, Some, None, List, [], ◌∷◌, refl, sym, ap, arith, codes}
use Rattle.std.specs.Prelude.{cond, length, nat_eq, nat_le, option_map, pos, slice_index}
use Rattle.std.specs.Char.{is_ascii_digit}
use Rattle.std.specs.List.{list_all, list_any}
use Rattle.std.specs.Option.{option_or}
use Rattle.std.specs.Str.{bytes_eq}
use Rattle.std.proofs.lemmas.Bool.{and_parts, not-true, or_parts}
use Rattle.std.proofs.lemmas.Bool.Decides.{nat_tests}
use Rattle.pf_base.specs.LabelSets.{goes_on, is_empty}
use Rattle.pf_base.specs.DurationScans.{past_part, rest_after, total_of}
use Rattle.pf_base.specs.DurationTexts.{units}
use Rattle.pf_base.specs.Arithmetic.{clamp}
use Rattle.pf_base.specs.Limits.{most_number_bytes}
use Rattle.pf_base.specs.NumberScans.{decimal_of, digits_in_front, exponent_of, with_digits}
use Rattle.pf_base.specs.NumberTexts.{Exponent, decimal_micros}
use Rattle.pf_model.specs.Cuts.{only_if}
use Rattle.pf_base.proofs.Readings.{bool_cases}
use Rattle.pf_model.specs.TokenScans.{duration_form, form, number_form, word_sort}
use Rattle.pf_model.specs.Tokens.{Sort, duration, number, is_sign, is_word, sign, signs, string_form}
use Rattle.pf_model.specs.FirstBytes.{begins_mark, begins_quantity, begins_string, begins_word}

-- a byte that passes differs from one that does not
other : (p : ℕ → Bool) (b k : ℕ) → p b ≡ true → p k ≡ false → nat_eq b k ≡ false
other p b k h n = elim (bool_cases (nat_eq b k)) [
  | inl e ↦ absurd (let same : b ≡ k = grind (arith, nat_tests) in let f = sym h ∙ ap p same ∙ n in cc)
  | inr m ↦ m
]

-- ---- no sign

none_of : (p : ℕ → Bool) (b : ℕ) (bs : List ℕ) (ss : List (List ℕ)) → p b ≡ true → list_all (λ s. not (p (slice_index s 0))) ss ≡ true → list_any (bytes_eq (b ∷ bs)) ss ≡ false
none_of p b bs [] h k = refl
none_of p b bs ([] ∷ ss) h k = none_of p b bs ss h (and_parts _ _ k).1
none_of p b bs ((c ∷ cs) ∷ ss) h k =
    let parts = and_parts (not (p c)) (list_all (λ s. not (p (slice_index s 0))) ss) k in
    let e = other p b c h (not-true (p c) parts.0) in
    rw e (none_of p b bs ss h parts.1)

no_sign : (p : ℕ → Bool) (inside : Bool) (b : ℕ) (bs : List ℕ) → p b ≡ true → list_all (λ s. not (p (slice_index s 0))) signs ≡ true → p 58 ≡ false → is_sign inside (b ∷ bs) ≡ false
no_sign p inside b bs h k c =
    let colon = other p b 58 h c in
    let others = none_of p b bs signs h k in
    ap (λ t. t || (inside && bytes_eq (b ∷ bs) (codes ":"))) others ∙ ap (λ t. inside && (t && bytes_eq bs [])) colon ∙ and_false inside
  where
    and_false : (t : Bool) → (t && false) ≡ false
    and_false true = refl
    and_false false = refl

-- ---- no string

no_string : (p : ℕ → Bool) (b : ℕ) (bs : List ℕ) → p b ≡ true → p 34 ≡ false → p 39 ≡ false → p 96 ≡ false → string_form (b ∷ bs) ≡ None
no_string p b bs h x y z =
    let e = other p b 34 h x in
    let f = other p b 39 h y in
    let g = other p b 96 h z in
    rw (e, f, g) refl

-- ---- no number and no duration

rest_same : (us : List (List ℕ × ℕ)) (bytes : List ℕ) → digits_in_front bytes ≡ [] → rest_after us bytes ≡ bytes
rest_same [] bytes h = refl
rest_same (u ∷ us) bytes h =
    let e : past_part u.0 bytes ≡ bytes = rw h refl in
    ap (rest_after us) e ∙ rest_same us bytes h

no_duration_first : (b : ℕ) (bs : List ℕ) → is_ascii_digit b ≡ false → duration_form (b ∷ bs) ≡ None
no_duration_first b bs n =
    let e = rest_same units (b ∷ bs) (rw n refl) in
    ap (λ xs. only_if (is_empty xs) (duration (total_of units (b ∷ bs)))) e

no_digits : (e : Option (Option Exponent)) → with_digits [] None e ≡ None
no_digits None = refl
no_digits (Some e) = refl

pub no_number_first : (b : ℕ) (bs : List ℕ) → is_ascii_digit b ≡ false → nat_eq b 46 ≡ false → number_form (b ∷ bs) ≡ None
no_number_first b bs n k = by (nat_le (length (b ∷ bs)) most_number_bytes)
  where
    none : decimal_of (b ∷ bs) ≡ None
    none = rw (n, k) (no_digits (exponent_of (b ∷ bs)))

    by : (t : Bool) → cond t (option_map (λ d. number (clamp (pos (decimal_micros d)))) (decimal_of (b ∷ bs))) None ≡ None
    by true = ap (option_map (λ d. number (clamp (pos (decimal_micros d))))) none
    by false = refl

pub no_quantity : (b : ℕ) (bs : List ℕ) → begins_quantity b ≡ false → (number_form (b ∷ bs) ≡ None) × (duration_form (b ∷ bs) ≡ None)
no_quantity b bs h = (no_number_first b bs digit (grind (arith, nat_tests)), no_duration_first b bs digit)
  where
    digit : is_ascii_digit b ≡ false
    digit = grind (arith, nat_tests)

-- ---- no word

no_word : (inside : Bool) (b : ℕ) (bs : List ℕ) → begins_word b ≡ false → only_if (not inside && is_word (b ∷ bs)) (word_sort (b ∷ bs)) ≡ None
no_word inside b bs h = ap (λ t. only_if (not inside && (t && list_all (λ c. goes_on c || nat_eq c 58) bs)) (word_sort (b ∷ bs))) h ∙ never (not inside)
  where
    never : (t : Bool) → only_if (t && false) (word_sort (b ∷ bs)) ≡ None
    never true = refl
    never false = refl

-- ---- by the first byte

or_none : (o : Option Sort) → option_or o None ≡ o
or_none None = refl
or_none (Some s) = refl

only_last : (a b c d e : Option Sort) → a ≡ None → b ≡ None → c ≡ None → d ≡ None → option_or a (option_or b (option_or c (option_or d e))) ≡ e
only_last a b c d e h i j k = rw (h, i, j, k) refl

no_sign_outside : (p : ℕ → Bool) (b : ℕ) (bs : List ℕ) → p b ≡ true → list_all (λ s. not (p (slice_index s 0))) signs ≡ true → is_sign false (b ∷ bs) ≡ false
no_sign_outside p b bs h k = ap (λ t. t || false) (none_of p b bs signs h k)

pub form_of_quantity : (inside : Bool) (b : ℕ) (bs : List ℕ) → begins_quantity b ≡ true → form inside (b ∷ bs) ≡ option_or (number_form (b ∷ bs)) (duration_form (b ∷ bs))
form_of_quantity inside b bs h =
    let w = no_word inside b bs (grind (arith, nat_tests)) in
    let s = no_string begins_quantity b bs h refl refl refl in
    let g = no_sign begins_quantity inside b bs h refl refl in
    ap (λ o. option_or o (option_or (number_form (b ∷ bs)) (option_or (duration_form (b ∷ bs)) (option_or (string_form (b ∷ bs)) (only_if (is_sign inside (b ∷ bs)) (sign (b ∷ bs))))))) w
    ∙ ap (λ o. option_or (number_form (b ∷ bs)) (option_or (duration_form (b ∷ bs)) (option_or o (only_if (is_sign inside (b ∷ bs)) (sign (b ∷ bs)))))) s
    ∙ ap (λ t. option_or (number_form (b ∷ bs)) (option_or (duration_form (b ∷ bs)) (only_if t (sign (b ∷ bs))))) g
    ∙ ap (λ o. option_or (number_form (b ∷ bs)) o) (or_none (duration_form (b ∷ bs)))

not_inside : (inside : Bool) (b : ℕ) (bs : List ℕ) → (not inside && begins_word b) ≡ false → only_if (not inside && is_word (b ∷ bs)) (word_sort (b ∷ bs)) ≡ None
not_inside true b bs h = refl
not_inside false b bs h = no_word false b bs h

pub strings_apart : (b : ℕ) (bs : List ℕ) → begins_string b ≡ false → string_form (b ∷ bs) ≡ None
strings_apart b bs h =
    let outer = or_parts (nat_eq b 34 || nat_eq b 39) (nat_eq b 96) h in
    let x = outer.0 in
    let y = outer.1 in
    rw (x, y) refl

pub form_of_mark : (inside : Bool) (b : ℕ) (bs : List ℕ) → begins_mark inside b ≡ true → form inside (b ∷ bs) ≡ only_if (is_sign inside (b ∷ bs)) (sign (b ∷ bs))
form_of_mark inside b bs h =
    let outer = and_parts (not (begins_quantity b)) (not (begins_string b) && not (not inside && begins_word b)) h in
    let inner = and_parts (not (begins_string b)) (not (not inside && begins_word b)) outer.1 in
    let w = not_inside inside b bs (not-true _ inner.1) in
    let q = no_quantity b bs (not-true (begins_quantity b) outer.0) in
    let s = strings_apart b bs (not-true (begins_string b) inner.0) in
    only_last _ _ _ _ _ w q.0 q.1 s

pub form_of_string : (inside : Bool) (b : ℕ) (bs : List ℕ) → begins_string b ≡ true → form inside (b ∷ bs) ≡ string_form (b ∷ bs)
form_of_string inside b bs h =
    let w = no_word inside b bs (grind (arith, nat_tests)) in
    let q = no_quantity b bs (grind (arith, nat_tests)) in
    let g = no_sign begins_string inside b bs h refl refl in
    ap (λ o. option_or o (option_or (number_form (b ∷ bs)) (option_or (duration_form (b ∷ bs)) (option_or (string_form (b ∷ bs)) (only_if (is_sign inside (b ∷ bs)) (sign (b ∷ bs))))))) w
    ∙ only_last None (number_form (b ∷ bs)) (duration_form (b ∷ bs)) None (option_or (string_form (b ∷ bs)) (only_if (is_sign inside (b ∷ bs)) (sign (b ∷ bs)))) refl q.0 q.1 refl
    ∙ ap (λ t. option_or (string_form (b ∷ bs)) (only_if t (sign (b ∷ bs)))) g ∙ or_none (string_form (b ∷ bs))

pub form_of_word : (b : ℕ) (bs : List ℕ) → begins_word b ≡ true → form false (b ∷ bs) ≡ only_if (is_word (b ∷ bs)) (word_sort (b ∷ bs))
form_of_word b bs h =
    let q = no_quantity b bs (grind (arith, nat_tests)) in
    let s = no_string begins_word b bs h refl refl refl in
    let g = no_sign_outside begins_word b bs h refl in
    ap (λ o. option_or (only_if (is_word (b ∷ bs)) (word_sort (b ∷ bs))) o) (only_last None (number_form (b ∷ bs)) (duration_form (b ∷ bs)) (string_form (b ∷ bs)) (only_if (is_sign false (b ∷ bs)) (sign (b ∷ bs))) refl q.0 q.1 s ∙ ap (λ t. only_if t (sign (b ∷ bs))) g)
    ∙ or_none (only_if (is_word (b ∷ bs)) (word_sort (b ∷ bs)))
