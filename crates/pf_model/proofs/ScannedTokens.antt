-- The tokens that are found from the left are the tokens of a text.
use Rattle.std.proofs.Common.{◌≡◌, ◌∙◌, ℕ, ℤ, pos, zero, ◌+◌, ◌-◌, ◌≤◌, ◌⊎◌, inl, inr, Bool, true, false, not, ◌&&◌, ◌||◌, cond, codes, Option, Some, None, List, [], ◌∷◌, ◌++◌, length, take, drop, refl, sym, ap, subst, arith}
use Rattle.std.specs.Prelude.{nat_eq, nat_le, nat_lt, option_map}
use Rattle.std.specs.Char.{is_ascii_digit}
use Rattle.std.specs.List.{list_all, list_any}
use Rattle.std.specs.Option.{option_or}
use Rattle.std.specs.Str.{bytes_eq}
use Rattle.std.proofs.lemmas.Bool.{and_parts, cases_order, not-true}
use Rattle.std.proofs.lemmas.Bool.Decides.{nat_tests}
use Rattle.std.proofs.lemmas.List.{length-drop}
use Rattle.std.specs.Cmp.Lexicographic.{bytes_decides}
use Rattle.pf_base.specs.Arithmetic.{clamp}
use Rattle.pf_base.specs.DurationScans.{has_part, letters_in_front, rest_after, total_of}
use Rattle.pf_base.specs.DurationTexts.{IsDuration, units}
use Rattle.pf_base.specs.LabelSets.{is_empty}
use Rattle.pf_base.specs.Limits.{greatest_value, most_number_bytes}
use Rattle.pf_base.specs.NumberScans.{decimal_of, digits_in_front, past_digits}
use Rattle.pf_base.specs.NumberTexts.{Decimal, IsNumber, bare, decimal_micros, decimal_text, sign_text, signed}
use Rattle.pf_base.proofs.Durations.{read_spelled, spelled_read}
use Rattle.pf_base.proofs.Readings.{bool_cases, decimal_sound, decimal_spelled}
use Rattle.pf_model.specs.Cuts.{only_if}
use Rattle.pf_model.specs.Lists.{Each}
use Rattle.pf_model.specs.FirstBytes.{begins_quantity, begins_string}
use Rattle.pf_model.specs.TokenScans.{AreFound, AreNext, IsStop, duration_form, form, lawful, longest, number_form, token_at, word_sort}
use Rattle.pf_model.specs.Tokens.{AreTokens, BeginsWith, Forms, IsBadToken, IsToken, Sort, Token, duration, inside_after, inside_behind, is_infinite, is_sign, is_word, may_precede, number, part, raw_from, sign, signs, string, string_form, string_from, word}
use Rattle.pf_model.proofs.LongestToken.{IsLongest, longest_cases, some_is}
use Rattle.pf_model.proofs.TokenForms.{form_of_quantity, form_of_string, no_quantity, strings_apart}

-- ---- what is found is a token

found_word : (inside : Bool) (bytes : List ℕ) (s : Sort) → only_if (not inside && is_word bytes) (word_sort bytes) ≡ Some s → Forms inside bytes s
found_word true bytes s h = cc
found_word false bytes s h = by (is_word bytes) refl h
  where
    sorted : is_word bytes ≡ true → (i : Bool) → is_infinite bytes ≡ i → Forms false bytes (cond i (number greatest_value) (word bytes))
    sorted w true k = inl (refl, w, k, refl)
    sorted w false k = (refl, w, k, refl)

    by : (b : Bool) → is_word bytes ≡ b → only_if b (word_sort bytes) ≡ Some s → Forms false bytes s
    by false w e = cc
    by true w e = subst (Forms false bytes) (some_is (word_sort bytes) s e) (sorted w (is_infinite bytes) refl)

found_number : (inside : Bool) (bytes : List ℕ) (s : Sort) → number_form bytes ≡ Some s → Forms inside bytes s
found_number inside bytes s h = by (nat_le (length bytes) most_number_bytes) refl h
  where
    parted : length bytes ≤ most_number_bytes → (o : Option Decimal) → decimal_of bytes ≡ o → option_map (λ d. number (clamp (pos (decimal_micros d)))) o ≡ Some s → Forms inside bytes s
    parted l None e k = cc
    parted l (Some d) e k =
        let f = decimal_sound bytes d e in
        let n : IsNumber bytes (clamp (pos (decimal_micros d))) = record { sign = bare; parts = d; lawful = f.1; spelled = f.0; short = l; value = refl } in
        subst (Forms inside bytes) (some_is (number (clamp (pos (decimal_micros d)))) s k) (inr (n, refl))

    by : (b : Bool) → nat_le (length bytes) most_number_bytes ≡ b → cond b (option_map (λ d. number (clamp (pos (decimal_micros d)))) (decimal_of bytes)) None ≡ Some s → Forms inside bytes s
    by false l e = cc
    by true l e = parted (grind (arith, nat_tests)) (decimal_of bytes) refl e

is_nil : (xs : List ℕ) → is_empty xs ≡ true → xs ≡ []
is_nil [] h = refl
is_nil (x ∷ xs) h = cc

not_nil : (xs : List ℕ) → not (is_empty xs) ≡ true → 1 ≤ length xs
not_nil [] h = cc
not_nil (x ∷ xs) h = omega arith

found_duration : (inside : Bool) (bytes : List ℕ) (s : Sort) → duration_form bytes ≡ Some s → Forms inside bytes s
found_duration inside bytes s h = by (not (is_empty bytes) && is_empty (rest_after units bytes)) refl h
  where
    by : (b : Bool) → (not (is_empty bytes) && is_empty (rest_after units bytes)) ≡ b → only_if b (duration (total_of units bytes)) ≡ Some s → Forms inside bytes s
    by false t e = cc
    by true t e =
        let parts = and_parts (not (is_empty bytes)) (is_empty (rest_after units bytes)) t in
        let d : IsDuration bytes (total_of units bytes) = (not_nil bytes parts.0, read_spelled units bytes (is_nil (rest_after units bytes) parts.1)) in
        subst (Forms inside bytes) (some_is (duration (total_of units bytes)) s e) d

-- a string's form is that of a string
abbrev is_textual : Option Sort → Bool
is_textual None = true
is_textual (Some (string w)) = true
is_textual (Some (word w)) = false
is_textual (Some (number n)) = false
is_textual (Some (duration n)) = false
is_textual (Some (sign w)) = false

textual : (o : Option (List ℕ)) → is_textual (option_map string o) ≡ true
textual None = refl
textual (Some w) = refl

chosen : (b : Bool) (o p : Option Sort) → is_textual o ≡ true → is_textual p ≡ true → is_textual (cond b o p) ≡ true
chosen true o p h k = h
chosen false o p h k = k

string_textual : (bytes : List ℕ) → is_textual (string_form bytes) ≡ true
string_textual [] = refl
string_textual (b ∷ bs) =
    chosen (nat_eq b 34 || nat_eq b 39) (option_map string (string_from b zero bs)) (cond (nat_eq b 96) (option_map string (raw_from bs)) None)
    (textual (string_from b zero bs)) (chosen (nat_eq b 96) (option_map string (raw_from bs)) None (textual (raw_from bs)) refl)

not_textual : {X : Type 0} (bytes : List ℕ) (s : Sort) → string_form bytes ≡ Some s → is_textual (Some s) ≡ false → X
not_textual bytes s h k = absurd (let e = sym (string_textual bytes) ∙ ap is_textual h ∙ k in cc)

found_string : (inside : Bool) (bytes : List ℕ) (s : Sort) → string_form bytes ≡ Some s → Forms inside bytes s
found_string inside bytes (string w) h = h
found_string inside bytes (word w) h = not_textual bytes (word w) h refl
found_string inside bytes (number n) h = not_textual bytes (number n) h refl
found_string inside bytes (duration n) h = not_textual bytes (duration n) h refl
found_string inside bytes (sign w) h = not_textual bytes (sign w) h refl

found_sign : (inside : Bool) (bytes : List ℕ) (s : Sort) → only_if (is_sign inside bytes) (sign bytes) ≡ Some s → Forms inside bytes s
found_sign inside bytes s h = by (is_sign inside bytes) refl h
  where
    by : (b : Bool) → is_sign inside bytes ≡ b → only_if b (sign bytes) ≡ Some s → Forms inside bytes s
    by false t e = cc
    by true t e = subst (Forms inside bytes) (some_is (sign bytes) s e) (t, refl)

either : (o p : Option Sort) (s : Sort) → option_or o p ≡ Some s → (o ≡ Some s) ⊎ (p ≡ Some s)
either None p s h = inr h
either (Some x) p s h = inl h

pub forms_of : (inside : Bool) (bytes : List ℕ) (s : Sort) → form inside bytes ≡ Some s → Forms inside bytes s
forms_of inside bytes s h =
    elim (either (only_if (not inside && is_word bytes) (word_sort bytes)) _ s h) [
      | inl w ↦ found_word inside bytes s w
      | inr n ↦ elim (either (number_form bytes) _ s n) [
        | inl e ↦ found_number inside bytes s e
        | inr d ↦ elim (either (duration_form bytes) _ s d) [
          | inl e ↦ found_duration inside bytes s e
          | inr t ↦ elim (either (string_form bytes) _ s t) [
            | inl e ↦ found_string inside bytes s e
            | inr e ↦ found_sign inside bytes s e
          ]
        ]
      ]
    ]

-- ---- what is a token is found

-- no number is a duration
not_unit : (b : ℕ) (bs : List ℕ) (c : ℕ) (cs : List ℕ) → nat_eq b c ≡ false → bytes_eq (letters_in_front (b ∷ bs)) (c ∷ cs) ≡ false
not_unit b bs c cs h = by (is_ascii_digit b)
  where
    by : (t : Bool) → bytes_eq (cond t [] (b ∷ letters_in_front bs)) (c ∷ cs) ≡ false
    by true = refl
    by false = ap (λ t. t && bytes_eq (letters_in_front bs) cs) h

abbrev no_parts : List ℕ → List (List ℕ × ℕ) → Bool
no_parts bytes us = list_all (λ u. not (has_part u.0 bytes)) us

unparted : (us : List (List ℕ × ℕ)) (bytes : List ℕ) → no_parts bytes us ≡ true → rest_after us bytes ≡ bytes
unparted [] bytes h = refl
unparted (u ∷ us) bytes h =
    let parts = and_parts (not (has_part u.0 bytes)) (no_parts bytes us) h in
    let e = not-true (has_part u.0 bytes) parts.0 in
    rw e (unparted us bytes parts.1)

-- what stands behind the digits in front of a number that goes on, or ends
lacks_units : (bytes r : List ℕ) → past_digits bytes ≡ r → ((t : Bool) → list_all (λ u. not (t && bytes_eq (letters_in_front r) u.0)) units ≡ true) → no_parts bytes units ≡ true
lacks_units bytes r e h = rw e (h (nat_lt 0 (length (digits_in_front bytes))))

at_end : (t : Bool) → list_all (λ u. not (t && bytes_eq (letters_in_front []) u.0)) units ≡ true
at_end true = refl
at_end false = refl

at_byte : (b : ℕ) (bs : List ℕ) → ((b ≡ 46) ⊎ ((b ≡ 101) ⊎ (b ≡ 69))) → (t : Bool) → list_all (λ u. not (t && bytes_eq (letters_in_front (b ∷ bs)) u.0)) units ≡ true
at_byte b bs h false = refl
at_byte b bs (inl e) true = rw e refl
at_byte b bs (inr (inl e)) true = rw e refl
at_byte b bs (inr (inr e)) true = rw e refl

abbrev goes_on_or_ends : List ℕ → Bool
goes_on_or_ends [] = true
goes_on_or_ends (b ∷ bs) = nat_eq b 46 || (nat_eq b 101 || nat_eq b 69)

stops : (bytes r : List ℕ) → past_digits bytes ≡ r → goes_on_or_ends r ≡ false → decimal_of bytes ≡ None
stops bytes [] e h = cc
stops bytes (b ∷ bs) e h =
    let point : nat_eq b 46 ≡ false = grind (arith, nat_tests) in
    let letter : (nat_eq b 101 || nat_eq b 69) ≡ false = grind (arith, nat_tests) in
    rw (e, point, letter) refl

parts_lack : (bytes r : List ℕ) → past_digits bytes ≡ r → goes_on_or_ends r ≡ true → no_parts bytes units ≡ true
parts_lack bytes [] e h = lacks_units bytes [] e at_end
parts_lack bytes (b ∷ bs) e h = lacks_units bytes (b ∷ bs) e (at_byte b bs (elim (bool_cases (nat_eq b 46)) [
  | inl p ↦ inl (grind (arith, nat_tests))
  | inr p ↦ elim (bool_cases (nat_eq b 101)) [
    | inl l ↦ inr (inl (grind (arith, nat_tests)))
    | inr l ↦ inr (inr (grind (arith, nat_tests)))
  ]
]))

no_number : (bytes : List ℕ) → 1 ≤ length bytes → rest_after units bytes ≡ [] → decimal_of bytes ≡ None
no_number bytes some h = elim (bool_cases (goes_on_or_ends (past_digits bytes))) [
  | inl g ↦ absurd (let e = sym (unparted units bytes (parts_lack bytes (past_digits bytes) refl g)) ∙ h in omega (arith, some, ap length e))
  | inr g ↦ stops bytes (past_digits bytes) refl g
]

no_number_form : (bytes : List ℕ) → decimal_of bytes ≡ None → number_form bytes ≡ None
no_number_form bytes h = by (nat_le (length bytes) most_number_bytes)
  where
    by : (b : Bool) → cond b (option_map (λ d. number (clamp (pos (decimal_micros d)))) (decimal_of bytes)) None ≡ None
    by true = ap (option_map (λ d. number (clamp (pos (decimal_micros d))))) h
    by false = refl

-- a quantity is found where it is one
quantity : (inside : Bool) (bytes : List ℕ) (s : Sort) → 1 ≤ length bytes → option_or (number_form bytes) (duration_form bytes) ≡ Some s → form inside bytes ≡ Some s
quantity inside [] s some h = absurd (omega (arith, some))
quantity inside (b ∷ bs) s some h = elim (bool_cases (begins_quantity b)) [
  | inl q ↦ form_of_quantity inside b bs q ∙ h
  | inr q ↦ absurd (
      let none = no_quantity b bs q in
      let e = sym h ∙ ap (λ o. option_or o (duration_form (b ∷ bs))) none.0 ∙ none.1 in
      cc
      )
]

decimal_some : (d : Decimal) → decimal_of (decimal_text d) ≡ Some d → 1 ≤ length (decimal_text d)
decimal_some d h = by (decimal_text d) h
  where
    by : (xs : List ℕ) → decimal_of xs ≡ Some d → 1 ≤ length xs
    by [] e = cc
    by (x ∷ xs) e = omega arith

number_found : (inside : Bool) (bytes : List ℕ) (v : ℤ) (n : IsNumber bytes v) → n.sign ≡ bare → form inside bytes ≡ Some (number v)
number_found inside bytes v n s =
    let spelled : bytes ≡ decimal_text n.parts = n.spelled ∙ ap (λ x. sign_text x ++ decimal_text n.parts) s in
    let found = decimal_spelled n.parts n.lawful in
    let of_bytes : decimal_of bytes ≡ Some n.parts = ap decimal_of spelled ∙ found in
    let short : nat_le (length bytes) most_number_bytes ≡ true = let l = n.short in grind (arith, nat_tests) in
    let micros : v ≡ clamp (pos (decimal_micros n.parts)) = n.value ∙ bare_value s in
    let is : number_form bytes ≡ Some (number v) = rw short (ap (option_map (λ d. number (clamp (pos (decimal_micros d))))) of_bytes) ∙ ap (λ x. Some (number x)) (sym micros) in
    quantity inside bytes (number v) (subst (λ xs. 1 ≤ length xs) (sym spelled) (decimal_some n.parts found)) (ap (λ o. option_or o (duration_form bytes)) is)
  where
    bare_value : n.sign ≡ bare → clamp (signed n.sign (decimal_micros n.parts)) ≡ clamp (pos (decimal_micros n.parts))
    bare_value e = ap (λ x. clamp (signed x (decimal_micros n.parts))) e

duration_found : (inside : Bool) (bytes : List ℕ) (n : ℕ) → IsDuration bytes n → form inside bytes ≡ Some (duration n)
duration_found inside bytes n d =
    let r = spelled_read units bytes n refl d.1 in
    let none = no_number_form bytes (no_number bytes d.0 r.0) in
    let is : duration_form bytes ≡ Some (duration n) = formed bytes d.0 (rest_after units bytes) r.0 (total_of units bytes) r.1 in
    quantity inside bytes (duration n) d.0 (ap (λ o. option_or o (duration_form bytes)) none ∙ is)
  where
    formed : (bytes : List ℕ) → 1 ≤ length bytes → (rest : List ℕ) → rest ≡ [] → (m : ℕ) → m ≡ n → only_if (not (is_empty bytes) && is_empty rest) (duration m) ≡ Some (duration n)
    formed [] l rest e m f = absurd (omega (arith, l))
    formed (b ∷ bs) l rest e m f = rw (e, f) refl

string_found : (inside : Bool) (bytes : List ℕ) (s : Sort) → string_form bytes ≡ Some s → form inside bytes ≡ Some s
string_found inside [] s h = cc
string_found inside (b ∷ bs) s h = elim (bool_cases (begins_string b)) [
  | inl q ↦ form_of_string inside b bs q ∙ h
  | inr q ↦ absurd (let e = sym h ∙ strings_apart b bs q in cc)
]

signs_found : (inside : Bool) → Each (λ w. form inside w ≡ Some (sign w)) signs
signs_found true = (refl, (refl, (refl, (refl, (refl, (refl, (refl, (refl, (refl, (refl, (refl, (refl, (refl, (refl, (refl, (refl, (refl, (refl, (refl, (refl, (refl, (refl, tt))))))))))))))))))))))
signs_found false = (refl, (refl, (refl, (refl, (refl, (refl, (refl, (refl, (refl, (refl, (refl, (refl, (refl, (refl, (refl, (refl, (refl, (refl, (refl, (refl, (refl, (refl, tt))))))))))))))))))))))

among : (P : List ℕ → Type 0) (ws : List (List ℕ)) (bytes : List ℕ) → Each P ws → list_any (bytes_eq bytes) ws ≡ true → P bytes
among P [] bytes h k = cc
among P (w ∷ ws) bytes h k = elim (bool_cases (bytes_eq bytes w)) [
  | inl e ↦ subst P (sym ((bytes_decides bytes w).0 e)) h.0
  | inr e ↦ among P ws bytes h.1 (ap (λ t. t || list_any (bytes_eq bytes) ws) (sym e) ∙ k)
]

sign_found : (inside : Bool) (bytes : List ℕ) → is_sign inside bytes ≡ true → form inside bytes ≡ Some (sign bytes)
sign_found inside bytes h = elim (bool_cases (list_any (bytes_eq bytes) signs)) [
  | inl e ↦ among (λ w. form inside w ≡ Some (sign w)) signs bytes (signs_found inside) e
  | inr e ↦ colon inside (ap (λ t. t || (inside && bytes_eq bytes (codes ":"))) (sym e) ∙ h)
]
  where
    colon : (i : Bool) → (i && bytes_eq bytes (codes ":")) ≡ true → form i bytes ≡ Some (sign bytes)
    colon true e = subst (λ w. form true w ≡ Some (sign w)) (sym ((bytes_decides bytes (codes ":")).0 e)) refl
    colon false e = cc

pub form_of : (inside : Bool) (bytes : List ℕ) (s : Sort) → Forms inside bytes s → form inside bytes ≡ Some s
form_of inside bytes (word w) h = rw (h.0, h.1, h.2, h.3) refl
form_of inside bytes (number v) (inl h) = rw (h.0, h.1, h.2, h.3) refl
form_of inside bytes (number v) (inr h) = number_found inside bytes v h.0 h.1
form_of inside bytes (duration n) h = duration_found inside bytes n h
form_of inside bytes (string w) h = string_found inside bytes (string w) h
form_of inside bytes (sign w) h = sign_found inside bytes h.0 ∙ ap (λ x. Some (sign x)) (sym h.1)

-- ---- the token that begins at a place

found_within : (text : List ℕ) (at len : ℕ) → 1 ≤ len → len ≤ length (drop at text) → at + len ≤ length text
found_within text at len some h = omega (arith, some, h, length-drop at text)

pub is_token : (inside : Bool) (text : List ℕ) (at : ℕ) (t : Token) → token_at inside text at ≡ Some t → IsToken inside text t × (t.from ≡ at)
is_token inside text at t h = elim (longest_cases inside at (drop at text) (length (drop at text))) [
  | inl none ↦ absurd (let e = sym h ∙ ap (lawful text) none.is in cc)
  | inr l ↦ by l (may_precede l.sort (drop (at + l.len) text)) refl (sym (ap (lawful text) l.is) ∙ h)
]
  where
    by : (l : IsLongest inside at (drop at text) (length (drop at text)) (longest inside at (drop at text) (length (drop at text))))
        → (b : Bool) → may_precede l.sort (drop (at + l.len) text) ≡ b
        → only_if b (record { from = at; to = at + l.len; sort = l.sort }) ≡ Some t → IsToken inside text t × (t.from ≡ at)
    by l false m e = cc
    by l true m e =
        let len : l.len ≡ at + l.len - at = omega arith in
        let same : record { from = at; to = at + l.len; sort = l.sort } ≡ t = some_is (record { from = at; to = at + l.len; sort = l.sort }) t e in
        subst (λ u. IsToken inside text u × (u.from ≡ at)) same (
          record {
            some = let s = l.some in omega arith;
            within = found_within text at l.len l.some l.within;
            forms = forms_of inside (part text at (at + l.len)) l.sort (ap (λ k. form inside (take k (drop at text))) (sym len) ∙ l.fits);
            longest = λ to s more low k. absurd (
                let e = l.none (to - at) (omega (arith, more)) (omega (arith, more, low, length-drop at text)) in
                let f = sym (form_of inside (part text at to) s k) ∙ e in
                cc
                );
            alone = m;
          },
          refl,
        )

pub token_is : (inside : Bool) (text : List ℕ) (t : Token) → IsToken inside text t → token_at inside text t.from ≡ Some t
token_is inside text t h = elim (longest_cases inside t.from (drop t.from text) (length (drop t.from text))) [
  | inl none ↦ absurd (
      let e = none.none (t.to - t.from) (let s = h.some in omega arith) (let s = h.some in let w = h.within in omega (arith, length-drop t.from text)) in
      let f = sym (form_of inside (part text t.from t.to) t.sort h.forms) ∙ e in
      cc
      )
  | inr l ↦ elim (cases_order (t.to - t.from) l.len) [
    | inl e ↦
        let s : l.sort ≡ t.sort = some_is l.sort t.sort (sym l.fits ∙ ap (λ k. form inside (take k (drop t.from text))) (sym e) ∙ fits) in
        let to : t.from + l.len ≡ t.to = let some = h.some in omega (arith, e, some) in
        ap (lawful text) l.is
        ∙ ap (λ k. lawful text (Some (record { from = t.from; to = k; sort = l.sort }))) to
        ∙ ap (λ x. lawful text (Some (record { from = t.from; to = t.to; sort = x }))) s
        ∙ ap (λ b. only_if b t) h.alone
    | inr o ↦ elim o [
      | inl less ↦ absurd (
          let some = h.some in
          let len : l.len ≡ t.from + l.len - t.from = omega arith in
          h.longest (t.from + l.len) l.sort (omega (arith, less, some)) (found_within text t.from l.len l.some l.within)
          (forms_of inside (part text t.from (t.from + l.len)) l.sort (ap (λ k. form inside (take k (drop t.from text))) (sym len) ∙ l.fits))
          )
      | inr more ↦ absurd (let e = sym fits ∙ l.none (t.to - t.from) more low in cc)
    ]
  ]
]
  where
    fits : form inside (part text t.from t.to) ≡ Some t.sort
    fits = form_of inside (part text t.from t.to) t.sort h.forms

    low : t.to - t.from ≤ length (drop t.from text)
    low = let w = h.within in omega (arith, w, length-drop t.from text)

-- ---- the tokens of a text

pub finds : (text : List ℕ) (inside : Bool) (at : ℕ) (ts : List Token) → BeginsWith text inside at ts → AreNext text inside at ts
finds text inside at [] h = tt
finds text inside at (t ∷ ts) h = (h.0, token_is inside text t h.1, finds text (inside_behind inside t.sort) t.to ts h.2)

pub begins : (text : List ℕ) (inside : Bool) (at : ℕ) (ts : List Token) → AreNext text inside at ts → BeginsWith text inside at ts
begins text inside at [] h = tt
begins text inside at (t ∷ ts) h = (h.0, (is_token inside text t.from t h.1).0, begins text (inside_behind inside t.sort) t.to ts h.2)

pub are_found : {text : List ℕ} {ts : List Token} → AreTokens text ts → AreFound text ts
are_found {text} {ts} h = record { begins = finds text false 0 ts h.begins; whole = h.whole }

pub are_tokens : {text : List ℕ} {ts : List Token} → AreFound text ts → AreTokens text ts
are_tokens {text} {ts} h = record { begins = begins text false 0 ts h.begins; whole = h.whole }

pub is_bad : {text : List ℕ} {at : ℕ} → IsStop text at → IsBadToken text at
is_bad {text} {at} h = record {
  before = h.before;
  begins = begins text false 0 h.before h.begins;
  place = h.place;
  within = h.within;
  bad = λ t e k. let f = sym (token_is (inside_after false h.before) text t k) ∙ ap (token_at (inside_after false h.before) text) e ∙ h.bad in cc;
}

pub is_stop : {text : List ℕ} {at : ℕ} → IsBadToken text at → IsStop text at
is_stop {text} {at} h = record {
  before = h.before;
  begins = finds text false 0 h.before h.begins;
  place = h.place;
  within = h.within;
  bad = by (token_at (inside_after false h.before) text at) refl;
}
  where
    by : (o : Option Token) → token_at (inside_after false h.before) text at ≡ o → o ≡ None
    by None e = refl
    by (Some t) e = let k = is_token (inside_after false h.before) text at t e in absurd (h.bad t k.1 k.0)
