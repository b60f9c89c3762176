-- The number or the duration in front.
use Rattle.std.proofs.Common.{◌≡◌, ◌∙◌, ℕ, ℤ, pos, zero, suc, ◌+◌, ◌<◌, ◌≤◌, ◌⊎◌, inl, inr, Bool, true, false, not, Option, Some, None, List, [], ◌∷◌, ◌++◌, length, take, drop, refl, sym, ap, subst, arith, append_assoc, append-nil}
use Rattle.std.specs.Prelude.{nat_le, IfSome, option_map}
use Rattle.std.specs.Char.{is_ascii_digit}
use Rattle.std.specs.List.{list_all, prefix_len}
use Rattle.std.specs.Option.{is_some, option_or}
use Rattle.std.specs.Str.{all_ascii_digits}
use Rattle.std.proofs.lemmas.Bool.{and_parts, and_from, cases_order}
use Rattle.std.proofs.lemmas.Bool.Decides.{nat_tests}
use Rattle.std.proofs.lemmas.List.{length-take-le, take-append-drop, take-take}
use Rattle.std.proofs.lemmas.List.Sums.{prefix_len-le-length}
use Rattle.pf_base.specs.LabelSets.{goes_on, is_empty}
use Rattle.pf_base.specs.DurationScans.{rest_after, total_of}
use Rattle.pf_base.specs.DurationTexts.{units, IsDuration, Spells}
use Rattle.pf_base.specs.Arithmetic.{clamp}
use Rattle.pf_base.specs.NumberScans.{decimal_of}
use Rattle.pf_base.specs.NumberTexts.{Decimal, decimal_micros}
use Rattle.pf_model.specs.Cuts.{only_if}
use Rattle.pf_base.proofs.Digits.{both}
use Rattle.pf_base.proofs.Durations.{read_spelled, spelled_read}
use Rattle.pf_base.proofs.Readings.{bool_cases}
use Rattle.pf_model.specs.TokenScans.{duration_form, form, number_form, token_at}
use Rattle.pf_model.specs.Tokens.{Sort, number, duration, has_letter, may_precede}
use Rattle.pf_model.specs.FirstBytes.{begins_quantity, first_passes}
use Rattle.pf_lex.specs.Scans.{Finds, IsInFront}
use Rattle.pf_lex.specs.Seen.{sort_of}
use Rattle.pf_lex.specs.Stages.{FindsDuration, FindsNumber, IsDurationInFront, IsNumberInFront, longest_number}
use Rattle.pf_lex.specs.declared.token.TokenSort.{TokenSort}
use Rattle.pf_lex.specs.declared.token.TokenSort.TheVariants.{Duration}
use Rattle.pf_model.proofs.TokenForms.{form_of_quantity}
use Rattle.pf_model.proofs.LongestToken.{in_front, none_in_front, some_is}
use Rattle.pf_lex.proofs.Numbers.{no_number, no_number_behind, no_number_found, number_found, number_read, stops}

-- ---- letters in front

pub letter_within : (bytes : List ℕ) (n m : ℕ) → list_all goes_on (take m bytes) ≡ true → n < m → m ≤ length bytes → has_letter (drop n bytes) ≡ true
letter_within [] n m h low high = absurd (omega (arith, low, high))
letter_within (b ∷ bs) n zero h low high = absurd (omega (arith, low))
letter_within (b ∷ bs) zero (suc m) h low high = (and_parts (goes_on b) (list_all goes_on (take m bs)) h).0
letter_within (b ∷ bs) (suc n) (suc m) h low high = letter_within bs n m (and_parts (goes_on b) (list_all goes_on (take m bs)) h).1 (omega (arith, low)) (omega (arith, high))

pub no_letter_behind : (bytes : List ℕ) → has_letter (drop (prefix_len goes_on bytes) bytes) ≡ false
no_letter_behind [] = refl
no_letter_behind (b ∷ bs) = elim (bool_cases (goes_on b)) [
  | inl e ↦ rw e (by (prefix_len goes_on bs) bs (no_letter_behind bs))
  | inr n ↦ rw n n
]
  where
    by : (n : ℕ) (bs : List ℕ) → has_letter (drop n bs) ≡ false → has_letter (drop (1 + n) (b ∷ bs)) ≡ false
    by n bs h = let e : 1 + n ≡ suc n = omega arith in ap (λ k. has_letter (drop k (b ∷ bs))) e ∙ h

letter_before : (bytes : List ℕ) (n : ℕ) → n < prefix_len goes_on bytes → has_letter (drop n bytes) ≡ true
letter_before [] n h = absurd (omega (arith, h))
letter_before (b ∷ bs) n h = elim (bool_cases (goes_on b)) [
  | inl e ↦ let k : n < 1 + prefix_len goes_on bs = rw e at h in by n k e (letter_before bs)
  | inr m ↦ absurd (let k : n < 0 = rw m at h in omega (arith, k))
]
  where
    by : (n : ℕ) → n < 1 + prefix_len goes_on bs → goes_on b ≡ true → ((n : ℕ) → n < prefix_len goes_on bs → has_letter (drop n bs) ≡ true) → has_letter (drop n (b ∷ bs)) ≡ true
    by zero k e f = e
    by (suc n) k e f = f n (omega (arith, k))

all_within : (bytes : List ℕ) (m : ℕ) → list_all goes_on (take m bytes) ≡ true → m ≤ length bytes → m ≤ prefix_len goes_on bytes
all_within bytes zero h high = omega arith
all_within [] (suc m) h high = absurd (omega (arith, high))
all_within (b ∷ bs) (suc m) h high =
    let parts = and_parts (goes_on b) (list_all goes_on (take m bs)) h in
    let e = parts.0 in
    let r = all_within bs m parts.1 (omega (arith, high)) in
    rw e (omega (arith, r))

-- ---- durations

digit_goes : (b : ℕ) → is_ascii_digit b ≡ true → goes_on b ≡ true
digit_goes b h = grind (arith, nat_tests)

digits_go : (ds : List ℕ) → all_ascii_digits ds ≡ true → list_all goes_on ds ≡ true
digits_go [] h = refl
digits_go (d ∷ ds) h = let parts = both (is_ascii_digit d) (all_ascii_digits ds) h in and_from _ _ (digit_goes d parts.0) (digits_go ds parts.1)

all_both : (p : ℕ → Bool) (xs ys : List ℕ) → list_all p xs ≡ true → list_all p ys ≡ true → list_all p (xs ++ ys) ≡ true
all_both p [] ys h k = k
all_both p (x ∷ xs) ys h k = let parts = and_parts (p x) (list_all p xs) h in and_from _ _ parts.0 (all_both p xs ys parts.1 k)

spelled_goes : (us : List (List ℕ × ℕ)) (bytes : List ℕ) (n : ℕ) → list_all (λ u. list_all goes_on u.0) us ≡ true → Spells us bytes n → list_all goes_on bytes ≡ true
spelled_goes [] bytes n k h = ap (list_all goes_on) h.0
spelled_goes (u ∷ us) bytes n k (inl h) = spelled_goes us bytes n (and_parts _ _ k).1 h
spelled_goes (u ∷ us) bytes n k (inr h) =
    let f = h.1.1.1 in
    let parts = and_parts (list_all goes_on u.0) (list_all (λ (u : List ℕ × ℕ). list_all goes_on u.0) us) k in
    ap (list_all goes_on) f.2
    ∙ all_both goes_on h.0 (u.0 ++ h.1.0) (digits_go h.0 f.1) (all_both goes_on u.0 h.1.0 parts.0 (spelled_goes us h.1.0 h.1.1.0 parts.1 f.4))

pub record IsDurationText (bytes : List ℕ) (s : Sort) : Type 0 where
  pub some : is_empty bytes ≡ false
  pub rest : rest_after units bytes ≡ []
  pub is : s ≡ duration (total_of units bytes)

nil_if : (xs : List ℕ) → is_empty xs ≡ true → xs ≡ []
nil_if [] h = refl
nil_if (x ∷ xs) h = cc

pub duration_text : (bytes : List ℕ) (s : Sort) → duration_form bytes ≡ Some s → IsDurationText bytes s
duration_text [] s h = cc
duration_text (b ∷ bs) s h = elim (bool_cases (is_empty (rest_after units (b ∷ bs)))) [
  | inl e ↦ let g = rw e at h in record { some = refl; rest = nil_if _ e; is = sym (some_is (duration (total_of units (b ∷ bs))) s g) }
  | inr n ↦ absurd (let g = rw n at h in cc)
]

pub duration_goes : (bytes : List ℕ) (s : Sort) → duration_form bytes ≡ Some s → list_all goes_on bytes ≡ true
duration_goes bytes s h = spelled_goes units bytes (total_of units bytes) refl (read_spelled units bytes (duration_text bytes s h).rest)

-- ---- a duration begins no number

abbrev ends_number : List ℕ → Bool
ends_number [] = false
ends_number (l ∷ ls) = stops l

part_none : (ds unit rest ys bytes : List ℕ) → 1 ≤ length ds → all_ascii_digits ds ≡ true → ends_number unit ≡ true → bytes ≡ ds ++ (unit ++ rest) → is_some (decimal_of (bytes ++ ys)) ≡ false
part_none [] unit rest ys bytes some all k e = absurd (omega (arith, some))
part_none (d ∷ ds) [] rest ys bytes some all k e = cc
part_none (d ∷ ds) (l ∷ ls) rest ys bytes some all k e =
    let parts = both (is_ascii_digit d) (all_ascii_digits ds) all in
    ap (λ xs. is_some (decimal_of (xs ++ ys))) e ∙ ap (λ xs. is_some (decimal_of xs)) (append_assoc (d ∷ ds) ((l ∷ ls) ++ rest) ys)
    ∙ no_number_behind d l ds ((ls ++ rest) ++ ys) parts.0 parts.1 k

spelled_none : (us : List (List ℕ × ℕ)) (bytes ys : List ℕ) (n : ℕ) → list_all (λ u. ends_number u.0) us ≡ true → Spells us bytes n → is_empty bytes ≡ false → is_some (decimal_of (bytes ++ ys)) ≡ false
spelled_none [] bytes ys n k h some = let e = h.0 in absurd (let f = sym some ∙ ap is_empty e in cc)
spelled_none (u ∷ us) bytes ys n k (inl h) some = spelled_none us bytes ys n (and_parts _ _ k).1 h some
spelled_none (u ∷ us) bytes ys n k (inr h) some =
    let f = h.1.1.1 in
    part_none h.0 u.0 h.1.0 ys bytes f.0 f.1 (and_parts (ends_number u.0) (list_all (λ (u : List ℕ × ℕ). ends_number u.0) us) k).0 f.2

pub duration_none : (bytes ys : List ℕ) (s : Sort) → duration_form bytes ≡ Some s → number_form (bytes ++ ys) ≡ None
duration_none bytes ys s h =
    let t = duration_text bytes s h in
    no_number (bytes ++ ys) (spelled_none units bytes ys (total_of units bytes) refl (read_spelled units bytes t.rest) t.some)

-- ---- what fits at the front

pub fits_by : (inside : Bool) (bytes : List ℕ) (m : ℕ) → first_passes begins_quantity bytes ≡ true → 1 ≤ m → form inside (take m bytes) ≡ option_or (number_form (take m bytes)) (duration_form (take m bytes))
fits_by inside [] m h some = cc
fits_by inside (b ∷ bs) zero h some = absurd (omega (arith, some))
fits_by inside (b ∷ bs) (suc m) h some = form_of_quantity inside b (take m bs) h

pub none_by : (inside : Bool) (bytes : List ℕ) (m : ℕ) → first_passes begins_quantity bytes ≡ true → 1 ≤ m → number_form (take m bytes) ≡ None → duration_form (take m bytes) ≡ None → form inside (take m bytes) ≡ None
none_by inside bytes m h some n d = fits_by inside bytes m h some ∙ ap (λ o. option_or o (duration_form (take m bytes))) n ∙ d

-- a duration beyond a place where no letter stands
pub no_duration_over : (bytes : List ℕ) (n m : ℕ) → has_letter (drop n bytes) ≡ false → n < m → m ≤ length bytes → duration_form (take m bytes) ≡ None
no_duration_over bytes n m alone low high = by (duration_form (take m bytes)) refl
  where
    by : (o : Option Sort) → duration_form (take m bytes) ≡ o → duration_form (take m bytes) ≡ None
    by None e = e
    by (Some s) e = absurd (let k = letter_within bytes n m (duration_goes (take m bytes) s e) low high in let f = sym alone ∙ k in cc)

pub number_sort : (bytes : List ℕ) (s : Sort) (behind : List ℕ) → number_form bytes ≡ Some s → may_precede s behind ≡ not (has_letter behind)
number_sort bytes s behind h = elim (bool_cases (nat_le (length bytes) 128)) [
  | inl e ↦ let g = rw e at h in mapped (λ d. clamp (pos (decimal_micros d))) (decimal_of bytes) g
  | inr n ↦ absurd (let g = rw n at h in cc)
]
  where
    mapped : (f : Decimal → ℤ) (o : Option Decimal) → option_map (λ x. number (f x)) o ≡ Some s → may_precede s behind ≡ not (has_letter behind)
    mapped f None h = cc
    mapped f (Some x) h = let e = some_is (number (f x)) s h in subst (λ t. may_precede t behind ≡ not (has_letter behind)) e refl

pub duration_sort : (bytes : List ℕ) (s : Sort) (behind : List ℕ) → duration_form bytes ≡ Some s → may_precede s behind ≡ not (has_letter behind)
duration_sort bytes s behind h =
    let t = duration_text bytes s h in
    subst (λ t. may_precede t behind ≡ not (has_letter behind)) (sym t.is) refl

pub number_in_front : (inside : Bool) (bytes : List ℕ) (sort : TokenSort) (len : ℕ) → first_passes begins_quantity bytes ≡ true → IsNumberInFront bytes sort len → IsInFront inside bytes sort len
number_in_front inside bytes sort len first h =
    let f = number_found bytes len h.longest in
    let s = sort_of (take len bytes) sort in
    let fits : form inside (take len bytes) ≡ Some s = fits_by inside bytes len first f.some ∙ ap (λ o. option_or o (duration_form (take len bytes))) h.form in
    let none : (m : ℕ) → len < m → m ≤ length bytes → form inside (take m bytes) ≡ None =
    λ m low high. none_by inside bytes m first (omega (arith, low)) (f.none m low high) (no_duration_over bytes len m h.alone low high) in
    let free : may_precede s (drop len bytes) ≡ true = number_sort (take len bytes) s (drop len bytes) h.form ∙ ap not h.alone in
    record {
      token = in_front inside bytes len s f.some f.within fits none ∙ ap (λ t. only_if t (record { from = 0; to = len; sort = s })) free;
      exact = h.exact;
      some = f.some;
      within = f.within;
    }

front_and_rest : (bytes : List ℕ) (n m : ℕ) → n ≤ m → take m bytes ≡ take n bytes ++ drop n (take m bytes)
front_and_rest bytes n m h = sym (take-append-drop n (take m bytes)) ∙ ap (λ xs. xs ++ drop n (take m bytes)) (take-take n m bytes h)

first_some : (bytes : List ℕ) (p : ℕ → Bool) (n : ℕ) → first_passes p bytes ≡ true → duration_form (take n bytes) ≡ None ⊎ (1 ≤ n)
first_some bytes p zero h = inl refl
first_some bytes p (suc n) h = inr (omega arith)

pub duration_in_front : (inside : Bool) (bytes : List ℕ) (sort : TokenSort) (len : ℕ) → first_passes begins_quantity bytes ≡ true → IsDurationInFront bytes sort len → IsInFront inside bytes sort len
duration_in_front inside bytes sort len first h =
    let s = sort_of (take len bytes) sort in
    let within : len ≤ length bytes = omega (arith, h.is, prefix_len-le-length goes_on bytes) in
    let some : 1 ≤ len = elim (first_some bytes begins_quantity len first) [ inl e ↦ absurd (let k = sym e ∙ h.form in cc) | inr k ↦ k ] in
    let alone : has_letter (drop len bytes) ≡ false = ap (λ n. has_letter (drop n bytes)) h.is ∙ no_letter_behind bytes in
    let other : number_form (take len bytes) ≡ None = ap number_form (sym (append-nil (take len bytes))) ∙ duration_none (take len bytes) [] s h.form in
    let fits : form inside (take len bytes) ≡ Some s = fits_by inside bytes len first some ∙ ap (λ o. option_or o (duration_form (take len bytes))) other ∙ h.form in
    let none : (m : ℕ) → len < m → m ≤ length bytes → form inside (take m bytes) ≡ None =
    λ m low high. none_by inside bytes m first (omega (arith, low)) (ap number_form (front_and_rest bytes len m (omega (arith, low))) ∙ duration_none (take len bytes) (drop len (take m bytes)) s h.form) (no_duration_over bytes len m alone low high) in
    let free : may_precede s (drop len bytes) ≡ true = duration_sort (take len bytes) s (drop len bytes) h.form ∙ ap not alone in
    record {
      token = in_front inside bytes len s some within fits none ∙ ap (λ t. only_if t (record { from = 0; to = len; sort = s })) free;
      exact = h.exact;
      some = some;
      within = within;
    }

-- ---- neither

bad_number : (bytes : List ℕ) (n : ℕ) (s : Sort) → FindsNumber bytes None → number_form (take n bytes) ≡ Some s → 1 ≤ n → n ≤ length bytes
    → ((m : ℕ) → n < m → m ≤ length bytes → number_form (take m bytes) ≡ None) → has_letter (drop n bytes) ≡ true
bad_number bytes n s none fits some within above = by (longest_number bytes) refl none
  where
    number_again : (k : ℕ) → longest_number bytes ≡ Some k → number_form (take k bytes) ≡ None → ⊥
    number_again k e h = let r = number_read (take k bytes) (number_found bytes k e).fits (omega (arith, number_found bytes k e, length-take-le k bytes (number_found bytes k e).within)) in let f = sym r.form ∙ h in cc

    by : (o : Option ℕ) → longest_number bytes ≡ o → IfSome o (λ k. has_letter (drop k bytes) ≡ true) → has_letter (drop n bytes) ≡ true
    by None e h = absurd (let k = no_number_found bytes e n (omega (arith, some)) within in let f = sym fits ∙ k in cc)
    by (Some k) e h =
        let f = number_found bytes k e in
        elim (cases_order n k) [
          | inl same ↦ ap (λ j. has_letter (drop j bytes)) same ∙ h
          | inr o ↦ elim o [
            | inl less ↦ absurd (number_again k e (above k less f.within))
            | inr more ↦ absurd (let z = f.none n more within in let g = sym fits ∙ z in cc)
          ]
        ]

bad_duration : (bytes : List ℕ) (n : ℕ) (s : Sort) → FindsDuration bytes None → duration_form (take n bytes) ≡ Some s → n ≤ length bytes → has_letter (drop n bytes) ≡ true
bad_duration bytes n s none fits within =
    let high = all_within bytes n (duration_goes (take n bytes) s fits) within in
    elim (cases_order n (prefix_len goes_on bytes)) [
      | inl same ↦ absurd (let f = sym fits ∙ ap (λ k. duration_form (take k bytes)) same ∙ none in cc)
      | inr o ↦ elim o [
        | inl less ↦ letter_before bytes n less
        | inr more ↦ absurd (omega (arith, high, more))
      ]
    ]

none_of_both : (o p : Option Sort) → option_or o p ≡ None → o ≡ None
none_of_both None p h = refl
none_of_both (Some s) p h = cc

pub none_in_front_of : (inside : Bool) (bytes : List ℕ) → first_passes begins_quantity bytes ≡ true → FindsNumber bytes None → FindsDuration bytes None → token_at inside bytes 0 ≡ None
none_in_front_of inside bytes first no_number no_duration = none_in_front inside bytes (λ n s some within fits above. by n s some within (sym (fits_by inside bytes n first some) ∙ fits) (λ m low high. sym (fits_by inside bytes m first (omega (arith, low))) ∙ above m low high))
  where
    by : (n : ℕ) (s : Sort) → 1 ≤ n → n ≤ length bytes → option_or (number_form (take n bytes)) (duration_form (take n bytes)) ≡ Some s
        → ((m : ℕ) → n < m → m ≤ length bytes → option_or (number_form (take m bytes)) (duration_form (take m bytes)) ≡ None) → may_precede s (drop n bytes) ≡ false
    by n s some within fits above = cases (number_form (take n bytes)) refl
      where
        cases : (o : Option Sort) → number_form (take n bytes) ≡ o → may_precede s (drop n bytes) ≡ false
        cases None e =
            let d : duration_form (take n bytes) ≡ Some s = sym (ap (λ o. option_or o (duration_form (take n bytes))) e) ∙ fits in
            duration_sort (take n bytes) s (drop n bytes) d ∙ ap not (bad_duration bytes n s no_duration d within)
        cases (Some t) e =
            let same : t ≡ s = some_is t s (sym (ap (λ o. option_or o (duration_form (take n bytes))) e) ∙ fits) in
            let k : number_form (take n bytes) ≡ Some s = e ∙ ap Some same in
            number_sort (take n bytes) s (drop n bytes) k ∙ ap not (bad_number bytes n s no_number k some within (λ m low high. none_of_both _ _ (above m low high)))

-- ---- and read

pub form_of_duration : (bytes : List ℕ) (n : ℕ) → IsDuration bytes n → (duration_form bytes ≡ Some (duration n)) × (total_of units bytes ≡ n)
form_of_duration bytes n h =
    let r = spelled_read units bytes n refl h.1 in
    (by bytes h.0 r.0 ∙ ap (λ k. Some (duration k)) r.1, r.1)
  where
    by : (bytes : List ℕ) → 1 ≤ length bytes → rest_after units bytes ≡ [] → duration_form bytes ≡ Some (duration (total_of units bytes))
    by [] some e = absurd (omega (arith, some))
    by (b ∷ bs) some e = rw e refl

pub form_of_none : (bytes : List ℕ) → ((n : ℕ) → IsDuration bytes n → ⊥) → duration_form bytes ≡ None
form_of_none bytes h = by (duration_form bytes) refl
  where
    some_byte : (bytes : List ℕ) → is_empty bytes ≡ false → 1 ≤ length bytes
    some_byte [] e = cc
    some_byte (b ∷ bs) e = omega arith

    by : (o : Option Sort) → duration_form bytes ≡ o → duration_form bytes ≡ None
    by None e = e
    by (Some s) e = let t = duration_text bytes s e in absurd (h (total_of units bytes) (some_byte bytes t.some, read_spelled units bytes t.rest))

pub quantity_left : (inside : Bool) (bytes : List ℕ) (found : Option (TokenSort × ℕ)) → first_passes begins_quantity bytes ≡ true → FindsNumber bytes None → FindsDuration bytes found → Finds inside bytes found
quantity_left inside bytes None first n h = none_in_front_of inside bytes first n h
quantity_left inside bytes (Some x) first n h = duration_in_front inside bytes x.0 x.1 first h

record Taken (bytes letters : List ℕ) : Type 0 where
  len : length letters ≡ prefix_len goes_on bytes
  same : take (length letters) bytes ≡ letters

taken : (bytes letters : List ℕ) → letters ≡ take (prefix_len goes_on bytes) bytes → Taken bytes letters
taken bytes letters e =
    let l : length letters ≡ prefix_len goes_on bytes = ap length e ∙ length-take-le (prefix_len goes_on bytes) bytes (prefix_len-le-length goes_on bytes) in
    record { len = l; same = ap (λ n. take n bytes) l ∙ sym e }

pub duration_given : (bytes letters : List ℕ) (n : ℕ) → letters ≡ take (prefix_len goes_on bytes) bytes → IsDuration letters n → n ≤ 4398046511103 → IsDurationInFront bytes (Duration (Some n)) (length letters)
duration_given bytes letters n e h small =
    let t = taken bytes letters e in
    record { is = t.len; form = ap duration_form t.same ∙ (form_of_duration letters n h).0; exact = small }

pub duration_late : (bytes letters : List ℕ) (n : ℕ) → letters ≡ take (prefix_len goes_on bytes) bytes → IsDuration letters n → 4398046511103 < n → IsDurationInFront bytes (Duration None) (length letters)
duration_late bytes letters n e h large =
    let t = taken bytes letters e in
    let f = form_of_duration letters n h in
    let total : n ≡ total_of units (take (length letters) bytes) = sym f.1 ∙ ap (total_of units) (sym t.same) in
    record { is = t.len; form = ap duration_form t.same ∙ f.0 ∙ ap (λ k. Some (duration k)) total; exact = subst (λ k. 4398046511103 < k) total large }

pub duration_wrong : (bytes letters : List ℕ) → letters ≡ take (prefix_len goes_on bytes) bytes → ((n : ℕ) → IsDuration letters n → ⊥) → duration_form (take (prefix_len goes_on bytes) bytes) ≡ None
duration_wrong bytes letters e h = ap duration_form (sym e) ∙ form_of_none letters h
