-- The texts of tokens, in front of what may follow them.
use Rattle.std.proofs.Common.{◌≡◌, ◌∙◌, ℕ, pos, zero, suc, ◌+◌, ◌-◌, ◌*◌, ◌<◌, ◌≤◌, inl, inr, Bool, true, false, not, ◌&&◌, ◌||◌, Option, Some, None, List, [], ◌∷◌, ◌++◌, length, take, drop, refl, sym, ap, subst, arith, codes, append_assoc, append-nil, length-append}
use Rattle.std.specs.Prelude.{nat_eq, nat_le, option_map, unwrap_or}
use Rattle.std.specs.Char.{is_ascii_digit}
use Rattle.std.specs.Fmt.{decimal}
use Rattle.std.specs.List.{list_all, prefix_len}
use Rattle.std.specs.Option.{is_some, option_or}
use Rattle.std.specs.Str.{all_ascii_digits, str_eq_ignore_ascii_case}
use Rattle.std.proofs.lemmas.Bool.{and_parts, and_from, or_parts}
use Rattle.std.proofs.lemmas.Bool.Decides.{nat_tests}
use Rattle.std.proofs.lemmas.Int.{ints}
use Rattle.std.proofs.lemmas.Fmt.{digits_decimal, digits_value-decimal, decimal_nonempty}
use Rattle.std.proofs.lemmas.List.{take_at, drop_at}
use Rattle.pf_base.specs.Arithmetic.{clamp}
use Rattle.pf_base.specs.LabelSets.{goes_on}
use Rattle.pf_base.specs.DurationTexts.{IsDuration}
use Rattle.pf_base.specs.NumberScans.{decimal_of}
use Rattle.pf_base.specs.NumberTexts.{decimal_micros, micros_text, number_after}
use Rattle.pf_model.specs.Cuts.{only_if}
use Rattle.pf_base.proofs.ReadBack.{clamp_value, micros_are, own}
use Rattle.pf_base.proofs.Digits.{both}
use Rattle.pf_base.proofs.Readings.{bool_cases, decimal_spelled}
use Rattle.pf_model.specs.Canonical.{millis_text, string_byte, string_bytes_of, string_text}
use Rattle.pf_model.specs.TokenScans.{duration_form, form, number_form}
use Rattle.pf_model.specs.Tokens.{Sort, number, duration, string, word, has_letter, is_blank, is_sign, is_word, may_precede, piece, separators, sign, string_from, with_piece, writes}
use Rattle.pf_model.specs.FirstBytes.{begins_mark, begins_quantity, begins_string, begins_word, first_passes}
use Rattle.pf_lex.specs.Quotes.{end_behind, quoted_end, string_end}
use Rattle.pf_lex.specs.Scans.{is_word_byte, MarksTwo}
use Rattle.pf_lex.specs.Seen.{mark_text, written}
use Rattle.pf_lex.specs.declared.token.Mark.{Mark}
use Rattle.pf_model.proofs.LongestToken.{in_front}
use Rattle.pf_lex.proofs.Marks.{one_in_front, two_in_front}
use Rattle.pf_lex.proofs.Numbers.{no_number, number_ends, number_first}
use Rattle.pf_lex.proofs.Quantities.{fits_by, none_by, no_duration_over, duration_none, form_of_duration}
use Rattle.pf_lex.proofs.Spelled.{IsSpelled}
use Rattle.pf_lex.proofs.Strings.{string_in_front}
use Rattle.pf_lex.proofs.Words.{word_in_front}

-- ---- bytes in front of others

front_len : (p : ℕ → Bool) (xs rest : List ℕ) → list_all p xs ≡ true → first_passes p rest ≡ false → prefix_len p (xs ++ rest) ≡ length xs
front_len p [] [] h k = refl
front_len p [] (b ∷ bs) h k = rw k refl
front_len p (x ∷ xs) rest h k =
    let parts = and_parts (p x) (list_all p xs) h in
    let e = parts.0 in
    rw e (ap (λ n. 1 + n) (front_len p xs rest parts.1 k) ∙ one (length xs))
  where
    one : (n : ℕ) → 1 + n ≡ suc n
    one n = omega arith

behind_front : (xs rest : List ℕ) → drop (length xs) (xs ++ rest) ≡ rest
behind_front xs rest = drop_at xs rest (length xs) refl

the_front : (xs rest : List ℕ) → take (length xs) (xs ++ rest) ≡ xs
the_front xs rest = take_at xs rest (length xs) refl

-- ---- words

word_near : (b : ℕ) (bs : List ℕ) → begins_word b ≡ true → separators false (b ∷ bs) ≡ 0
word_near b bs h =
    let e : (is_blank b || nat_eq b 35) ≡ false = grind (arith, nat_tests) in
    rw e refl

pub word_text : (xs rest : List ℕ) → is_word xs ≡ true → str_eq_ignore_ascii_case xs (codes "nan") ≡ false → str_eq_ignore_ascii_case xs (codes "inf") ≡ false
    → first_passes is_word_byte rest ≡ false → IsSpelled false xs rest (word xs)
word_text [] rest h nan inf k = cc
word_text (b ∷ bs) rest h nan inf k =
    let xs = b ∷ bs in
    let parts = and_parts (begins_word b) (list_all is_word_byte bs) h in
    let all : list_all is_word_byte xs ≡ true = and_from (is_word_byte b) (list_all is_word_byte bs) (start b parts.0) parts.1 in
    let len : length xs ≡ prefix_len is_word_byte (xs ++ rest) = sym (front_len is_word_byte xs rest all k) in
    let front = the_front xs rest in
    let w = word_in_front (xs ++ rest) (length xs) parts.0 len (ap (λ ys. str_eq_ignore_ascii_case ys (codes "nan")) front ∙ nan) (ap (λ ys. str_eq_ignore_ascii_case ys (codes "inf")) front ∙ inf) in
    record {
      near = word_near b (bs ++ rest) parts.0;
      token = w.token ∙ ap (λ ys. Some (record { from = 0; to = length xs; sort = word ys })) front;
    }
  where
    start : (b : ℕ) → begins_word b ≡ true → is_word_byte b ≡ true
    start b h = grind (arith, nat_tests)

-- ---- numbers and durations

quantity_near : (b : ℕ) (bs : List ℕ) → begins_quantity b ≡ true → separators false (b ∷ bs) ≡ 0
quantity_near b bs h =
    let e : (is_blank b || nat_eq b 35) ≡ false = grind (arith, nat_tests) in
    rw e refl

first_near : (bytes : List ℕ) → first_passes begins_quantity bytes ≡ true → separators false bytes ≡ 0
first_near [] h = cc
first_near (b ∷ bs) h = quantity_near b bs h

first_of : (xs rest : List ℕ) (p : ℕ → Bool) → first_passes p xs ≡ true → first_passes p (xs ++ rest) ≡ true
first_of [] rest p h = cc
first_of (b ∷ bs) rest p h = h

some_of : (xs : List ℕ) (p : ℕ → Bool) → first_passes p xs ≡ true → 1 ≤ length xs
some_of [] p h = cc
some_of (b ∷ bs) p h = omega arith

no_letter : (rest : List ℕ) → first_passes goes_on rest ≡ false → has_letter rest ≡ false
no_letter [] h = refl
no_letter (b ∷ bs) h = h

-- more bytes than the token's are it and some of the rest
beyond : (xs rest : List ℕ) (m : ℕ) → length xs < m → m ≤ length (xs ++ rest) → take m (xs ++ rest) ≡ xs ++ take (m - length xs) rest
beyond [] rest m low high = ap (λ n. take n rest) (omega arith)
beyond (x ∷ xs) rest zero low high = absurd (omega (arith, low))
beyond (x ∷ xs) rest (suc m) low high =
    let e : suc m - length (x ∷ xs) ≡ m - length xs = omega arith in
    ap (λ ys. x ∷ ys) (beyond xs rest m (omega (arith, low)) (omega (arith, high))) ∙ ap (λ n. x ∷ (xs ++ take n rest)) (sym e)

-- what may stand behind a number: no letter, digit, `_` or point
abbrev pub goes_on_number : ℕ → Bool
goes_on_number b = goes_on b || nat_eq b 46

number_alone : (xs rest : List ℕ) (n : ℕ) → is_some (decimal_of xs) ≡ true → first_passes goes_on_number rest ≡ false → 0 < n → n ≤ length rest → number_form (xs ++ take n rest) ≡ None
number_alone xs [] n h k some within = absurd (omega (arith, some, within))
number_alone xs (b ∷ bs) zero h k some within = absurd (omega (arith, some))
number_alone xs (b ∷ bs) (suc n) h k some within =
    let parts = or_parts (goes_on b) (nat_eq b 46) k in
    no_number (xs ++ (b ∷ take n bs)) (number_ends xs b (take n bs) h parts.0 parts.1)

letters_too : (rest : List ℕ) → first_passes goes_on_number rest ≡ false → first_passes goes_on rest ≡ false
letters_too [] h = refl
letters_too (b ∷ bs) h = (or_parts (goes_on b) (nat_eq b 46) h).0

pub quantity_text : (inside : Bool) (xs rest : List ℕ) (s : Sort) → first_passes begins_quantity xs ≡ true → first_passes goes_on rest ≡ false
    → option_or (number_form xs) (duration_form xs) ≡ Some s → may_precede s rest ≡ not (has_letter rest) → ((n : ℕ) → 0 < n → n ≤ length rest → number_form (xs ++ take n rest) ≡ None)
    → IsSpelled inside xs rest s
quantity_text inside xs rest s first alone fits free none =
    let bytes = xs ++ rest in
    let n = length xs in
    let begins = first_of xs rest begins_quantity first in
    let some = some_of xs begins_quantity first in
    let within : n ≤ length bytes = omega (arith, length-append xs rest) in
    let front = the_front xs rest in
    let behind = behind_front xs rest in
    let f : form inside (take n bytes) ≡ Some s = fits_by inside bytes n begins some ∙ ap (λ ys. option_or (number_form ys) (duration_form ys)) front ∙ fits in
    let letter : has_letter (drop n bytes) ≡ false = ap has_letter behind ∙ no_letter rest alone in
    let above : (m : ℕ) → n < m → m ≤ length bytes → form inside (take m bytes) ≡ None =
    λ m low high. none_by inside bytes m begins (omega (arith, low))
    (ap number_form (beyond xs rest m low high) ∙ none (m - n) (omega (arith, low)) (omega (arith, high, length-append xs rest)))
    (no_duration_over bytes n m letter low high) in
    let ok : may_precede s (drop n bytes) ≡ true = ap (may_precede s) behind ∙ free ∙ ap not (no_letter rest alone) in
    record {
      near = first_near bytes begins;
      token = in_front inside bytes n s some within f above ∙ ap (λ t. only_if t (record { from = 0; to = n; sort = s })) ok;
    }

-- ---- decimals

record IsNumberText (n : ℕ) : Type 0 where
  some : is_some (decimal_of (micros_text n)) ≡ true
  form : number_form (micros_text n) ≡ Some (number (pos n))

is_number_text : (n : ℕ) → n ≤ 1000000000000000000 → IsNumberText n
is_number_text n h =
    let m = micros_are n h in
    let d = ap decimal_of m.spelled ∙ decimal_spelled m.parts m.lawful in
    let l : nat_le (length (micros_text n)) 128 ≡ true = let k : length (micros_text n) ≤ 128 = omega (arith, m.short) in grind (arith, nat_tests) in
    let v : clamp (pos (decimal_micros m.parts)) ≡ pos n = ap (λ k. clamp (pos k)) m.value ∙ sym (clamp_value (pos n) (omega (arith, ints), omega (arith, ints, h))) in
    record {
      some = ap is_some d;
      form = rw l (ap (option_map (λ d. number (clamp (pos (decimal_micros d))))) d ∙ ap (λ z. Some (number z)) v);
    }

pub number_text : (inside : Bool) (n : ℕ) (rest : List ℕ) → n ≤ 1000000000000000000 → first_passes goes_on_number rest ≡ false → IsSpelled inside (micros_text n) rest (number (pos n))
number_text inside n rest h alone =
    let t = is_number_text n h in
    quantity_text inside (micros_text n) rest (number (pos n)) (number_first (micros_text n) t.some) (letters_too rest alone)
    (ap (λ o. option_or o (duration_form (micros_text n))) t.form) refl
    (λ k some within. number_alone (micros_text n) rest k t.some alone some within)

-- ---- durations

millis_spelled : (n : ℕ) → n ≤ 4398046511103 → IsDuration (millis_text n) n
millis_spelled n h =
    let digits = decimal n in
    let some : 1 ≤ length digits = omega (arith, decimal_nonempty n (omega (arith, h))) in
    let all = digits_decimal own n (omega (arith, h)) in
    let value = digits_value-decimal own n (omega (arith, h)) in (
      omega (arith, some, length-append digits (codes "ms")),
      inl (inl (inl (inl (inl (inl (inr (digits, ([], (0, (some, all, refl, sum n (number_after 0 digits) value, (refl, refl))))))))))),
    )
  where
    sum : (n v : ℕ) → v ≡ n → n ≡ v * 1 + 0
    sum n v e = omega (arith, e)

digits_first : (ds rest : List ℕ) → 1 ≤ length ds → all_ascii_digits ds ≡ true → first_passes begins_quantity (ds ++ rest) ≡ true
digits_first [] rest some h = absurd (omega (arith, some))
digits_first (d ∷ ds) rest some h = let e = (both (is_ascii_digit d) (all_ascii_digits ds) h).0 in rw e refl

pub duration_text : (inside : Bool) (n : ℕ) (rest : List ℕ) → n ≤ 4398046511103 → first_passes goes_on rest ≡ false → IsSpelled inside (millis_text n) rest (duration n)
duration_text inside n rest h alone =
    let xs = millis_text n in
    let d = (form_of_duration xs n (millis_spelled n h)).0 in
    let some : 1 ≤ length (decimal n) = omega (arith, decimal_nonempty n (omega (arith, h))) in
    let other : number_form xs ≡ None = ap number_form (sym (append-nil xs)) ∙ duration_none xs [] (duration n) d in
    quantity_text inside xs rest (duration n) (digits_first (decimal n) (codes "ms") some (digits_decimal own n (omega (arith, h)))) alone
    (ap (λ o. option_or o (duration_form xs)) other ∙ d) refl (λ k low high. duration_none xs (take k rest) (duration n) d)

-- ---- strings

record IsByte (b : ℕ) : Type 0 where
  ends : (ys : List ℕ) → quoted_end 34 zero (string_byte b ++ ys) ≡ option_map (λ n. length (string_byte b) + n) (quoted_end 34 zero ys)
  stands : (ys : List ℕ) → string_from 34 zero (string_byte b ++ ys) ≡ option_map (λ w. b ∷ w) (string_from 34 zero ys)

add_one : (o : Option ℕ) → option_map suc o ≡ option_map (λ n. 1 + n) o
add_one None = refl
add_one (Some n) = ap Some (omega arith)

add_two : (o : Option ℕ) → option_map suc (option_map suc o) ≡ option_map (λ n. 2 + n) o
add_two None = refl
add_two (Some n) = ap Some (omega arith)

onto : (b : ℕ) (o : Option (List ℕ)) → option_map (λ w. (b ∷ []) ++ w) o ≡ option_map (λ w. b ∷ w) o
onto b None = refl
onto b (Some w) = refl

is_byte : (b : ℕ) → IsByte b
is_byte b = elim (bool_cases (nat_eq b 92)) [
  | inl t ↦ subst IsByte (sym (same b 92 t)) (record { ends = λ ys. add_two (quoted_end 34 zero ys); stands = λ ys. onto 92 (string_from 34 zero ys) })
  | inr n ↦ elim (bool_cases (nat_eq b 34)) [
    | inl t ↦ subst IsByte (sym (same b 34 t)) (record { ends = λ ys. add_two (quoted_end 34 zero ys); stands = λ ys. onto 34 (string_from 34 zero ys) })
    | inr m ↦ elim (bool_cases (nat_eq b 10)) [
      | inl t ↦ subst IsByte (sym (same b 10 t)) (record { ends = λ ys. add_two (quoted_end 34 zero ys); stands = λ ys. onto 10 (string_from 34 zero ys) })
      | inr k ↦ plain b n m k
    ]
  ]
]
  where
    same : (b c : ℕ) → nat_eq b c ≡ true → b ≡ c
    same b c h = grind (arith, nat_tests)

    plain : (b : ℕ) → nat_eq b 92 ≡ false → nat_eq b 34 ≡ false → nat_eq b 10 ≡ false → IsByte b
    plain b n m k =
        let t : string_byte b ≡ b ∷ [] = rw (n, m, k) refl in
        let p : (ys : List ℕ) → piece 34 b ys ≡ writes (b ∷ []) 0 = λ ys. rw (m, k, n) refl in
        record {
          ends = λ ys.
              ap (λ xs. quoted_end 34 zero (xs ++ ys)) t ∙ ap (λ q. end_behind q (λ further. quoted_end 34 further ys)) (p ys) ∙ add_one (quoted_end 34 zero ys)
              ∙ ap (λ xs. option_map (λ n. length xs + n) (quoted_end 34 zero ys)) (sym t);
          stands = λ ys.
              ap (λ xs. string_from 34 zero (xs ++ ys)) t ∙ ap (λ q. with_piece q ys (λ further. string_from 34 further ys)) (p ys) ∙ onto b (string_from 34 zero ys);
        }

bytes_end : (bytes rest : List ℕ) → quoted_end 34 zero (string_bytes_of bytes ++ (34 ∷ rest)) ≡ Some (length (string_bytes_of bytes) + 1)
bytes_end [] rest = refl
bytes_end (b ∷ bs) rest =
    ap (quoted_end 34 zero) (append_assoc (string_byte b) (string_bytes_of bs) (34 ∷ rest)) ∙ (is_byte b).ends (string_bytes_of bs ++ (34 ∷ rest))
    ∙ ap (option_map (λ n. length (string_byte b) + n)) (bytes_end bs rest) ∙ ap Some (omega (arith, length-append (string_byte b) (string_bytes_of bs)))

bytes_stand : (bytes : List ℕ) → string_from 34 zero (string_bytes_of bytes ++ (34 ∷ [])) ≡ Some bytes
bytes_stand [] = refl
bytes_stand (b ∷ bs) =
    ap (string_from 34 zero) (append_assoc (string_byte b) (string_bytes_of bs) (34 ∷ [])) ∙ (is_byte b).stands (string_bytes_of bs ++ (34 ∷ []))
    ∙ ap (option_map (λ w. b ∷ w)) (bytes_stand bs)

pub string_spelled : (inside : Bool) (bytes rest : List ℕ) → IsSpelled inside (string_text bytes) rest (string bytes)
string_spelled inside bytes rest =
    let xs = string_text bytes in
    let end : string_end (xs ++ rest) ≡ Some (length xs) =
    ap (λ ys. option_map suc (quoted_end 34 zero ys)) (append_assoc (string_bytes_of bytes) (34 ∷ []) rest) ∙ ap (option_map suc) (bytes_end bytes rest)
    ∙ ap Some (sum (length (string_bytes_of bytes)) (length (string_bytes_of bytes ++ (34 ∷ []))) (length-append (string_bytes_of bytes) (34 ∷ []))) in
    let value : written xs ≡ bytes = ap (λ o. unwrap_or o []) (bytes_stand bytes) in
    record {
      near = refl;
      token = (string_in_front inside (xs ++ rest) (length xs) refl end).token
          ∙ ap (λ ys. Some (record { from = 0; to = length xs; sort = string (written ys) })) (the_front xs rest) ∙ ap (λ w. Some (record { from = 0; to = length xs; sort = string w })) value;
    }
  where
    sum : (n m : ℕ) → m ≡ n + 1 → suc (n + 1) ≡ suc m
    sum n m e = omega (arith, e)

-- ---- signs

begins_sign : (inside : Bool) (b : ℕ) → begins_quantity b ≡ false → begins_string b ≡ false → begins_word b ≡ false → begins_mark inside b ≡ true
begins_sign inside b q s w = ap (λ t. not t && (not (begins_string b) && not (not inside && begins_word b))) q ∙ ap (λ t. not t && not (not inside && begins_word b)) s ∙ ap (λ t. not (not inside && t)) w ∙ by inside
  where
    by : (t : Bool) → not (not t && false) ≡ true
    by true = refl
    by false = refl

no_two : (bytes : List ℕ) (b : ℕ) (rest : List ℕ) → bytes ≡ b ∷ rest → ((c : ℕ) (cs : List ℕ) → rest ≡ c ∷ cs → is_sign false (b ∷ (c ∷ [])) ≡ false) → MarksTwo bytes None
no_two bytes b [] e f = λ two. absurd (omega (arith, two, ap length e))
no_two bytes b (c ∷ cs) e f = λ two. ap (λ xs. is_sign false (take 2 xs)) e ∙ f c cs refl

-- a sign of one byte, where what follows makes it none of two
pub one_spelled : (inside : Bool) (m : Mark) (b : ℕ) (rest : List ℕ) → mark_text m ≡ b ∷ [] → begins_mark inside b ≡ true → is_sign inside (b ∷ []) ≡ true → (is_blank b || nat_eq b 35) ≡ false
    → ((c : ℕ) (cs : List ℕ) → rest ≡ c ∷ cs → is_sign false (b ∷ (c ∷ [])) ≡ false) → IsSpelled inside (b ∷ []) rest (sign (b ∷ []))
one_spelled inside m b rest e first is near f =
    let t = one_in_front inside (b ∷ rest) m first (no_two (b ∷ rest) b rest refl f) (is, e) in
    record {
      near = rw near refl;
      token = t.token ∙ ap (λ xs. Some (record { from = 0; to = 1; sort = sign xs })) e;
    }

pub two_spelled : (inside : Bool) (m : Mark) (b c : ℕ) (rest : List ℕ) → mark_text m ≡ b ∷ (c ∷ []) → begins_mark inside b ≡ true → is_sign false (b ∷ (c ∷ [])) ≡ true → (is_blank b || nat_eq b 35) ≡ false
    → IsSpelled inside (b ∷ (c ∷ [])) rest (sign (b ∷ (c ∷ [])))
two_spelled inside m b c rest e first is near =
    let t = two_in_front inside (b ∷ (c ∷ rest)) m first (omega arith, is, e) in
    record {
      near = rw near refl;
      token = t.token ∙ ap (λ xs. Some (record { from = 0; to = 2; sort = sign xs })) e;
    }
