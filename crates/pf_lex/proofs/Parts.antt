-- Parts of a text, and what they read as in front of others.
use Rattle.std.proofs.Common.{◌≡◌, ◌∙◌, ℕ, ◌≤◌, Bool, true, false, not, ◌&&◌, ◌||◌, List, [], ◌∷◌, ◌++◌, refl, sym, ap, subst, codes, append_assoc, pos}
use Rattle.std.specs.Prelude.{nat_eq}
use Rattle.std.specs.Str.{str_eq_ignore_ascii_case}
use Rattle.std.proofs.lemmas.Bool.{and_parts, not-true, or_parts, or_from}
use Rattle.pf_base.specs.LabelSets.{goes_on}
use Rattle.pf_base.specs.NumberTexts.{micros_text}
use Rattle.pf_model.specs.Canonical as text
use Rattle.pf_model.specs.Canonical.{millis_text, string_text}
use Rattle.pf_model.specs.Lists as list
use Rattle.pf_model.specs.Tokens.{Sort, duration, is_word, number, sign, string, word}
use Rattle.pf_lex.specs.CanonicalTokens.{behind_commas, is_plain_word, separated}
use Rattle.pf_model.specs.FirstBytes.{first_passes}
use Rattle.pf_lex.specs.Scans.{is_word_byte}
use Rattle.pf_lex.specs.declared.token.Mark.TheVariants as mark
use Rattle.pf_lex.proofs.Spelled.{Reads, blank, token}
use Rattle.pf_lex.proofs.TokenTexts.{duration_text, goes_on_number, number_text, one_spelled, string_spelled, two_spelled, word_text}

-- what would join a word, a number or a sign in front of it
abbrev pub joins : ℕ → Bool
joins b = (is_word_byte b || nat_eq b 46) || (nat_eq b 61 || nat_eq b 126)

abbrev pub Apart : List ℕ → Type 0
Apart rest = first_passes joins rest ≡ false

-- a part that any text may follow
pub record Closed (text : List ℕ) (sorts : List Sort) : Type 0 where
  pub put : (rest : List ℕ) (ss : List Sort) → Reads false rest ss → Reads false (text ++ rest) (sorts ++ ss)

-- and that begins apart
pub record Gap (text : List ℕ) (sorts : List Sort) : Type 0 where
  pub put : (rest : List ℕ) (ss : List Sort) → Reads false rest ss → Reads false (text ++ rest) (sorts ++ ss)
  pub apart : (rest : List ℕ) → Apart (text ++ rest)

-- a part that a text apart may follow
pub record Part (text : List ℕ) (sorts : List Sort) : Type 0 where
  pub put : (rest : List ℕ) (ss : List Sort) → Apart rest → Reads false rest ss → Reads false (text ++ rest) (sorts ++ ss)

-- and that is empty or begins apart
pub record Optional (text : List ℕ) (sorts : List Sort) : Type 0 where
  pub put : (rest : List ℕ) (ss : List Sort) → Apart rest → Reads false rest ss → Reads false (text ++ rest) (sorts ++ ss)
  pub apart : (rest : List ℕ) → Apart rest → Apart (text ++ rest)

-- ---- parts one behind the other

grouped : (a b rest : List ℕ) (ks ls ss : List Sort) → Reads false (a ++ (b ++ rest)) (ks ++ (ls ++ ss)) → Reads false ((a ++ b) ++ rest) ((ks ++ ls) ++ ss)
grouped a b rest ks ls ss h = subst (λ xs. Reads false xs ((ks ++ ls) ++ ss)) (sym (append_assoc a b rest)) (subst (Reads false (a ++ (b ++ rest))) (sym (append_assoc ks ls ss)) h)

grouped_apart : (a b rest : List ℕ) → Apart (a ++ (b ++ rest)) → Apart ((a ++ b) ++ rest)
grouped_apart a b rest h = ap (first_passes joins) (append_assoc a b rest) ∙ h

pub closed_closed : {a b : List ℕ} {ks ls : List Sort} → Closed a ks → Closed b ls → Closed (a ++ b) (ks ++ ls)
closed_closed {a} {b} {ks} {ls} h k = record { put = λ rest ss r. grouped a b rest ks ls ss (h.put (b ++ rest) (ls ++ ss) (k.put rest ss r)) }

pub closed_part : {a b : List ℕ} {ks ls : List Sort} → Closed a ks → Part b ls → Part (a ++ b) (ks ++ ls)
closed_part {a} {b} {ks} {ls} h k = record { put = λ rest ss e r. grouped a b rest ks ls ss (h.put (b ++ rest) (ls ++ ss) (k.put rest ss e r)) }

pub part_gap : {a b : List ℕ} {ks ls : List Sort} → Part a ks → Gap b ls → Closed (a ++ b) (ks ++ ls)
part_gap {a} {b} {ks} {ls} h k = record { put = λ rest ss r. grouped a b rest ks ls ss (h.put (b ++ rest) (ls ++ ss) (k.apart rest) (k.put rest ss r)) }

pub part_option : {a b : List ℕ} {ks ls : List Sort} → Part a ks → Optional b ls → Part (a ++ b) (ks ++ ls)
part_option {a} {b} {ks} {ls} h k = record { put = λ rest ss e r. grouped a b rest ks ls ss (h.put (b ++ rest) (ls ++ ss) (k.apart rest e) (k.put rest ss e r)) }

pub option_option : {a b : List ℕ} {ks ls : List Sort} → Optional a ks → Optional b ls → Optional (a ++ b) (ks ++ ls)
option_option {a} {b} {ks} {ls} h k = record {
  put = λ rest ss e r. grouped a b rest ks ls ss (h.put (b ++ rest) (ls ++ ss) (k.apart rest e) (k.put rest ss e r));
  apart = λ rest e. grouped_apart a b rest (h.apart (b ++ rest) (k.apart rest e));
}

pub option_gap : {a b : List ℕ} {ks ls : List Sort} → Optional a ks → Gap b ls → Gap (a ++ b) (ks ++ ls)
option_gap {a} {b} {ks} {ls} h k = record {
  put = λ rest ss r. grouped a b rest ks ls ss (h.put (b ++ rest) (ls ++ ss) (k.apart rest) (k.put rest ss r));
  apart = λ rest. grouped_apart a b rest (h.apart (b ++ rest) (k.apart rest));
}

pub gap_closed : {a b : List ℕ} {ks ls : List Sort} → Gap a ks → Closed b ls → Gap (a ++ b) (ks ++ ls)
gap_closed {a} {b} {ks} {ls} h k = record {
  put = λ rest ss r. grouped a b rest ks ls ss (h.put (b ++ rest) (ls ++ ss) (k.put rest ss r));
  apart = λ rest. grouped_apart a b rest (h.apart (b ++ rest));
}

pub gap_part : {a b : List ℕ} {ks ls : List Sort} → Gap a ks → Part b ls → Optional (a ++ b) (ks ++ ls)
gap_part {a} {b} {ks} {ls} h k = record {
  put = λ rest ss e r. grouped a b rest ks ls ss (h.put (b ++ rest) (ls ++ ss) (k.put rest ss e r));
  apart = λ rest e. grouped_apart a b rest (h.apart (b ++ rest));
}

pub gap_is_closed : {a : List ℕ} {ks : List Sort} → Gap a ks → Closed a ks
gap_is_closed h = record { put = h.put }

pub gap_is_option : {a : List ℕ} {ks : List Sort} → Gap a ks → Optional a ks
gap_is_option h = record { put = λ rest ss e r. h.put rest ss r; apart = λ rest e. h.apart rest }

pub closed_is_part : {a : List ℕ} {ks : List Sort} → Closed a ks → Part a ks
closed_is_part h = record { put = λ rest ss e r. h.put rest ss r }

pub option_is_part : {a : List ℕ} {ks : List Sort} → Optional a ks → Part a ks
option_is_part h = record { put = h.put }

pub nothing : Optional [] []
nothing = record { put = λ rest ss e r. r; apart = λ rest e. e }

-- ---- what is apart

no_word_byte : (rest : List ℕ) → Apart rest → first_passes is_word_byte rest ≡ false
no_word_byte [] h = refl
no_word_byte (b ∷ bs) h = (or_parts (is_word_byte b) (nat_eq b 46) (or_parts (is_word_byte b || nat_eq b 46) (nat_eq b 61 || nat_eq b 126) h).0).0

no_number_byte : (rest : List ℕ) → Apart rest → first_passes goes_on_number rest ≡ false
no_number_byte [] h = refl
no_number_byte (b ∷ bs) h =
    let outer = or_parts (is_word_byte b || nat_eq b 46) (nat_eq b 61 || nat_eq b 126) h in
    let inner = or_parts (is_word_byte b) (nat_eq b 46) outer.0 in
    or_from (goes_on b) (nat_eq b 46) (or_parts (goes_on b) (nat_eq b 58) inner.0).0 inner.1

no_duration_byte : (rest : List ℕ) → Apart rest → first_passes goes_on rest ≡ false
no_duration_byte [] h = refl
no_duration_byte (b ∷ bs) h = (or_parts (goes_on b) (nat_eq b 58) (or_parts (is_word_byte b) (nat_eq b 46) (or_parts (is_word_byte b || nat_eq b 46) (nat_eq b 61 || nat_eq b 126) h).0).0).0

-- ---- single tokens

pub word_read : (w : List ℕ) → is_plain_word w ≡ true → (rest : List ℕ) (ss : List Sort) → first_passes is_word_byte rest ≡ false → Reads false rest ss → Reads false (w ++ rest) (word w ∷ ss)
word_read w h rest ss e r =
    let outer = and_parts (is_word w) (not (str_eq_ignore_ascii_case w (codes "nan")) && not (str_eq_ignore_ascii_case w (codes "inf"))) h in
    let inner = and_parts (not (str_eq_ignore_ascii_case w (codes "nan"))) (not (str_eq_ignore_ascii_case w (codes "inf"))) outer.1 in
    token (word_text w rest outer.0 (not-true _ inner.0) (not-true _ inner.1) e) r

pub a_word : (w : List ℕ) → is_plain_word w ≡ true → Part w (word w ∷ [])
a_word w h = record { put = λ rest ss e r. word_read w h rest ss (no_word_byte rest e) r }

pub a_number : (n : ℕ) → n ≤ 1000000000000000000 → Part (micros_text n) (number (pos n) ∷ [])
a_number n h = record { put = λ rest ss e r. token (number_text false n rest h (no_number_byte rest e)) r }

pub a_duration : (n : ℕ) → n ≤ 4398046511103 → Part (millis_text n) (duration n ∷ [])
a_duration n h = record { put = λ rest ss e r. token (duration_text false n rest h (no_duration_byte rest e)) r }

pub a_string : (bytes : List ℕ) → Closed (string_text bytes) (string bytes ∷ [])
a_string bytes = record { put = λ rest ss r. token (string_spelled false bytes rest) r }

pub a_blank : Gap (codes " ") []
a_blank = record { put = λ rest ss r. blank r; apart = λ rest. refl }

pub open_bracket : Gap (codes "(") (sign (codes "(") ∷ [])
open_bracket = record { put = λ rest ss r. token (one_spelled false mark.Open 40 rest refl refl refl refl (λ c cs e. refl)) r; apart = λ rest. refl }

pub close_bracket : Gap (codes ")") (sign (codes ")") ∷ [])
close_bracket = record { put = λ rest ss r. token (one_spelled false mark.Close 41 rest refl refl refl refl (λ c cs e. refl)) r; apart = λ rest. refl }

pub open_brace : Gap (codes "{") (sign (codes "{") ∷ [])
open_brace = record { put = λ rest ss r. token (one_spelled false mark.OpenBrace 123 rest refl refl refl refl (λ c cs e. refl)) r; apart = λ rest. refl }

pub close_brace : Gap (codes "}") (sign (codes "}") ∷ [])
close_brace = record { put = λ rest ss r. token (one_spelled false mark.CloseBrace 125 rest refl refl refl refl (λ c cs e. refl)) r; apart = λ rest. refl }

pub a_comma : Gap (codes ",") (sign (codes ",") ∷ [])
a_comma = record { put = λ rest ss r. token (one_spelled false mark.Comma 44 rest refl refl refl refl (λ c cs e. refl)) r; apart = λ rest. refl }

pub an_at : Gap (codes "@") (sign (codes "@") ∷ [])
an_at = record { put = λ rest ss r. token (one_spelled false mark.At 64 rest refl refl refl refl (λ c cs e. refl)) r; apart = λ rest. refl }

pub a_minus : Gap (codes "-") (sign (codes "-") ∷ [])
a_minus = record { put = λ rest ss r. token (one_spelled false mark.Minus 45 rest refl refl refl refl (λ c cs e. refl)) r; apart = λ rest. refl }

pub a_plus : Gap (codes "+") (sign (codes "+") ∷ [])
a_plus = record { put = λ rest ss r. token (one_spelled false mark.Plus 43 rest refl refl refl refl (λ c cs e. refl)) r; apart = λ rest. refl }

pub a_times : Gap (codes "*") (sign (codes "*") ∷ [])
a_times = record { put = λ rest ss r. token (one_spelled false mark.Times 42 rest refl refl refl refl (λ c cs e. refl)) r; apart = λ rest. refl }

pub a_slash : Gap (codes "/") (sign (codes "/") ∷ [])
a_slash = record { put = λ rest ss r. token (one_spelled false mark.Over 47 rest refl refl refl refl (λ c cs e. refl)) r; apart = λ rest. refl }

pub a_percent : Gap (codes "%") (sign (codes "%") ∷ [])
a_percent = record { put = λ rest ss r. token (one_spelled false mark.Percent 37 rest refl refl refl refl (λ c cs e. refl)) r; apart = λ rest. refl }

-- `=`, `<` and `>` are signs of one byte where no `=` or `~` follows
next_apart : (b c : ℕ) (rest cs : List ℕ) → Apart rest → rest ≡ c ∷ cs → (nat_eq c 61 ≡ false) × (nat_eq c 126 ≡ false)
next_apart b c rest cs h e = or_parts (nat_eq c 61) (nat_eq c 126) (or_parts (is_word_byte c || nat_eq c 46) (nat_eq c 61 || nat_eq c 126) (sym (ap (first_passes joins) e) ∙ h)).1

pub a_less : Part (codes "<") (sign (codes "<") ∷ [])
a_less = record { put = λ rest ss e r. token (one_spelled false mark.Below 60 rest refl refl refl refl (λ c cs k. let n = (next_apart 60 c rest cs e k).0 in rw n refl)) r }

pub a_greater : Part (codes ">") (sign (codes ">") ∷ [])
a_greater = record { put = λ rest ss e r. token (one_spelled false mark.Above 62 rest refl refl refl refl (λ c cs k. let n = (next_apart 62 c rest cs e k).0 in rw n refl)) r }

pub two_equal : Closed (codes "==") (sign (codes "==") ∷ [])
two_equal = record { put = λ rest ss r. token (two_spelled false mark.DoubleEqual 61 61 rest refl refl refl refl) r }

pub not_equal : Closed (codes "!=") (sign (codes "!=") ∷ [])
not_equal = record { put = λ rest ss r. token (two_spelled false mark.NotEqual 33 61 rest refl refl refl refl) r }

pub at_most : Closed (codes "<=") (sign (codes "<=") ∷ [])
at_most = record { put = λ rest ss r. token (two_spelled false mark.AtMost 60 61 rest refl refl refl refl) r }

pub at_least : Closed (codes ">=") (sign (codes ">=") ∷ [])
at_least = record { put = λ rest ss r. token (two_spelled false mark.AtLeast 62 61 rest refl refl refl refl) r }

-- ---- parts with commas between them

abbrev pub ArePart : List (List ℕ) → List (List Sort) → Type 0
ArePart [] [] = Unit {0}
ArePart [] (s ∷ ss) = ⊥
ArePart (t ∷ ts) [] = ⊥
ArePart (t ∷ ts) (s ∷ ss) = Part t s × ArePart ts ss

pub all_behind : (between : List ℕ) (ts : List (List ℕ)) (ss : List (List Sort)) → Gap between (sign (codes ",") ∷ []) → ArePart ts ss → Optional (list.all_behind between ts) (behind_commas ss)
all_behind between [] [] g h = nothing
all_behind between [] (s ∷ ss) g h = absurd h
all_behind between (t ∷ ts) [] g h = absurd h
all_behind between (t ∷ ts) (s ∷ ss) g h = gap_part g (part_option h.0 (all_behind between ts ss g h.1))

pub all_separated : (between : List ℕ) (ts : List (List ℕ)) (ss : List (List Sort)) → Gap between (sign (codes ",") ∷ []) → ArePart ts ss → Part (list.separated between ts) (separated ss)
all_separated between [] [] g h = option_is_part nothing
all_separated between [] (s ∷ ss) g h = absurd h
all_separated between (t ∷ ts) [] g h = absurd h
all_separated between (t ∷ ts) (s ∷ ss) g h = part_option h.0 (all_behind between ts ss g h.1)

pub bracketed : {t : List ℕ} {s : List Sort} → Part t s → Gap (text.in_brackets t) (sign (codes "(") ∷ (s ++ (sign (codes ")") ∷ [])))
bracketed h = gap_closed open_bracket (part_gap h close_bracket)
