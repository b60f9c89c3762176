-- The tokens of a query's text. Prometheus, Querying basics: Literals, Comments; that a number is cut to micros and has at
-- most 128 bytes, and that `nan` is refused, is this project's own.
use Rattle.std.specs.Prelude.{◌≡◌, ℕ, zero, suc, ℤ, ◌+◌, ◌*◌, ◌<◌, ◌&&◌, ◌||◌, Bool, true, false, not, cond, codes, encode_utf8, option_map, List, [], ◌∷◌, ◌++◌, drop, length, take, nat_eq, Option, Some, None, ◌⊎◌, ◌-◌, ◌≤◌}
use lib.Utf8.{scalar}
use Rattle.std.specs.Char.{digit_value, is_ascii_hexdigit}
use Rattle.std.specs.List.{list_all, list_any}
use Rattle.std.specs.Str.{bytes_eq, str_eq_ignore_ascii_case}
use Rattle.pf_base.specs.DurationTexts.{IsDuration}
use Rattle.pf_base.specs.LabelSets.{goes_on, is_empty, starts_name}
use Rattle.pf_base.specs.Limits.{greatest_value}
use Rattle.pf_base.specs.NumberTexts.{IsNumber, bare}
use Rattle.pf_model.specs.Cuts.{only_if}

-- what a token is: a word, a number in micros, a duration in milliseconds, the bytes of a string, or a sign
pub data Sort : Type 0 where
  word : List ℕ → Sort
  number : ℤ → Sort
  duration : ℕ → Sort
  string : List ℕ → Sort
  sign : List ℕ → Sort

-- a token with its first byte's place and the place behind its last
pub record Token : Type 0 where
  pub from : ℕ
  pub to : ℕ
  pub sort : Sort

-- ---- what separates tokens

abbrev pub is_blank : ℕ → Bool
is_blank b = nat_eq b 32 || nat_eq b 9 || nat_eq b 13 || nat_eq b 10

-- the number of bytes in front that separate tokens: blanks, ends of lines, and comments from `#` to the line's end
abbrev pub separators : (in_comment : Bool) → List ℕ → ℕ
separators in_comment [] = 0
separators in_comment (b ∷ bs) =
    cond (in_comment || is_blank b || nat_eq b 35) (1 + separators (not (nat_eq b 10) && (in_comment || nat_eq b 35)) bs) 0

-- ---- words

-- `[a-zA-Z_:][a-zA-Z0-9_:]*`
abbrev pub is_word : List ℕ → Bool
is_word [] = false
is_word (b ∷ bs) = (starts_name b || nat_eq b 58) && list_all (λ c. goes_on c || nat_eq c 58) bs

-- ---- strings

-- what stands next in a string: its end, nothing lawful, or what writes some bytes and takes so many more
pub data Piece : Type 0 where
  ends : Piece
  wrong : Piece
  writes : (bytes : List ℕ) → (further : ℕ) → Piece

-- the letters behind a backslash, and what they write
abbrev pub escapes : List (ℕ × ℕ)
escapes = (97, 7) ∷ (98, 8) ∷ (102, 12) ∷ (110, 10) ∷ (114, 13) ∷ (116, 9) ∷ (118, 11) ∷ (92, 92) ∷ []

abbrev pub escaped_by : ℕ → List (ℕ × ℕ) → Piece
escaped_by b [] = wrong
escaped_by b (e ∷ es) = cond (nat_eq e.0 b) (writes (e.1 ∷ []) 1) (escaped_by b es)

abbrev pub hexadecimal : ℕ → List ℕ → ℕ
hexadecimal n [] = n
hexadecimal n (d ∷ ds) = hexadecimal (n * 16 + digit_value d) ds

-- the character that so many hexadecimal digits name, as UTF-8
abbrev pub character : ℕ → List ℕ → Piece
character n bytes =
    let digits = take n bytes in
    cond (nat_eq (length digits) n && list_all is_ascii_hexdigit digits && scalar (hexadecimal 0 digits))
    (writes (encode_utf8 (hexadecimal 0 digits)) (1 + n)) wrong

-- what stands behind a backslash: the string's own quote, `u` with four digits, `U` with eight, or a letter
abbrev pub escape : ℕ → List ℕ → Piece
escape quote [] = wrong
escape quote (b ∷ bs) =
    cond (nat_eq b quote) (writes (b ∷ []) 1)
    (cond (nat_eq b 117) (character 4 bs) (cond (nat_eq b 85) (character 8 bs) (escaped_by b escapes)))

abbrev pub piece : ℕ → ℕ → List ℕ → Piece
piece quote b bs =
    cond (nat_eq b quote) ends (cond (nat_eq b 10) wrong (cond (nat_eq b 92) (escape quote bs) (writes (b ∷ []) 0)))

-- a string ends with its bytes, and not before
abbrev pub with_piece : Piece → List ℕ → (ℕ → Option (List ℕ)) → Option (List ℕ)
with_piece ends bs more = only_if (is_empty bs) []
with_piece wrong bs more = None
with_piece (writes bytes further) bs more = option_map (λ written. bytes ++ written) (more further)

-- what bytes behind an opening quote stand for; `passed` of them belong to the piece before
abbrev pub string_from : ℕ → (passed : ℕ) → List ℕ → Option (List ℕ)
string_from quote passed [] = None
string_from quote (suc passed) (b ∷ bs) = string_from quote passed bs
string_from quote zero (b ∷ bs) = with_piece (piece quote b bs) bs (λ further. string_from quote further bs)

-- in backquotes each byte stands for itself
abbrev pub raw_from : List ℕ → Option (List ℕ)
raw_from [] = None
raw_from (b ∷ bs) = cond (nat_eq b 96) (only_if (is_empty bs) []) (option_map (λ written. b ∷ written) (raw_from bs))

abbrev pub string_form : List ℕ → Option Sort
string_form [] = None
string_form (b ∷ bs) =
    cond (nat_eq b 34 || nat_eq b 39) (option_map string (string_from b zero bs))
    (cond (nat_eq b 96) (option_map string (raw_from bs)) None)

-- ---- signs

abbrev pub signs : List (List ℕ)
signs =
    codes "(" ∷ codes ")" ∷ codes "{" ∷ codes "}" ∷ codes "[" ∷ codes "]" ∷ codes "," ∷ codes "@" ∷ codes "+" ∷ codes "-"
    ∷ codes "*" ∷ codes "/" ∷ codes "%" ∷ codes "==" ∷ codes "!=" ∷ codes "<=" ∷ codes "<" ∷ codes ">=" ∷ codes ">"
    ∷ codes "=" ∷ codes "=~" ∷ codes "!~" ∷ []

-- inside square brackets `:` is a sign, and there are no words
abbrev pub is_sign : (inside : Bool) → List ℕ → Bool
is_sign inside bytes = list_any (bytes_eq bytes) signs || (inside && bytes_eq bytes (codes ":"))

-- ---- tokens

-- `inf`, in any case of letters
abbrev pub is_infinite : List ℕ → Bool
is_infinite bytes = str_eq_ignore_ascii_case bytes (codes "inf")

-- bytes are a token: a word; a number without a sign, or `inf` as the greatest; a duration; a string; or a sign
abbrev pub Forms : (inside : Bool) → List ℕ → Sort → Type 0
Forms inside bytes (word w) = (inside ≡ false) × (is_word bytes ≡ true) × (is_infinite bytes ≡ false) × (w ≡ bytes)
Forms inside bytes (number micros) =
    ((inside ≡ false) × (is_word bytes ≡ true) × (is_infinite bytes ≡ true) × (micros ≡ greatest_value))
    ⊎ ((n : IsNumber bytes micros) × (n.sign ≡ bare))
Forms inside bytes (duration millis) = IsDuration bytes millis
Forms inside bytes (string written) = string_form bytes ≡ Some (string written)
Forms inside bytes (sign s) = (is_sign inside bytes ≡ true) × (s ≡ bytes)

-- a letter, a digit or `_` stands in front
abbrev pub has_letter : List ℕ → Bool
has_letter [] = false
has_letter (b ∷ bs) = goes_on b

-- no letter, digit or `_` follows a number or a duration at once, and `nan` is no token
abbrev pub may_precede : Sort → List ℕ → Bool
may_precede (word bytes) behind = not (str_eq_ignore_ascii_case bytes (codes "nan"))
may_precede (number micros) behind = not (has_letter behind)
may_precede (duration millis) behind = not (has_letter behind)
may_precede (string bytes) behind = true
may_precede (sign bytes) behind = true

-- a text's bytes from one place to another
abbrev pub part : List ℕ → ℕ → ℕ → List ℕ
part text from to = take (to - from) (drop from text)

-- the longest part of a text from a place on that is a token, where what follows it lets it be one
pub record IsToken (inside : Bool) (text : List ℕ) (t : Token) : Type 0 where
  pub some : t.from < t.to
  pub within : t.to ≤ length text
  pub forms : Forms inside (part text t.from t.to) t.sort
  pub longest : (to : ℕ) (s : Sort) → t.to < to → to ≤ length text → Forms inside (part text t.from to) s → ⊥
  pub alone : may_precede t.sort (drop t.to text) ≡ true

-- whether what follows a token is inside square brackets
abbrev pub inside_behind : Bool → Sort → Bool
inside_behind inside (sign bytes) = not (bytes_eq bytes (codes "]")) && (inside || bytes_eq bytes (codes "["))
inside_behind inside _ = inside

abbrev pub inside_after : Bool → List Token → Bool
inside_after inside [] = inside
inside_after inside (t ∷ ts) = inside_after (inside_behind inside t.sort) ts

abbrev pub end_of : ℕ → List Token → ℕ
end_of at [] = at
end_of at (t ∷ ts) = end_of t.to ts

-- the place behind what separates tokens
abbrev pub next_at : List ℕ → ℕ → ℕ
next_at text at = at + separators false (drop at text)

-- from a place on these are the next tokens of a text
abbrev pub BeginsWith : (text : List ℕ) → (inside : Bool) → (at : ℕ) → List Token → Type 0
BeginsWith text inside at [] = Unit {0}
BeginsWith text inside at (t ∷ ts) =
    (next_at text at ≡ t.from) × IsToken inside text t × BeginsWith text (inside_behind inside t.sort) t.to ts

-- the tokens of a text
pub record AreTokens (text : List ℕ) (tokens : List Token) : Type 0 where
  pub begins : BeginsWith text false 0 tokens
  pub whole : next_at text (end_of 0 tokens) ≡ length text

-- the first place of a text where no token begins
pub record IsBadToken (text : List ℕ) (at : ℕ) : Type 0 where
  pub before : List Token
  pub begins : BeginsWith text false 0 before
  pub place : next_at text (end_of 0 before) ≡ at
  pub within : at < length text
  pub bad : (t : Token) → t.from ≡ at → IsToken (inside_after false before) text t → ⊥
