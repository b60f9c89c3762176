-- What the tokens of a text are seen as: this project's own.
use Rattle.std.specs.Prelude.{ℕ, zero, ◌||◌, ◌<◌, ◌≤◌, cond, length, codes, nat_eq, slice_range, unwrap_or, Option, Some, None, List, [], ◌∷◌}
use Rattle.std.specs.Str.{IsCharBoundary}
use Rattle.pf_base.specs.DurationScans.{total_of}
use Rattle.pf_base.specs.DurationTexts.{units}
use Rattle.pf_base.specs.Limits.{greatest_time}
use Rattle.pf_model.specs.Parsing.{most_bytes}
use Rattle.pf_model.specs.Tokens as definition
use Rattle.pf_model.specs.Tokens.{Sort, word, number, duration, string, sign, raw_from, string_from}
use Rattle.pf_lex.specs.declared.token.Mark.{Mark}
use Rattle.pf_lex.specs.declared.token.Mark.TheVariants as mark
use Rattle.pf_lex.specs.declared.token.TokenSort.{TokenSort}
use Rattle.pf_lex.specs.declared.token.TokenSort.TheVariants as sort
use Rattle.pf_lex.specs.declared.token.Token.{Token}
use Rattle.pf_lex.specs.declared.token.LexError.{LexError}
use Rattle.pf_lex.specs.declared.token.LexError.TheVariants as error

abbrev pub mark_text : Mark → List ℕ
mark_text mark.Open = codes "("
mark_text mark.Close = codes ")"
mark_text mark.OpenBrace = codes "{"
mark_text mark.CloseBrace = codes "}"
mark_text mark.OpenSquare = codes "["
mark_text mark.CloseSquare = codes "]"
mark_text mark.Comma = codes ","
mark_text mark.Colon = codes ":"
mark_text mark.At = codes "@"
mark_text mark.Plus = codes "+"
mark_text mark.Minus = codes "-"
mark_text mark.Times = codes "*"
mark_text mark.Over = codes "/"
mark_text mark.Percent = codes "%"
mark_text mark.DoubleEqual = codes "=="
mark_text mark.NotEqual = codes "!="
mark_text mark.AtMost = codes "<="
mark_text mark.Below = codes "<"
mark_text mark.AtLeast = codes ">="
mark_text mark.Above = codes ">"
mark_text mark.Equal = codes "="
mark_text mark.Like = codes "=~"
mark_text mark.NotLike = codes "!~"

-- the bytes that a string's text with its quotes stands for; none where the text is no string
abbrev pub written : List ℕ → List ℕ
written [] = []
written (b ∷ bs) = unwrap_or (cond (nat_eq b 96) (raw_from bs) (cond (nat_eq b 34 || nat_eq b 39) (string_from b zero bs) None)) []

-- milliseconds that are not given are read from the token's text
abbrev pub millis_of : List ℕ → Option ℕ → ℕ
millis_of text None = total_of units text
millis_of text (Some n) = n

-- what a token with this text is
abbrev pub sort_of : List ℕ → TokenSort → Sort
sort_of text sort.Word = word text
sort_of text (sort.Number micros) = number micros
sort_of text (sort.Duration millis) = duration (millis_of text millis)
sort_of text sort.String = string (written text)
sort_of text (sort.Mark m) = sign (mark_text m)

-- the part of a text that is a token
abbrev pub text_of : List ℕ → Token → List ℕ
text_of text t = slice_range text t.from t.to

abbrev pub token_of : List ℕ → Token → definition.Token
token_of text t = record { from = t.from; to = t.to; sort = sort_of (text_of text t) t.sort }

-- milliseconds are given exactly where they are at most the greatest time
abbrev pub AreGiven : List ℕ → Option ℕ → Type 0
AreGiven text None = greatest_time < total_of units text
AreGiven text (Some n) = n ≤ greatest_time

abbrev pub IsExact : List ℕ → TokenSort → Type 0
IsExact text sort.Word = Unit {0}
IsExact text (sort.Number micros) = Unit {0}
IsExact text (sort.Duration millis) = AreGiven text millis
IsExact text sort.String = Unit {0}
IsExact text (sort.Mark m) = Unit {0}

-- a token is some part of the text, and whole characters
pub record IsTokenOf (text : List ℕ) (t : Token) : Type 0 where
  pub exact : IsExact (text_of text t) t.sort
  pub some : t.from < t.to
  pub within : t.to ≤ length text
  pub starts : IsCharBoundary text t.from
  pub ends : IsCharBoundary text t.to

-- why a text has no tokens, unless memory ran out
abbrev pub IsFault : List ℕ → LexError → Type 0
IsFault text error.TooLong = most_bytes < length text
IsFault text (error.BadToken at) = definition.IsBadToken text at
IsFault text error.OutOfMemory = Unit {0}
