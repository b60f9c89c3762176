-- What a reader of queries sees of a token: a word and the keyword that it is, a sign, or a literal. This project's own.
use Rattle.std.specs.Prelude.{ℕ, ℤ, true, false, cond, codes, List, [], ◌∷◌, ◌≤◌, nat_le, Option, Some, None}
use Rattle.std.specs.Str.{bytes_eq, str_to_ascii_lowercase}
use Rattle.pf_base.specs.Limits.{greatest_time}
use Rattle.pf_lex.specs.declared.token.Mark.{Mark}
use Rattle.pf_lex.specs.declared.token.Mark.TheVariants as mark
use Rattle.pf_lex.specs.Seen.{written}
pub use Rattle.pf_lex.specs.Seen.{mark_text}
use Rattle.pf_model.specs.declared.expr.MatchSign.{MatchSign}
use Rattle.pf_model.specs.declared.expr.MatchSign.TheVariants as match
use Rattle.pf_model.specs.declared.functions.AggOp.TheVariants as aggregation
use Rattle.pf_model.specs.declared.functions.Sign.{Sign}
use Rattle.pf_model.specs.declared.functions.Sign.TheVariants as operator
use Rattle.pf_model.specs.Tokens as token
use Rattle.pf_model.specs.Words.{operator_text, aggregation_word}
use Rattle.pf_parse.specs.declared.keyword.Keyword.{Keyword}
use Rattle.pf_parse.specs.declared.keyword.Keyword.TheVariants as keyword
use Rattle.pf_parse.specs.declared.lexeme.Lexeme.{Lexeme as Shown}
use Rattle.pf_parse.specs.declared.lexeme.Lexeme.TheVariants as shown
pub use Rattle.pf_parse.specs.declared.lexeme.Follow.{Follow}
pub use Rattle.pf_parse.specs.declared.lexeme.Follow.TheVariants.{Operates as operates, OpensSquare as opens_square, Separates as separates, Closes as closes, Stops as stops}

-- a duration past the greatest time is none
pub data Lexeme : Type 0 where
  word : Option Keyword → List ℕ → Lexeme
  number : ℤ → Lexeme
  duration : Option ℕ → Lexeme
  string : List ℕ → Lexeme
  sign : Option Mark → Lexeme

-- ---- keywords

abbrev pub keyword_text : Keyword → List ℕ
keyword_text (keyword.Operator s) = operator_text s
keyword_text keyword.Bool = codes "bool"
keyword_text (keyword.Keys on) = cond on (codes "on") (codes "ignoring")
keyword_text (keyword.Group left) = cond left (codes "group_left") (codes "group_right")
keyword_text (keyword.Clause without) = cond without (codes "without") (codes "by")
keyword_text keyword.Offset = codes "offset"
keyword_text (keyword.Aggregation op) = aggregation_word op

abbrev pub all_keywords : List Keyword
all_keywords =
    keyword.Operator operator.And ∷ keyword.Operator operator.Or ∷ keyword.Operator operator.Unless ∷ keyword.Bool
    ∷ keyword.Keys true ∷ keyword.Keys false ∷ keyword.Group true ∷ keyword.Group false ∷ keyword.Clause false
    ∷ keyword.Clause true ∷ keyword.Offset ∷ keyword.Aggregation aggregation.Sum ∷ keyword.Aggregation aggregation.Avg
    ∷ keyword.Aggregation aggregation.Min ∷ keyword.Aggregation aggregation.Max ∷ keyword.Aggregation aggregation.Count
    ∷ keyword.Aggregation aggregation.Group ∷ keyword.Aggregation aggregation.Topk
    ∷ keyword.Aggregation aggregation.Bottomk ∷ keyword.Aggregation aggregation.Quantile ∷ []

abbrev pub keyword_among : List Keyword → List ℕ → Option Keyword
keyword_among [] small = None
keyword_among (k ∷ ks) small = cond (bytes_eq small (keyword_text k)) (Some k) (keyword_among ks small)

-- in any case of letters
abbrev pub keyword_of : List ℕ → Option Keyword
keyword_of bytes = keyword_among all_keywords (str_to_ascii_lowercase bytes)

-- ---- signs

abbrev pub all_marks : List Mark
all_marks =
    mark.Open ∷ mark.Close ∷ mark.OpenBrace ∷ mark.CloseBrace ∷ mark.OpenSquare ∷ mark.CloseSquare ∷ mark.Comma
    ∷ mark.Colon ∷ mark.At ∷ mark.Plus ∷ mark.Minus ∷ mark.Times ∷ mark.Over ∷ mark.Percent ∷ mark.DoubleEqual
    ∷ mark.NotEqual ∷ mark.AtMost ∷ mark.Below ∷ mark.AtLeast ∷ mark.Above ∷ mark.Equal ∷ mark.Like ∷ mark.NotLike ∷ []

abbrev pub mark_among : List Mark → List ℕ → Option Mark
mark_among [] bytes = None
mark_among (m ∷ ms) bytes = cond (bytes_eq bytes (mark_text m)) (Some m) (mark_among ms bytes)

abbrev pub mark_of : List ℕ → Option Mark
mark_of bytes = mark_among all_marks bytes

-- ---- tokens

-- a time up to the greatest
abbrev pub within_limit : ℕ → Option ℕ
within_limit millis = cond (nat_le millis greatest_time) (Some millis) None

abbrev pub lexeme_of : token.Sort → Lexeme
lexeme_of (token.word w) = word (keyword_of w) w
lexeme_of (token.number n) = number n
lexeme_of (token.duration d) = duration (within_limit d)
lexeme_of (token.string s) = string s
lexeme_of (token.sign s) = sign (mark_of s)

-- ---- what a sign or a keyword is where it stands

-- a binary operator
abbrev pub operator_mark : Mark → Option Sign
operator_mark mark.Plus = Some operator.Add
operator_mark mark.Minus = Some operator.Sub
operator_mark mark.Times = Some operator.Mul
operator_mark mark.Over = Some operator.Div
operator_mark mark.Percent = Some operator.Rem
operator_mark mark.DoubleEqual = Some operator.Equal
operator_mark mark.NotEqual = Some operator.NotEqual
operator_mark mark.AtMost = Some operator.LessOrEqual
operator_mark mark.Below = Some operator.Less
operator_mark mark.AtLeast = Some operator.GreaterOrEqual
operator_mark mark.Above = Some operator.Greater
operator_mark _ = None

-- a matcher's sign
abbrev pub match_mark : Mark → Option MatchSign
match_mark mark.Equal = Some match.Equal
match_mark mark.NotEqual = Some match.NotEqual
match_mark mark.Like = Some match.Like
match_mark mark.NotLike = Some match.NotLike
match_mark _ = None

-- ---- behind a whole operand

abbrev pub operates_if : Option Sign → Follow
operates_if None = stops
operates_if (Some s) = operates s

abbrev pub follow_of : Lexeme → Follow
follow_of (word (Some (keyword.Operator s)) w) = operates s
follow_of (sign (Some mark.OpenSquare)) = opens_square
follow_of (sign (Some mark.Comma)) = separates
follow_of (sign (Some mark.Close)) = closes
follow_of (sign (Some m)) = operates_if (operator_mark m)
follow_of _ = stops

-- what the code's own form of a lexeme stands for
abbrev pub seen : Shown → Lexeme
seen (shown.Word k text) = word k text.now
seen (shown.Number n) = number n.now
seen (shown.Duration d) = duration d
seen (shown.Text quoted) = string (written quoted.now)
seen (shown.Mark m) = sign (Some m)

-- a duration is within the limit
abbrev pub IsTimely : Lexeme → Type 0
IsTimely (duration (Some d)) = d ≤ greatest_time
IsTimely _ = Unit {0}
