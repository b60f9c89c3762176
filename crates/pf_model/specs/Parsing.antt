-- What a query's text is read as: its tree, or the first of its refusals. This project's own.
use Rattle.std.specs.Prelude.{◌≡◌, ℕ, zero, suc, nat_abs, ◌+◌, ◌-◌, ◌/◌, ◌<◌, ◌≤◌, ◌&&◌, ◌||◌, Bool, false, not, cond, codes, List, [], ◌∷◌, length, map, nat_le, nat_lt, Option, Some, None}
use Rattle.std.specs.Option.{is_none}
use Rattle.std.specs.Str.{bytes_eq}
use Rattle.pf_base.specs.Limits.{greatest_time}
use Rattle.pf_model.specs.Grammar.{Written, IsDerived, Derives, IsUnexpected}
use Rattle.pf_model.specs.Tokens.{Sort, word, number, duration, sign, Token, AreTokens, IsBadToken}
use Rattle.pf_model.specs.Trees.{Tree, height}
use Rattle.pf_model.specs.Words.{is_keyword, function_of}

-- why a text is refused, with the place in bytes
pub data Refusal : Type 0 where
  too_long : Refusal
  bad_token : (at : ℕ) → Refusal
  too_deep : (at : ℕ) → Refusal
  unexpected : (at : ℕ) → Refusal
  unknown_name : (at : ℕ) → Refusal
  time_too_large : (at : ℕ) → Refusal
  too_tall : Refusal

-- the greatest length of a text in bytes
abbrev pub most_bytes : ℕ
most_bytes = 65536

abbrev pub sorts : List Token → List Sort
sorts tokens = map (λ t. t.sort) tokens

abbrev pub is_the_sign : List ℕ → Sort → Bool
is_the_sign bytes (sign s) = bytes_eq s bytes
is_the_sign bytes _ = false

-- ---- brackets

abbrev pub opens : Sort → Bool
opens s = is_the_sign (codes "(") s || is_the_sign (codes "[") s || is_the_sign (codes "{") s

abbrev pub closes : Sort → Bool
closes s = is_the_sign (codes ")") s || is_the_sign (codes "]") s || is_the_sign (codes "}") s

-- a closing bracket of any kind closes the last open one, and none where none is open
abbrev pub open_behind : ℕ → Sort → ℕ
open_behind count s = cond (opens s) (count + 1) (cond (closes s) (count - 1) count)

-- the first opening bracket with 64 open before it
abbrev pub too_deep_at : (count : ℕ) → List Token → Option ℕ
too_deep_at count [] = None
too_deep_at count (t ∷ ts) =
    cond (opens t.sort && nat_le 64 count) (Some t.from) (too_deep_at (open_behind count t.sort) ts)

-- ---- names and times

abbrev pub begins_with_bracket : List Token → Bool
begins_with_bracket [] = false
begins_with_bracket (t ∷ ts) = is_the_sign (codes "(") t.sort

-- a word before `(` that is no keyword and no function's name
abbrev pub is_unknown : Sort → List Token → Bool
is_unknown (word w) behind = not (is_keyword w) && begins_with_bracket behind && is_none (function_of w)
is_unknown _ behind = false

-- the first called name that is no function; behind `@` none is called
abbrev pub unknown_at : (behind_at : Bool) → List Token → Option ℕ
unknown_at behind_at [] = None
unknown_at behind_at (t ∷ ts) =
    cond (not behind_at && is_unknown t.sort ts) (Some t.from) (unknown_at (is_the_sign (codes "@") t.sort) ts)

-- a duration, or the seconds of an `@`, past the greatest time
abbrev pub is_too_large : (behind_at : Bool) → Sort → Bool
is_too_large behind_at (number micros) = behind_at && nat_lt greatest_time (nat_abs micros / 1000)
is_too_large behind_at (duration millis) = nat_lt greatest_time millis
is_too_large behind_at _ = false

-- a number is that of an `@` behind it, or behind it and a sign
abbrev pub is_behind_at : Bool → Sort → Bool
is_behind_at behind_at s =
    is_the_sign (codes "@") s || (behind_at && (is_the_sign (codes "+") s || is_the_sign (codes "-") s))

abbrev pub too_large_at : (behind_at : Bool) → List Token → Option ℕ
too_large_at behind_at [] = None
too_large_at behind_at (t ∷ ts) =
    cond (is_too_large behind_at t.sort) (Some t.from) (too_large_at (is_behind_at behind_at t.sort) ts)

-- ---- the answers

-- the place of the token with this number, or of the text's end
abbrev pub place_of : (text : List ℕ) → List Token → ℕ → ℕ
place_of text [] n = length text
place_of text (t ∷ ts) zero = t.from
place_of text (t ∷ ts) (suc n) = place_of text ts n

-- a text within the limit and its tokens
pub record IsCut (text : List ℕ) (tokens : List Token) : Type 0 where
  pub short : length text ≤ most_bytes
  pub are_tokens : AreTokens text tokens

-- no more than 64 brackets are open at once
pub record IsShallow (text : List ℕ) (tokens : List Token) : Type 0 where
  pub cut : IsCut text tokens
  pub shallow : too_deep_at 0 tokens ≡ None

-- the tokens are those of a query
pub record IsWritten (text : List ℕ) (tokens : List Token) : Type 0 where
  pub shallow : IsShallow text tokens
  pub written : Written
  pub derived : IsDerived (sorts tokens) written

-- every called name is a function's
pub record IsKnown (text : List ℕ) (tokens : List Token) : Type 0 where
  pub written : IsWritten text tokens
  pub known : unknown_at false tokens ≡ None

-- a tree of any height, whose times are within the limit
pub record IsTree (text : List ℕ) (tree : Tree) : Type 0 where
  pub tokens : List Token
  pub known : IsKnown text tokens
  pub times : too_large_at false tokens ≡ None
  pub derives : Derives (sorts tokens) tree

-- a text is read as a tree
pub record Parses (text : List ℕ) (tree : Tree) : Type 0 where
  pub is_tree : IsTree text tree
  pub low : height tree ≤ 64

-- a text is refused: each refusal comes where those before it don't
abbrev pub Refuses : List ℕ → Refusal → Type 0
Refuses text too_long = most_bytes < length text
Refuses text (bad_token at) = (length text ≤ most_bytes) × IsBadToken text at
Refuses text (too_deep at) = (ts : List Token) × (IsCut text ts × (too_deep_at 0 ts ≡ Some at))
Refuses text (unexpected at) =
    (ts : List Token) × ((place : ℕ) × (IsShallow text ts × IsUnexpected (sorts ts) place × (place_of text ts place ≡ at)))
Refuses text (unknown_name at) = (ts : List Token) × (IsWritten text ts × (unknown_at false ts ≡ Some at))
Refuses text (time_too_large at) = (ts : List Token) × (IsKnown text ts × (too_large_at false ts ≡ Some at))
Refuses text too_tall = (tree : Tree) × (IsTree text tree × (64 < height tree))
