-- The patterns of matchers. Prometheus, Querying basics: Time series selectors. A plain pattern is one or more alternatives
-- with `|` between them; it means these, and every other one what the crate `regex` reads it as.
use Rattle.std.specs.Prelude.{ℕ, Bool, ◌&&◌, ◌||◌, ◌==◌, cond, List, nat_eq, nat_le}
use Rattle.std.specs.List.{list_all, list_any, slice_split}
use Rattle.std.specs.Str.{bytes_eq}
use Rattle.pf_match.specs.Meaning.{is_pattern, matches}

-- what stands between the signs `|` (124)
abbrev pub alternatives : List ℕ → List (List ℕ)
alternatives = slice_split (λ b. b == 124)

-- an ASCII letter, a digit or `_`, `-`, `:` or `/`; the digits lie between `/` and `:`
abbrev pub is_plain_byte : ℕ → Bool
is_plain_byte b =
    (nat_le 97 b && nat_le b 122) || (nat_le 65 b && nat_le b 90) || (nat_le 47 b && nat_le b 58) || nat_eq b 95 || nat_eq b 45

abbrev pub is_plain_pattern : List ℕ → Bool
is_plain_pattern pattern = list_all (λ b. is_plain_byte b || nat_eq b 124) pattern

-- a value is one of a plain pattern's alternatives
abbrev pub is_alternative : List ℕ → List ℕ → Bool
is_alternative pattern value = list_any (bytes_eq value) (alternatives pattern)

-- a pattern matches the whole value
abbrev pub is_like : List ℕ → List ℕ → Bool
is_like pattern value = cond (is_plain_pattern pattern) (is_alternative pattern value) (matches pattern value)

-- a pattern has a meaning: a plain one always has
abbrev pub is_meant : List ℕ → Bool
is_meant pattern = is_plain_pattern pattern || is_pattern pattern
