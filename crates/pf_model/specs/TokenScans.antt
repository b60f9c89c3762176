-- How the tokens of a text are found from the left: this project's own. The private functions of the lexer compute these;
-- what a text's tokens are is said by Tokens alone.
use Rattle.std.specs.Prelude.{◌≡◌, ℕ, zero, suc, pos, ◌+◌, ◌<◌, ◌&&◌, Bool, false, not, cond, option_map, List, [], ◌∷◌, drop, length, take, nat_le, Option, Some, None}
use Rattle.std.specs.Option.{option_or}
use Rattle.pf_base.specs.Arithmetic.{clamp}
use Rattle.pf_base.specs.DurationScans.{rest_after, total_of}
use Rattle.pf_base.specs.DurationTexts.{units}
use Rattle.pf_base.specs.LabelSets.{is_empty}
use Rattle.pf_base.specs.Limits.{greatest_value, most_number_bytes}
use Rattle.pf_base.specs.NumberScans.{decimal_of}
use Rattle.pf_base.specs.NumberTexts.{decimal_micros}
use Rattle.pf_model.specs.Cuts.{only_if}
use Rattle.pf_model.specs.Tokens.{Sort, Token, duration, end_of, inside_after, inside_behind, is_infinite, is_sign, is_word, may_precede, next_at, number, sign, string_form, word}

abbrev pub word_sort : List ℕ → Sort
word_sort bytes = cond (is_infinite bytes) (number greatest_value) (word bytes)

abbrev pub number_form : List ℕ → Option Sort
number_form bytes =
    cond (nat_le (length bytes) most_number_bytes) (option_map (λ d. number (clamp (pos (decimal_micros d)))) (decimal_of bytes)) None

abbrev pub duration_form : List ℕ → Option Sort
duration_form bytes = only_if (not (is_empty bytes) && is_empty (rest_after units bytes)) (duration (total_of units bytes))

-- what these bytes are as a token
abbrev pub form : (inside : Bool) → List ℕ → Option Sort
form inside bytes =
    option_or (only_if (not inside && is_word bytes) (word_sort bytes))
    (option_or (number_form bytes)
    (option_or (duration_form bytes) (option_or (string_form bytes) (only_if (is_sign inside bytes) (sign bytes)))))

-- the longest token that the first n bytes have in front, beginning at a place
abbrev pub longest : (inside : Bool) → (at : ℕ) → List ℕ → ℕ → Option Token
longest inside at bytes zero = None
longest inside at bytes (suc n) =
    option_or (option_map (λ s. record { from = at; to = at + suc n; sort = s }) (form inside (take (suc n) bytes)))
    (longest inside at bytes n)

abbrev pub lawful : List ℕ → Option Token → Option Token
lawful text None = None
lawful text (Some t) = only_if (may_precede t.sort (drop t.to text)) t

-- the token that begins at a place
abbrev pub token_at : (inside : Bool) → List ℕ → ℕ → Option Token
token_at inside text at = lawful text (longest inside at (drop at text) (length (drop at text)))

-- from a place on these tokens are found next
abbrev pub AreNext : (text : List ℕ) → (inside : Bool) → (at : ℕ) → List Token → Type 0
AreNext text inside at [] = Unit {0}
AreNext text inside at (t ∷ ts) =
    (next_at text at ≡ t.from) × (token_at inside text t.from ≡ Some t) × AreNext text (inside_behind inside t.sort) t.to ts

-- the tokens that are found in a text
pub record AreFound (text : List ℕ) (tokens : List Token) : Type 0 where
  pub begins : AreNext text false 0 tokens
  pub whole : next_at text (end_of 0 tokens) ≡ length text

-- the first place of a text where no token is found
pub record IsStop (text : List ℕ) (at : ℕ) : Type 0 where
  pub before : List Token
  pub begins : AreNext text false 0 before
  pub place : next_at text (end_of 0 before) ≡ at
  pub within : at < length text
  pub bad : token_at (inside_after false before) text at ≡ None
