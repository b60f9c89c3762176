-- How a number is read byte by byte, and its longest front found: this project's own. The private functions compute these.
use Rattle.std.specs.Prelude.{◌≡◌, ℕ, suc, ◌+◌, ◌-◌, ◌*◌, ◌||◌, Bool, true, false, cond, List, [], ◌∷◌, drop, take, nat_eq, nat_lt, Option, Some, None, IfSome}
use Rattle.std.specs.Char.{is_ascii_digit}
use Rattle.std.specs.List.{prefix_len}
use Rattle.pf_base.specs.LabelSets.{goes_on}
use Rattle.pf_base.specs.Limits.{greatest_exponent}
use Rattle.pf_model.specs.TokenScans.{number_form, duration_form}
use Rattle.pf_model.specs.Tokens.{has_letter}
use Rattle.pf_lex.specs.Seen.{IsExact, sort_of}
use Rattle.pf_lex.specs.declared.number.Stage.{Stage}
use Rattle.pf_lex.specs.declared.number.Stage.TheVariants.{Start, Whole, Point, Fraction, Letter, Sign, Exponent, Over}
use Rattle.pf_lex.specs.declared.token.TokenSort.{TokenSort}

abbrev pub further : ℕ → ℕ → Stage
further size b = cond (nat_lt greatest_exponent (size * 10 + (b - 48))) Over (Exponent (size * 10 + (b - 48)))

abbrev pub behind_exponent : ℕ → ℕ → Stage
behind_exponent size b = cond (is_ascii_digit b) (further size b) Over

abbrev pub behind_start : ℕ → Stage
behind_start b = cond (is_ascii_digit b) Whole (cond (nat_eq b 46) Point Over)

abbrev pub behind_whole : ℕ → Stage
behind_whole b = cond (is_ascii_digit b) Whole (cond (nat_eq b 46) Fraction (cond (nat_eq b 101 || nat_eq b 69) Letter Over))

abbrev pub behind_point : ℕ → Stage
behind_point b = cond (is_ascii_digit b) Fraction Over

abbrev pub behind_fraction : ℕ → Stage
behind_fraction b = cond (is_ascii_digit b) Fraction (cond (nat_eq b 101 || nat_eq b 69) Letter Over)

abbrev pub behind_letter : ℕ → Stage
behind_letter b = cond (nat_eq b 45 || nat_eq b 43) Sign (behind_exponent 0 b)

-- how far a number has been read behind one more byte
abbrev pub stage_behind : Stage → ℕ → Stage
stage_behind Start b = behind_start b
stage_behind Whole b = behind_whole b
stage_behind Point b = behind_point b
stage_behind Fraction b = behind_fraction b
stage_behind Letter b = behind_letter b
stage_behind Sign b = behind_exponent 0 b
stage_behind (Exponent size) b = behind_exponent size b
stage_behind Over b = Over

-- what has been read is a number
abbrev pub is_number : Stage → Bool
is_number Start = false
is_number Whole = true
is_number Point = false
is_number Fraction = true
is_number Letter = false
is_number Sign = false
is_number (Exponent size) = true
is_number Over = false

abbrev pub is_small : Stage → Bool
is_small Start = true
is_small Whole = true
is_small Point = true
is_small Fraction = true
is_small Letter = true
is_small Sign = true
is_small (Exponent size) = nat_lt size 10000
is_small Over = true

-- the end of the longest number, where the bytes from a place on are unread; `found` is that of the longest before it
abbrev pub longest_from : Stage → (at : ℕ) → (found : Option ℕ) → List ℕ → Option ℕ
longest_from stage at found [] = found
longest_from stage at found (b ∷ bs) =
    longest_from (stage_behind stage b) (suc at) (cond (is_number (stage_behind stage b)) (Some (suc at)) found) bs

abbrev pub longest_number : List ℕ → Option ℕ
longest_number bytes = longest_from Start 0 None (take 128 bytes)

-- a number in front that no letter, digit or `_` follows; where there is none, one follows the longest number
pub record IsNumberInFront (bytes : List ℕ) (sort : TokenSort) (len : ℕ) : Type 0 where
  pub longest : longest_number bytes ≡ Some len
  pub alone : has_letter (drop len bytes) ≡ false
  pub form : number_form (take len bytes) ≡ Some (sort_of (take len bytes) sort)
  pub exact : IsExact (take len bytes) sort

abbrev pub FindsNumber : List ℕ → Option (TokenSort × ℕ) → Type 0
FindsNumber bytes None = IfSome (longest_number bytes) (λ n. has_letter (drop n bytes) ≡ true)
FindsNumber bytes (Some x) = IsNumberInFront bytes x.0 x.1

-- the letters and digits in front are a duration, or are none
pub record IsDurationInFront (bytes : List ℕ) (sort : TokenSort) (len : ℕ) : Type 0 where
  pub is : len ≡ prefix_len goes_on bytes
  pub form : duration_form (take len bytes) ≡ Some (sort_of (take len bytes) sort)
  pub exact : IsExact (take len bytes) sort

abbrev pub FindsDuration : List ℕ → Option (TokenSort × ℕ) → Type 0
FindsDuration bytes None = duration_form (take (prefix_len goes_on bytes) bytes) ≡ None
FindsDuration bytes (Some x) = IsDurationInFront bytes x.0 x.1
