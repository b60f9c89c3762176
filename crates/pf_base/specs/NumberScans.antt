-- How a number's text is taken apart from the left: this project's own. The private functions of the reader compute these;
-- what the reader answers is said by the grammar of NumberTexts. Of this the claim needs the digits that durations begin with.
use Rattle.std.specs.Prelude.{ℕ, ℤ, pos, neg_ℤ, ◌+◌, ◌-◌, ◌*◌, ◌^◌, ◌&&◌, ◌||◌, Bool, true, false, min, List, [], ◌∷◌, length, map, take, cond, nat_eq, nat_le, nat_lt, codes, Option, Some, None, Result, Ok, Err}
use Rattle.std.specs.Str.{bytes_eq}
use Rattle.std.specs.Char.{to_ascii_lowercase, is_ascii_digit}
use Rattle.std.specs.Option.{is_some}
use Rattle.pf_base.specs.Limits.{greatest_exponent, greatest_size, most_number_bytes}
use Rattle.pf_base.specs.NumberTexts.{Sign, bare, plus, minus, Exponent, Decimal, number_after, fraction_digits, raised, lowered, decimal_micros}
use Rattle.pf_base.specs.declared.number.Read.{Read}
use Rattle.pf_base.specs.declared.number.Read.TheVariants.{Number, NotANumber}
use Rattle.pf_base.specs.declared.number.BadNumber.{BadNumber}
use Rattle.pf_base.specs.declared.number.Tens.{Tens}

-- a size, at most that of the greatest value
abbrev pub capped : ℕ → ℕ
capped n = min n greatest_size

abbrev pub digits_in_front : List ℕ → List ℕ
digits_in_front [] = []
digits_in_front (b ∷ bs) = cond (is_ascii_digit b) (b ∷ digits_in_front bs) []

abbrev pub past_digits : List ℕ → List ℕ
past_digits [] = []
past_digits (b ∷ bs) = cond (is_ascii_digit b) (past_digits bs) (b ∷ bs)

abbrev pub sign_in_front : List ℕ → Sign
sign_in_front [] = bare
sign_in_front (b ∷ bs) = cond (nat_eq b 45) minus (cond (nat_eq b 43) plus bare)

abbrev pub past_sign : List ℕ → List ℕ
past_sign [] = []
past_sign (b ∷ bs) = cond (nat_eq b 45 || nat_eq b 43) bs (b ∷ bs)

abbrev pub is_minus : Sign → Bool
is_minus bare = false
is_minus plus = false
is_minus minus = true

abbrev pub fraction_in_front : List ℕ → Option (List ℕ)
fraction_in_front [] = None
fraction_in_front (b ∷ bs) = cond (nat_eq b 46) (Some (digits_in_front bs)) None

abbrev pub past_fraction : List ℕ → List ℕ
past_fraction [] = []
past_fraction (b ∷ bs) = cond (nat_eq b 46) (past_digits bs) (b ∷ bs)

-- digits alone, at least one, and the number that they write where it is at most 9,999
abbrev pub small_of : List ℕ → Option ℕ
small_of ds =
    cond (nat_lt 0 (length (digits_in_front ds)) && nat_eq (length (past_digits ds)) 0 && nat_le (number_after 0 (digits_in_front ds)) greatest_exponent)
    (Some (number_after 0 (digits_in_front ds))) None

-- an exponent or nothing; none where bytes are neither
abbrev pub exponent_of : List ℕ → Option (Option Exponent)
exponent_of [] = Some None
exponent_of (b ∷ bs) =
    cond ((nat_eq b 101 || nat_eq b 69) && is_some (small_of (past_sign bs)))
    (Some (Some (record { letter = b; sign = sign_in_front bs; digits = digits_in_front (past_sign bs) }))) None

abbrev pub tens_of : Option (Option Exponent) → Result Tens BadNumber
tens_of None = Err (record {})
tens_of (Some e) = Ok (record { up = raised e; down = lowered e })

abbrev pub with_digits : List ℕ → Option (List ℕ) → Option (Option Exponent) → Option Decimal
with_digits whole fraction None = None
with_digits whole fraction (Some e) =
    cond (nat_lt 0 (length whole + length (fraction_digits fraction)))
    (Some (record { whole = whole; fraction = fraction; exponent = e })) None

-- the parts of a number without its sign
abbrev pub decimal_of : List ℕ → Option Decimal
decimal_of bytes =
    with_digits (digits_in_front bytes) (fraction_in_front (past_digits bytes)) (exponent_of (past_fraction (past_digits bytes)))

abbrev pub sizes : Option Decimal → Result ℕ BadNumber
sizes None = Err (record {})
sizes (Some d) = Ok (capped (decimal_micros d))

-- so many of the digits in front, and zeros behind the last where there are fewer
abbrev pub placed : List ℕ → ℕ → ℕ
placed ds n = number_after 0 (take n ds) * 10 ^ (n - length ds)

abbrev pub signed_by : Bool → ℕ → ℤ
signed_by false n = pos n
signed_by true n = neg_ℤ (pos n)

abbrev pub valued : Bool → Result ℕ BadNumber → Result Read BadNumber
valued below (Ok n) = Ok (Number (signed_by below n))
valued below (Err e) = Err e

abbrev pub is_word : List ℕ → List ℕ → Bool
is_word word bytes = bytes_eq (map to_ascii_lowercase bytes) word

abbrev pub read_body : Bool → List ℕ → ℕ → Result Read BadNumber
read_body below bytes n =
    cond (is_word (codes "nan") bytes) (Ok NotANumber)
    (cond (is_word (codes "inf") bytes || is_word (codes "infinity") bytes) (Ok (Number (signed_by below greatest_size)))
    (cond (nat_lt most_number_bytes n) (Err (record {})) (valued below (sizes (decimal_of bytes)))))

-- what bytes are read as
abbrev pub read_of : List ℕ → Result Read BadNumber
read_of bytes = read_body (is_minus (sign_in_front bytes)) (past_sign bytes) (length bytes)
