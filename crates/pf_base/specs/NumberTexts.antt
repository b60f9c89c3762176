-- The texts of numbers, and the text of a value: this project's own grammar of the numbers that Prometheus's text format
-- and PromQL write in decimal.
use Rattle.std.specs.Prelude.{◌≡◌, ℕ, ℤ, pos, negsuc, suc, neg_ℤ, ◌+◌, ◌-◌, ◌*◌, ◌/◌, ◌%◌, ◌^◌, ◌≤◌, ◌⊎◌, true, List, [], ◌∷◌, ◌++◌, length, map, cond, nat_eq, codes, Option, Some, None, IfSome}
use Rattle.std.specs.Fmt.{decimal}
use Rattle.std.specs.Str.{all_ascii_digits}
use Rattle.std.specs.Char.{to_ascii_lowercase}
use Rattle.pf_base.specs.Arithmetic.{clamp}
use Rattle.pf_base.specs.Limits.{greatest_exponent, greatest_size, most_number_bytes}
use Rattle.pf_base.specs.declared.number.Read.{Read}
use Rattle.pf_base.specs.declared.number.Read.TheVariants.{Number, NotANumber}

-- b in front of digits, where neither is left out: a `0` with nothing behind it is
abbrev pub with_digit : ℕ → List ℕ → List ℕ
with_digit b [] = cond (nat_eq b 48) [] (b ∷ [])
with_digit b (c ∷ cs) = b ∷ c ∷ cs

-- digits without the zeros at their end
unfoldable pub without_end_zeros : List ℕ → List ℕ
without_end_zeros [] = []
without_end_zeros (b ∷ bs) = with_digit b (without_end_zeros bs)

-- the six digits of a number below a million
abbrev pub six_digits : ℕ → List ℕ
six_digits n =
    (48 + n / 100000) ∷ (48 + n / 10000 % 10) ∷ (48 + n / 1000 % 10)
    ∷ (48 + n / 100 % 10) ∷ (48 + n / 10 % 10) ∷ (48 + n % 10) ∷ []

-- where micros are left, a point and their six digits without the zeros at the end
abbrev pub fraction_text : ℕ → List ℕ
fraction_text n = cond (nat_eq n 0) [] (codes "." ++ without_end_zeros (six_digits n))

-- so many micros: the whole units, then the rest
abbrev pub micros_text : ℕ → List ℕ
micros_text n = decimal (n / 1000000) ++ fraction_text (n % 1000000)

-- a value in micros
abbrev pub value_text : ℤ → List ℕ
value_text (pos n) = micros_text n
value_text (negsuc n) = codes "-" ++ micros_text (suc n)

-- the number that digits write behind those of n
abbrev pub number_after : ℕ → List ℕ → ℕ
number_after n [] = n
number_after n (b ∷ bs) = number_after (n * 10 + (b - 48)) bs

-- a sign in front, or none
pub data Sign : Type 0 where
  bare : Sign
  plus : Sign
  minus : Sign

abbrev pub sign_text : Sign → List ℕ
sign_text bare = []
sign_text plus = codes "+"
sign_text minus = codes "-"

abbrev pub signed : Sign → ℕ → ℤ
signed bare n = pos n
signed plus n = pos n
signed minus n = neg_ℤ (pos n)

-- an exponent: `e` or `E`, a sign or none, and digits
pub record Exponent : Type 0 where
  pub letter : ℕ
  pub sign : Sign
  pub digits : List ℕ

-- a number without its sign: digits, a point with digits behind it or none, and an exponent or none
pub record Decimal : Type 0 where
  pub whole : List ℕ
  pub fraction : Option (List ℕ)
  pub exponent : Option Exponent

abbrev pub fraction_digits : Option (List ℕ) → List ℕ
fraction_digits None = []
fraction_digits (Some digits) = digits

abbrev pub point_text : Option (List ℕ) → List ℕ
point_text None = []
point_text (Some digits) = 46 ∷ digits

abbrev pub exponent_text : Option Exponent → List ℕ
exponent_text None = []
exponent_text (Some e) = e.letter ∷ (sign_text e.sign ++ e.digits)

abbrev pub decimal_text : Decimal → List ℕ
decimal_text d = d.whole ++ (point_text d.fraction ++ exponent_text d.exponent)

-- the letter is `e` or `E`, digits are there, and they write at most 9,999
pub record IsExponent (e : Exponent) : Type 0 where
  pub letter : (e.letter ≡ 101) ⊎ (e.letter ≡ 69)
  pub some : 1 ≤ length e.digits
  pub digits : all_ascii_digits e.digits ≡ true
  pub small : number_after 0 e.digits ≤ greatest_exponent

-- a digit is there, before or behind the point
pub record IsDecimal (d : Decimal) : Type 0 where
  pub whole : all_ascii_digits d.whole ≡ true
  pub fraction : all_ascii_digits (fraction_digits d.fraction) ≡ true
  pub some : 1 ≤ length d.whole + length (fraction_digits d.fraction)
  pub exponent : IfSome d.exponent IsExponent

-- the power of ten by which an exponent multiplies, and the one by which it divides
abbrev pub rise : Sign → ℕ → ℕ
rise bare n = n
rise plus n = n
rise minus n = 0

abbrev pub fall : Sign → ℕ → ℕ
fall bare n = 0
fall plus n = 0
fall minus n = n

abbrev pub raised : Option Exponent → ℕ
raised None = 0
raised (Some e) = rise e.sign (number_after 0 e.digits)

abbrev pub lowered : Option Exponent → ℕ
lowered None = 0
lowered (Some e) = fall e.sign (number_after 0 e.digits)

-- the number times a million, cut down
abbrev pub decimal_micros : Decimal → ℕ
decimal_micros d =
    number_after 0 (d.whole ++ fraction_digits d.fraction) * 10 ^ (6 + raised d.exponent)
    / 10 ^ (length (fraction_digits d.fraction) + lowered d.exponent)

-- bytes are a number of at most 128 bytes, whose micros, moved into the bounds, are v
pub record IsNumber (bytes : List ℕ) (v : ℤ) : Type 0 where
  pub sign : Sign
  pub parts : Decimal
  pub lawful : IsDecimal parts
  pub spelled : bytes ≡ sign_text sign ++ decimal_text parts
  pub short : length bytes ≤ most_number_bytes
  pub value : v ≡ clamp (signed sign (decimal_micros parts))

-- bytes are a sign or none, and a word in any case of letters
pub record IsWord (word bytes : List ℕ) (sign : Sign) : Type 0 where
  pub letters : List ℕ
  pub same : map to_ascii_lowercase letters ≡ word
  pub spelled : bytes ≡ sign_text sign ++ letters

-- what bytes are read as: a number, `inf` or `infinity` as the greatest size, `nan` as no number
abbrev pub Reads : List ℕ → Read → Type 0
Reads bytes (Number v) =
    IsNumber bytes v
    ⊎ ((sign : Sign) × ((IsWord (codes "inf") bytes sign ⊎ IsWord (codes "infinity") bytes sign) × (v ≡ signed sign greatest_size)))
Reads bytes NotANumber = (sign : Sign) × IsWord (codes "nan") bytes sign
