-- Whole-number arithmetic on values in micros: this project's own.
use Rattle.std.specs.Prelude.{ℤ, pos, negsuc, zero, suc, Bool, true, false, cond, Option, Some, None}
use Rattle.std.specs.Prelude.{◌≤ℤ◌, ◌+ℤ◌, ◌-ℤ◌, ◌*ℤ◌, int_lt, int_div}
use Rattle.pf_base.specs.Limits.{greatest_value, least_value}

-- a number moved into -10^18 to 10^18
unfoldable pub clamp : ℤ → ℤ
clamp z =
    cond (int_lt greatest_value z) greatest_value
    (cond (int_lt z least_value) least_value z)

-- a value lies within the bounds
abbrev pub IsValue : ℤ → Type 0
IsValue z = (least_value ≤ℤ z) × (z ≤ℤ greatest_value)

-- no micros at all
abbrev pub is_zero : ℤ → Bool
is_zero (pos zero) = true
is_zero (pos (suc n)) = false
is_zero (negsuc n) = false

-- sum and difference, moved into the bounds
abbrev pub sum_of : ℤ → ℤ → ℤ
sum_of a b = clamp (a +ℤ b)

abbrev pub difference : ℤ → ℤ → ℤ
difference a b = clamp (a -ℤ b)

-- micros are millionths, so the product of micros is a million times too large; `int_div` cuts toward zero
abbrev pub product : ℤ → ℤ → ℤ
product a b = clamp (int_div (a *ℤ b) (pos 1000000))

-- none for a zero divisor
abbrev pub quotient : ℤ → ℤ → Option ℤ
quotient a b = cond (is_zero b) None (Some (clamp (int_div (a *ℤ pos 1000000) b)))

-- what the quotient in whole numbers, cut toward zero, leaves: it has the sign of the dividend
abbrev pub remainder : ℤ → ℤ → Option ℤ
remainder a b = cond (is_zero b) None (Some (a -ℤ b *ℤ int_div a b))
