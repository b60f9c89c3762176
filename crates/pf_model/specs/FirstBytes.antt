-- Which bytes begin which tokens: this project's own.
use Rattle.std.specs.Prelude.{ℕ, ◌&&◌, ◌||◌, Bool, false, not, List, [], ◌∷◌, nat_eq}
use Rattle.std.specs.Char.{is_ascii_digit}
use Rattle.pf_base.specs.LabelSets.{starts_name}

-- a number or a duration
abbrev pub begins_quantity : ℕ → Bool
begins_quantity b = is_ascii_digit b || nat_eq b 46

abbrev pub begins_string : ℕ → Bool
begins_string b = (nat_eq b 34 || nat_eq b 39) || nat_eq b 96

-- a word, outside square brackets
abbrev pub begins_word : ℕ → Bool
begins_word b = starts_name b || nat_eq b 58

-- there is a first byte, and it passes
abbrev pub first_passes : (ℕ → Bool) → List ℕ → Bool
first_passes p [] = false
first_passes p (b ∷ bs) = p b

-- a sign, if anything
abbrev pub begins_mark : (inside : Bool) → ℕ → Bool
begins_mark inside b = not (begins_quantity b) && (not (begins_string b) && not (not inside && begins_word b))
