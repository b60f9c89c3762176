-- How a duration's text is taken apart from the left: this project's own. The private functions of the reader compute
-- these; what the reader answers is said by the grammar of DurationTexts. The durations among the program's words are read by these,
-- which a lemma ties to the grammar.
use Rattle.std.specs.Prelude.{ℕ, ◌+◌, ◌*◌, ◌&&◌, ◌||◌, Bool, List, [], ◌∷◌, length, cond, nat_eq, nat_lt, Result, Ok, Err}
use Rattle.std.specs.Str.{bytes_eq}
use Rattle.std.specs.Char.{is_ascii_digit}
use Rattle.pf_base.specs.Limits.{greatest_time}
use Rattle.pf_base.specs.NumberTexts.{number_after}
use Rattle.pf_base.specs.NumberScans.{digits_in_front, past_digits}
use Rattle.pf_base.specs.DurationTexts.{units}
use Rattle.pf_base.specs.declared.duration.DurationError.{DurationError}
use Rattle.pf_base.specs.declared.duration.DurationError.TheVariants.{BadForm, TooLarge}

-- the bytes before the next digit
abbrev pub letters_in_front : List ℕ → List ℕ
letters_in_front [] = []
letters_in_front (b ∷ bs) = cond (is_ascii_digit b) [] (b ∷ letters_in_front bs)

abbrev pub past_letters : List ℕ → List ℕ
past_letters [] = []
past_letters (b ∷ bs) = cond (is_ascii_digit b) (b ∷ bs) (past_letters bs)

-- digits and this unit stand in front
abbrev pub has_part : List ℕ → List ℕ → Bool
has_part unit bytes = nat_lt 0 (length (digits_in_front bytes)) && bytes_eq (letters_in_front (past_digits bytes)) unit

abbrev pub part_of : List ℕ → ℕ → List ℕ → ℕ
part_of unit millis bytes = cond (has_part unit bytes) (number_after 0 (digits_in_front bytes) * millis) 0

abbrev pub past_part : List ℕ → List ℕ → List ℕ
past_part unit bytes = cond (has_part unit bytes) (past_letters (past_digits bytes)) bytes

abbrev pub rest_after : List (List ℕ × ℕ) → List ℕ → List ℕ
rest_after [] bytes = bytes
rest_after (u ∷ us) bytes = rest_after us (past_part u.0 bytes)

abbrev pub total_of : List (List ℕ × ℕ) → List ℕ → ℕ
total_of [] bytes = 0
total_of (u ∷ us) bytes = part_of u.0 u.1 bytes + total_of us (past_part u.0 bytes)

abbrev pub duration_of : List ℕ → Result ℕ DurationError
duration_of bytes =
    cond (nat_eq (length bytes) 0 || nat_lt 0 (length (rest_after units bytes))) (Err BadForm)
    (cond (nat_lt greatest_time (total_of units bytes)) (Err TooLarge) (Ok (total_of units bytes)))
