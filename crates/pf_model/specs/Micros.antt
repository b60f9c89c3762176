-- Words on whole numbers that the tables of functions share. Values are in micros: this project's own.
use Rattle.std.specs.Prelude.{ℕ, ◌*◌, ◌/◌, ℤ, pos, negsuc, ◌+ℤ◌, ◌*ℤ◌, int_div, List, [], ◌∷◌, length}
use Rattle.std.specs.Int.{int_min, int_max}
use Rattle.pf_base.specs.Arithmetic.{clamp}

-- one unit, and so many units
abbrev pub one : ℤ
one = pos 1000000

abbrev pub units : ℕ → ℤ
units n = clamp (pos (n * 1000000))

-- seconds, of a time in milliseconds
abbrev pub seconds : ℤ → ℤ
seconds t = clamp (t *ℤ pos 1000)

-- the quotient cut down, below zero too
abbrev pub cut_down : ℤ → ℕ → ℤ
cut_down (pos n) d = pos (n / d)
cut_down (negsuc n) d = negsuc (n / d)

-- the least and the greatest of some numbers; 0 of none
abbrev pub least : List ℤ → ℤ
least [] = pos 0
least (v ∷ []) = v
least (v ∷ w ∷ ws) = int_min v (least (w ∷ ws))

abbrev pub greatest : List ℤ → ℤ
greatest [] = pos 0
greatest (v ∷ []) = v
greatest (v ∷ w ∷ ws) = int_max v (greatest (w ∷ ws))

-- the exact sum
abbrev pub total : List ℤ → ℤ
total [] = pos 0
total (v ∷ vs) = v +ℤ total vs

-- the exact sum by the number, cut toward zero
abbrev pub mean : List ℤ → ℤ
mean vs = clamp (int_div (total vs) (pos (length vs)))
