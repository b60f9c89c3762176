-- What a walk along ascending pairs finds: this project's own.
use Rattle.std.specs.Prelude.{ℕ, ◌+◌, List, [], ◌∷◌, cond, Option, Some, None}
use Rattle.std.specs.Ordering.{nat_cmp, is_lt}
use Rattle.std.specs.Cmp.Lexicographic.{slice_cmp}
use Rattle.std.specs.Str.{bytes_eq}
use Rattle.pf_base.specs.LabelSets.{Pairs}

-- the first name that the next pair has too
abbrev pub repeated_after : List ℕ → Pairs → Option (List ℕ)
repeated_after name [] = None
repeated_after name (p ∷ ps) = cond (bytes_eq name p.0) (Some name) (repeated_after p.0 ps)

abbrev pub repeated_name : Pairs → Option (List ℕ)
repeated_name [] = None
repeated_name (p ∷ ps) = repeated_after p.0 ps

-- how many pairs stand in front of the first whose name is above this one
abbrev pub place : List ℕ → Pairs → ℕ
place name [] = 0
place name (p ∷ ps) = cond (is_lt (slice_cmp nat_cmp name p.0)) 0 (1 + place name ps)
