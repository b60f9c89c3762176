-- A list of extents with a new one: this project's own. Extents are not joined with their neighbours.
use Rattle.std.specs.Prelude.{ℕ, ◌+◌, ◌-◌, ◌/◌, cond, Option, Some, None, List, [], ◌∷◌, ◌++◌, drop, filter, length, nat_eq, nat_lt, take}
use Rattle.pf_model.specs.Lists.{joined}
use Rattle.pf_extent.specs.declared.extent.Extent.{Extent}
use Rattle.pf_extent.specs.Steps.{Known, has_step, known_at, known_of}

-- the part of an extent before a step
abbrev pub front_part : ℕ → Extent → List Extent
front_part t e =
    cond (nat_lt e.last t) (e ∷ [])
    (cond (nat_lt e.first t) (record e { last = t - e.step; cells = take ((t - e.first) / e.step) e.cells } ∷ []) [])

-- the part behind a step
abbrev pub back_part : ℕ → Extent → List Extent
back_part t e =
    cond (nat_lt t e.first) (e ∷ [])
    (cond (nat_lt t e.last) (record e { first = t + e.step; cells = drop ((t - e.first) / e.step + 1) e.cells } ∷ []) [])

abbrev pub of_generation : ℕ → List Extent → List Extent
of_generation g es = filter (λ e. nat_eq e.generation g) es

-- what is in front of the new extent, the new one, and what is behind it
abbrev pub around : List Extent → Extent → List Extent
around es new = joined (front_part new.first) es ++ (new ∷ joined (back_part new.last) es)

-- those of the new one's generation, with the new one in place of its steps
abbrev pub with_extent : List Extent → Extent → List Extent
with_extent es new = around (of_generation new.generation es) new

-- so many of the last
abbrev pub last_of : ℕ → List Extent → List Extent
last_of n es = drop (length es - n) es

-- the 64 with the greatest first steps
abbrev pub combined : List Extent → Extent → List Extent
combined es new = last_of 64 (with_extent es new)

-- what was known, if that is of a generation
abbrev pub known_still : ℕ → Option Known → Option Known
known_still g None = None
known_still g (Some k) = cond (nat_eq k.generation g) (Some k) None

-- what is known at a step, in other words: what the new extent knows where it has the step, else what was known before if that
-- is of the new one's generation
abbrev pub known_with : List Extent → Extent → ℕ → Option Known
known_with es new t = cond (has_step t new) (Some (known_of t new)) (known_still new.generation (known_at t es))
