-- Examples of the definitions, which the checker computes.
use Rattle.std.specs.Prelude.{◌≡◌, ℕ, zero, suc, ◌+◌, pos, negsuc, Option, Some, None, List, [], ◌∷◌, ◌++◌, true, false, refl}
use Rattle.pf_model.specs.declared.cell.Element.{Element}
use Rattle.pf_extent.specs.declared.extent.Asker.{Asker}
use Rattle.pf_extent.specs.declared.extent.Extent.{Extent}
use Rattle.pf_extent.specs.Combining.{combined, known_with, with_extent}
use Rattle.pf_extent.specs.Steps.{Known, extent_at, known_at}
use Rattle.pf_extent.specs.Uses.{is_usable}

-- a cell of one element, whose value is a number of micros
abbrev cell : ℕ → List Element
cell n = record { labels = []; value = pos n } ∷ []

-- steps of 10 ms
abbrev extent : ℕ → ℕ → ℕ → ℕ → List (List Element) → Extent
extent first last pin generation cells = record { first = first; last = last; step = 10; pin = pin; generation = generation; cells = cells }

abbrev known : ℕ → ℕ → ℕ → Option Known
known pin generation n = Some (record { pin = pin; generation = generation; cell = cell n })

-- 20 to 60, and 80 to 90
abbrev old : Extent
old = extent 20 60 3 1 (cell 2 ∷ cell 3 ∷ cell 4 ∷ cell 5 ∷ cell 6 ∷ [])

abbrev far : Extent
far = extent 80 90 4 1 (cell 8 ∷ cell 9 ∷ [])

abbrev both : List Extent
both = old ∷ far ∷ []

abbrev middle : Extent
middle = extent 30 40 7 1 (cell 33 ∷ cell 44 ∷ [])

-- a new extent in the middle of an old one cuts it in two
cut_in_two : combined both middle
    ≡ extent 20 20 3 1 (cell 2 ∷ []) ∷ middle ∷ extent 50 60 3 1 (cell 5 ∷ cell 6 ∷ []) ∷ far ∷ []
cut_in_two = refl

-- one that covers others takes their place
covered : combined both (extent 20 90 7 1 (cell 1 ∷ cell 1 ∷ cell 1 ∷ cell 1 ∷ cell 1 ∷ cell 1 ∷ cell 1 ∷ cell 1 ∷ []))
    ≡ extent 20 90 7 1 (cell 1 ∷ cell 1 ∷ cell 1 ∷ cell 1 ∷ cell 1 ∷ cell 1 ∷ cell 1 ∷ cell 1 ∷ []) ∷ []
covered = refl

-- one that covers an old one's end and another's beginning
both_cut : combined both (extent 60 80 7 1 (cell 1 ∷ cell 1 ∷ cell 1 ∷ []))
    ≡ extent 20 50 3 1 (cell 2 ∷ cell 3 ∷ cell 4 ∷ cell 5 ∷ []) ∷ extent 60 80 7 1 (cell 1 ∷ cell 1 ∷ cell 1 ∷ []) ∷ extent 90 90 4 1 (cell 9 ∷ []) ∷ []
both_cut = refl

-- neighbours are not joined
beside : combined (old ∷ []) (extent 70 70 7 1 (cell 7 ∷ [])) ≡ old ∷ extent 70 70 7 1 (cell 7 ∷ []) ∷ []
beside = refl

-- extents of another generation go, later or earlier
another_generation : combined (old ∷ extent 80 80 5 3 (cell 8 ∷ []) ∷ []) (extent 100 100 7 2 (cell 1 ∷ [])) ≡ extent 100 100 7 2 (cell 1 ∷ []) ∷ []
another_generation = refl

into_none : combined [] middle ≡ middle ∷ []
into_none = refl

-- what is known at a step
of_new : known_with both middle 30 ≡ known 7 1 33
of_new = refl

of_old : known_with both middle 60 ≡ known 3 1 6
of_old = refl

of_no_other_generation : known_with both (extent 100 100 7 2 (cell 1 ∷ [])) 30 ≡ None
of_no_other_generation = refl

between_steps : known_with both middle 35 ≡ None
between_steps = refl

in_the_list : known_at 50 (with_extent both middle) ≡ known 3 1 5
in_the_list = refl

the_extent : extent_at 90 both ≡ Some far
the_extent = refl

no_extent : extent_at 70 both ≡ None
no_extent = refl

-- of 65 extents, and of 66, the first by their steps go
abbrev alone : ℕ → ℕ → List Extent
alone first zero = []
alone first (suc n) = extent first first 1 1 (cell first ∷ []) ∷ alone (first + 20) n

sixty_five : combined (alone 20 64) (extent 1300 1300 2 1 (cell 1 ∷ [])) ≡ alone 40 63 ++ (extent 1300 1300 2 1 (cell 1 ∷ []) ∷ [])
sixty_five = refl

new_in_front : combined (alone 20 64) (extent 10 10 2 1 (cell 1 ∷ [])) ≡ alone 20 64
new_in_front = refl

sixty_six : combined (alone 20 63 ++ (extent 1300 1340 2 1 (cell 0 ∷ cell 1 ∷ cell 2 ∷ cell 3 ∷ cell 4 ∷ []) ∷ [])) (extent 1320 1320 3 1 (cell 5 ∷ []))
    ≡ alone 60 61 ++ (extent 1300 1310 2 1 (cell 0 ∷ cell 1 ∷ []) ∷ extent 1320 1320 3 1 (cell 5 ∷ []) ∷ extent 1330 1340 2 1 (cell 3 ∷ cell 4 ∷ []) ∷ [])
sixty_six = refl

-- the three causes for which one may be used, and none
abbrev asker : ℕ → Option ℕ → ℕ → Asker
asker pin floor generation = record { pin = pin; floor = floor; generation = generation }

earlier_pin : is_usable old (Some (pos 60)) (asker 3 None 1) ≡ true
earlier_pin = refl

no_reach : is_usable old None (asker 2 None 1) ≡ true
no_reach = refl

below_the_floor : is_usable old (Some (pos 60)) (asker 2 (Some 61) 1) ≡ true
below_the_floor = refl

below_zero : is_usable old (Some (negsuc 0)) (asker 2 (Some 0) 1) ≡ true
below_zero = refl

at_the_floor : is_usable old (Some (pos 60)) (asker 2 (Some 60) 1) ≡ false
at_the_floor = refl

no_floor : is_usable old (Some (pos 60)) (asker 2 None 1) ≡ false
no_floor = refl

no_floor_below_zero : is_usable old (Some (negsuc 0)) (asker 2 None 1) ≡ false
no_floor_below_zero = refl

outdated : is_usable old None (asker 3 (Some 1000) 2) ≡ false
outdated = refl
