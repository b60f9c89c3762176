-- Worked examples of a frozen step and later changes, computed.
use Rattle.std.proofs.Common.{◌≡◌, ℕ, pos, true, false, List, [], ◌∷◌, ◌++◌, refl, codes}
use Rattle.pf_journal.proofs.Examples.{equal, row, up, up_a}
use Rattle.pf_model.specs.declared.cell.StepCell.{StepCell}
use Rattle.pf_model.specs.declared.cell.StepCell.TheVariants.{Good}
use Rattle.pf_model.specs.Evaluation.{eval}
use Rattle.pf_model.specs.Log.{Change, Rules, append, delete, floor_of, store_of}
use Rattle.pf_model.specs.Reach.{is_frozen}

abbrev ten_minutes : Rules
ten_minutes = record { window = 600000 }

-- two samples; the floor is ten minutes below the later one
abbrev log : List Change
log = append (row up_a 2900000 (pos 1000000) ∷ row up_a 3600000 (pos 2000000) ∷ []) ∷ []

-- a sample below the floor, which is refused, one at the floor, and one that raises the floor by five minutes
abbrev late : List Change
late = append (row up_a 2950000 (pos 5000000) ∷ row up_a 3000000 (pos 3000000) ∷ row up_a 3900000 (pos 4000000) ∷ []) ∷ []

abbrev without : List Change
without = delete (equal (codes "__name__") (codes "up") ∷ []) 0 2900000 ∷ []

abbrev value : ℕ → StepCell
value v = Good (record { labels = up_a; value = pos v } ∷ [])

abbrev value_at : List Change → ℕ → StepCell
value_at changes t = eval (store_of ten_minutes changes).samples up (pos t)

-- a step below the floor is frozen, and has its value after later samples too
frozen : is_frozen up (pos 2999999) (floor_of ten_minutes log) ≡ true
frozen = refl

its_value : value_at log 2999999 ≡ value 1000000
its_value = refl

still : value_at (log ++ late) 2999999 ≡ value 1000000
still = refl

-- a step at the floor isn't frozen, and its value changes
not_frozen : is_frozen up (pos 3000000) (floor_of ten_minutes log) ≡ false
not_frozen = refl

before : value_at log 3000000 ≡ value 1000000
before = refl

after : value_at (log ++ late) 3000000 ≡ value 3000000
after = refl

-- it is frozen behind these samples, where its value isn't that of an asker before them
frozen_behind : is_frozen up (pos 3000000) (floor_of ten_minutes (log ++ late)) ≡ true
frozen_behind = refl

-- a deletion leaves the floor, and removes what a frozen step reads: the generation is another
frozen_too : is_frozen up (pos 2999999) (floor_of ten_minutes (log ++ without)) ≡ true
frozen_too = refl

next_generation : (store_of ten_minutes (log ++ without)).generation ≡ 1
next_generation = refl

removed : value_at (log ++ without) 2999999 ≡ Good []
removed = refl
