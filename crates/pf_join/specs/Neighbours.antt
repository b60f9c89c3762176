-- Neighbours with equal keys: this project's own.
use Rattle.std.specs.Prelude.{Bool, false, ◌||◌, Option, Some, None, List, [], ◌∷◌}
use Rattle.pf_base.specs.LabelSets.{Pairs}
use Rattle.pf_model.specs.Selection.{same_labels}

abbrev pub is_repeated : Option Pairs → Pairs → Bool
is_repeated None labels = false
is_repeated (Some before) labels = same_labels before labels

-- an element has the key of the one before it
abbrev pub repeats_after : {X : Type 0} → (X → Pairs) → Option Pairs → List X → Bool
repeats_after key before [] = false
repeats_after key before (x ∷ xs) = is_repeated before (key x) || repeats_after key (Some (key x)) xs

abbrev pub repeats : {X : Type 0} → (X → Pairs) → List X → Bool
repeats key xs = repeats_after key None xs
