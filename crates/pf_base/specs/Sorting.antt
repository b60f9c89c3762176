-- A list in ascending order, by insertion: this project's own.
use Rattle.std.specs.Prelude.{List, [], ◌∷◌, cond}
use Rattle.std.specs.declared.cmp.Ordering.{Ordering}
use Rattle.std.specs.Ordering.{is_gt}

-- x put in front of the first element that is not below it
abbrev pub ins : {X : Type 0} → (X → X → Ordering) → X → List X → List X
ins R x [] = x ∷ []
ins R x (y ∷ ys) = cond (is_gt (R x y)) (y ∷ ins R x ys) (x ∷ y ∷ ys)

-- the elements in ascending order
abbrev pub isort : {X : Type 0} → (X → X → Ordering) → List X → List X
isort R [] = []
isort R (x ∷ xs) = ins R x (isort R xs)
