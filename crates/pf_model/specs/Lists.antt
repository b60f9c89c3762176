-- Words on lists that the other definitions share: this project's own.
use Rattle.std.specs.Prelude.{ℕ, zero, suc, Bool, Option, Some, None, cond, List, [], ◌∷◌, ◌++◌, codes, map}

-- a fact of each element; it computes to the facts one by one
abbrev pub Each : {X : Type 0} → (X → Type 0) → List X → Type 0
Each P [] = Unit {0}
Each P (x ∷ xs) = P x × Each P xs

-- the lists that f makes of the elements, one after another
abbrev pub joined : {X Y : Type 0} → (X → List Y) → List X → List Y
joined f [] = []
joined f (x ∷ xs) = f x ++ joined f xs

-- texts with another between them
abbrev pub all_behind : List ℕ → List (List ℕ) → List ℕ
all_behind between [] = []
all_behind between (x ∷ xs) = between ++ (x ++ all_behind between xs)

abbrev pub separated : List ℕ → List (List ℕ) → List ℕ
separated between [] = []
separated between (x ∷ xs) = x ++ all_behind between xs

-- the texts that f makes of the elements, with commas between them
abbrev pub comma_before : {X : Type 0} → (X → List ℕ) → List X → List ℕ
comma_before f xs = all_behind (codes ",") (map f xs)

abbrev pub comma_joined : {X : Type 0} → (X → List ℕ) → List X → List ℕ
comma_joined f xs = separated (codes ",") (map f xs)

-- the first element that passes
abbrev pub first_with : {X : Type 0} → (X → Bool) → List X → Option X
first_with p [] = None
first_with p (x ∷ xs) = cond (p x) (Some x) (first_with p xs)

-- the element at a place
abbrev pub at : {X : Type 0} → List X → ℕ → Option X
at [] n = None
at (x ∷ xs) zero = Some x
at (x ∷ xs) (suc n) = at xs n
