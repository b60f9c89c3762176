-- What is written of a text: this project's own.
use Rattle.std.specs.Prelude.{ℕ, ◌⊎◌, Option, List, [], take}
use Rattle.pf_io.specs.Outside.{Grows}

-- a text of this kind was written whole, or a front of one
abbrev pub Writes : (List ℕ → Type 0) → (old new : Option (List ℕ)) → Type 0
Writes IsText old new = (text : List ℕ) × (IsText text × Grows old new text)

abbrev pub WritesPart : (List ℕ → Type 0) → (old new : Option (List ℕ)) → Type 0
WritesPart IsText old new = (text : List ℕ) × (IsText text × ((n : ℕ) × Grows old new (take n text)))

-- nothing was written, or a front of one
abbrev pub Begins : (List ℕ → Type 0) → (old new : Option (List ℕ)) → Type 0
Begins IsText old new = Grows old new [] ⊎ WritesPart IsText old new
