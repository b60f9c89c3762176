-- What is written of a text so far, and what is left of it: this project's own.
use Rattle.std.specs.Prelude.{◌≡◌, ℕ, Option, List, ◌++◌}
use Rattle.pf_io.specs.Outside.{Grows}

-- of this text all was written but what is left
pub record WritesTo (old new : Option (List ℕ)) (text left : List ℕ) : Type 0 where
  pub sent : List ℕ
  pub grown : Grows old new sent
  pub whole : text ≡ sent ++ left

-- a front of this text was written
abbrev pub WritesFront : (old new : Option (List ℕ)) → (text : List ℕ) → Type 0
WritesFront old new text = (left : List ℕ) × WritesTo old new text left
