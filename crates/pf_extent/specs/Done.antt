-- Evaluated cells: this project's own.
use Rattle.std.specs.Prelude.{◌≡◌, ℕ, ◌+◌, List, [], ◌∷◌, length}
use Rattle.pf_extent.specs.declared.done.DoneCells.{DoneCells}
use Rattle.pf_model.specs.Lists.{Each}

-- of how many steps they are
abbrev pub steps_in : List DoneCells → ℕ
steps_in [] = 0
steps_in (d ∷ ds) = d.run.len + steps_in ds

-- a cell for each step
abbrev pub AreWhole : List DoneCells → Type 0
AreWhole ds = Each (λ d. length d.cells ≡ d.run.len) ds
