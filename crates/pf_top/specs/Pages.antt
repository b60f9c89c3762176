-- What the pages of a generated session hold, as files: this project's own.
use Rattle.std.specs.Prelude.{ℕ, cond, List, [], ◌∷◌}
use Rattle.std.specs.Str.{bytes_eq}

-- what the first page of this name holds, and nothing where there is none
abbrev pub page_in : List (List ℕ × List ℕ) → List ℕ → List ℕ
page_in [] name = []
page_in (page ∷ pages) name = cond (bytes_eq page.0 name) page.1 (page_in pages name)
