-- A line without the carriage return at its end: this project's own. The lines of a text are defined in Exposition.
use Rattle.std.specs.Prelude.{ℕ, ◌&&◌, cond, List, [], ◌∷◌, nat_eq}
use Rattle.pf_base.specs.LabelSets.{is_empty}

-- a line without one carriage return at its end
abbrev pub without_return : List ℕ → List ℕ
without_return [] = []
without_return (b ∷ bs) = cond (is_empty bs && nat_eq b 13) [] (b ∷ without_return bs)
