-- The parts of a point's text: this project's own.
use Rattle.std.specs.Prelude.{ℕ, List, [], ◌∷◌, ◌++◌}
use Rattle.pf_model.specs.Json.{seconds_text}

-- a comma, a bracket, milliseconds as seconds, a comma and a quote
abbrev pub head_text : ℕ → List ℕ
head_text t = 44 ∷ (91 ∷ (seconds_text t ++ (44 ∷ (34 ∷ []))))
