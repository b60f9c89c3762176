-- The members of the body of an error, as tokens: this project's own.
use Rattle.std.specs.Prelude.{ℕ, List, [], ◌∷◌, codes}
use Rattle.json.specs.Token.{Token, key, string}

abbrev pub error_members : List ℕ → List ℕ → List Token
error_members kind message =
    key (codes "status") ∷ (string (codes "error") ∷ (key (codes "errorType") ∷ (string kind
    ∷ (key (codes "error") ∷ (string message ∷ [])))))
