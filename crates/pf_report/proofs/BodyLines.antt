-- A line, and a body on a line of its own.
use Rattle.std.proofs.Common.{◌≡◌, ℕ, List, [], ◌∷◌, ◌++◌, ap, ◌∙◌, append_assoc}

pub answer_after : (a b c d line body : List ℕ) → b ≡ a ++ line → c ≡ b ++ body → d ≡ c ++ 10 ∷ []
    → d ≡ a ++ (line ++ (body ++ 10 ∷ []))
answer_after a b c d line body p q r =
    r ∙ ap (λ l. l ++ 10 ∷ []) (q ∙ ap (λ l. l ++ body) p) ∙ append_assoc (a ++ line) body (10 ∷ [])
    ∙ append_assoc a line (body ++ 10 ∷ [])
