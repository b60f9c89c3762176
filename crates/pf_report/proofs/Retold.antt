-- What is appended on success, said of another value that is the same.
use Rattle.std.proofs.Common.{◌≡◌, ℕ, Result, OnOk, List, ◌++◌, subst}

pub retold : {T E X : Type 0} (r : Result T E) (f : X → List ℕ) (x y : X) (a b : List ℕ) → x ≡ y
    → OnOk r (b ≡ a ++ f x) → OnOk r (b ≡ a ++ f y)
retold r f x y a b e h = subst (λ z. OnOk r (b ≡ a ++ f z)) e h
