-- What was written bit by bit.
use Rattle.std.proofs.Common.{◌≡◌, ◌∙◌, ap, List, ◌++◌, ℕ, Result, Ok, Err, OnOk}
use Rattle.std.proofs.lemmas.List.{append_assoc}

pub pushed : (o p q a b : List ℕ) → p ≡ o ++ a → q ≡ p ++ b → q ≡ o ++ (a ++ b)
pushed o p q a b h g = g ∙ (ap (λ x. x ++ b) h ∙ append_assoc o a b)

pub pushed_as : (o p a b : List ℕ) → p ≡ o ++ a → a ≡ b → p ≡ o ++ b
pushed_as o p a b h e = h ∙ ap (λ x. o ++ x) e

pub on_ok : {A E : Type 0} {P Q : Type 0} (r : Result A E) → (P → Q) → OnOk r P → OnOk r Q
on_ok (Ok x) f h = f h
on_ok (Err e) f h = tt
