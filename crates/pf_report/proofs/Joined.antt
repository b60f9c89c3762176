-- Lists that grow piece by piece.
use Rattle.std.proofs.Common.{◌≡◌, ℕ, ◌+◌, ◌<◌, ◌≤◌, List, ◌∷◌, ◌++◌, length, get_or, take, drop, ap, sym, ◌∙◌, append_assoc, arith}
use Rattle.std.proofs.lemmas.List.{drop_more, length-take, take-take}
use Rattle.pf_model.specs.Lists.{comma_before}

pub join_two : (a b c t u : List ℕ) → b ≡ a ++ t → c ≡ b ++ u → c ≡ a ++ (t ++ u)
join_two a b c t u p q = q ∙ ap (λ x. x ++ u) p ∙ append_assoc a t u

-- one more element behind a comma
pub comma_step : {X : Type 0} (f : X → List ℕ) (xs : List X) (i : ℕ) (x : X) (a c z : List ℕ) → i < length xs
    → x ≡ get_or xs i x → c ≡ a ++ 44 ∷ f x → a ++ comma_before f (drop i xs) ≡ z
    → c ++ comma_before f (drop (i + 1) xs) ≡ z
comma_step f xs i x a c z h e p inv =
    let rest : drop i xs ≡ x ∷ drop (i + 1) xs = drop_more xs i x h ∙ ap (λ y. y ∷ drop (i + 1) xs) (sym e) in
    ap (λ l. l ++ comma_before f (drop (i + 1) xs)) p
    ∙ append_assoc a (44 ∷ f x) (comma_before f (drop (i + 1) xs))
    ∙ ap (λ l. a ++ comma_before f l) (sym rest) ∙ inv

-- what stood before stays through two steps
pub kept_on : (n m : ℕ) (o a c : List ℕ) → take n a ≡ o → take m c ≡ a → length o ≡ n → length a ≡ m → take n c ≡ o
kept_on n m o a c p q eo ea =
    let h : n ≤ m = omega (arith, ap length p, length-take n a) in
    sym (take-take n m c h) ∙ ap (take n) q ∙ p

-- a text behind what a buffer has
pub join_buffered : (o p t u w x : List ℕ) → p ++ u ≡ o ++ t → w ≡ u ++ x → p ++ w ≡ (o ++ t) ++ x
join_buffered o p t u w x e f = ap (λ l. p ++ l) f ∙ sym (append_assoc p u x) ∙ ap (λ l. l ++ x) e
