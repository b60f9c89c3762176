-- Texts with another before each, one at a time.
use Rattle.std.proofs.Common.{◌≡◌, ◌∙◌, sym, refl, ap, ℕ, zero, suc, codes, ◌<◌, ◌+◌, List, [], ◌∷◌, ◌++◌, map, take, length, get_or, arith, cond, nat_eq, false}
use Rattle.std.proofs.lemmas.Bool.Decides.{nat_tests}
use Rattle.std.proofs.lemmas.List.{append_assoc, append-nil, map-append}
use Rattle.std.proofs.Math.Seq.{take-suc}
use Rattle.pf_model.specs.Lists.{all_behind, separated}
use Rattle.pf_print.specs.Printed.{comma_before}

behind_onto : (s : List ℕ) (xs : List (List ℕ)) (y : List ℕ) → all_behind s (xs ++ (y ∷ [])) ≡ all_behind s xs ++ (s ++ y)
behind_onto s [] y = ap (λ z. s ++ z) (append-nil y)
behind_onto s (x ∷ xs) y =
    ap (λ z. s ++ (x ++ z)) (behind_onto s xs y)
    ∙ (ap (λ z. s ++ z) (sym (append_assoc x (all_behind s xs) (s ++ y))) ∙ sym (append_assoc s (x ++ all_behind s xs) (s ++ y)))

plus : (n : ℕ) → n + 1 ≡ suc n
plus n = omega arith

pub labels_next : (s : List ℕ) (xs : List (List ℕ)) (i : ℕ) (d : List ℕ) → i < length xs
    → all_behind s (take (i + 1) xs) ≡ all_behind s (take i xs) ++ (s ++ get_or xs i d)
labels_next s xs i d l =
    ap (λ n. all_behind s (take n xs)) (plus i) ∙ (ap (all_behind s) (take-suc xs i d l) ∙ behind_onto s (take i xs) (get_or xs i d))

pub mapped_next : {A : Type 0} (s : List ℕ) (f : A → List ℕ) (xs : List A) (i : ℕ) (d : A) → i < length xs
    → all_behind s (map f (take (i + 1) xs)) ≡ all_behind s (map f (take i xs)) ++ (s ++ f (get_or xs i d))
mapped_next s f xs i d l =
    ap (λ n. all_behind s (map f (take n xs))) (plus i)
    ∙ (ap (λ ys. all_behind s (map f ys)) (take-suc xs i d l)
    ∙ (ap (all_behind s) (map-append f (take i xs) (get_or xs i d ∷ [])) ∙ behind_onto s (map f (take i xs)) (f (get_or xs i d))))

pub take_whole : {A : Type 0} (xs : List A) → take (length xs) xs ≡ xs
take_whole [] = refl
take_whole (x ∷ xs) = ap (λ ys. x ∷ ys) (take_whole xs)

separated_onto : (s x : List ℕ) (xs : List (List ℕ)) (y : List ℕ) → separated s ((x ∷ xs) ++ (y ∷ [])) ≡ separated s (x ∷ xs) ++ (s ++ y)
separated_onto s x xs y = ap (λ z. x ++ z) (behind_onto s xs y) ∙ sym (append_assoc x (all_behind s xs) (s ++ y))

pub args_next : {A : Type 0} (f : A → List ℕ) (xs : List A) (i : ℕ) (d : A) → i < length xs
    → separated (codes ", ") (map f (take (i + 1) xs))
    ≡ separated (codes ", ") (map f (take i xs)) ++ (comma_before i ++ f (get_or xs i d))
args_next f [] i d l = absurd (omega (arith, l))
args_next f (x ∷ xs) zero d l = append-nil (f x)
args_next f (x ∷ xs) (suc i) d l =
    ap (λ n. separated (codes ", ") (map f (take n (x ∷ xs)))) (plus (suc i))
    ∙ (ap (λ ys. separated (codes ", ") (map f (x ∷ ys))) (take-suc xs i d (omega (arith, l)))
    ∙ (ap (λ ys. separated (codes ", ") (f x ∷ ys)) (map-append f (take i xs) (get_or xs i d ∷ []))
    ∙ (separated_onto (codes ", ") (f x) (map f (take i xs)) (f (get_or xs i d))
    ∙ ap (λ b. separated (codes ", ") (f x ∷ map f (take i xs)) ++ (cond b [] (codes ", ") ++ f (get_or xs i d))) (sym (later i)))))
  where
    later : (n : ℕ) → nat_eq (suc n) 0 ≡ false
    later n = grind (arith, nat_tests)
