-- The arguments that name labels.
use Rattle.std.proofs.Common.{◌≡◌, ◌∙◌, ap, ℕ, ◌<◌, ◌≤◌, ◌&&◌, Bool, true, List, ◌++◌, drop, get_or, length, map, take}
use Rattle.std.proofs.Math.Bool.{and-true}
use Rattle.std.proofs.Math.Seq.{drop-cons}
use Rattle.std.proofs.lemmas.List.{drop_all, drop-map, take-map}
use Rattle.std.proofs.lemmas.List.Folds.{list_all-append, list_all-map}
use Rattle.std.specs.List.{list_all}

-- a part of a list, under a map
pub one_mapped : {X Y : Type 0} (p : Y → Bool) (f : X → Y) (k : ℕ) (xs : List X)
    → list_all p (take 1 (drop k (map f xs))) ≡ list_all (λ x. p (f x)) (take 1 (drop k xs))
one_mapped p f k xs =
    ap (λ ys. list_all p (take 1 ys)) (drop-map f k xs) ∙ ap (list_all p) (take-map f 1 (drop k xs)) ∙ list_all-map p f (take 1 (drop k xs))

pub rest_mapped : {X Y : Type 0} (p : Y → Bool) (f : X → Y) (k : ℕ) (xs : List X)
    → list_all p (drop k (map f xs)) ≡ list_all (λ x. p (f x)) (drop k xs)
rest_mapped p f k xs = ap (list_all p) (drop-map f k xs) ∙ list_all-map p f (drop k xs)

pub names : {X Y : Type 0} (p : Y → Bool) (f : X → Y) (xs : List X)
    → list_all p (take 1 (drop 1 (map f xs)) ++ take 1 (drop 3 (map f xs)))
    ≡ (list_all (λ x. p (f x)) (take 1 (drop 1 xs)) && list_all (λ x. p (f x)) (take 1 (drop 3 xs)))
names p f xs =
    list_all-append p (take 1 (drop 1 (map f xs))) (take 1 (drop 3 (map f xs)))
    ∙ ap (λ b. b && list_all p (take 1 (drop 3 (map f xs)))) (one_mapped p f 1 xs)
    ∙ ap (λ b. list_all (λ x. p (f x)) (take 1 (drop 1 xs)) && b) (one_mapped p f 3 xs)

pub names_behind : {X Y : Type 0} (p : Y → Bool) (f : X → Y) (xs : List X)
    → list_all p (take 1 (drop 1 (map f xs)) ++ drop 3 (map f xs))
    ≡ (list_all (λ x. p (f x)) (take 1 (drop 1 xs)) && list_all (λ x. p (f x)) (drop 3 xs))
names_behind p f xs =
    list_all-append p (take 1 (drop 1 (map f xs))) (drop 3 (map f xs))
    ∙ ap (λ b. b && list_all p (drop 3 (map f xs))) (one_mapped p f 1 xs)
    ∙ ap (λ b. list_all (λ x. p (f x)) (take 1 (drop 1 xs)) && b) (rest_mapped p f 3 xs)

pub one_at : {X : Type 0} (p : X → Bool) (k : ℕ) (xs : List X) (d : X) → k < length xs
    → list_all p (take 1 (drop k xs)) ≡ p (get_or xs k d)
one_at p k xs d h = ap (λ ys. list_all p (take 1 ys)) (drop-cons xs k d h) ∙ and-true (p (get_or xs k d))

pub none_at : {X : Type 0} (p : X → Bool) (k : ℕ) (xs : List X) → length xs ≤ k → list_all p (take 1 (drop k xs)) ≡ true
none_at p k xs h = ap (λ ys. list_all p (take 1 ys)) (drop_all k xs h)
