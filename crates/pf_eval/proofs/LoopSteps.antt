-- Loops that make one list of another, a step on.
use Rattle.std.proofs.Common.{◌≡◌, ◌<◌, ℕ, zero, suc, ◌+◌, true, false, ◌≤◌, nat_lt, slice_index_or, arith, List, [], ◌∷◌, ◌++◌, map, drop, length, get_or, refl, sym, ap, ◌∙◌, append_assoc}
use Rattle.std.specs.List.{slice_get}
use Rattle.std.proofs.lemmas.Bool.Decides.{nat_tests}
use Rattle.std.proofs.lemmas.List.{drop_more}
use Rattle.pf_join.specs.KeyPlaces.{one_of}
use Rattle.pf_model.specs.Lists.{joined}

next : {X : Type 0} (xs : List X) (i : ℕ) (x : X) → i < length xs → x ≡ get_or xs i x → drop i xs ≡ x ∷ drop (i + 1) xs
next xs i x lt e = drop_more xs i x lt ∙ ap (λ y. y ∷ drop (i + 1) xs) (sym e)

pub joined_more : {X Y : Type 0} (f : X → List Y) (xs : List X) (i : ℕ) (x : X) (found after : List Y) → i < length xs → x ≡ get_or xs i x
    → after ≡ found ++ f x → found ++ joined f (drop i xs) ≡ joined f xs → after ++ joined f (drop (i + 1) xs) ≡ joined f xs
joined_more f xs i x found after lt e a h =
    ap (λ ys. ys ++ joined f (drop (i + 1) xs)) a ∙ append_assoc found (f x) (joined f (drop (i + 1) xs))
    ∙ ap (λ ys. found ++ joined f ys) (sym (next xs i x lt e)) ∙ h

pub map_more : {X Y : Type 0} (f : X → Y) (xs : List X) (i : ℕ) (x : X) (found after : List Y) → i < length xs → x ≡ get_or xs i x
    → after ≡ found ++ (f x ∷ []) → found ++ map f (drop i xs) ≡ map f xs → after ++ map f (drop (i + 1) xs) ≡ map f xs
map_more f xs i x found after lt e a h =
    ap (λ ys. ys ++ map f (drop (i + 1) xs)) a ∙ append_assoc found (f x ∷ []) (map f (drop (i + 1) xs))
    ∙ ap (λ ys. found ++ map f ys) (sym (next xs i x lt e)) ∙ h

-- ---- what stands at a place

one_by : {X : Type 0} (xs : List X) (i : ℕ) (x : X) → i < length xs → x ≡ slice_index_or xs i x → x ∷ [] ≡ one_of (slice_get xs i)
one_by [] i x h e = absurd (omega (arith, h))
one_by (y ∷ ys) zero x h e = ap (λ z. z ∷ []) e
one_by (y ∷ ys) (suc i) x h e = one_by ys i x (omega (arith, h)) e

none_by : {X : Type 0} (xs : List X) (i : ℕ) → length xs ≤ i → [] ≡ one_of (slice_get xs i)
none_by [] zero h = refl
none_by [] (suc i) h = refl
none_by (y ∷ ys) zero h = absurd (omega (arith, h))
none_by (y ∷ ys) (suc i) h = none_by ys i (omega (arith, h))

pub one_there : {X : Type 0} (xs : List X) (i : ℕ) (x : X) → true ≡ nat_lt i (length xs) → x ≡ slice_index_or xs i x → x ∷ [] ≡ one_of (slice_get xs i)
one_there xs i x h e = let within : i < length xs = grind (arith, nat_tests, h) in one_by xs i x within e

pub none_there : {X : Type 0} (xs : List X) (i : ℕ) → false ≡ nat_lt i (length xs) → [] ≡ one_of (slice_get xs i)
none_there xs i h = let behind : length xs ≤ i = grind (arith, nat_tests, h) in none_by xs i behind

pub with_none : {X : Type 0} (xs none : List X) → [] ≡ none → xs ≡ xs ++ none
with_none [] none e = e
with_none (x ∷ xs) none e = ap (λ ys. x ∷ ys) (with_none xs none e)
