-- Laws of lists by place.
use Rattle.std.proofs.Common.{◌≡◌, ◌≢◌, ℕ, zero, suc, ◌<◌, ◌≤◌, ◌⊎◌, inl, inr, Some, List, [], ◌∷◌, ◌++◌, length, refl, ap, arith, slice_get, slice_set, take}
use Rattle.pf_model.specs.Lists.{Each}

module _ {X : Type 0} where
  -- what stands at a place stands there in a longer list
  pub get_front : (xs ys : List X) (i : ℕ) (x : X) → slice_get xs i ≡ Some x → slice_get (xs ++ ys) i ≡ Some x
  get_front [] ys i x h = cc
  get_front (y ∷ xs) ys zero x h = h
  get_front (y ∷ xs) ys (suc i) x h = get_front xs ys i x h

  pub get_pushed : (xs : List X) (y : X) → slice_get (xs ++ y ∷ []) (length xs) ≡ Some y
  get_pushed [] y = refl
  get_pushed (x ∷ xs) y = get_pushed xs y

  -- and what stands at a place of a list with one more stood there, or is the one
  pub get_push : (xs : List X) (y : X) (i : ℕ) (x : X) → slice_get (xs ++ y ∷ []) i ≡ Some x
      → (slice_get xs i ≡ Some x) ⊎ ((i ≡ length xs) × (x ≡ y))
  get_push [] y zero x h = inr (refl, cc)
  get_push [] y (suc i) x h = cc
  get_push (z ∷ xs) y zero x h = inl h
  get_push (z ∷ xs) y (suc i) x h = pushed (get_push xs y i x h) where
    pushed : (slice_get xs i ≡ Some x) ⊎ ((i ≡ length xs) × (x ≡ y)) → (slice_get xs i ≡ Some x) ⊎ ((suc i ≡ suc (length xs)) × (x ≡ y))
    pushed (inl g) = inl g
    pushed (inr g) = inr (ap suc g.0, g.1)

  -- a write at a place
  pub get_set_same : (xs : List X) (i : ℕ) (y : X) → i < length xs → slice_get (slice_set xs i y) i ≡ Some y
  get_set_same [] i y h = absurd (omega (arith, h))
  get_set_same (x ∷ xs) zero y h = refl
  get_set_same (x ∷ xs) (suc i) y h = get_set_same xs i y (omega (arith, h))

  pub get_set_other : (xs : List X) (i j : ℕ) (y : X) → j ≢ i → slice_get (slice_set xs i y) j ≡ slice_get xs j
  get_set_other [] i j y d = refl
  get_set_other (x ∷ xs) zero zero y d = absurd (d refl)
  get_set_other (x ∷ xs) zero (suc j) y d = refl
  get_set_other (x ∷ xs) (suc i) zero y d = refl
  get_set_other (x ∷ xs) (suc i) (suc j) y d = get_set_other xs i j y (λ e. d (ap suc e))

  pub take_front : (k : ℕ) (xs ys : List X) → k ≤ length xs → take k (xs ++ ys) ≡ take k xs
  take_front zero xs ys h = refl
  take_front (suc k) [] ys h = absurd (omega (arith, h))
  take_front (suc k) (x ∷ xs) ys h = ap (λ (zs : List X). x ∷ zs) (take_front k xs ys (omega (arith, h)))

  -- a fact of each element, of a list with one more
  pub each_push : (P : X → Type 0) (xs : List X) (y : X) → Each P xs → P y → Each P (xs ++ y ∷ [])
  each_push P [] y h p = (p, tt)
  each_push P (x ∷ xs) y h p = (h.0, each_push P xs y h.1 p)

  pub each_map : (P Q : X → Type 0) (f : (x : X) → P x → Q x) (xs : List X) → Each P xs → Each Q xs
  each_map P Q f [] h = tt
  each_map P Q f (x ∷ xs) h = (f x h.0, each_map P Q f xs h.1)

  pub length_front : (xs ys : List X) → length xs ≤ length (xs ++ ys)
  length_front [] ys = omega arith
  length_front (x ∷ xs) ys = let rest = length_front xs ys in omega (arith, rest)
