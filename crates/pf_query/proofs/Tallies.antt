-- Facts of each element of a list, and how many of its elements pass a test. This project's own.
use Rattle.std.proofs.Common.{◌≡◌, ℕ, suc, ◌+◌, ◌≤◌, ◌⊎◌, inl, inr, Bool, true, false, not, cond, List, [], ◌∷◌, ◌++◌, length, filter, refl, ap, arith}
use Rattle.std.proofs.lemmas.List.Sums.{sum_by-cons, sum_by-append}
use Rattle.std.specs.Prelude.{count_by}
use Rattle.pf_model.specs.Lists.{Each}

pub bool_cases : (b : Bool) → (b ≡ true) ⊎ (b ≡ false)
bool_cases true = inl refl
bool_cases false = inr refl

abbrev pub one_if : Bool → ℕ
one_if b = cond b 1 0

none_by : (b : Bool) (n m : ℕ) → b ≡ false → n ≡ one_if b + m → m ≡ 0 → n ≡ 0
none_by true n m h e k = absurd cc
none_by false n m h e k = omega (arith, e, k)

less_by : (b c : Bool) (n m k l : ℕ) → (b ≡ true → c ≡ true) → n ≡ one_if b + m → k ≡ one_if c + l → m ≤ l → n ≤ k
less_by true true n m k l f e g h = omega (arith, e, g, h)
less_by true false n m k l f e g h = absurd (let z = f refl in cc)
less_by false true n m k l f e g h = omega (arith, e, g, h)
less_by false false n m k l f e g h = omega (arith, e, g, h)

all_by : (b : Bool) (n m k : ℕ) → b ≡ true → n ≡ one_if b + m → m ≡ k → n ≡ suc k
all_by true n m k h e g = omega (arith, e, g)
all_by false n m k h e g = absurd cc

module _ {X : Type 0} where
  -- ---- a fact of each

  pub each_map : (P Q : X → Type 0) (f : (x : X) → P x → Q x) (xs : List X) → Each P xs → Each Q xs
  each_map P Q f [] h = tt
  each_map P Q f (x ∷ xs) h = (f x h.0, each_map P Q f xs h.1)

  pub each_append : (P : X → Type 0) (xs ys : List X) → Each P xs → Each P ys → Each P (xs ++ ys)
  each_append P [] ys h k = k
  each_append P (x ∷ xs) ys h k = (h.0, each_append P xs ys h.1 k)

  filter_by : (P Q : X → Type 0) (x : X) (xs : List X) (b : Bool) → (b ≡ true → Q x) → Each Q xs → Each Q (cond b (x ∷ xs) xs)
  filter_by P Q x xs true f h = (f refl, h)
  filter_by P Q x xs false f h = h

  -- of those that pass
  pub each_filter : (P Q : X → Type 0) (r : X → Bool) (f : (x : X) → r x ≡ true → P x → Q x) (xs : List X) → Each P xs → Each Q (filter r xs)
  each_filter P Q r f [] h = tt
  each_filter P Q r f (x ∷ xs) h = filter_by P Q x (filter r xs) (r x) (λ t. f x t h.0) (each_filter P Q r f xs h.1)

  -- ---- a number

  pub count_cons : (p : X → Bool) (x : X) (xs : List X) → count_by p (x ∷ xs) ≡ one_if (p x) + count_by p xs
  count_cons p x xs = sum_by-cons (λ y. one_if (p y)) x xs

  pub count_append : (p : X → Bool) (xs ys : List X) → count_by p (xs ++ ys) ≡ count_by p xs + count_by p ys
  count_append p xs ys = sum_by-append (λ y. one_if (p y)) xs ys

  pub count_one : (p : X → Bool) (x : X) → count_by p (x ∷ []) ≡ one_if (p x)
  count_one p x = let h = count_cons p x [] in omega (arith, h)

  -- none where none of them passes
  pub count_none : (p : X → Bool) (xs : List X) → Each (λ x. p x ≡ false) xs → count_by p xs ≡ 0
  count_none p [] h = refl
  count_none p (x ∷ xs) h = none_by (p x) (count_by p (x ∷ xs)) (count_by p xs) h.0 (count_cons p x xs) (count_none p xs h.1)

  -- fewer where each that passes passes another test
  pub count_less : (p r : X → Bool) (f : (x : X) → p x ≡ true → r x ≡ true) (xs : List X) → count_by p xs ≤ count_by r xs
  count_less p r f [] = omega arith
  count_less p r f (x ∷ xs) =
      less_by (p x) (r x) (count_by p (x ∷ xs)) (count_by p xs) (count_by r (x ∷ xs)) (count_by r xs) (f x) (count_cons p x xs) (count_cons r x xs)
      (count_less p r f xs)

  -- all where each of them passes
  pub count_all : (p : X → Bool) (xs : List X) → Each (λ x. p x ≡ true) xs → count_by p xs ≡ length xs
  count_all p [] h = refl
  count_all p (x ∷ xs) h = all_by (p x) (count_by p (x ∷ xs)) (count_by p xs) (length xs) h.0 (count_cons p x xs) (count_all p xs h.1)

  kept_by : (p : X → Bool) (x : X) (xs ys : List X) (b : Bool) → (p x ≡ true → b ≡ true) → count_by p ys ≡ count_by p xs
      → count_by p (cond b (x ∷ ys) ys) ≡ count_by p (x ∷ xs)
  kept_by p x xs ys true f h = let a = count_cons p x ys in let b = count_cons p x xs in omega (arith, a, b, h)
  kept_by p x xs ys false f h = elim (bool_cases (p x)) [
    | inl t ↦ absurd (let z = f t in cc)
    | inr t ↦ let a = count_cons p x xs in let z : one_if (p x) ≡ 0 = rw t refl in omega (arith, a, z, h)
  ]

  -- as many where each that passes stays
  pub count_kept : (p r : X → Bool) (f : (x : X) → p x ≡ true → r x ≡ true) (xs : List X) → count_by p (filter r xs) ≡ count_by p xs
  count_kept p r f [] = refl
  count_kept p r f (x ∷ xs) = kept_by p x xs (filter r xs) (r x) (f x) (count_kept p r f xs)

  all_units : (ys : List X) → Each (λ y. Unit {0}) ys
  all_units [] = tt
  all_units (y ∷ ys) = (tt, all_units ys)

  -- and none where none that passes stays
  pub count_dropped : (p r : X → Bool) (f : (x : X) → r x ≡ true → p x ≡ false) (xs : List X) → count_by p (filter r xs) ≡ 0
  count_dropped p r f xs =
      count_none p (filter r xs) (each_filter (λ y. Unit {0}) (λ y. p y ≡ false) r (λ y t u. f y t) xs (all_units xs))

  filter_none : (p : X → Bool) (x : X) (xs ys : List X) (b : Bool) (n m : ℕ) → n ≡ one_if b + m → n ≡ 0 → (m ≡ 0 → ys ≡ xs)
      → cond (not b) (x ∷ ys) ys ≡ x ∷ xs
  filter_none p x xs ys true n m e h f = absurd (omega (arith, e, h))
  filter_none p x xs ys false n m e h f = ap (λ zs. x ∷ zs) (f (omega (arith, e, h)))

  -- all others are all where none passes
  pub filter_all : (p : X → Bool) (xs : List X) → count_by p xs ≡ 0 → filter (λ x. not (p x)) xs ≡ xs
  filter_all p [] h = refl
  filter_all p (x ∷ xs) h =
      filter_none p x xs (filter (λ y. not (p y)) xs) (p x) (count_by p (x ∷ xs)) (count_by p xs) (count_cons p x xs) h (filter_all p xs)
