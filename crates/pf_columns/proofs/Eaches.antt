-- What holds of each element holds of each after a sort, a cut, and a joining.
use Rattle.std.proofs.Common.{◌≡◌, ◌<◌, ℕ, zero, suc, Bool, true, false, cond, List, [], ◌∷◌, ◌++◌, map, length, take, refl, sym, ap, ◌∙◌, arith}
use Rattle.std.proofs.lemmas.List.{map-append}
use Rattle.std.specs.Ordering.{is_gt}
use Rattle.std.specs.declared.cmp.Ordering.{Ordering}
use Rattle.pf_base.specs.Sorting.{ins, isort}
use Rattle.pf_model.specs.Lists.{Each, joined}
use Rattle.pf_model.specs.Merging.{below}

module _ {X : Type 0} (P : X → Type 0) where
  pub each_append : (xs ys : List X) → Each P xs → Each P ys → Each P (xs ++ ys)
  each_append [] ys a b = b
  each_append (x ∷ xs) ys a b = (a.0, each_append xs ys a.1 b)

  pub each_some : (x : X) (xs : List X) (b : Bool) → P x → Each P xs → Each P (cond b (x ∷ xs) xs)
  each_some x xs true p a = (p, a)
  each_some x xs false p a = a

  pub each_take : (n : ℕ) (xs : List X) → Each P xs → Each P (take n xs)
  each_take zero xs a = tt
  each_take (suc n) [] a = tt
  each_take (suc n) (x ∷ xs) a = (a.0, each_take n xs a.1)

  pub each_below : (f : ℕ → X) (n : ℕ) → ((k : ℕ) → k < n → P (f k)) → Each P (below f n)
  each_below f zero h = tt
  each_below f (suc n) h = each_append (below f n) (f n ∷ []) (each_below f n (λ k l. h k (omega (arith, l)))) (h n (omega arith), tt)

  module _ (R : X → X → Ordering) where
    each_ins_by : (x y : X) (ys : List X) (b : Bool) → P x → Each P (y ∷ ys) → Each P (ins R x ys) → Each P (cond b (y ∷ ins R x ys) (x ∷ y ∷ ys))
    each_ins_by x y ys true p a i = (a.0, i)
    each_ins_by x y ys false p a i = (p, a)

    pub each_ins : (x : X) (ys : List X) → P x → Each P ys → Each P (ins R x ys)
    each_ins x [] p a = (p, tt)
    each_ins x (y ∷ ys) p a = each_ins_by x y ys (is_gt (R x y)) p a (each_ins x ys p a.1)

    pub each_isort : (xs : List X) → Each P xs → Each P (isort R xs)
    each_isort [] a = tt
    each_isort (x ∷ xs) a = each_ins x (isort R xs) a.0 (each_isort xs a.1)

pub each_joined : {X Y : Type 0} (P : Y → Type 0) (f : X → List Y) (xs : List X) → Each (λ x. Each P (f x)) xs → Each P (joined f xs)
each_joined P f [] a = tt
each_joined P f (x ∷ xs) a = each_append P (f x) (joined f xs) a.0 (each_joined P f xs a.1)

pub each_so : {X : Type 0} (P Q : X → Type 0) (xs : List X) → ((x : X) → P x → Q x) → Each P xs → Each Q xs
each_so P Q [] h a = tt
each_so P Q (x ∷ xs) h a = (h x a.0, each_so P Q xs h a.1)

pub each_both : {X : Type 0} (P Q : X → Type 0) (xs : List X) → Each P xs → Each Q xs → Each (λ x. P x × Q x) xs
each_both P Q [] a b = tt
each_both P Q (x ∷ xs) a b = ((a.0, b.0), each_both P Q xs a.1 b.1)

-- what holds of each element at each number below another holds at each number of each element
pub each_at : {X : Type 0} (P : ℕ → X → Type 0) (n : ℕ) (xs : List X) → ((k : ℕ) → k < n → Each (P k) xs) → Each (λ x. (k : ℕ) → k < n → P k x) xs
each_at P n [] h = tt
each_at P n (x ∷ xs) h = ((λ k l. (h k l).0), each_at P n xs (λ k l. (h k l).1))

-- ---- a sort by what stands for the elements

module _ {X Y : Type 0} (f : X → Y) (R : X → X → Ordering) (S : Y → Y → Ordering) (P : X → Type 0) (agree : (x y : X) → P x → P y → S (f x) (f y) ≡ R x y) where
  map_ins_by : (x y : X) (ys : List X) (b : Bool) → map f (ins R x ys) ≡ ins S (f x) (map f ys)
      → map f (cond b (y ∷ ins R x ys) (x ∷ y ∷ ys)) ≡ cond b (f y ∷ ins S (f x) (map f ys)) (f x ∷ f y ∷ map f ys)
  map_ins_by x y ys true h = ap (λ zs. f y ∷ zs) h
  map_ins_by x y ys false h = refl

  map_ins : (x : X) (ys : List X) → P x → Each P ys → map f (ins R x ys) ≡ ins S (f x) (map f ys)
  map_ins x [] p a = refl
  map_ins x (y ∷ ys) p a =
      map_ins_by x y ys (is_gt (R x y)) (map_ins x ys p a.1)
      ∙ ap (λ o. cond (is_gt o) (f y ∷ ins S (f x) (map f ys)) (f x ∷ f y ∷ map f ys)) (sym (agree x y p a.0))

  pub map_isort : (xs : List X) → Each P xs → map f (isort R xs) ≡ isort S (map f xs)
  map_isort [] a = refl
  map_isort (x ∷ xs) a = map_ins x (isort R xs) a.0 (each_isort P R xs a.1) ∙ ap (ins S (f x)) (map_isort xs a.1)

-- ---- how many elements a sort has

module _ {X : Type 0} (R : X → X → Ordering) where
  length_ins_by : (x y : X) (ys : List X) (b : Bool) → length (ins R x ys) ≡ suc (length ys) → length (cond b (y ∷ ins R x ys) (x ∷ y ∷ ys)) ≡ suc (suc (length ys))
  length_ins_by x y ys true h = ap suc h
  length_ins_by x y ys false h = refl

  length_ins : (x : X) (ys : List X) → length (ins R x ys) ≡ suc (length ys)
  length_ins x [] = refl
  length_ins x (y ∷ ys) = length_ins_by x y ys (is_gt (R x y)) (length_ins x ys)

  pub length_isort : (xs : List X) → length (isort R xs) ≡ length xs
  length_isort [] = refl
  length_isort (x ∷ xs) = length_ins x (isort R xs) ∙ ap suc (length_isort xs)

-- ---- lists that are joined

pub map_joined : {X Y Z : Type 0} (f : Y → Z) (g : X → List Y) (xs : List X) → map f (joined g xs) ≡ joined (λ x. map f (g x)) xs
map_joined f g [] = refl
map_joined f g (x ∷ xs) = map-append f (g x) (joined g xs) ∙ ap (λ zs. map f (g x) ++ zs) (map_joined f g xs)
