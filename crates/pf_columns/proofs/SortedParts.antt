-- A list whose parts are sorted first has the same order as one whose parts are not.
use Rattle.std.proofs.Common.{◌≡◌, Bool, true, false, cond, List, [], ◌∷◌, ◌++◌, refl, sym, ap, ◌∙◌}
use Rattle.std.specs.Cmp.{IsTotalOrder}
use Rattle.std.specs.Ordering.{is_gt, ordering_reverse}
use Rattle.std.specs.declared.cmp.Ordering.{Ordering}
use Rattle.std.specs.declared.cmp.Ordering.TheVariants.{Less, Equal, Greater}
use Rattle.pf_base.specs.Sorting.{ins, isort}
use Rattle.pf_model.specs.Lists.{joined}

reversed_less : (a b : Ordering) → b ≡ ordering_reverse a → is_gt a ≡ true → b ≡ Less
reversed_less Less b e h = cc
reversed_less Equal b e h = cc
reversed_less Greater b e h = e

module _ {X : Type 0} (R : X → X → Ordering) (o : IsTotalOrder R) where
  below_of : (x y : X) → is_gt (R x y) ≡ true → R y x ≡ Less
  below_of x y h = reversed_less (R x y) (R y x) (o.antisymm y x) h

  above_of : (x y : X) → R y x ≡ Less → is_gt (R x y) ≡ true
  above_of x y h = ap is_gt (o.antisymm x y ∙ ap ordering_reverse h)

  not_back : (x y : X) → is_gt (R x y) ≡ true → is_gt (R y x) ≡ false
  not_back x y h = ap is_gt (below_of x y h)

  above_both : (x y z : X) → is_gt (R x y) ≡ true → is_gt (R y z) ≡ true → is_gt (R x z) ≡ true
  above_both x y z h g = above_of x z (o.trans z y x (below_of y z g) (below_of x y h))

  -- ---- two that are put in

  ins_above : (x y : X) (ys : List X) → is_gt (R x y) ≡ true → ins R x (y ∷ ys) ≡ y ∷ ins R x ys
  ins_above x y ys h = ap (λ b. cond b (y ∷ ins R x ys) (x ∷ y ∷ ys)) h

  ins_first : (x y : X) (ys : List X) → is_gt (R x y) ≡ false → ins R x (y ∷ ys) ≡ x ∷ y ∷ ys
  ins_first x y ys h = ap (λ b. cond b (y ∷ ins R x ys) (x ∷ y ∷ ys)) h

  swap_behind : (x y z : X) (zs : List X) (c : Bool) → is_gt (R x y) ≡ true → is_gt (R y z) ≡ false → is_gt (R x z) ≡ c
      → ins R x (y ∷ z ∷ zs) ≡ ins R y (ins R x (z ∷ zs))
  swap_behind x y z zs true h g c =
      ins_above x y (z ∷ zs) h ∙ ap (λ ws. y ∷ ws) (ins_above x z zs c)
      ∙ sym (ap (ins R y) (ins_above x z zs c) ∙ ins_first y z (ins R x zs) g)
  swap_behind x y z zs false h g c =
      ins_above x y (z ∷ zs) h ∙ ap (λ ws. y ∷ ws) (ins_first x z zs c)
      ∙ sym (ap (ins R y) (ins_first x z zs c) ∙ ins_first y x (z ∷ zs) (not_back x y h))

  swap_by : (x y z : X) (zs : List X) (b : Bool) → is_gt (R x y) ≡ true → is_gt (R y z) ≡ b → ins R x (ins R y zs) ≡ ins R y (ins R x zs)
      → ins R x (ins R y (z ∷ zs)) ≡ ins R y (ins R x (z ∷ zs))
  swap_by x y z zs true h g r =
      let far = above_both x y z h g in
      ap (ins R x) (ins_above y z zs g) ∙ ins_above x z (ins R y zs) far ∙ ap (λ ws. z ∷ ws) r
      ∙ sym (ap (ins R y) (ins_above x z zs far) ∙ ins_above y z (ins R x zs) g)
  swap_by x y z zs false h g r = ap (ins R x) (ins_first y z zs g) ∙ swap_behind x y z zs (is_gt (R x z)) h g refl

  ins_swap : (x y : X) (zs : List X) → is_gt (R x y) ≡ true → ins R x (ins R y zs) ≡ ins R y (ins R x zs)
  ins_swap x y [] h = ins_above x y [] h ∙ sym (ins_first y x [] (not_back x y h))
  ins_swap x y (z ∷ zs) h = swap_by x y z zs (is_gt (R y z)) h refl (ins_swap x y zs h)

  -- ---- several that are put in

  abbrev put_in : List X → List X → List X
  put_in [] ws = ws
  put_in (x ∷ xs) ws = ins R x (put_in xs ws)

  put_append : (xs ys : List X) → isort R (xs ++ ys) ≡ put_in xs (isort R ys)
  put_append [] ys = refl
  put_append (x ∷ xs) ys = ap (ins R x) (put_append xs ys)

  put_by : (x y : X) (ys ws : List X) (b : Bool) → is_gt (R x y) ≡ b → put_in (ins R x ys) ws ≡ ins R x (put_in ys ws)
      → put_in (cond b (y ∷ ins R x ys) (x ∷ y ∷ ys)) ws ≡ ins R x (ins R y (put_in ys ws))
  put_by x y ys ws true g r = ap (ins R y) r ∙ sym (ins_swap x y (put_in ys ws) g)
  put_by x y ys ws false g r = refl

  put_ins : (x : X) (ys ws : List X) → put_in (ins R x ys) ws ≡ ins R x (put_in ys ws)
  put_ins x [] ws = refl
  put_ins x (y ∷ ys) ws = put_by x y ys ws (is_gt (R x y)) refl (put_ins x ys ws)

  put_sorted : (xs ws : List X) → put_in (isort R xs) ws ≡ put_in xs ws
  put_sorted [] ws = refl
  put_sorted (x ∷ xs) ws = put_ins x (isort R xs) ws ∙ ap (ins R x) (put_sorted xs ws)

  pub sorted_parts : {Y : Type 0} (f : Y → List X) (ys : List Y) → isort R (joined (λ y. isort R (f y)) ys) ≡ isort R (joined f ys)
  sorted_parts f [] = refl
  sorted_parts f (y ∷ ys) =
      put_append (isort R (f y)) (joined (λ z. isort R (f z)) ys)
      ∙ put_sorted (f y) (isort R (joined (λ z. isort R (f z)) ys))
      ∙ ap (put_in (f y)) (sorted_parts f ys)
      ∙ sym (put_append (f y) (joined f ys))
