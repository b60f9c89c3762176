-- Points of a column that are collected one after another.
use Rattle.std.proofs.Common.{◌≡◌, ℕ, zero, suc, ◌+◌, ℤ, pos, Option, List, [], ◌∷◌, ◌++◌, Some, None, drop, sym, ap, ◌∙◌, subst, append_assoc, append-nil, add-one, arith}
use Rattle.std.specs.List.{slice_get}
use Rattle.pf_base.specs.declared.plain.Sample.{Sample}
use Rattle.pf_columns.specs.Columns.{value_in, point_at, points_in}

pub drop_at : {X : Type 0} (xs : List X) (i : ℕ) (x : X) → slice_get xs i ≡ Some x → drop i xs ≡ x ∷ drop (suc i) xs
drop_at [] i x h = cc
drop_at (y ∷ xs) zero x h = let same : y ≡ x = cc in ap (λ z. z ∷ xs) same
drop_at (y ∷ xs) (suc i) x h = drop_at xs i x h

module _ (start : List Sample) (vs : List (Option ℤ)) (ts : List ℕ) (from : ℕ) where
  abbrev pub AreSoFar : List Sample → ℕ → Type 0
  AreSoFar points i = points ++ points_in (drop i ts) (from + i) vs ≡ start ++ points_in ts from vs

  one_more :
      (i t : ℕ) (points more : List Sample) → slice_get ts i ≡ Some t → point_at t (value_in vs (from + i)) ≡ more
      → AreSoFar points i → AreSoFar (points ++ more) (i + 1)
  one_more i t points more g p h =
      let next : i + 1 ≡ suc i = add-one i in
      let on : from + (i + 1) ≡ (from + i) + 1 = omega arith in
      (λ j. (points ++ more) ++ points_in (drop (next j) ts) (on j) vs)
      ∙ append_assoc points more (points_in (drop (suc i) ts) ((from + i) + 1) vs)
      ∙ ap (λ ps. points ++ (ps ++ points_in (drop (suc i) ts) ((from + i) + 1) vs)) (sym p)
      ∙ ap (λ us. points ++ points_in us (from + i) vs) (sym (drop_at ts i t g))
      ∙ h

  pub point_more :
      (i t : ℕ) (points next : List Sample) (z v : ℤ) → slice_get ts i ≡ Some t → z ≡ pos t → Some v ≡ value_in vs (from + i)
      → next ≡ points ++ (record { time = z; value = v } ∷ []) → AreSoFar points i → AreSoFar next (i + 1)
  point_more i t points next z v g e p n h =
      let made : next ≡ points ++ (record { time = pos t; value = v } ∷ []) =
      n ∙ ap (λ u. points ++ (record { time = u; value = v } ∷ [])) e in
      subst (λ ps. AreSoFar ps (i + 1)) (sym made) (one_more i t points _ g (ap (point_at t) (sym p)) h)

  pub point_none :
      (i t : ℕ) (points next : List Sample) → slice_get ts i ≡ Some t → None ≡ value_in vs (from + i) → next ≡ points → AreSoFar points i
      → AreSoFar next (i + 1)
  point_none i t points next g p n h =
      let made : next ≡ points ++ [] = n ∙ sym (append-nil points) in
      subst (λ ps. AreSoFar ps (i + 1)) (sym made) (one_more i t points [] g (ap (point_at t) (sym p)) h)
