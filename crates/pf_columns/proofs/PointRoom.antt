-- How many points a column has.
use Rattle.std.proofs.Common.{◌≡◌, ◌+◌, ◌<◌, ◌≤◌, ℕ, zero, suc, ℤ, Option, Some, None, List, [], ◌∷◌, ◌++◌, drop, take, filter, is_some, length, length-append, refl, sym, ap, ◌∙◌, add-one, arith}
use Rattle.std.specs.List.{slice_get}
use Rattle.pf_base.specs.declared.plain.Sample.{Sample}
use Rattle.pf_columns.specs.Columns.{point_at, points_in, value_in}
use Rattle.pf_columns.proofs.PointWalk.{AreSoFar, drop_at}

drop_next : (f : ℕ) (vs : List (Option ℤ)) → drop (suc f) vs ≡ drop 1 (drop f vs)
drop_next zero vs = refl
drop_next (suc f) [] = refl
drop_next (suc f) (v ∷ vs) = drop_next f vs

in_front : (f : ℕ) (vs : List (Option ℤ)) → value_in vs f ≡ value_in (drop f vs) 0
in_front zero vs = refl
in_front (suc f) [] = refl
in_front (suc f) (v ∷ vs) = in_front f vs

with_first : (t n : ℕ) (ps : List Sample) (us : List (Option ℤ)) → length ps ≡ length (filter is_some (take n (drop 1 us)))
    → length (point_at t (value_in us 0) ++ ps) ≡ length (filter is_some (take (suc n) us))
with_first t zero ps [] h = h
with_first t (suc n) ps [] h = h
with_first t n ps (None ∷ us) h = h
with_first t n ps (Some v ∷ us) h = ap suc h

pub count_is : (ts : List ℕ) (f : ℕ) (vs : List (Option ℤ)) → length (points_in ts f vs) ≡ length (filter is_some (take (length ts) (drop f vs)))
count_is [] f vs = refl
count_is (t ∷ ts) f vs =
    let behind : drop (f + 1) vs ≡ drop 1 (drop f vs) = (λ j. drop (add-one f j) vs) ∙ drop_next f vs in
    let more = count_is ts (f + 1) vs ∙ ap (λ us. length (filter is_some (take (length ts) us))) behind in
    ap (λ o. length (point_at t o ++ points_in ts (f + 1) vs)) (in_front f vs) ∙ with_first t (length ts) (points_in ts (f + 1) vs) (drop f vs) more

-- there is room for one more, where one more is left
pub room_there : (start : List Sample) (vs : List (Option ℤ)) (ts : List ℕ) (from i t cap : ℕ) (points : List Sample) (v : ℤ) → slice_get ts i ≡ Some t → Some v ≡ value_in vs (from + i)
    → AreSoFar start vs ts from points i → length start + length (points_in ts from vs) ≤ cap → length points < cap
room_there start vs ts from i t cap points v g p so_far room =
    let rest = points_in (drop (suc i) ts) ((from + i) + 1) vs in
    let left : points_in (drop i ts) (from + i) vs ≡ point_at t (Some v) ++ rest =
    ap (λ us. points_in us (from + i) vs) (drop_at ts i t g) ∙ ap (λ o. point_at t o ++ rest) (sym p) in
    let many = sym (length-append points (points_in (drop i ts) (from + i) vs)) ∙ ap length so_far ∙ length-append start (points_in ts from vs) in
    let one : length (points_in (drop i ts) (from + i) vs) ≡ suc (length rest) = ap length left in
    omega (arith, many, one, room)
