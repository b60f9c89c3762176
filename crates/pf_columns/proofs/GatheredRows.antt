-- What is gathered of the cells of columns is the rows of the columns that have a point.
use Rattle.std.proofs.Common.{◌≡◌, ℕ, zero, suc, ◌+◌, ℤ, Bool, true, false, cond, ◌||◌, Option, Some, None, List, [], ◌∷◌, ◌++◌, map, length, refl, sym, ap, ◌∙◌, subst, append-nil}
use Rattle.pf_base.specs.declared.plain.Sample.{Sample}
use Rattle.pf_base.specs.LabelSets.{Pairs}
use Rattle.pf_model.specs.declared.cell.Element.{Element}
use Rattle.pf_model.specs.Cells.{element}
use Rattle.pf_model.specs.Direct.{Step, MatrixRow, gather, points_of}
use Rattle.pf_model.specs.Selection.{same_labels}
use Rattle.pf_model.proofs.KeySets.{below_all, same_is, same_turned, stands_in}
use Rattle.pf_columns.specs.Columns.{AreRising, ColumnData, cell_at, cells_from, columns_labels, point_at, points_in, row_with, rows_in, timed, value_in}
use Rattle.pf_columns.specs.Runs.{full_rows, points_for, rows_labels}
use Rattle.pf_columns.proofs.FullRows.{gather_by}
use Rattle.pf_columns.proofs.Occurring.{point_of, with_labels}

-- the values of a label set, none where it has no column
abbrev values_for : Pairs → List ColumnData → List (Option ℤ)
values_for l [] = []
values_for l (c ∷ cs) = cond (same_labels c.labels l) c.values (values_for l cs)

abbrev points_now : Pairs → ℕ → ℕ → List ColumnData → List Sample
points_now l t k cs = map (point_of t) (with_labels l (cell_at cs k))

none_in : (k : ℕ) → value_in [] k ≡ None
none_in zero = refl
none_in (suc k) = refl

-- ---- the points of a step

other : (l m : Pairs) (t : ℕ) (o : Option ℤ) (es : List Element) → same_labels m l ≡ false → map (point_of t) (with_labels l (element m o ++ es)) ≡ map (point_of t) (with_labels l es)
other l m t None es h = refl
other l m t (Some v) es h = ap (λ b. map (point_of t) (cond b (record { labels = m; value = v } ∷ with_labels l es) (with_labels l es))) h

own : (l m : Pairs) (t : ℕ) (o : Option ℤ) (es : List Element) → same_labels m l ≡ true → map (point_of t) (with_labels l (element m o ++ es)) ≡ point_at t o ++ map (point_of t) (with_labels l es)
own l m t None es h = refl
own l m t (Some v) es h = ap (λ b. map (point_of t) (cond b (record { labels = m; value = v } ∷ with_labels l es) (with_labels l es))) h

first_false : (a b : Bool) → (a || b) ≡ false → a ≡ false
first_false true b h = h
first_false false b h = refl

second_false : (a b : Bool) → (a || b) ≡ false → b ≡ false
second_false true b h = let both : true ≡ false = h in cc
second_false false b h = h

lacking : (l : Pairs) (t k : ℕ) (cs : List ColumnData) → stands_in l (columns_labels cs) ≡ false → points_now l t k cs ≡ []
lacking l t k [] h = refl
lacking l t k (c ∷ cs) h =
    other l c.labels t (value_in c.values k) (cell_at cs k)
    (same_turned c.labels l ∙ first_false (same_labels l c.labels) (stands_in l (columns_labels cs)) h)
    ∙ lacking l t k cs (second_false (same_labels l c.labels) (stands_in l (columns_labels cs)) h)

now_by : (l : Pairs) (t k : ℕ) (c : ColumnData) (cs : List ColumnData) (b : Bool) → same_labels c.labels l ≡ b → AreRising (columns_labels (c ∷ cs))
    → points_now l t k cs ≡ point_at t (value_in (values_for l cs) k)
    → points_now l t k (c ∷ cs) ≡ point_at t (value_in (cond b c.values (values_for l cs)) k)
now_by l t k c cs true s h e =
    own l c.labels t (value_in c.values k) (cell_at cs k) s
    ∙ ap (λ ps. point_at t (value_in c.values k) ++ ps)
    (ap (λ m. points_now m t k cs) (sym (same_is c.labels l s)) ∙ lacking c.labels t k cs (below_all c.labels (columns_labels cs) h.0))
    ∙ append-nil (point_at t (value_in c.values k))
now_by l t k c cs false s h e = other l c.labels t (value_in c.values k) (cell_at cs k) s ∙ e

now_is : (l : Pairs) (t k : ℕ) (cs : List ColumnData) → AreRising (columns_labels cs) → points_now l t k cs ≡ point_at t (value_in (values_for l cs) k)
now_is l t k [] h = sym (ap (point_at t) (none_in k))
now_is l t k (c ∷ cs) h = now_by l t k c cs (same_labels c.labels l) refl h (now_is l t k cs h.1)

module _ (cs : List ColumnData) (rises : AreRising (columns_labels cs)) where
  abbrev steps : List ℕ → ℕ → List Step
  steps ts k = timed ts (cells_from cs k (length ts))

  points_are : (l : Pairs) (ts : List ℕ) (k : ℕ) → points_of l (steps ts k) ≡ points_in ts k (values_for l cs)
  points_are l [] k = refl
  points_are l (t ∷ ts) k = λ i. now_is l t k cs rises i ++ points_are l ts (k + 1) i

-- ---- the rows of columns

no_points : (ts : List ℕ) (k : ℕ) → points_in ts k [] ≡ []
no_points [] k = refl
no_points (t ∷ ts) k = ap (λ o. point_at t o ++ points_in ts (k + 1) []) (none_in k) ∙ no_points ts (k + 1)

abbrev rows_at : List ℕ → ℕ → List ColumnData → List MatrixRow
rows_at ts k cs = map (λ c. record { labels = c.labels; points = points_in ts k c.values }) cs

chosen : (b : Bool) (ts : List ℕ) (k : ℕ) (vs ws : List (Option ℤ)) → cond b (points_in ts k vs) (points_in ts k ws) ≡ points_in ts k (cond b vs ws)
chosen true ts k vs ws = refl
chosen false ts k vs ws = refl

points_at : (l : Pairs) (ts : List ℕ) (k : ℕ) (cs : List ColumnData) → points_for l (rows_at ts k cs) ≡ points_in ts k (values_for l cs)
points_at l ts k [] = sym (no_points ts k)
points_at l ts k (c ∷ cs) =
    ap (cond (same_labels c.labels l) (points_in ts k c.values)) (points_at l ts k cs) ∙ chosen (same_labels c.labels l) ts k c.values (values_for l cs)

labels_at : (ts : List ℕ) (k : ℕ) (cs : List ColumnData) → rows_labels (rows_at ts k cs) ≡ columns_labels cs
labels_at ts k [] = refl
labels_at ts k (c ∷ cs) = ap (λ ls. c.labels ∷ ls) (labels_at ts k cs)

full_at : (ts : List ℕ) (k : ℕ) (cs : List ColumnData) → full_rows (rows_at ts k cs) ≡ rows_in ts k cs
full_at ts k [] = refl
full_at ts k (c ∷ cs) = ap (λ rows. row_with c.labels (points_in ts k c.values) ++ rows) (full_at ts k cs)

module _ (cs : List ColumnData) (r : AreRising (columns_labels cs)) where
  pub rise_at : (ts : List ℕ) (k : ℕ) → AreRising (rows_labels (rows_at ts k cs))
  rise_at ts k = subst AreRising (sym (labels_at ts k cs)) r

  pub steps_at : (l : Pairs) (ts : List ℕ) (k n : ℕ) → length ts ≡ n → points_for l (rows_at ts k cs) ≡ points_of l (timed ts (cells_from cs k n))
  steps_at l ts k n e = points_at l ts k cs ∙ sym (points_are cs r l ts k) ∙ ap (λ m. points_of l (timed ts (cells_from cs k m))) e

  -- so many cells as there are times
  pub gather_is : (ts : List ℕ) (k n : ℕ) → length ts ≡ n → gather (timed ts (cells_from cs k n)) ≡ rows_in ts k cs
  gather_is ts k n e = gather_by (timed ts (cells_from cs k n)) (rows_at ts k cs) (rise_at ts k) (λ l. steps_at l ts k n e) ∙ full_at ts k cs
