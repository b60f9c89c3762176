-- Parts of the cells of columns, and columns that are cut.
use Rattle.std.proofs.Common.{◌≡◌, ◌≤◌, ◌<◌, ℕ, zero, suc, ◌+◌, ℤ, Bool, true, false, cond, Option, None, Some, List, [], ◌∷◌, ◌++◌, length, take, drop, refl, sym, ap, ◌∙◌, arith}
use Rattle.std.specs.Prelude.{slice_index_or, slice_get}
use Rattle.std.specs.declared.cmp.Ordering.TheVariants.{Less}
use Rattle.pf_base.specs.LabelSets.{Pairs}
use Rattle.pf_base.specs.LabelOrder.{labels_cmp}
use Rattle.pf_model.specs.declared.cell.Element.{Element}
use Rattle.pf_model.specs.Cells.{element}
use Rattle.pf_model.specs.Lists.{joined}
use Rattle.pf_model.proofs.SelectorLabels.{AllAbove}
use Rattle.pf_columns.specs.Columns.{AreRising, ColumnData, cell_at, cells_from, columns_labels, cut_column, has_value, value_in}

pub length_cells : (cs : List ColumnData) (k n : ℕ) → length (cells_from cs k n) ≡ n
length_cells cs k zero = refl
length_cells cs k (suc n) = ap suc (length_cells cs (k + 1) n)

first_of : (cs : List ColumnData) (k m n : ℕ) → m ≤ n → take m (cells_from cs k n) ≡ cells_from cs k m
first_of cs k zero n h = refl
first_of cs k (suc m) zero h = absurd (omega (arith, h))
first_of cs k (suc m) (suc n) h = ap (λ xs. cell_at cs k ∷ xs) (first_of cs (k + 1) m n (omega (arith, h)))

pub part_is : (cs : List ColumnData) (k f m n : ℕ) → f + m ≤ n → cells_from cs (k + f) m ≡ take m (drop f (cells_from cs k n))
part_is cs k zero m n h = ap (λ j. cells_from cs j m) (omega arith) ∙ sym (first_of cs k m n (omega (arith, h)))
part_is cs k (suc f) m zero h = absurd (omega (arith, h))
part_is cs k (suc f) m (suc n) h = ap (λ j. cells_from cs j m) (omega arith) ∙ part_is cs (k + 1) f m n (omega (arith, h))

-- the cell of a step
pub cell_of_step : (cs : List ColumnData) (k n i : ℕ) → i < n → slice_get (cells_from cs k n) i ≡ Some (cell_at cs (k + i))
cell_of_step cs k zero i h = absurd (omega (arith, h))
cell_of_step cs k (suc n) zero h = ap (λ j. Some (cell_at cs j)) (omega arith)
cell_of_step cs k (suc n) (suc i) h = cell_of_step cs (k + 1) n i (omega (arith, h)) ∙ ap (λ j. Some (cell_at cs j)) (omega arith)

-- ---- columns that are cut

in_front : {X : Type 0} (d : X) (xs : List X) (n k : ℕ) → k < n → slice_index_or (take n xs) k d ≡ slice_index_or xs k d
in_front d xs zero k h = absurd (omega (arith, h))
in_front d [] (suc n) k h = refl
in_front d (x ∷ xs) (suc n) zero h = refl
in_front d (x ∷ xs) (suc n) (suc k) h = in_front d xs n k (omega (arith, h))

none_of : {X : Type 0} (d : X) (k : ℕ) → slice_index_or [] k d ≡ d
none_of d zero = refl
none_of d (suc k) = refl

behind : {X : Type 0} (d : X) (xs : List X) (f k : ℕ) → slice_index_or (drop f xs) k d ≡ slice_index_or xs (f + k) d
behind d xs zero k = let same : k ≡ zero + k = omega arith in ap (λ j. slice_index_or xs j d) same
behind d [] (suc f) k = none_of d k ∙ sym (none_of d (suc f + k))
behind d (x ∷ xs) (suc f) k = let same : suc (f + k) ≡ suc f + k = omega arith in behind d xs f k ∙ ap (λ j. slice_index_or (x ∷ xs) j d) same

cut_value : (vs : List (Option ℤ)) (f n k : ℕ) → k < n → value_in (take n (drop f vs)) k ≡ value_in vs (f + k)
cut_value vs f n k h = in_front None (drop f vs) n k h ∙ behind None vs f k

none_there : (vs : List (Option ℤ)) (k : ℕ) → has_value vs ≡ false → value_in vs k ≡ None
none_there [] k h = none_of None k
none_there (None ∷ vs) zero h = refl
none_there (None ∷ vs) (suc k) h = none_there vs k h
none_there (Some v ∷ vs) k h = cc

cell_by : (l : Pairs) (us : List (Option ℤ)) (ds : List ColumnData) (k : ℕ) (o : Option ℤ) (es : List Element) (b : Bool) → has_value us ≡ b → value_in us k ≡ o → cell_at ds k ≡ es
    → cell_at (cond b (record { labels = l; values = us } ∷ []) [] ++ ds) k ≡ element l o ++ es
cell_by l us ds k o es true h e r = λ i. element l (e i) ++ r i
cell_by l us ds k o es false h e r = r ∙ ap (λ p. element l p ++ es) (sym (none_there us k h) ∙ e)

cut_cell : (cs : List ColumnData) (f n k : ℕ) → k < n → cell_at (joined (cut_column f n) cs) k ≡ cell_at cs (f + k)
cut_cell [] f n k h = refl
cut_cell (c ∷ cs) f n k h =
    let us = take n (drop f c.values) in
    cell_by c.labels us (joined (cut_column f n) cs) k (value_in c.values (f + k)) (cell_at cs (f + k)) (has_value us) refl (cut_value c.values f n k h) (cut_cell cs f n k h)

cut_from : (cs : List ColumnData) (f n k m : ℕ) → k + m ≤ n → cells_from (joined (cut_column f n) cs) k m ≡ cells_from cs (f + k) m
cut_from cs f n k zero h = refl
cut_from cs f n k (suc m) h =
    let rest : cells_from cs (f + (k + 1)) m ≡ cells_from cs ((f + k) + 1) m = ap (λ j. cells_from cs j m) (omega arith) in
    λ i. cut_cell cs f n k (omega (arith, h)) i ∷ (cut_from cs f n (k + 1) m (omega (arith, h)) ∙ rest) i

pub cut_is : (cs : List ColumnData) (f n : ℕ) → cells_from (joined (cut_column f n) cs) 0 n ≡ cells_from cs f n
cut_is cs f n = cut_from cs f n 0 n (omega arith) ∙ ap (λ j. cells_from cs j n) (omega arith)

above_by : (m l : Pairs) (us : List (Option ℤ)) (ds : List ColumnData) (b : Bool) → labels_cmp m l ≡ Less → AllAbove m (columns_labels ds)
    → AllAbove m (columns_labels (cond b (record { labels = l; values = us } ∷ []) [] ++ ds))
above_by m l us ds true p h = (p, h)
above_by m l us ds false p h = h

cut_above : (m : Pairs) (cs : List ColumnData) (f n : ℕ) → AllAbove m (columns_labels cs) → AllAbove m (columns_labels (joined (cut_column f n) cs))
cut_above m [] f n h = tt
cut_above m (c ∷ cs) f n h =
    let us = take n (drop f c.values) in above_by m c.labels us (joined (cut_column f n) cs) (has_value us) h.0 (cut_above m cs f n h.1)

rises_by : (l : Pairs) (us : List (Option ℤ)) (ds : List ColumnData) (b : Bool) → AllAbove l (columns_labels ds) → AreRising (columns_labels ds)
    → AreRising (columns_labels (cond b (record { labels = l; values = us } ∷ []) [] ++ ds))
rises_by l us ds true a h = (a, h)
rises_by l us ds false a h = h

pub cut_rises : (cs : List ColumnData) (f n : ℕ) → AreRising (columns_labels cs) → AreRising (columns_labels (joined (cut_column f n) cs))
cut_rises [] f n h = tt
cut_rises (c ∷ cs) f n h =
    let us = take n (drop f c.values) in
    rises_by c.labels us (joined (cut_column f n) cs) (has_value us) (cut_above c.labels cs f n h.0) (cut_rises cs f n h.1)
