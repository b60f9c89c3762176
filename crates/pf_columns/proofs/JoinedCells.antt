-- The cells of columns of steps, and of those behind them.
use Rattle.std.proofs.Common.{◌≡◌, ◌+◌, ◌<◌, ◌≤◌, ℕ, zero, suc, ℤ, Bool, true, false, cond, List, [], ◌∷◌, ◌++◌, Option, None, length, map, take, drop, refl, sym, ap, ◌∙◌, subst, arith, length-append}
use Rattle.std.specs.declared.cmp.Ordering.{Ordering}
use Rattle.std.specs.declared.cmp.Ordering.TheVariants.{Less, Equal, Greater}
use Rattle.pf_base.specs.LabelOrder.{labels_cmp, labels_exact}
use Rattle.pf_base.specs.LabelSets.{Pairs}
use Rattle.pf_model.specs.declared.cell.Element.{Element}
use Rattle.pf_model.specs.Cells.{element}
use Rattle.pf_model.specs.Lists.{Each, joined}
use Rattle.pf_columns.specs.Columns.{AreRising, ColumnData, cell_at, cells_from, columns_labels, cut_column, has_value, value_in}
use Rattle.pf_columns.specs.Joins.{AreColumnsOf, by_labels, filled, into_columns, joined_columns, later_column}
use Rattle.pf_columns.proofs.JoinedColumns.{joined_rising}
use Rattle.pf_columns.proofs.JoinedRuns.{joined_append}
use Rattle.pf_columns.proofs.Parts.{cut_is, cut_rises, length_cells}

abbrev Cols : Type 0
Cols = List ColumnData

abbrev Values : Type 0
Values = List (Option ℤ)

-- ---- values that are filled up

pub fill_one : (n : ℕ) (vs : Values) → length vs < n → filled n (vs ++ None ∷ []) ≡ filled n vs
fill_one zero vs h = absurd (omega (arith, h))
fill_one (suc n) [] h = refl
fill_one (suc n) (v ∷ vs) h = ap (λ us. v ∷ us) (fill_one n vs (omega (arith, h)))

pub fill_none : (n : ℕ) (vs : Values) → n ≤ length vs → filled n vs ≡ vs
fill_none zero vs h = refl
fill_none (suc n) [] h = absurd (omega (arith, h))
fill_none (suc n) (v ∷ vs) h = ap (λ us. v ∷ us) (fill_none n vs (omega (arith, h)))

length_filled : (n : ℕ) (vs : Values) → length vs ≤ n → length (filled n vs) ≡ n
length_filled zero [] h = refl
length_filled zero (v ∷ vs) h = absurd (omega (arith, h))
length_filled (suc n) [] h = ap suc (length_filled n [] (omega arith))
length_filled (suc n) (v ∷ vs) h = ap suc (length_filled n vs (omega (arith, h)))

none_in : (k : ℕ) → value_in [] k ≡ None
none_in zero = refl
none_in (suc k) = refl

in_front : (n k : ℕ) (us vs : Values) → k < n → value_in (filled n us ++ vs) k ≡ value_in us k
in_front zero k us vs h = absurd (omega (arith, h))
in_front (suc n) zero [] vs h = refl
in_front (suc n) (suc k) [] vs h = in_front n k [] vs (omega (arith, h)) ∙ none_in k
in_front (suc n) zero (u ∷ us) vs h = refl
in_front (suc n) (suc k) (u ∷ us) vs h = in_front n k us vs (omega (arith, h))

behind : (n k : ℕ) (us vs : Values) → length us ≤ n → value_in (filled n us ++ vs) (n + k) ≡ value_in vs k
behind zero k [] vs h = let same : zero + k ≡ k = omega arith in ap (value_in vs) same
behind zero k (u ∷ us) vs h = absurd (omega (arith, h))
behind (suc n) k [] vs h = let same : suc n + k ≡ suc (n + k) = omega arith in ap (value_in (None ∷ (filled n [] ++ vs))) same ∙ behind n k [] vs (omega arith)
behind (suc n) k (u ∷ us) vs h = let same : suc n + k ≡ suc (n + k) = omega arith in ap (value_in (u ∷ (filled n us ++ vs))) same ∙ behind n k us vs (omega (arith, h))

over : (n k : ℕ) (us : Values) → length us ≤ n → value_in us (n + k) ≡ None
over n k [] h = none_in (n + k)
over zero k (u ∷ us) h = absurd (omega (arith, h))
over (suc n) k (u ∷ us) h = let same : suc n + k ≡ suc (n + k) = omega arith in ap (value_in (u ∷ us)) same ∙ over n k us (omega (arith, h))

-- ---- the cell of a step

abbrev AreWithin : ℕ → Cols → Type 0
AreWithin n cs = Each (λ c. length c.values ≤ n) cs

module _ (n k : ℕ) (h : k < n) where
  later_front : (ys : Cols) → cell_at (map (later_column n) ys) k ≡ []
  later_front [] = refl
  later_front (b ∷ ys) = λ i. element b.labels ((in_front n k [] b.values h ∙ none_in k) i) ++ later_front ys i

  ordered_front : (o : Ordering) (a b : ColumnData) (xs x y z : Cols) → cell_at x k ≡ cell_at xs k → cell_at y k ≡ cell_at xs k → cell_at z k ≡ cell_at (a ∷ xs) k
      → cell_at (by_labels o n a b x y z) k ≡ cell_at (a ∷ xs) k
  ordered_front Less a b xs x y z e f g = ap (λ es. element a.labels (value_in a.values k) ++ es) e
  ordered_front Equal a b xs x y z e f g = λ i. element a.labels (in_front n k a.values b.values h i) ++ f i
  ordered_front Greater a b xs x y z e f g = λ i. element b.labels ((in_front n k [] b.values h ∙ none_in k) i) ++ g i

  into_front : (a : ColumnData) (xs : Cols) (rest : Cols → Cols) → ((ys : Cols) → cell_at (rest ys) k ≡ cell_at xs k)
      → (ys : Cols) → cell_at (into_columns n a xs rest ys) k ≡ cell_at (a ∷ xs) k
  into_front a xs rest each [] = refl
  into_front a xs rest each (b ∷ ys) =
      ordered_front (labels_cmp a.labels b.labels) a b xs (rest (b ∷ ys)) (rest ys) (into_columns n a xs rest ys) (each (b ∷ ys)) (each ys) (into_front a xs rest each ys)

  front_cell : (xs ys : Cols) → cell_at (joined_columns n xs ys) k ≡ cell_at xs k
  front_cell [] ys = later_front ys
  front_cell (a ∷ xs) ys = into_front a xs (joined_columns n xs) (front_cell xs) ys

module _ (n k : ℕ) where
  none_over : (a : ColumnData) (es : List Element) → length a.values ≤ n → element a.labels (value_in a.values (n + k)) ++ es ≡ es
  none_over a es h = ap (λ o. element a.labels o ++ es) (over n k a.values h)

  cells_over : (xs : Cols) → AreWithin n xs → cell_at xs (n + k) ≡ []
  cells_over [] w = refl
  cells_over (a ∷ xs) w = none_over a (cell_at xs (n + k)) w.0 ∙ cells_over xs w.1

  later_behind : (ys : Cols) → cell_at (map (later_column n) ys) (n + k) ≡ cell_at ys k
  later_behind [] = refl
  later_behind (b ∷ ys) = λ i. element b.labels (behind n k [] b.values (omega arith) i) ++ later_behind ys i

  ordered_behind : (o : Ordering) (a b : ColumnData) (ys x y z : Cols) → labels_cmp a.labels b.labels ≡ o → length a.values ≤ n
      → cell_at x (n + k) ≡ cell_at (b ∷ ys) k → cell_at y (n + k) ≡ cell_at ys k → cell_at z (n + k) ≡ cell_at ys k
      → cell_at (by_labels o n a b x y z) (n + k) ≡ cell_at (b ∷ ys) k
  ordered_behind Less a b ys x y z s w e f g = none_over a (cell_at x (n + k)) w ∙ e
  ordered_behind Equal a b ys x y z s w e f g = λ i. element (labels_exact a.labels b.labels s i) (behind n k a.values b.values w i) ++ f i
  ordered_behind Greater a b ys x y z s w e f g = λ i. element b.labels (behind n k [] b.values (omega arith) i) ++ g i

  into_behind : (a : ColumnData) (xs : Cols) (rest : Cols → Cols) → length a.values ≤ n → AreWithin n xs → ((ys : Cols) → cell_at (rest ys) (n + k) ≡ cell_at ys k)
      → (ys : Cols) → cell_at (into_columns n a xs rest ys) (n + k) ≡ cell_at ys k
  into_behind a xs rest w v each [] = none_over a (cell_at xs (n + k)) w ∙ cells_over xs v
  into_behind a xs rest w v each (b ∷ ys) =
      ordered_behind (labels_cmp a.labels b.labels) a b ys (rest (b ∷ ys)) (rest ys) (into_columns n a xs rest ys) refl w (each (b ∷ ys)) (each ys) (into_behind a xs rest w v each ys)

  behind_cell : (xs ys : Cols) → AreWithin n xs → cell_at (joined_columns n xs ys) (n + k) ≡ cell_at ys k
  behind_cell [] ys w = later_behind ys
  behind_cell (a ∷ xs) ys w = into_behind a xs (joined_columns n xs) w.0 w.1 (λ zs. behind_cell xs zs w.1) ys

-- ---- the cells of both

split_cells : (cs : Cols) (k n m : ℕ) → cells_from cs k (n + m) ≡ cells_from cs k n ++ cells_from cs (k + n) m
split_cells cs k zero m = let same : zero + m ≡ m = omega arith in let from : k ≡ k + zero = omega arith in λ i. cells_from cs (from i) (same i)
split_cells cs k (suc n) m =
    let same : suc n + m ≡ suc (n + m) = omega arith in
    let from : (k + 1) + n ≡ k + suc n = omega arith in
    ap (cells_from cs k) same ∙ ap (λ es. cell_at cs k ∷ es) (split_cells cs (k + 1) n m ∙ ap (λ j. cells_from cs (k + 1) n ++ cells_from cs j m) from)

front_cells : (xs ys : Cols) (n k m : ℕ) → k + m ≤ n → cells_from (joined_columns n xs ys) k m ≡ cells_from xs k m
front_cells xs ys n k zero h = refl
front_cells xs ys n k (suc m) h = λ i. front_cell n k (omega (arith, h)) xs ys i ∷ front_cells xs ys n (k + 1) m (omega (arith, h)) i

behind_cells : (xs ys : Cols) (n k m : ℕ) → AreWithin n xs → cells_from (joined_columns n xs ys) (n + k) m ≡ cells_from ys k m
behind_cells xs ys n k zero w = refl
behind_cells xs ys n k (suc m) w =
    let from : (n + k) + 1 ≡ n + (k + 1) = omega arith in
    λ i. behind_cell n k xs ys w i ∷ (ap (λ j. cells_from (joined_columns n xs ys) j m) from ∙ behind_cells xs ys n (k + 1) m w) i

pub joined_cells : (xs ys : Cols) (n m : ℕ) → AreWithin n xs → cells_from (joined_columns n xs ys) 0 (n + m) ≡ cells_from xs 0 n ++ cells_from ys 0 m
joined_cells xs ys n m w =
    let from : 0 + n ≡ n + 0 = omega arith in
    split_cells (joined_columns n xs ys) 0 n m
    ∙ (λ i. front_cells xs ys n 0 n (omega arith) i ++ (ap (λ j. cells_from (joined_columns n xs ys) j m) from ∙ behind_cells xs ys n 0 m w) i)

-- ---- they have no value behind

wider : (p q : ℕ) → p ≤ q → (cs : Cols) → AreWithin p cs → AreWithin q cs
wider p q h [] w = tt
wider p q h (c ∷ cs) w = (omega (arith, h, w.0), wider p q h cs w.1)

module _ (n m : ℕ) where
  both_within : (us vs : Values) → length us ≤ n → length vs ≤ m → length (filled n us ++ vs) ≤ n + m
  both_within us vs h g = let e = length-append (filled n us) vs in omega (arith, e, length_filled n us h, g)

  later_within : (ys : Cols) → AreWithin m ys → AreWithin (n + m) (map (later_column n) ys)
  later_within [] w = tt
  later_within (b ∷ ys) w = (both_within [] b.values (omega arith) w.0, later_within ys w.1)

  ordered_within : (o : Ordering) (a b : ColumnData) (x y z : Cols) → length a.values ≤ n → length b.values ≤ m → AreWithin (n + m) x → AreWithin (n + m) y → AreWithin (n + m) z
      → AreWithin (n + m) (by_labels o n a b x y z)
  ordered_within Less a b x y z h g e f i = (omega (arith, h), e)
  ordered_within Equal a b x y z h g e f i = (both_within a.values b.values h g, f)
  ordered_within Greater a b x y z h g e f i = (both_within [] b.values (omega arith) g, i)

  into_within : (a : ColumnData) (xs : Cols) (rest : Cols → Cols) → length a.values ≤ n → AreWithin n xs → ((ys : Cols) → AreWithin m ys → AreWithin (n + m) (rest ys))
      → (ys : Cols) → AreWithin m ys → AreWithin (n + m) (into_columns n a xs rest ys)
  into_within a xs rest h v each [] w = (omega (arith, h), wider n (n + m) (omega arith) xs v)
  into_within a xs rest h v each (b ∷ ys) w =
      ordered_within (labels_cmp a.labels b.labels) a b (rest (b ∷ ys)) (rest ys) (into_columns n a xs rest ys) h w.0 (each (b ∷ ys) w) (each ys w.1) (into_within a xs rest h v each ys w.1)

  joined_within : (xs ys : Cols) → AreWithin n xs → AreWithin m ys → AreWithin (n + m) (joined_columns n xs ys)
  joined_within [] ys v w = later_within ys w
  joined_within (a ∷ xs) ys v w = into_within a xs (joined_columns n xs) v.0 v.1 (λ zs. joined_within xs zs v.1) ys w

-- ---- columns of cells

abbrev AllCells : Type 0
AllCells = List (List Element)

both_columns : (ds es : AllCells) (xs ys : Cols) → AreColumnsOf ds xs → AreColumnsOf es ys → AreColumnsOf (ds ++ es) (joined_columns (length ds) xs ys)
both_columns ds es xs ys a b =
    let many = length-append ds es in record {
      rising = joined_rising (length ds) xs ys a.rising b.rising;
      within = subst (λ p. AreWithin p (joined_columns (length ds) xs ys)) (sym many) (joined_within (length ds) (length es) xs ys a.within b.within);
      cells_are =
          ap (cells_from (joined_columns (length ds) xs ys) 0) many
          ∙ joined_cells xs ys (length ds) (length es) a.within
          ∙ (λ i. a.cells_are i ++ b.cells_are i);
    }

pub of_both : (all ps qs : List AllCells) (n : ℕ) (xs ys zs : Cols) → all ≡ ps ++ qs → n ≡ length (joined (λ cells. cells) ps) → AreColumnsOf (joined (λ cells. cells) ps) xs
    → AreColumnsOf (joined (λ cells. cells) qs) ys → zs ≡ joined_columns n xs ys → AreColumnsOf (joined (λ cells. cells) all) zs
of_both all ps qs n xs ys zs e many a b z =
    let ds = joined (λ cells. cells) ps in
    let es = joined (λ cells. cells) qs in
    subst (λ cells. AreColumnsOf cells zs) (sym (ap (joined (λ cells. cells)) e ∙ joined_append (λ cells. cells) ps qs))
    (subst (AreColumnsOf (ds ++ es)) (sym (z ∙ ap (λ k. joined_columns k xs ys) many)) (both_columns ds es xs ys a b))

-- the columns of a part of the cells of columns
take_within : (n : ℕ) (vs : Values) → length (take n vs) ≤ n
take_within zero vs = omega arith
take_within (suc n) [] = omega arith
take_within (suc n) (v ∷ vs) = let h = take_within n vs in omega (arith, h)

cond_within : (n : ℕ) (l : Pairs) (us : Values) (ds : Cols) (b : Bool) → length us ≤ n → AreWithin n ds → AreWithin n (cond b (record { labels = l; values = us } ∷ []) [] ++ ds)
cond_within n l us ds true h w = (h, w)
cond_within n l us ds false h w = w

cut_within : (cs : Cols) (f n : ℕ) → AreWithin n (joined (cut_column f n) cs)
cut_within [] f n = tt
cut_within (c ∷ cs) f n =
    let us = take n (drop f c.values) in
    cond_within n c.labels us (joined (cut_column f n) cs) (has_value us) (take_within n (drop f c.values)) (cut_within cs f n)

pub columns_of_part : (cs : Cols) (f n : ℕ) → AreRising (columns_labels cs) → AreColumnsOf (cells_from cs f n) (joined (cut_column f n) cs)
columns_of_part cs f n r = record {
  rising = cut_rises cs f n r;
  within = subst (λ p. AreWithin p (joined (cut_column f n) cs)) (sym (length_cells cs f n)) (cut_within cs f n);
  cells_are = ap (cells_from (joined (cut_column f n) cs) 0) (length_cells cs f n) ∙ cut_is cs f n;
}
