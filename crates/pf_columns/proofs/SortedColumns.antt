-- Columns in label order have at every step the elements of all columns in label order.
use Rattle.std.proofs.Common.{◌≡◌, ℕ, ℤ, Bool, true, false, cond, ◌||◌, Option, Some, None, List, [], ◌∷◌, ◌++◌, refl, sym, ap, ◌∙◌}
use Rattle.std.specs.List.{All, list_any}
use Rattle.std.specs.Cmp as cmp
use Rattle.std.specs.Ordering.{is_gt}
use Rattle.std.specs.declared.cmp.Ordering.{Ordering}
use Rattle.std.proofs.lemmas.List.Elements.{All-head, All-tail}
use Rattle.pf_base.specs.LabelSets.{Pairs}
use Rattle.pf_base.specs.LabelOrder.{labels_cmp, labels_total}
use Rattle.pf_base.specs.Sorting.{ins, isort}
use Rattle.pf_base.proofs.Sorting.{Ascends, ascends_isort}
use Rattle.pf_model.specs.declared.cell.Element.{Element}
use Rattle.pf_model.specs.declared.cell.ErrorKind.TheVariants.{DoubleLabels}
use Rattle.pf_model.specs.declared.cell.StepCell.TheVariants.{Good, Bad}
use Rattle.pf_model.specs.Cells.{cell_of, element, element_cmp, has_equal, labels_of}
use Rattle.pf_model.specs.Lists.{Each}
use Rattle.pf_model.specs.Selection.{same_labels}
use Rattle.pf_model.proofs.KeySets.{same_turned}
use Rattle.pf_columns.specs.Columns.{ColumnData, cell_at, value_in}
use Rattle.pf_columns.specs.Steps.{column_cmp}
use Rattle.pf_columns.proofs.LabelRank.{column_total, element_total}

-- ---- a list in order stays

stays_first : {X : Type 0} (R : X → X → Ordering) (x : X) (xs : List X) → All (λ y. is_gt (R x y) ≡ false) xs → ins R x xs ≡ x ∷ xs
stays_first R x [] a = refl
stays_first R x (y ∷ ys) a = ap (λ b. cond b (y ∷ ins R x ys) (x ∷ y ∷ ys)) (All-head (λ z. is_gt (R x z) ≡ false) y ys a)

stays : {X : Type 0} (R : X → X → Ordering) (xs : List X) → Ascends R xs → isort R xs ≡ xs
stays R [] a = refl
stays R (x ∷ xs) a = ap (ins R x) (stays R xs a.1) ∙ stays_first R x xs a.0

-- ---- columns that don't fall

-- none is below l
abbrev pub NoneBelow : Pairs → List ColumnData → Type 0
NoneBelow l cs = Each (λ d. is_gt (labels_cmp l d.labels) ≡ false) cs

abbrev pub NeverFall : List ColumnData → Type 0
NeverFall [] = Unit {0}
NeverFall (c ∷ cs) = NoneBelow c.labels cs × NeverFall cs

none_below : (l : Pairs) (cs : List ColumnData) → All (λ d. is_gt (labels_cmp l d.labels) ≡ false) cs → NoneBelow l cs
none_below l [] a = tt
none_below l (c ∷ cs) a = (All-head (λ d. is_gt (labels_cmp l d.labels) ≡ false) c cs a, none_below l cs (All-tail (λ d. is_gt (labels_cmp l d.labels) ≡ false) c cs a))

never_fall : (cs : List ColumnData) → Ascends column_cmp cs → NeverFall cs
never_fall [] a = tt
never_fall (c ∷ cs) a = (none_below c.labels cs a.0, never_fall cs a.1)

pub sorted_never_fall : (cs : List ColumnData) → NeverFall (isort column_cmp cs)
sorted_never_fall cs = never_fall (isort column_cmp cs) (ascends_isort column_cmp column_total cs)

none_below_trans : (l m : Pairs) (cs : List ColumnData) → is_gt (labels_cmp l m) ≡ false → NoneBelow m cs → NoneBelow l cs
none_below_trans l m [] p h = tt
none_below_trans l m (c ∷ cs) p h = (cmp.upto labels_total l m c.labels p h.0, none_below_trans l m cs p h.1)

-- ---- the elements of a step

abbrev NoElementBelow : Pairs → List Element → Type 0
NoElementBelow l es = Each (λ e. is_gt (labels_cmp l e.labels) ≡ false) es

element_first : (e : Element) (es : List Element) → NoElementBelow e.labels es → ins element_cmp e es ≡ e ∷ es
element_first e [] h = refl
element_first e (f ∷ fs) h = ap (λ b. cond b (f ∷ ins element_cmp e fs) (e ∷ f ∷ fs)) h.0

none_below_one : (l m : Pairs) (o : Option ℤ) (es : List Element) → is_gt (labels_cmp l m) ≡ false → NoElementBelow l es → NoElementBelow l (element m o ++ es)
none_below_one l m None es p h = h
none_below_one l m (Some v) es p h = (p, h)

module _ (k : ℕ) where
  none_below_cell : (l : Pairs) (cs : List ColumnData) → NoneBelow l cs → NoElementBelow l (cell_at cs k)
  none_below_cell l [] h = tt
  none_below_cell l (c ∷ cs) h = none_below_one l c.labels (value_in c.values k) (cell_at cs k) h.0 (none_below_cell l cs h.1)

  -- a column without a value at the step
  none_by : (c d : ColumnData) (ds : List ColumnData) (b : Bool) → value_in c.values k ≡ None → cell_at (ins column_cmp c ds) k ≡ cell_at ds k
      → cell_at (cond b (d ∷ ins column_cmp c ds) (c ∷ d ∷ ds)) k ≡ cell_at (d ∷ ds) k
  none_by c d ds true h r = ap (λ es. element d.labels (value_in d.values k) ++ es) r
  none_by c d ds false h r = ap (λ o. element c.labels o ++ cell_at (d ∷ ds) k) h

  ins_none : (c : ColumnData) (cs : List ColumnData) → value_in c.values k ≡ None → cell_at (ins column_cmp c cs) k ≡ cell_at cs k
  ins_none c [] h = ap (λ o. element c.labels o ++ []) h
  ins_none c (d ∷ ds) h = none_by c d ds (is_gt (column_cmp c d)) h (ins_none c ds h)

  -- a column with one
  pub passes : (l : Pairs) (v : ℤ) (m : Pairs) (o : Option ℤ) (es : List Element) → is_gt (labels_cmp l m) ≡ true
      → element m o ++ ins element_cmp (record { labels = l; value = v }) es ≡ ins element_cmp (record { labels = l; value = v }) (element m o ++ es)
  passes l v m None es p = refl
  passes l v m (Some w) es p =
      sym (ap (λ b. cond b (record { labels = m; value = w } ∷ ins element_cmp (record { labels = l; value = v }) es) (record { labels = l; value = v } ∷ record { labels = m; value = w } ∷ es)) p)

  some_by : (c d : ColumnData) (v : ℤ) (ds : List ColumnData) (b : Bool) → is_gt (column_cmp c d) ≡ b → value_in c.values k ≡ Some v → NeverFall (d ∷ ds)
      → cell_at (ins column_cmp c ds) k ≡ ins element_cmp (record { labels = c.labels; value = v }) (cell_at ds k)
      → cell_at (cond b (d ∷ ins column_cmp c ds) (c ∷ d ∷ ds)) k ≡ ins element_cmp (record { labels = c.labels; value = v }) (cell_at (d ∷ ds) k)
  some_by c d v ds true p h g r = ap (λ es. element d.labels (value_in d.values k) ++ es) r ∙ passes c.labels v d.labels (value_in d.values k) (cell_at ds k) p
  some_by c d v ds false p h g r =
      ap (λ o. element c.labels o ++ cell_at (d ∷ ds) k) h
      ∙ sym (element_first (record { labels = c.labels; value = v }) (cell_at (d ∷ ds) k) (none_below_cell c.labels (d ∷ ds) (p, none_below_trans c.labels d.labels ds p g.0)))

  ins_some : (c : ColumnData) (v : ℤ) (cs : List ColumnData) → value_in c.values k ≡ Some v → NeverFall cs
      → cell_at (ins column_cmp c cs) k ≡ ins element_cmp (record { labels = c.labels; value = v }) (cell_at cs k)
  ins_some c v [] h g = ap (λ o. element c.labels o ++ []) h
  ins_some c v (d ∷ ds) h g = some_by c d v ds (is_gt (column_cmp c d)) refl h g (ins_some c v ds h g.1)

  sorted_by : (c : ColumnData) (cs : List ColumnData) (o : Option ℤ) → value_in c.values k ≡ o → NeverFall (isort column_cmp cs) → cell_at (isort column_cmp cs) k ≡ isort element_cmp (cell_at cs k)
      → cell_at (ins column_cmp c (isort column_cmp cs)) k ≡ isort element_cmp (element c.labels o ++ cell_at cs k)
  sorted_by c cs None h g r = ins_none c (isort column_cmp cs) h ∙ r
  sorted_by c cs (Some v) h g r = ins_some c v (isort column_cmp cs) h g ∙ ap (ins element_cmp (record { labels = c.labels; value = v })) r

  sorted_cell : (cs : List ColumnData) → cell_at (isort column_cmp cs) k ≡ isort element_cmp (cell_at cs k)
  sorted_cell [] = refl
  sorted_cell (c ∷ cs) = sorted_by c cs (value_in c.values k) refl (sorted_never_fall cs) (sorted_cell cs)

-- ---- sorted elements have an equal pair where the elements have one

any_ins_by : (l : Pairs) (e f : Element) (fs : List Element) (b : Bool) → list_any (same_labels l) (labels_of (ins element_cmp e fs)) ≡ (same_labels l e.labels || list_any (same_labels l) (labels_of fs))
    → list_any (same_labels l) (labels_of (cond b (f ∷ ins element_cmp e fs) (e ∷ f ∷ fs))) ≡ (same_labels l e.labels || list_any (same_labels l) (labels_of (f ∷ fs)))
any_ins_by l e f fs true r = ap (λ b. same_labels l f.labels || b) r ∙ turned (same_labels l f.labels) (same_labels l e.labels) (list_any (same_labels l) (labels_of fs)) where
  turned : (a b c : Bool) → (a || (b || c)) ≡ (b || (a || c))
  turned true true c = refl
  turned true false c = refl
  turned false b c = refl
any_ins_by l e f fs false r = refl

any_ins : (l : Pairs) (e : Element) (es : List Element) → list_any (same_labels l) (labels_of (ins element_cmp e es)) ≡ (same_labels l e.labels || list_any (same_labels l) (labels_of es))
any_ins l e [] = refl
any_ins l e (f ∷ fs) = any_ins_by l e f fs (is_gt (element_cmp e f)) (any_ins l e fs)

any_isort : (l : Pairs) (es : List Element) → list_any (same_labels l) (labels_of (isort element_cmp es)) ≡ list_any (same_labels l) (labels_of es)
any_isort l [] = refl
any_isort l (e ∷ es) = any_ins l e (isort element_cmp es) ∙ ap (λ b. same_labels l e.labels || b) (any_isort l es)

crossed : (a b c d : Bool) → ((a || b) || (c || d)) ≡ ((a || c) || (b || d))
crossed true b c d = refl
crossed false true true d = refl
crossed false true false d = refl
crossed false false c d = refl

equal_ins_by : (e f : Element) (fs : List Element) (b : Bool) → has_equal (labels_of (ins element_cmp e fs)) ≡ (list_any (same_labels e.labels) (labels_of fs) || has_equal (labels_of fs))
    → has_equal (labels_of (cond b (f ∷ ins element_cmp e fs) (e ∷ f ∷ fs))) ≡ (list_any (same_labels e.labels) (labels_of (f ∷ fs)) || has_equal (labels_of (f ∷ fs)))
equal_ins_by e f fs true r =
    (λ i. any_ins f.labels e fs i || r i)
    ∙ ap (λ b. (b || list_any (same_labels f.labels) (labels_of fs)) || (list_any (same_labels e.labels) (labels_of fs) || has_equal (labels_of fs))) (same_turned f.labels e.labels)
    ∙ crossed (same_labels e.labels f.labels) (list_any (same_labels f.labels) (labels_of fs)) (list_any (same_labels e.labels) (labels_of fs)) (has_equal (labels_of fs))
equal_ins_by e f fs false r = refl

equal_ins : (e : Element) (es : List Element) → has_equal (labels_of (ins element_cmp e es)) ≡ (list_any (same_labels e.labels) (labels_of es) || has_equal (labels_of es))
equal_ins e [] = refl
equal_ins e (f ∷ fs) = equal_ins_by e f fs (is_gt (element_cmp e f)) (equal_ins e fs)

equal_isort : (es : List Element) → has_equal (labels_of (isort element_cmp es)) ≡ has_equal (labels_of es)
equal_isort [] = refl
equal_isort (e ∷ es) = equal_ins e (isort element_cmp es) ∙ λ i. any_isort e.labels es i || equal_isort es i

-- ---- the cell

pub cell_of_sorted : (es : List Element) → cell_of (isort element_cmp es) ≡ cell_of es
cell_of_sorted es =
    λ i. cond (equal_isort es i) (Bad DoubleLabels) (Good (stays element_cmp (isort element_cmp es) (ascends_isort element_cmp element_total es) i))

pub sorted_alike : (k : ℕ) (cs : List ColumnData) → cell_of (cell_at (isort column_cmp cs) k) ≡ cell_of (cell_at cs k)
sorted_alike k cs = ap cell_of (sorted_cell k cs) ∙ cell_of_sorted (cell_at cs k)
