-- Columns whose label sets rise: their elements at each step are a cell as they stand.
use Rattle.std.proofs.Common.{◌≡◌, ℕ, ℤ, true, Option, Some, None, List, [], ◌∷◌, ◌++◌, sym, refl}
use Rattle.std.specs.Cmp.{first_so, second_so}
use Rattle.std.specs.Ordering.{is_lt}
use Rattle.std.specs.declared.cmp.Ordering.{Ordering}
use Rattle.std.specs.declared.cmp.Ordering.TheVariants.{Less, Equal, Greater}
use Rattle.pf_base.specs.LabelSets.{Pairs}
use Rattle.pf_base.specs.LabelOrder.{labels_cmp}
use Rattle.pf_model.specs.declared.cell.Element.{Element}
use Rattle.pf_model.specs.declared.cell.StepCell.TheVariants.{Good}
use Rattle.pf_model.specs.Cells.{cell_of, element}
use Rattle.pf_model.proofs.SelectorLabels.{AllAbove, Ascends, above_all, AreInOrder, ElementsAbove, cell_in_order}
use Rattle.pf_columns.specs.Columns.{AreRising, ColumnData, cell_at, columns_labels, value_in}
use Rattle.pf_columns.specs.Steps.{rise_above}
pub use Rattle.pf_base.proofs.LeastRepeated.{strictly as less_of}

pub ascends : (ls : List Pairs) → AreRising ls → Ascends ls
ascends [] h = tt
ascends (l ∷ ls) h = (h.0, ascends ls h.1)

pub rising : (ls : List Pairs) → Ascends ls → AreRising ls
rising [] h = tt
rising (l ∷ ls) h = (h.0, rising ls h.1)

-- ---- the elements of a step

pub above_one : (n l : Pairs) (o : Option ℤ) (es : List Element) → labels_cmp n l ≡ Less → ElementsAbove n es → ElementsAbove n (element l o ++ es)
above_one n l None es p h = h
above_one n l (Some v) es p h = (p, h)

above_cell : (n : Pairs) (k : ℕ) (cs : List ColumnData) → AllAbove n (columns_labels cs) → ElementsAbove n (cell_at cs k)
above_cell n k [] h = tt
above_cell n k (c ∷ cs) h = above_one n c.labels (value_in c.values k) (cell_at cs k) h.0 (above_cell n k cs h.1)

order_one : (l : Pairs) (o : Option ℤ) (es : List Element) → ElementsAbove l es → AreInOrder es → AreInOrder (element l o ++ es)
order_one l None es a h = h
order_one l (Some v) es a h = (a, h)

order_cell : (k : ℕ) (cs : List ColumnData) → AreRising (columns_labels cs) → AreInOrder (cell_at cs k)
order_cell k [] h = tt
order_cell k (c ∷ cs) h = order_one c.labels (value_in c.values k) (cell_at cs k) (above_cell c.labels k cs h.0) (order_cell k cs h.1)

pub cell_rising : (k : ℕ) (cs : List ColumnData) → AreRising (columns_labels cs) → Good (cell_at cs k) ≡ cell_of (cell_at cs k)
cell_rising k cs h = sym (cell_in_order (cell_at cs k) (order_cell k cs h))

-- ---- the test

less : (o : Ordering) → is_lt o ≡ true → o ≡ Less
less Less h = refl
less Equal h = cc
less Greater h = cc

rise_behind : (m : Pairs) (ls : List Pairs) → rise_above (Some m) ls ≡ true → AllAbove m ls × AreRising ls
rise_behind m [] h = (tt, tt)
rise_behind m (l ∷ ls) h =
    let p : labels_cmp m l ≡ Less = less (labels_cmp m l) (first_so (is_lt (labels_cmp m l)) (rise_above (Some l) ls) h) in
    let r = rise_behind l ls (second_so (is_lt (labels_cmp m l)) (rise_above (Some l) ls) h) in
    ((p, above_all m l ls p r.0), r)

pub rise_is : (ls : List Pairs) → rise_above None ls ≡ true → AreRising ls
rise_is [] h = tt
rise_is (l ∷ ls) h = rise_behind l ls h
