-- Rows in label order whose points are those of some steps are what is gathered of the steps, but for rows without points.
use Rattle.std.proofs.Common.{◌≡◌, pos, Bool, true, false, cond, ◌&&◌, ◌||◌, List, [], ◌∷◌, ◌++◌, map, refl, sym, ap, ◌∙◌}
use Rattle.std.proofs.Math.Bool.{and-false, and-true}
use Rattle.std.specs.Ordering.{is_eq}
use Rattle.std.specs.declared.cmp.Ordering.TheVariants.{Less}
use Rattle.pf_base.specs.declared.plain.Sample.{Sample}
use Rattle.pf_base.specs.LabelOrder.{labels_cmp}
use Rattle.pf_base.specs.LabelSets.{Pairs}
use Rattle.pf_model.specs.declared.cell.Element.{Element}
use Rattle.pf_model.specs.Cells.{occurring}
use Rattle.pf_model.specs.Direct.{MatrixRow, Step, gather, points_of}
use Rattle.pf_model.specs.Lists.{Each}
use Rattle.pf_model.specs.Selection.{same_labels}
use Rattle.pf_model.proofs.KeySets.{alike, below_all, same_is, same_self, same_turned, stands_in}
use Rattle.pf_model.proofs.SelectorLabels.{AllAbove, Ascends}
use Rattle.pf_columns.specs.Columns.{AreRising, row_with}
use Rattle.pf_columns.specs.Runs.{full_rows, points_for, rows_labels}
use Rattle.pf_columns.proofs.Occurring.{is_full, occurring_ascend, occurring_in}

-- ---- the label sets that have a point

row_in : (l m : Pairs) (ps : List Sample) (rows : List MatrixRow) → stands_in l (rows_labels (row_with m ps ++ rows)) ≡ ((same_labels l m && is_full ps) || stands_in l (rows_labels rows))
row_in l m [] rows = sym (ap (λ b. b || stands_in l (rows_labels rows)) (and-false (same_labels l m)))
row_in l m (q ∷ ps) rows = sym (ap (λ b. b || stands_in l (rows_labels rows)) (and-true (same_labels l m)))

above_row : (n l : Pairs) (ps : List Sample) (rows : List MatrixRow) → labels_cmp n l ≡ Less → AllAbove n (rows_labels rows) → AllAbove n (rows_labels (row_with l ps ++ rows))
above_row n l [] rows p h = h
above_row n l (q ∷ ps) rows p h = (p, h)

above_rows : (n : Pairs) (rows : List MatrixRow) → AllAbove n (rows_labels rows) → AllAbove n (rows_labels (full_rows rows))
above_rows n [] h = tt
above_rows n (r ∷ rows) h = above_row n r.labels r.points (full_rows rows) h.0 (above_rows n rows h.1)

row_ascends : (l : Pairs) (ps : List Sample) (rows : List MatrixRow) → AllAbove l (rows_labels rows) → Ascends (rows_labels rows) → Ascends (rows_labels (row_with l ps ++ rows))
row_ascends l [] rows b h = h
row_ascends l (q ∷ ps) rows b h = (b, h)

rows_ascend : (rows : List MatrixRow) → AreRising (rows_labels rows) → Ascends (rows_labels (full_rows rows))
rows_ascend [] h = tt
rows_ascend (r ∷ rows) h = row_ascends r.labels r.points (full_rows rows) (above_rows r.labels rows h.0) (rows_ascend rows h.1)

or_none : (b : Bool) → (b || false) ≡ b
or_none true = refl
or_none false = refl

rows_by : (l : Pairs) (r : MatrixRow) (rows : List MatrixRow) (b : Bool) → same_labels r.labels l ≡ b → AreRising (rows_labels (r ∷ rows))
    → stands_in l (rows_labels (full_rows rows)) ≡ is_full (points_for l rows)
    → ((same_labels l r.labels && is_full r.points) || stands_in l (rows_labels (full_rows rows))) ≡ is_full (cond b r.points (points_for l rows))
rows_by l r rows true s h e =
    let none : stands_in l (rows_labels (full_rows rows)) ≡ false =
    ap (λ m. stands_in m (rows_labels (full_rows rows))) (sym (same_is r.labels l s))
    ∙ below_all r.labels (rows_labels (full_rows rows)) (above_rows r.labels rows h.0) in
    (λ i. ((same_turned l r.labels ∙ s) i && is_full r.points) || none i)
    ∙ or_none (is_full r.points)
rows_by l r rows false s h e = ap (λ b. (b && is_full r.points) || stands_in l (rows_labels (full_rows rows))) (same_turned l r.labels ∙ s) ∙ e

rows_have : (l : Pairs) (rows : List MatrixRow) → AreRising (rows_labels rows) → stands_in l (rows_labels (full_rows rows)) ≡ is_full (points_for l rows)
rows_have l [] h = refl
rows_have l (r ∷ rows) h =
    row_in l r.labels r.points (full_rows rows)
    ∙ rows_by l r rows (same_labels r.labels l) refl h (rows_have l rows h.1)

-- ---- each row's points are those of its label set

found_below : (r : MatrixRow) (rows others : List MatrixRow) → AllAbove r.labels (rows_labels others) → Each (λ o. points_for o.labels rows ≡ o.points) others
    → Each (λ o. points_for o.labels (r ∷ rows) ≡ o.points) others
found_below r rows [] b h = tt
found_below r rows (o ∷ others) b h = (ap (λ c. cond (is_eq c) r.points (points_for o.labels rows)) b.0 ∙ h.0, found_below r rows others b.1 h.1)

found : (rows : List MatrixRow) → AreRising (rows_labels rows) → Each (λ r. points_for r.labels rows ≡ r.points) rows
found [] h = tt
found (r ∷ rows) h = (ap (λ b. cond b r.points (points_for r.labels rows)) (same_self r.labels), found_below r rows rows h.0 (found rows h.1))

row_made : (f : Pairs → List Sample) (l : Pairs) (ps : List Sample) (rows : List MatrixRow) → f l ≡ ps → rows ≡ map (λ m. record { labels = m; points = f m }) (rows_labels rows)
    → row_with l ps ++ rows ≡ map (λ m. record { labels = m; points = f m }) (rows_labels (row_with l ps ++ rows))
row_made f l [] rows e h = h
row_made f l (q ∷ ps) rows e h = λ i. record { labels = l; points = sym e i } ∷ h i

rows_made : (f : Pairs → List Sample) (rows : List MatrixRow) → Each (λ r. f r.labels ≡ r.points) rows → full_rows rows ≡ map (λ m. record { labels = m; points = f m }) (rows_labels (full_rows rows))
rows_made f [] h = refl
rows_made f (r ∷ rows) h = row_made f r.labels r.points (full_rows rows) h.0 (rows_made f rows h.1)

each_of_steps : (ss : List Step) (all : List MatrixRow) → ((l : Pairs) → points_for l all ≡ points_of l ss) → (rows : List MatrixRow) → Each (λ r. points_for r.labels all ≡ r.points) rows
    → Each (λ r. points_of r.labels ss ≡ r.points) rows
each_of_steps ss all e [] h = tt
each_of_steps ss all e (r ∷ rows) h = (sym (e r.labels) ∙ h.0, each_of_steps ss all e rows h.1)

abbrev vector : Step → List Element
vector s = s.elements

pub gather_by : (ss : List Step) (rows : List MatrixRow) → AreRising (rows_labels rows) → ((l : Pairs) → points_for l rows ≡ points_of l ss) → gather ss ≡ full_rows rows
gather_by ss rows r e =
    let same : (l : Pairs) → stands_in l (occurring vector ss) ≡ stands_in l (rows_labels (full_rows rows)) =
    λ l. occurring_in (λ (s : Step). pos s.time) vector l ss ∙ ap is_full (sym (e l)) ∙ sym (rows_have l rows r) in
    ap (map (λ l. record { labels = l; points = points_of l ss })) (alike (occurring vector ss) (rows_labels (full_rows rows)) (occurring_ascend vector ss) (rows_ascend rows r) same)
    ∙ sym (rows_made (λ l. points_of l ss) rows (each_of_steps ss rows e rows (found rows r)))
