-- What is read of the accepted series of a snapshot at a step is the instant selector over the samples that it stands for.
use Rattle.std.proofs.Common.{◌≡◌, ◌<◌, ℕ, ℤ, pos, ◌-ℤ◌, ◌&&◌, Option, None, option_map, List, [], ◌∷◌, ◌++◌, map, refl, sym, ap, ◌∙◌, subst}
use Rattle.std.specs.List.{filter}
use Rattle.pf_base.specs.Limits.{lookback}
use Rattle.pf_base.specs.declared.plain.Row.{Row}
use Rattle.pf_base.specs.Sorting.{isort}
use Rattle.pf_block.specs.Samples.{value_at}
use Rattle.pf_block.specs.Snaps.{SnapData, IsSnap, held_by, samples_of}
use Rattle.pf_columns.specs.Columns.{cell_at}
use Rattle.pf_columns.proofs.Below.{in_below}
use Rattle.pf_model.specs.declared.cell.Element.{Element}
use Rattle.pf_model.specs.declared.expr.Matcher.{Matcher}
use Rattle.pf_model.specs.Binding.{accepted_ids, accepted_of, series_cmp}
use Rattle.pf_model.specs.Cells.{element}
use Rattle.pf_model.specs.Evaluation.{element_of, selected}
use Rattle.pf_model.specs.Lists.{Each, joined}
use Rattle.pf_model.specs.Log.{held_value}
use Rattle.pf_model.specs.Selection.{last_row, same_labels}
use Rattle.pf_model.proofs.SelectorLabels.{filtered_alike, last_alike}
use Rattle.pf_store.specs.Standing.{StandsFor}
use Rattle.pf_selectors.specs.SeriesColumns.{read_at, read_column, value_read, labels_read}
use Rattle.pf_selectors.specs.Times.{time_at}
use Rattle.pf_selectors.specs.declared.instant.Reading.{Reading}
use Rattle.pf_selectors.specs.declared.times.Times.{Times}
use Rattle.pf_selectors.proofs.LastHeld.{IsLastRow, held_alike, inside, last_row_held, same_element, series_last}
use Rattle.pf_selectors.proofs.SeriesOrder.{Entry, IsAccepted, in_order, labels_at}
use Rattle.pf_selectors.proofs.SetRows.{by_entries, by_names, counted_rows, lawful, of_set}

-- what a series gives at a time
abbrev pub entry_read : SnapData → ℤ → Entry → List Element
entry_read s t e = element e.0 (option_map (λ x. x.value) (read_at (samples_of s e.1) t))

-- the entries of what is accepted, in label order
abbrev pub entries : List Matcher → SnapData → List Entry
entries ms s = isort series_cmp (accepted_of ms s.labels)

module _ (s : SnapData) (samples : List Row) (ms : List Matcher) (snap : IsSnap s) (stands : StandsFor s samples) (t : ℤ) where
  abbrev from : ℤ
  from = t -ℤ pos lookback

  entry_is : (e : Entry) → IsAccepted ms 0 s.labels e → element_of (last_row (of_set ms from t samples e.0)) ≡ entry_read s t e
  entry_is e h =
      let w = inside from t in
      let f : ℕ → Option ℤ = λ u. value_at (samples_of s e.1) (pos u) in
      let rows = filter (λ r. same_labels r.labels e.0 && w r.time) samples in
      let same = counted_rows ms from t samples e.0 h.0 in
      let has = last_alike e.0 None (of_set ms from t samples e.0) tt (filtered_alike e.0 _) in
      let held = held_alike w (λ u. held_value samples e.0 u) f (last_row rows)
      (λ u a. sym (stands e.0 u) ∙ ap (λ o. held_by s o u) h.1) (last_row_held e.0 w samples) in
      same_element w f e.0 (last_row (of_set ms from t samples e.0)) (read_at (samples_of s e.1) t) has
      (subst (λ rs. IsLastRow w f (last_row rs)) (sym same) held)
      (series_last from t (samples_of s e.1) (lawful s e.1 snap))

  pub selected_is : selected samples ms t ≡ joined (entry_read s t) (entries ms s)
  selected_is =
      let o = in_order ms s.labels snap.apart in
      by_names s samples ms stands from t (entries ms s) o (λ l. element_of (last_row (of_set ms from t samples l)))
      (λ l e. ap (λ rs. element_of (last_row rs)) e)
      ∙ by_entries (λ l. element_of (last_row (of_set ms from t samples l))) (entry_read s t) (IsAccepted ms 0 s.labels) (entries ms s) o.each entry_is

-- ---- the columns at a step

column_by : (r : Reading) (s : SnapData) (ms : List Matcher) (times : Times) (k : ℕ) → k < times.len → (es : List Entry) → Each (IsAccepted ms 0 s.labels) es
    → cell_at (map (read_column r s times) (map (λ e. e.1) es)) k
    ≡ joined (λ e. element (labels_read r e.0) (option_map (value_read r) (read_at (samples_of s e.1) (time_at times k)))) es
column_by r s ms times k h [] a = refl
column_by r s ms times k h (e ∷ es) a =
    λ i. element (labels_read r (labels_at ms s.labels e a.0 i)) (in_below (λ j. option_map (value_read r) (read_at (samples_of s e.1) (time_at times j))) times.len k None h i)
    ++ column_by r s ms times k h es a.1 i

pub columns_are : (r : Reading) (s : SnapData) (ms : List Matcher) (times : Times) (ids : List ℕ) (k : ℕ) → k < times.len → IsSnap s → ids ≡ accepted_ids ms s.labels
    → cell_at (map (read_column r s times) ids) k
    ≡ joined (λ e. element (labels_read r e.0) (option_map (value_read r) (read_at (samples_of s e.1) (time_at times k)))) (entries ms s)
columns_are r s ms times ids k h snap e =
    ap (λ is. cell_at (map (read_column r s times) is) k) e ∙ column_by r s ms times k h (entries ms s) (in_order ms s.labels snap.apart).each
