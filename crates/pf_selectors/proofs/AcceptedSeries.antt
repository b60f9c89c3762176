-- The series that matchers accept, in label order, read one by one: their label sets rise, and they give the instant selector.
use Rattle.std.proofs.Common.{◌≡◌, ◌<◌, ℕ, List, [], ◌∷◌, map, refl, sym, ap, ◌∙◌, subst}
use Rattle.pf_base.specs.declared.plain.Row.{Row}
use Rattle.pf_base.specs.Sorting.{isort}
use Rattle.pf_block.specs.Snaps.{SnapData, IsSnap, labels_of}
use Rattle.pf_columns.specs.Columns.{AreRising, cell_at}
use Rattle.pf_columns.proofs.Rising.{rising}
use Rattle.pf_model.specs.declared.expr.Matcher.{Matcher}
use Rattle.pf_model.specs.Binding.{accepted_ids, accepted_of, series_cmp}
use Rattle.pf_model.specs.Evaluation.{selected}
use Rattle.pf_model.specs.Lists.{Each}
use Rattle.pf_store.specs.Standing.{StandsFor}
use Rattle.pf_selectors.specs.SeriesColumns.{series_column}
use Rattle.pf_selectors.specs.Times.{time_at}
use Rattle.pf_selectors.specs.declared.instant.Reading.TheVariants as reading
use Rattle.pf_selectors.specs.declared.times.Times.{Times}
use Rattle.pf_selectors.proofs.ReadCells.{columns_are, selected_is}
use Rattle.pf_selectors.proofs.SeriesOrder.{Entry, IsAccepted, in_order, labels_at, names}

names_are : (s : SnapData) (ms : List Matcher) (es : List Entry) → Each (IsAccepted ms 0 s.labels) es → map (labels_of s) (map (λ (e : Entry). e.1) es) ≡ names es
names_are s ms [] a = refl
names_are s ms (e ∷ es) a = λ i. labels_at ms s.labels e a.0 i ∷ names_are s ms es a.1 i

module _ (s : SnapData) (ms : List Matcher) (ids : List ℕ) (snap : IsSnap s) (accepted : ids ≡ accepted_ids ms s.labels) where
  pub accepted_rise : AreRising (map (labels_of s) ids)
  accepted_rise =
      let o = in_order ms s.labels snap.apart in
      let es = isort series_cmp (accepted_of ms s.labels) in
      subst AreRising (sym (ap (map (labels_of s)) accepted ∙ names_are s ms es o.each)) (rising (names es) o.rising)

  pub accepted_cell : (samples : List Row) → StandsFor s samples → (times : Times) (k : ℕ) → k < times.len
      → cell_at (map (series_column s times) ids) k ≡ selected samples ms (time_at times k)
  accepted_cell samples stands times k h =
      columns_are reading.Value s ms times ids k h snap accepted ∙ sym (selected_is s samples ms snap stands (time_at times k))
