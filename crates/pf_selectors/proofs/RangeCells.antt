-- A function of each accepted series of a snapshot is that of the series of the rows that it stands for.
use Rattle.std.proofs.Common.{◌≡◌, ◌<◌, ℕ, ℤ, pos, ◌-ℤ◌, negsuc, Bool, true, false, cond, ◌&&◌, Option, Some, None, List, [], ◌∷◌, ◌++◌, map, refl, sym, ap, ◌∙◌, arith}
use Rattle.std.proofs.lemmas.Int.{ints}
use Rattle.std.specs.Prelude.{int_le}
use Rattle.std.specs.Ordering.{int_eq}
use Rattle.std.specs.List.{list_all}
use Rattle.std.specs.Cmp.{first_so, second_so}
use Rattle.pf_base.specs.declared.plain.Row.{Row}
use Rattle.pf_base.specs.declared.plain.Sample.{Sample}
use Rattle.pf_base.specs.LabelSets.{Pairs}
use Rattle.pf_base.specs.Sorting.{isort}
use Rattle.pf_block.specs.Samples.{is_timed, value_at, window_of}
use Rattle.pf_block.specs.Snaps.{SnapData, IsSnap, held_by, samples_of}
use Rattle.pf_block.proofs.Searches.{series_rises, series_timed}
use Rattle.pf_columns.specs.Columns.{cell_at}
use Rattle.pf_columns.proofs.Below.{in_below}
use Rattle.pf_model.specs.declared.cell.Element.{Element}
use Rattle.pf_model.specs.declared.expr.Matcher.{Matcher}
use Rattle.pf_model.specs.declared.functions.RangeFn.{RangeFn}
use Rattle.pf_model.specs.declared.functions.RangeFn.TheVariants.{Increase, Rate, Delta, Irate, Idelta, Changes, Resets, AvgOverTime, SumOverTime, MinOverTime, MaxOverTime, CountOverTime, LastOverTime, PresentOverTime, AbsentOverTime}
use Rattle.pf_model.specs.Binding.{accepted_ids}
use Rattle.pf_model.specs.Cells.{element}
use Rattle.pf_model.specs.Evaluation.{by_time, label_sets, sample_of, windows}
use Rattle.pf_model.specs.Lists.{Each, joined}
use Rattle.pf_model.specs.Log.{AreApart}
use Rattle.pf_model.specs.Micros.{one}
use Rattle.pf_model.specs.Outcomes.{Series, of_series, ranged_labels}
use Rattle.pf_model.specs.RangeFunctions.{range_function}
use Rattle.pf_model.specs.Selection.{accepts, is_within, same_labels}
use Rattle.pf_store.specs.Standing.{StandsFor}
use Rattle.pf_selectors.specs.SeriesColumns.{range_column, unless_present, unless_some, window_at}
use Rattle.pf_selectors.specs.Times.{time_at}
use Rattle.pf_selectors.specs.declared.times.Times.{Times}
use Rattle.pf_selectors.proofs.LastHeld.{inside}
use Rattle.pf_selectors.proofs.ReadCells.{entries}
use Rattle.pf_selectors.proofs.SeriesOrder.{Entry, IsAccepted, in_order, labels_at}
use Rattle.pf_selectors.proofs.SetRows.{by_entries, by_names, lawful, of_set, set_rows, tests, window_rows}
use Rattle.pf_selectors.proofs.WindowCells.{window_read}

below_zero : (z : ℤ) (n : ℕ) → int_le (pos 0) z ≡ true → int_eq z (negsuc n) ≡ false
below_zero z n h = grind (arith, ints, h)

no_low : (xs : List Sample) (n : ℕ) → list_all is_timed xs ≡ true → value_at xs (negsuc n) ≡ None
no_low [] n h = refl
no_low (x ∷ xs) n h =
    let t = first_so (is_timed x) (list_all is_timed xs) h in
    λ i. cond (below_zero x.time n (first_so (int_le (pos 0) x.time) (int_le x.time (pos 4398046511103)) t) i) (Some x.value) (no_low xs n (second_so (is_timed x) (list_all is_timed xs) h) i)

-- a function of no samples
abbrev pub IsOfEach : RangeFn → Type 0
IsOfEach f = f ≡ AbsentOverTime → ⊥

pub of_none : (f : RangeFn) (from to : ℤ) → IsOfEach f → range_function f [] from to ≡ None
of_none Increase from to h = refl
of_none Rate from to h = refl
of_none Delta from to h = refl
of_none Irate from to h = refl
of_none Idelta from to h = refl
of_none Changes from to h = refl
of_none Resets from to h = refl
of_none AvgOverTime from to h = refl
of_none SumOverTime from to h = refl
of_none MinOverTime from to h = refl
of_none MaxOverTime from to h = refl
of_none CountOverTime from to h = refl
of_none LastOverTime from to h = refl
of_none PresentOverTime from to h = refl
of_none AbsentOverTime from to h = absurd (h refl)

abbrev pub each_series : RangeFn → ℤ → ℤ → List Series → List Element
each_series f from to ss = joined (λ (x : Series). element (ranged_labels f x.labels) (range_function f x.samples from to)) ss

pub of_each : (f : RangeFn) (absent : Pairs) (from to : ℤ) (ss : List Series) → IsOfEach f → each_series f from to ss ≡ of_series f absent from to ss
of_each Increase absent from to ss h = refl
of_each Rate absent from to ss h = refl
of_each Delta absent from to ss h = refl
of_each Irate absent from to ss h = refl
of_each Idelta absent from to ss h = refl
of_each Changes absent from to ss h = refl
of_each Resets absent from to ss h = refl
of_each AvgOverTime absent from to ss h = refl
of_each SumOverTime absent from to ss h = refl
of_each MinOverTime absent from to ss h = refl
of_each MaxOverTime absent from to ss h = refl
of_each CountOverTime absent from to ss h = refl
of_each LastOverTime absent from to ss h = refl
of_each PresentOverTime absent from to ss h = refl
of_each AbsentOverTime absent from to ss h = absurd (h refl)

-- what is made of each series of some rows
pub over_sets : {Y : Type 0} (f : Series → List Y) (w : Pairs → List Sample) (ls : List Pairs) → joined f (map (λ l. record { labels = l; samples = w l }) ls) ≡ joined (λ l. f (record { labels = l; samples = w l })) ls
over_sets f w [] = refl
over_sets f w (l ∷ ls) = ap (λ ys. f (record { labels = l; samples = w l }) ++ ys) (over_sets f w ls)

module _ (s : SnapData) (samples : List Row) (ms : List Matcher) (snap : IsSnap s) (stands : StandsFor s samples) (apart : AreApart samples) (from to : ℤ) where
  abbrev window : Pairs → List Sample
  window l = isort by_time (map sample_of (of_set ms from to samples l))

  -- the window of an accepted series
  window_is : (e : Entry) → IsAccepted ms 0 s.labels e → window e.0 ≡ window_of (samples_of s e.1) from to
  window_is e h =
      let q : Row → Bool = λ r. (accepts ms r.labels && is_within from to r) && same_labels r.labels e.0 in
      let xs = samples_of s e.1 in
      let series = lawful s e.1 snap in
      ap (λ rs. isort by_time (map sample_of rs)) (set_rows ms from to samples e.0)
      ∙ window_read e.0 q (inside from to) (λ r. tests ms from to e.0 r h.0) from to (λ u. refl) samples xs apart (series_rises xs series)
      (λ u. ap (λ o. held_by s o u) (sym h.1) ∙ stands e.0 u)
      (λ n. no_low xs n (series_timed xs series))

  module _ {Y : Type 0} (f : Series → List Y) (none : (l : Pairs) → f (record { labels = l; samples = [] }) ≡ []) where
    -- over the windows of the rows' series, and of the snapshot's
    over_windows : joined f (windows samples ms from to) ≡ joined (λ (e : Entry). f (record { labels = e.0; samples = window_of (samples_of s e.1) from to })) (entries ms s)
    over_windows =
        let o = in_order ms s.labels snap.apart in
        let g : Pairs → List Y = λ l. f (record { labels = l; samples = window l }) in
        over_sets f window (label_sets (window_rows ms from to samples))
        ∙ by_names s samples ms stands from to (entries ms s) o g
        (λ l e. ap (λ rs. f (record { labels = l; samples = isort by_time (map sample_of rs) })) e ∙ none l)
        ∙ by_entries g (λ e. f (record { labels = e.0; samples = window_of (samples_of s e.1) from to })) (IsAccepted ms 0 s.labels) (entries ms s) o.each
        (λ e h. ap (λ ys. f (record { labels = e.0; samples = ys })) (window_is e h))

  pub each_is : (f : RangeFn) (absent : Pairs) → IsOfEach f
      → of_series f absent from to (windows samples ms from to) ≡ joined (λ (e : Entry). element (ranged_labels f e.0) (range_function f (window_of (samples_of s e.1) from to) from to)) (entries ms s)
  each_is f absent h =
      sym (of_each f absent from to (windows samples ms from to) h)
      ∙ over_windows (λ x. element (ranged_labels f x.labels) (range_function f x.samples from to)) (λ l. ap (element (ranged_labels f l)) (of_none f from to h))

  pub all_samples : joined (λ (x : Series). x.samples) (windows samples ms from to) ≡ joined (λ (e : Entry). window_of (samples_of s e.1) from to) (entries ms s)
  all_samples = over_windows (λ x. x.samples) (λ l. refl)

-- ---- the columns at a step

column_by : (f : RangeFn) (range : ℕ) (s : SnapData) (ms : List Matcher) (times : Times) (k : ℕ) → k < times.len → (es : List Entry) → Each (IsAccepted ms 0 s.labels) es
    → cell_at (map (range_column f range s times) (map (λ e. e.1) es)) k
    ≡ joined (λ (e : Entry). element (ranged_labels f e.0) (range_function f (window_at range (samples_of s e.1) times k) (time_at times k -ℤ pos range) (time_at times k))) es
column_by f range s ms times k h [] a = refl
column_by f range s ms times k h (e ∷ es) a =
    λ i. element (ranged_labels f (labels_at ms s.labels e a.0 i))
    (in_below (λ j. range_function f (window_at range (samples_of s e.1) times j) (time_at times j -ℤ pos range) (time_at times j)) times.len k None h i)
    ++ column_by f range s ms times k h es a.1 i

module _ (range : ℕ) (s : SnapData) (times : Times) (ids : List ℕ) (k : ℕ) (h : k < times.len) (snap : IsSnap s) (samples : List Row) (ms : List Matcher) (stands : StandsFor s samples) (apart : AreApart samples)
    (accepted : ids ≡ accepted_ids ms s.labels) where
  abbrev from : ℤ
  from = time_at times k -ℤ pos range

  abbrev to : ℤ
  to = time_at times k

  pub ranged_is : (f : RangeFn) (absent : Pairs) → IsOfEach f → cell_at (map (range_column f range s times) ids) k ≡ of_series f absent from to (windows samples ms from to)
  ranged_is f absent n =
      ap (λ is. cell_at (map (range_column f range s times) is) k) accepted
      ∙ column_by f range s ms times k h (entries ms s) (in_order ms s.labels snap.apart).each
      ∙ sym (each_is s samples ms snap stands apart from to f absent n)

-- ---- no samples at all

pub absent_more : (ys xs : List Sample) (v : Option ℤ) → unless_some (ys ++ xs) v ≡ unless_some xs (unless_some ys v)
absent_more [] xs v = refl
absent_more (y ∷ ys) [] v = refl
absent_more (y ∷ ys) (x ∷ xs) v = refl

pub absent_is : (xs : List Sample) (a b : ℤ) → unless_some xs (Some one) ≡ range_function AbsentOverTime xs a b
absent_is [] a b = refl
absent_is (x ∷ xs) a b = refl

present_by : (range : ℕ) (s : SnapData) (times : Times) (k : ℕ) (es : List Entry) (v : Option ℤ)
    → unless_present range s times k (map (λ e. e.1) es) v ≡ unless_some (joined (λ (e : Entry). window_at range (samples_of s e.1) times k) es) v
present_by range s times k [] v = refl
present_by range s times k (e ∷ es) v =
    present_by range s times k es (unless_some (window_at range (samples_of s e.1) times k) v)
    ∙ sym (absent_more (window_at range (samples_of s e.1) times k) (joined (λ (x : Entry). window_at range (samples_of s x.1) times k) es) v)

pub absence_is : (range : ℕ) (s : SnapData) (times : Times) (ids : List ℕ) (k : ℕ) → IsSnap s → (samples : List Row) (ms : List Matcher) → StandsFor s samples → AreApart samples
    → ids ≡ accepted_ids ms s.labels → (absent : Pairs)
    → element absent (unless_present range s times k ids (Some one)) ≡ of_series AbsentOverTime absent (time_at times k -ℤ pos range) (time_at times k) (windows samples ms (time_at times k -ℤ pos range) (time_at times k))
absence_is range s times ids k snap samples ms stands apart e absent =
    let from = time_at times k -ℤ pos range in
    let to = time_at times k in
    ap (element absent)
    (ap (λ is. unless_present range s times k is (Some one)) e
    ∙ present_by range s times k (entries ms s) (Some one)
    ∙ ap (λ xs. unless_some xs (Some one)) (sym (all_samples s samples ms snap stands apart from to))
    ∙ absent_is (joined (λ (x : Series). x.samples) (windows samples ms from to)) from to)
