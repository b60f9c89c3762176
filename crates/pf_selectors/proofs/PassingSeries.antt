-- The series of a snapshot whose labels pass a test give what all series give where the others have no samples. That is a
-- snapshot of its own: it stands for the rows of such labels.
use Rattle.std.proofs.Common.{◌≡◌, ◌<◌, ◌+◌, ℕ, zero, suc, ℤ, pos, ◌-ℤ◌, Bool, true, false, cond, ◌&&◌, Option, Some, None, option_map, List, [], ◌∷◌, ◌++◌, length, map, get_or, nat_eq, refl, sym, ap, ◌∙◌, arith}
use Rattle.std.specs.List.{list_all}
use Rattle.std.specs.Cmp.{first_so, second_so}
use Rattle.pf_base.specs.declared.plain.Row.{Row}
use Rattle.pf_base.specs.declared.plain.Sample.{Sample}
use Rattle.pf_base.specs.LabelSets.{Pairs}
use Rattle.pf_block.specs.Samples.{is_series, value_at}
use Rattle.pf_block.specs.SeriesIds.{id_of}
use Rattle.pf_block.specs.Snaps.{SnapData, IsSnap, held_by, labels_of, samples_of}
use Rattle.pf_columns.specs.Columns.{ColumnData, cell_at, value_in}
use Rattle.pf_columns.proofs.Below.{in_below}
use Rattle.pf_model.specs.declared.cell.Element.{Element}
use Rattle.pf_model.specs.declared.expr.Matcher.{Matcher}
use Rattle.pf_model.specs.declared.functions.RangeFn.{RangeFn}
use Rattle.pf_model.specs.declared.functions.RangeFn.TheVariants.{AbsentOverTime}
use Rattle.pf_model.specs.Binding.{accepted_ids}
use Rattle.pf_model.specs.Cells.{element}
use Rattle.pf_model.specs.Evaluation.{selected, timed, windows}
use Rattle.pf_model.specs.InstantFunctions.{each_value}
use Rattle.pf_model.specs.Log.{AreApart, held_value}
use Rattle.pf_model.specs.Merging.{below}
use Rattle.pf_model.specs.Micros.{one}
use Rattle.pf_model.specs.Outcomes.{of_series, ranged_labels}
use Rattle.pf_model.specs.RangeFunctions.{range_function}
use Rattle.pf_model.specs.Selection.{same_labels}
use Rattle.pf_model.proofs.KeySets.{same_is}
use Rattle.pf_store.specs.Standing.{StandsFor}
use Rattle.pf_selectors.specs.Passing.{ids_passing, rows_passing}
use Rattle.pf_selectors.specs.SeriesColumns.{labels_read, range_column, read_at, read_column, series_column, unless_present, unless_some, value_read, window_at}
use Rattle.pf_selectors.specs.Times.{time_at}
use Rattle.pf_selectors.specs.declared.instant.Reading.{Reading}
use Rattle.pf_selectors.specs.declared.instant.Reading.TheVariants as reading
use Rattle.pf_selectors.specs.declared.times.Times.{Times}
use Rattle.pf_selectors.proofs.RangeCells.{IsOfEach, absence_is, of_none, ranged_is}
use Rattle.pf_selectors.proofs.ReadCells.{columns_are, selected_is}
use Rattle.pf_selectors.proofs.SeriesOrder.{labels_found}
use Rattle.pf_selectors.proofs.TimedCells.{times_are}

nothing : {X : Type 0} (x : X) (b : Bool) → x ≡ cond b x x
nothing x true = refl
nothing x false = refl

module _ (P : Pairs → Bool) where
  -- ---- the snapshot

  abbrev pub kept_by : List Pairs → List (List Sample) → List (List Sample)
  kept_by ls [] = []
  kept_by [] (xs ∷ xss) = cond (P []) xs [] ∷ kept_by [] xss
  kept_by (l ∷ ls) (xs ∷ xss) = cond (P l) xs [] ∷ kept_by ls xss

  abbrev pub kept : SnapData → SnapData
  kept s = record { labels = s.labels; samples = kept_by s.labels s.samples }

  samples_kept : (ls : List Pairs) (xss : List (List Sample)) (k : ℕ) → get_or (kept_by ls xss) k [] ≡ cond (P (get_or ls k [])) (get_or xss k []) []
  samples_kept ls [] k = nothing [] (P (get_or ls k []))
  samples_kept [] (xs ∷ xss) zero = refl
  samples_kept [] (xs ∷ xss) (suc k) = samples_kept [] xss k
  samples_kept (l ∷ ls) (xs ∷ xss) zero = refl
  samples_kept (l ∷ ls) (xs ∷ xss) (suc k) = samples_kept ls xss k

  length_kept : (ls : List Pairs) (xss : List (List Sample)) → length (kept_by ls xss) ≡ length xss
  length_kept ls [] = refl
  length_kept [] (xs ∷ xss) = ap suc (length_kept [] xss)
  length_kept (l ∷ ls) (xs ∷ xss) = ap suc (length_kept ls xss)

  series_by : (xs : List Sample) (b : Bool) → is_series xs ≡ true → is_series (cond b xs []) ≡ true
  series_by xs true h = h
  series_by xs false h = refl

  lawful_kept : (ls : List Pairs) (xss : List (List Sample)) → list_all is_series xss ≡ true → list_all is_series (kept_by ls xss) ≡ true
  lawful_kept ls [] h = refl
  lawful_kept [] (xs ∷ xss) h =
      λ i. series_by xs (P []) (first_so (is_series xs) (list_all is_series xss) h) i && lawful_kept [] xss (second_so (is_series xs) (list_all is_series xss) h) i
  lawful_kept (l ∷ ls) (xs ∷ xss) h =
      λ i. series_by xs (P l) (first_so (is_series xs) (list_all is_series xss) h) i && lawful_kept ls xss (second_so (is_series xs) (list_all is_series xss) h) i

  snap_kept : (s : SnapData) → IsSnap s → IsSnap (kept s)
  snap_kept s h = record {
    apart = h.apart;
    alike = length_kept s.labels s.samples ∙ h.alike;
    lawful = lawful_kept s.labels s.samples h.lawful;
    few = h.few;
  }

  -- ---- it stands for the rows that pass

  value_kept : (xs : List Sample) (z : ℤ) (b : Bool) → value_at (cond b xs []) z ≡ cond b (value_at xs z) None
  value_kept xs z true = refl
  value_kept xs z false = refl

  held_first : (r : Row) (rest : List Row) (l : Pairs) (u : ℕ) (b : Bool)
      → held_value (cond b (r ∷ rest) rest) l u ≡ cond b (cond (same_labels r.labels l && nat_eq r.time u) (Some r.value) (held_value rest l u)) (held_value rest l u)
  held_first r rest l u true = refl
  held_first r rest l u false = refl

  held_by_row : (v x y : Option ℤ) (b c d t : Bool) → (d ≡ true → b ≡ c) → x ≡ cond c y None → cond b (cond (d && t) v x) x ≡ cond c (cond (d && t) v y) None
  held_by_row v x y true true true true same e = refl
  held_by_row v x y false false true true same e = e
  held_by_row v x y true false true true same e = let no : true ≡ false = same refl in cc
  held_by_row v x y false true true true same e = let no : false ≡ true = same refl in cc
  held_by_row v x y true c true false same e = e
  held_by_row v x y false c true false same e = e
  held_by_row v x y true c false t same e = e
  held_by_row v x y false c false t same e = e

  held_kept : (rs : List Row) (l : Pairs) (u : ℕ) → held_value (rows_passing P rs) l u ≡ cond (P l) (held_value rs l u) None
  held_kept [] l u = nothing None (P l)
  held_kept (r ∷ rs) l u =
      held_first r (rows_passing P rs) l u (P r.labels)
      ∙ held_by_row (Some r.value) (held_value (rows_passing P rs) l u) (held_value rs l u) (P r.labels) (P l) (same_labels r.labels l) (nat_eq r.time u)
      (λ e. ap P (same_is r.labels l e)) (held_kept rs l u)

  module _ (s : SnapData) where
    found_kept : (l : Pairs) (u : ℕ) (o : Option ℕ) → id_of l s.labels ≡ o → held_by (kept s) o u ≡ cond (P l) (held_by s o u) None
    found_kept l u None e = nothing None (P l)
    found_kept l u (Some k) e =
        let place : k ≡ 0 + k = omega arith in
        let is : get_or s.labels k [] ≡ l = labels_found l 0 k s.labels (e ∙ ap Some place) in
        ap (λ xs. value_at xs (pos u)) (samples_kept s.labels s.samples k)
        ∙ value_kept (samples_of s k) (pos u) (P (get_or s.labels k []))
        ∙ ap (λ m. cond (P m) (value_at (samples_of s k) (pos u)) None) is

    stands_kept : (samples : List Row) → StandsFor s samples → StandsFor (kept s) (rows_passing P samples)
    stands_kept samples h l u =
        found_kept l u (id_of l s.labels) refl ∙ ap (λ o. cond (P l) o None) (h l u) ∙ sym (held_kept samples l u)

  apart_by : (r : Row) (rest : List Row) (b : Bool) → held_value rest r.labels r.time ≡ None → AreApart rest → AreApart (cond b (r ∷ rest) rest)
  apart_by r rest true h a = (h, a)
  apart_by r rest false h a = a

  apart_kept : (rs : List Row) → AreApart rs → AreApart (rows_passing P rs)
  apart_kept [] a = tt
  apart_kept (r ∷ rs) a =
      apart_by r (rows_passing P rs) (P r.labels)
      (held_kept rs r.labels r.time ∙ ap (λ o. cond (P r.labels) o None) a.0 ∙ sym (nothing None (P r.labels))) (apart_kept rs a.1)

  -- ---- the columns of the series that pass

  module _ (L : Pairs → Pairs) (V : List Sample → ℕ → Option ℤ) (n : ℕ) (none : (k : ℕ) → V [] k ≡ None) (s : SnapData) (k : ℕ) (h : k < n) where
    abbrev column : SnapData → ℕ → ColumnData
    column t id = record { labels = L (labels_of t id); values = below (V (samples_of t id)) n }

    abbrev given : Pairs → List Sample → List Element
    given l xs = element (L l) (value_in (below (V xs) n) k)

    column_step : (id : ℕ) (ids : List ℕ) (rest : List Element) (b : Bool) → cell_at (map (column s) ids) k ≡ rest
        → cell_at (map (column s) (cond b (id ∷ ids) ids)) k ≡ given (labels_of s id) (cond b (samples_of s id) []) ++ rest
    column_step id ids rest true e = ap (λ es. given (labels_of s id) (samples_of s id) ++ es) e
    column_step id ids rest false e = e ∙ ap (λ o. element (L (labels_of s id)) o ++ rest) (sym (in_below (V []) n k None h ∙ none k))

    columns_same : (ids : List ℕ) → cell_at (map (column s) (ids_passing P s.labels ids)) k ≡ cell_at (map (column (kept s)) ids) k
    columns_same [] = refl
    columns_same (id ∷ ids) =
        column_step id (ids_passing P s.labels ids) (cell_at (map (column (kept s)) ids) k) (P (labels_of s id)) (columns_same ids)
        ∙ ap (λ xs. given (labels_of s id) xs ++ cell_at (map (column (kept s)) ids) k) (sym (samples_kept s.labels s.samples id))

  module _ (s : SnapData) (samples : List Row) (ms : List Matcher) (snap : IsSnap s) (stands : StandsFor s samples) where
    abbrev ids_in : List ℕ
    ids_in = accepted_ids ms s.labels

    module _ (times : Times) (ids : List ℕ) (k : ℕ) (h : k < times.len) (passing : ids ≡ ids_passing P s.labels ids_in) where
      read_same : (r : Reading) → cell_at (map (read_column r s times) ids) k ≡ cell_at (map (read_column r (kept s) times) ids_in) k
      read_same r =
          ap (λ is. cell_at (map (read_column r s times) is) k) passing
          ∙ columns_same (labels_read r) (λ xs j. option_map (value_read r) (read_at xs (time_at times j))) times.len (λ j. refl) s k h ids_in

      pub values_passing : cell_at (map (read_column reading.Value s times) ids) k ≡ selected (rows_passing P samples) ms (time_at times k)
      values_passing =
          read_same reading.Value
          ∙ columns_are reading.Value (kept s) ms times ids_in k h (snap_kept s snap) refl
          ∙ sym (selected_is (kept s) (rows_passing P samples) ms (snap_kept s snap) (stands_kept s samples stands) (time_at times k))

      -- the same, where the series are read one by one
      pub series_passing : cell_at (map (series_column s times) ids) k ≡ selected (rows_passing P samples) ms (time_at times k)
      series_passing = values_passing

      pub times_passing : cell_at (map (read_column reading.Time s times) ids) k ≡ each_value Some (selected (map timed (rows_passing P samples)) ms (time_at times k))
      times_passing =
          read_same reading.Time
          ∙ times_are (kept s) ms times ids_in k h (snap_kept s snap) (rows_passing P samples) (stands_kept s samples stands) refl

    module _ (apart : AreApart samples) (range : ℕ) (times : Times) (ids : List ℕ) (k : ℕ) (passing : ids ≡ ids_passing P s.labels ids_in) where
      abbrev from : ℤ
      from = time_at times k -ℤ pos range

      abbrev to : ℤ
      to = time_at times k

      pub ranged_passing : k < times.len → (f : RangeFn) (absent : Pairs) → IsOfEach f
          → cell_at (map (range_column f range s times) ids) k ≡ of_series f absent from to (windows (rows_passing P samples) ms from to)
      ranged_passing h f absent each =
          ap (λ is. cell_at (map (range_column f range s times) is) k) passing
          ∙ columns_same (ranged_labels f) (λ xs j. range_function f (window_at range xs times j) (time_at times j -ℤ pos range) (time_at times j)) times.len
          (λ j. of_none f (time_at times j -ℤ pos range) (time_at times j) each) s k h ids_in
          ∙ ranged_is range (kept s) times ids_in k h (snap_kept s snap) (rows_passing P samples) ms (stands_kept s samples stands) (apart_kept samples apart) refl f absent each

      present_step : (id : ℕ) (is js : List ℕ) (v : Option ℤ) (b : Bool) → ((w : Option ℤ) → unless_present range s times k is w ≡ unless_present range (kept s) times k js w)
          → unless_present range s times k (cond b (id ∷ is) is) v ≡ unless_present range (kept s) times k js (unless_some (window_at range (cond b (samples_of s id) []) times k) v)
      present_step id is js v true e = e (unless_some (window_at range (samples_of s id) times k) v)
      present_step id is js v false e = e v

      present_same : (js : List ℕ) (v : Option ℤ) → unless_present range s times k (ids_passing P s.labels js) v ≡ unless_present range (kept s) times k js v
      present_same [] v = refl
      present_same (id ∷ js) v =
          present_step id (ids_passing P s.labels js) js v (P (labels_of s id)) (present_same js)
          ∙ ap (λ xs. unless_present range (kept s) times k js (unless_some (window_at range xs times k) v)) (sym (samples_kept s.labels s.samples id))

      pub absence_passing : (absent : Pairs)
          → element absent (unless_present range s times k ids (Some one)) ≡ of_series AbsentOverTime absent from to (windows (rows_passing P samples) ms from to)
      absence_passing absent =
          ap (element absent) (ap (λ is. unless_present range s times k is (Some one)) passing ∙ present_same ids_in (Some one))
          ∙ absence_is range (kept s) times ids_in k (snap_kept s snap) (rows_passing P samples) ms (stands_kept s samples stands) (apart_kept samples apart) refl absent
