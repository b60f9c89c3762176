-- A selector over the rows of a shard gives the shard's elements, or series, of the selector over all rows.
use Rattle.std.proofs.Common.{◌≡◌, ℕ, ℤ, Bool, true, false, cond, List, [], ◌∷◌, ◌++◌, map, Option, Some, None, refl, sym, ap, ◌∙◌, nat_eq}
use Rattle.std.specs.List.{filter}
use Rattle.std.specs.Ordering.{is_eq}
use Rattle.std.specs.declared.cmp.Ordering.{Ordering}
use Rattle.std.specs.declared.cmp.Ordering.TheVariants.{Less, Equal, Greater}
use Rattle.pf_base.specs.declared.plain.Row.{Row}
use Rattle.pf_base.specs.declared.plain.Sample.{Sample}
use Rattle.pf_base.specs.LabelSets.{Pairs}
use Rattle.pf_base.specs.Sorting.{isort}
use Rattle.pf_base.specs.LabelOrder.{labels_cmp, labels_exact}
use Rattle.pf_base.specs.ShardHash.{shard_of}
use Rattle.pf_model.specs.declared.cell.Element.{Element}
use Rattle.pf_model.specs.declared.expr.Matcher.{Matcher}
use Rattle.pf_model.specs.Cells.{placed, put}
use Rattle.pf_model.specs.Evaluation.{label_sets, element_of, vector, selected, series_of, sample_of, by_time, windows}
use Rattle.pf_model.specs.Outcomes.{Series}
use Rattle.pf_model.specs.Legs.{of_shard}
use Rattle.pf_model.specs.Lists.{joined}
use Rattle.pf_model.specs.Selection.{same_labels, accepts, is_read, is_within, last_row}
use Rattle.pf_model.proofs.SelectorLabels.{AllAbove, Ascends, HasLabels, above_all, label_sets_ascend, last_alike, filtered_alike}
use Rattle.pf_model.proofs.Folds.{in_shard}
use Rattle.pf_model.proofs.TimesRead.{alone}

is_tie : (o : Ordering) → is_eq o ≡ true → o ≡ Equal
is_tie Less k = cc
is_tie Equal k = refl
is_tie Greater k = cc

-- two tests one after the other, in either order
module _ (p q : Row → Bool) where
  both_tests : (r : Row) (b c : Bool) (xs ys : List Row) → p r ≡ b → q r ≡ c → filter p xs ≡ filter q ys
      → filter p (cond c (r ∷ xs) xs) ≡ filter q (cond b (r ∷ ys) ys)
  both_tests r true true xs ys h k e = ap (λ b. cond b (r ∷ filter p xs) (filter p xs)) h ∙ ap (λ zs. r ∷ zs) e ∙ sym (ap (λ b. cond b (r ∷ filter q ys) (filter q ys)) k)
  both_tests r true false xs ys h k e = e ∙ sym (ap (λ b. cond b (r ∷ filter q ys) (filter q ys)) k)
  both_tests r false true xs ys h k e = ap (λ b. cond b (r ∷ filter p xs) (filter p xs)) h ∙ e
  both_tests r false false xs ys h k e = e

  either_order : (rows : List Row) → filter p (filter q rows) ≡ filter q (filter p rows)
  either_order [] = refl
  either_order (r ∷ rs) = both_tests r (p r) (q r) (filter q rs) (filter p rs) refl refl (either_order rs)

module _ (P : Pairs → Bool) where
  abbrev of_rows : Row → Bool
  of_rows r = P r.labels

  abbrev of_elements : Element → Bool
  of_elements e = P e.labels

  above_filtered : (l m : Pairs) (rest : List Pairs) (b : Bool) → labels_cmp l m ≡ Less → AllAbove l rest → AllAbove l (cond b (m ∷ rest) rest)
  above_filtered l m rest true e a = (e, a)
  above_filtered l m rest false e a = a

  filter_above : (l : Pairs) (ms : List Pairs) → AllAbove l ms → AllAbove l (filter P ms)
  filter_above l [] a = tt
  filter_above l (m ∷ ms) a = above_filtered l m (filter P ms) (P m) a.0 (filter_above l ms a.1)

  put_first : (l : Pairs) (ms : List Pairs) → AllAbove l ms → put l ms ≡ l ∷ ms
  put_first l [] a = refl
  put_first l (m ∷ ms) a = ap (λ o. placed o l m ms (put l ms)) a.0

  -- a label set that passes, put into a list before and after the test
  kept_behind : (l m : Pairs) (rest behind : List Pairs) (b : Bool) → labels_cmp l m ≡ Greater → put l rest ≡ behind
      → put l (cond b (m ∷ rest) rest) ≡ cond b (m ∷ behind) behind
  kept_behind l m rest behind true e h = ap (λ o. placed o l m rest (put l rest)) e ∙ ap (λ zs. m ∷ zs) h
  kept_behind l m rest behind false e h = h

  kept_step : (l m : Pairs) (ms : List Pairs) (o : Ordering) → labels_cmp l m ≡ o → P l ≡ true → Ascends (m ∷ ms)
      → put l (filter P ms) ≡ filter P (put l ms) → put l (filter P (m ∷ ms)) ≡ filter P (placed o l m ms (put l ms))
  kept_step l m ms Less e h a ih =
      put_first l (filter P (m ∷ ms)) (filter_above l (m ∷ ms) (e, above_all l m ms e a.0))
      ∙ sym (ap (λ b. cond b (l ∷ filter P (m ∷ ms)) (filter P (m ∷ ms))) h)
  kept_step l m ms Equal e h a ih =
      let same : P m ≡ true = ap P (sym (labels_exact l m e)) ∙ h in
      ap (λ b. put l (cond b (m ∷ filter P ms) (filter P ms))) same
      ∙ ap (λ o. placed o l m (filter P ms) (put l (filter P ms))) e
      ∙ sym (ap (λ b. cond b (m ∷ filter P ms) (filter P ms)) same)
  kept_step l m ms Greater e h a ih = kept_behind l m (filter P ms) (filter P (put l ms)) (P m) e ih

  put_kept : (l : Pairs) (ms : List Pairs) → P l ≡ true → Ascends ms → put l (filter P ms) ≡ filter P (put l ms)
  put_kept l [] h a = sym (ap (λ b. cond b (l ∷ []) []) h)
  put_kept l (m ∷ ms) h a = kept_step l m ms (labels_cmp l m) refl h a (put_kept l ms h a.1)

  -- one that doesn't pass
  out_step : (l m : Pairs) (ms behind : List Pairs) (o : Ordering) → P l ≡ false → filter P behind ≡ filter P ms → filter P (placed o l m ms behind) ≡ filter P (m ∷ ms)
  out_step l m ms behind Less h e = ap (λ b. cond b (l ∷ filter P (m ∷ ms)) (filter P (m ∷ ms))) h
  out_step l m ms behind Equal h e = refl
  out_step l m ms behind Greater h e = ap (λ zs. cond (P m) (m ∷ zs) zs) e

  put_out : (l : Pairs) (ms : List Pairs) → P l ≡ false → filter P (put l ms) ≡ filter P ms
  put_out l [] h = ap (λ b. cond b (l ∷ []) []) h
  put_out l (m ∷ ms) h = out_step l m ms (put l ms) (labels_cmp l m) h (put_out l ms h)

  sets_step : (r : Row) (rest kept : List Row) (b : Bool) → P r.labels ≡ b → label_sets kept ≡ filter P (label_sets rest)
      → label_sets (cond b (r ∷ kept) kept) ≡ filter P (put r.labels (label_sets rest))
  sets_step r rest kept true h e = ap (put r.labels) e ∙ put_kept r.labels (label_sets rest) h (label_sets_ascend rest)
  sets_step r rest kept false h e = e ∙ sym (put_out r.labels (label_sets rest) h)

  sets_filtered : (rows : List Row) → label_sets (filter of_rows rows) ≡ filter P (label_sets rows)
  sets_filtered [] = refl
  sets_filtered (r ∷ rs) = sets_step r rs (filter of_rows rs) (P r.labels) refl (sets_filtered rs)

  -- the elements of each label set, before and after the test
  element_step : (l : Pairs) (o : Option Row) (rest : List Element) (b : Bool) → P l ≡ b → HasLabels l o
      → filter of_elements (element_of o ++ rest) ≡ cond b (element_of o ++ filter of_elements rest) (filter of_elements rest)
  element_step l None rest true e h = refl
  element_step l None rest false e h = refl
  element_step l (Some r) rest b e h =
      ap (λ c. cond c (record { labels = r.labels; value = r.value } ∷ filter of_elements rest) (filter of_elements rest)) (ap P h ∙ e)
      ∙ by_flag b where
        by_flag : (c : Bool) → cond c (record { labels = r.labels; value = r.value } ∷ filter of_elements rest) (filter of_elements rest) ≡ cond c (element_of (Some r) ++ filter of_elements rest) (filter of_elements rest)
        by_flag true = refl
        by_flag false = refl

  joined_step : (f g : Pairs → Option Row) (l : Pairs) (ls : List Pairs) (b : Bool) → (P l ≡ true → g l ≡ f l) → P l ≡ b
      → cond b (element_of (f l) ++ joined (λ m. element_of (g m)) (filter P ls)) (joined (λ m. element_of (g m)) (filter P ls))
      ≡ joined (λ m. element_of (g m)) (cond b (l ∷ filter P ls) (filter P ls))
  joined_step f g l ls true same e = ap (λ o. element_of o ++ joined (λ m. element_of (g m)) (filter P ls)) (sym (same e))
  joined_step f g l ls false same e = refl

  joined_filtered : (f g : Pairs → Option Row) → ((l : Pairs) → HasLabels l (f l)) → ((l : Pairs) → P l ≡ true → g l ≡ f l)
      → (ls : List Pairs) → filter of_elements (joined (λ l. element_of (f l)) ls) ≡ joined (λ l. element_of (g l)) (filter P ls)
  joined_filtered f g alike same [] = refl
  joined_filtered f g alike same (l ∷ ls) =
      element_step l (f l) (joined (λ m. element_of (f m)) ls) (P l) refl (alike l)
      ∙ ap (λ es. cond (P l) (element_of (f l) ++ es) es) (joined_filtered f g alike same ls)
      ∙ joined_step f g l ls (P l) (same l) refl

  vector_filtered : (rows : List Row) → vector (filter of_rows rows) ≡ filter of_elements (vector rows)
  vector_filtered rows =
      let f : Pairs → Option Row = λ l. last_row (filter (λ r. same_labels r.labels l) rows) in
      let g : Pairs → Option Row = λ l. last_row (filter (λ r. same_labels r.labels l) (filter of_rows rows)) in
      ap (joined (λ l. element_of (g l))) (sets_filtered rows)
      ∙ sym (joined_filtered f g (λ l. last_alike l None (filter (λ r. same_labels r.labels l) rows) tt (filtered_alike l rows))
      (λ l h. ap last_row (sym (alone (λ r. same_labels r.labels l) of_rows
      (λ r e. ap P (labels_exact r.labels l (is_tie (labels_cmp r.labels l) e)) ∙ h) rows))) (label_sets rows))

  pub selected_filtered : (rows : List Row) (ms : List Matcher) (to : ℤ) → selected (filter of_rows rows) ms to ≡ filter of_elements (selected rows ms to)
  selected_filtered rows ms to =
      ap (λ found. vector (filter (is_read to) found)) (either_order (λ r. accepts ms r.labels) of_rows rows)
      ∙ ap vector (either_order (is_read to) of_rows (filter (λ r. accepts ms r.labels) rows))
      ∙ vector_filtered (filter (is_read to) (filter (λ r. accepts ms r.labels) rows))

-- a selector over a shard's rows
pub selected_of_shard : (n i : ℕ) (rows : List Row) (ms : List Matcher) (to : ℤ) → selected (of_shard i n rows) ms to ≡ filter (in_shard n i) (selected rows ms to)
selected_of_shard n i rows ms to = selected_filtered (λ l. nat_eq (shard_of l n) i) rows ms to

-- ---- range selectors

module _ (P : Pairs → Bool) where
  abbrev of_series_labels : Series → Bool
  of_series_labels s = P s.labels

  series_step : (s t : Pairs → List Sample) (l : Pairs) (rest : List Series) (ls : List Pairs) (b : Bool) → (P l ≡ true → t l ≡ s l) → P l ≡ b
      → rest ≡ map (λ m. record { labels = m; samples = t m }) ls
      → cond b (record { labels = l; samples = s l } ∷ rest) rest ≡ map (λ m. record { labels = m; samples = t m }) (cond b (l ∷ ls) ls)
  series_step s t l rest ls true same e h =
      let one : Series = record { labels = l; samples = s l } in
      ap (λ zs. one ∷ zs) h ∙ ap (λ found. record { labels = l; samples = found } ∷ map (λ m. record { labels = m; samples = t m }) ls) (sym (same e))
  series_step s t l rest ls false same e h = h

  series_of_sets : (s t : Pairs → List Sample) → ((l : Pairs) → P l ≡ true → t l ≡ s l) → (ls : List Pairs)
      → filter of_series_labels (map (λ l. record { labels = l; samples = s l }) ls) ≡ map (λ l. record { labels = l; samples = t l }) (filter P ls)
  series_of_sets s t same [] = refl
  series_of_sets s t same (l ∷ ls) =
      series_step s t l (filter of_series_labels (map (λ m. record { labels = m; samples = s m }) ls)) (filter P ls) (P l) (same l) refl (series_of_sets s t same ls)

  series_filtered : (rows : List Row) → series_of (filter (of_rows P) rows) ≡ filter of_series_labels (series_of rows)
  series_filtered rows =
      let s : Pairs → List Sample = λ l. isort by_time (map sample_of (filter (λ r. same_labels r.labels l) rows)) in
      let t : Pairs → List Sample = λ l. isort by_time (map sample_of (filter (λ r. same_labels r.labels l) (filter (of_rows P) rows))) in
      ap (map (λ l. record { labels = l; samples = t l })) (sets_filtered P rows)
      ∙ sym (series_of_sets s t
      (λ l h. ap (λ found. isort by_time (map sample_of found)) (sym (alone (λ r. same_labels r.labels l) (of_rows P)
      (λ r e. ap P (labels_exact r.labels l (is_tie (labels_cmp r.labels l) e)) ∙ h) rows))) (label_sets rows))

  pub windows_filtered : (rows : List Row) (ms : List Matcher) (from to : ℤ) → windows (filter (of_rows P) rows) ms from to ≡ filter of_series_labels (windows rows ms from to)
  windows_filtered rows ms from to =
      ap (λ found. series_of (filter (is_within from to) found)) (either_order (λ r. accepts ms r.labels) (of_rows P) rows)
      ∙ ap series_of (either_order (is_within from to) (of_rows P) (filter (λ r. accepts ms r.labels) rows))
      ∙ series_filtered (filter (is_within from to) (filter (λ r. accepts ms r.labels) rows))

-- a range selector over a shard's rows
pub windows_of_shard : (n i : ℕ) (rows : List Row) (ms : List Matcher) (from to : ℤ)
    → windows (of_shard i n rows) ms from to ≡ filter (λ s. nat_eq (shard_of s.labels n) i) (windows rows ms from to)
windows_of_shard n i rows ms from to = windows_filtered (λ l. nat_eq (shard_of l n) i) rows ms from to
