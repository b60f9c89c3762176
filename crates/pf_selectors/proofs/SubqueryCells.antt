-- A function of a subquery over a window is that of the columns' samples in the window.
use Rattle.std.proofs.Common.{◌≡◌, ◌<◌, ◌⊎◌, inl, inr, ℕ, zero, suc, ℤ, pos, ◌-ℤ◌, Bool, true, false, cond, ◌&&◌, ◌||◌, Option, Some, None, List, [], ◌∷◌, ◌++◌, map, refl, sym, ap, ◌∙◌, subst, arith}
use Rattle.std.specs.List.{filter}
use Rattle.std.specs.Ordering.{is_eq}
use Rattle.std.proofs.lemmas.List.{append-nil, append_assoc}
use Rattle.std.proofs.lemmas.List.Elements.{filter-append}
use Rattle.pf_base.specs.declared.plain.Sample.{Sample}
use Rattle.pf_base.specs.LabelSets.{Pairs}
use Rattle.pf_block.specs.Samples.{is_within}
use Rattle.pf_columns.specs.Columns.{AreRising, ColumnData, cell_at, columns_labels, value_in}
use Rattle.pf_columns.specs.Steps.{StepsData, bad_in, step_at, unless_bad}
use Rattle.pf_columns.proofs.Below.{in_below}
use Rattle.pf_columns.proofs.GroupedCells.{has_filter, rises_filter}
use Rattle.pf_columns.proofs.Occurring.{is_full, occurring_ascend, occurring_in, with_labels}
use Rattle.pf_columns.proofs.Rising.{ascends}
use Rattle.pf_model.specs.declared.cell.Element.{Element}
use Rattle.pf_model.specs.declared.cell.ErrorKind.{ErrorKind}
use Rattle.pf_model.specs.declared.cell.StepCell.TheVariants.{Good, Bad}
use Rattle.pf_model.specs.declared.functions.RangeFn.{RangeFn}
use Rattle.pf_model.specs.declared.functions.RangeFn.TheVariants.{AbsentOverTime}
use Rattle.pf_model.specs.Cells.{cell_of, element, occurring, samples_of}
use Rattle.pf_model.specs.Evaluation.{Moment, moment_elements, moments, subquery_over, subquery_series, inner_elements}
use Rattle.pf_model.specs.Lists.{Each, joined}
use Rattle.pf_model.specs.Merging.{below}
use Rattle.pf_model.specs.Micros.{one}
use Rattle.pf_model.specs.Outcomes.{Outcome, Series, bad, elements, first_bad, of_cell, of_series, range_call, ranged_labels, ranges, scalar, text}
use Rattle.pf_model.specs.RangeFunctions.{range_function}
use Rattle.pf_model.specs.Selection.{same_labels}
use Rattle.pf_model.proofs.KeySets.{alike, below_all, same_self, same_turned, stands_in}
use Rattle.pf_model.proofs.SelectorLabels.{AllAbove}
use Rattle.pf_selectors.specs.declared.moments.BadMoment.{BadMoment}
use Rattle.pf_selectors.specs.declared.times.Times.{Times}
use Rattle.pf_selectors.specs.Subqueries.{AreMoments, bad_moment, bad_over, column_series, earliest, joined_below, lies_in, moment_cell, moment_column, moment_samples, sample_at, unless_sampled}
use Rattle.pf_selectors.specs.SeriesColumns.{unless_some, window_at}
use Rattle.pf_selectors.specs.Times.{time_at}
use Rattle.pf_selectors.proofs.RangeCells.{IsOfEach, absent_is, absent_more, each_series, of_each, of_none, over_sets}

-- ---- lists below a number

joined_alike : {Y : Type 0} (f g : ℕ → List Y) → ((j : ℕ) → f j ≡ g j) → (n : ℕ) → joined_below f n ≡ joined_below g n
joined_alike f g h zero = refl
joined_alike f g h (suc n) = λ i. joined_alike f g h n i ++ h n i

joined_none : {Y : Type 0} (f : ℕ → List Y) → ((j : ℕ) → f j ≡ []) → (n : ℕ) → joined_below f n ≡ []
joined_none f h zero = refl
joined_none f h (suc n) = λ i. joined_none f h n i ++ h n i

cond_none : {Y : Type 0} (b : Bool) (xs : List Y) → xs ≡ [] → cond b xs [] ≡ []
cond_none true xs h = h
cond_none false xs h = refl

joined_columns : {Y : Type 0} (g : Pairs → List Y) (cs : List ColumnData) → joined g (columns_labels cs) ≡ joined (λ (c : ColumnData). g c.labels) cs
joined_columns g [] = refl
joined_columns g (c ∷ cs) = ap (λ ys. g c.labels ++ ys) (joined_columns g cs)

joined_series : {Y : Type 0} (g : Series → List Y) (w : ColumnData → List Sample) (cs : List ColumnData)
    → joined g (map (λ (c : ColumnData). record { labels = c.labels; samples = w c }) cs) ≡ joined (λ (c : ColumnData). g (record { labels = c.labels; samples = w c })) cs
joined_series g w [] = refl
joined_series g w (c ∷ cs) = ap (λ ys. g (record { labels = c.labels; samples = w c }) ++ ys) (joined_series g w cs)

-- ---- the samples of a column in a window

within_one : (from to u : ℤ) (v : Option ℤ) → filter (is_within from to) (sample_at u v) ≡ cond (lies_in from to u) (sample_at u v) []
within_one from to u None = sym (cond_none (lies_in from to u) [] refl)
within_one from to u (Some v) = refl

within_all : (from to : ℤ) (t : ℕ → ℤ) (w : ℕ → Option ℤ) (n : ℕ)
    → filter (is_within from to) (joined_below (λ j. sample_at (t j) (w j)) n) ≡ joined_below (λ j. cond (lies_in from to (t j)) (sample_at (t j) (w j)) []) n
within_all from to t w zero = refl
within_all from to t w (suc n) =
    filter-append (is_within from to) (joined_below (λ j. sample_at (t j) (w j)) n) (sample_at (t n) (w n))
    ∙ (λ i. within_all from to t w n i ++ within_one from to (t n) (w n) i)

-- ---- the elements of a step with a column's labels

skip_one : (l d : Pairs) (w : Option ℤ) (es : List Element) → same_labels l d ≡ false → with_labels d (element l w ++ es) ≡ with_labels d es
skip_one l d None es h = refl
skip_one l d (Some v) es h = ap (λ b. cond b (record { labels = l; value = v } ∷ with_labels d es) (with_labels d es)) h

neither : (a b : Bool) → (a || b) ≡ false → (a ≡ false) × (b ≡ false)
neither true b h = cc
neither false b h = (refl, h)

none_with : (l : Pairs) (j : ℕ) (cs : List ColumnData) → stands_in l (columns_labels cs) ≡ false → with_labels l (cell_at cs j) ≡ []
none_with l j [] h = refl
none_with l j (c ∷ cs) h =
    let n = neither (same_labels l c.labels) (stands_in l (columns_labels cs)) h in
    skip_one c.labels l (value_in c.values j) (cell_at cs j) (same_turned c.labels l ∙ n.0) ∙ none_with l j cs n.1

keep_one : (l : Pairs) (w : Option ℤ) (es : List Element) → with_labels l es ≡ [] → with_labels l (element l w ++ es) ≡ element l w
keep_one l None es h = h
keep_one l (Some v) es h = λ i. cond (same_self l i) (record { labels = l; value = v } ∷ h i) (h i)

-- a column's own elements are its values
abbrev IsOwn : List ColumnData → ColumnData → Type 0
IsOwn cs c = (j : ℕ) → with_labels c.labels (cell_at cs j) ≡ element c.labels (value_in c.values j)

own_more : (c : ColumnData) (cs ds : List ColumnData) → AllAbove c.labels (columns_labels ds) → Each (IsOwn cs) ds → Each (IsOwn (c ∷ cs)) ds
own_more c cs [] a h = tt
own_more c cs (d ∷ ds) a h =
    (λ j. skip_one c.labels d.labels (value_in c.values j) (cell_at cs j) (ap is_eq a.0) ∙ h.0 j, own_more c cs ds a.1 h.1)

all_own : (cs : List ColumnData) → AreRising (columns_labels cs) → Each (IsOwn cs) cs
all_own [] r = tt
all_own (c ∷ cs) r = (
  λ j. keep_one c.labels (value_in c.values j) (cell_at cs j) (none_with c.labels j cs (below_all c.labels (columns_labels cs) r.0)),
  own_more c cs cs r.0 (all_own cs r.1),
)

-- ---- the label sets that occur are those with samples

abbrev timed_value : ℤ → Element → Sample
timed_value t e = record { time = t; value = e.value }

abbrev samples_at : Pairs → List Moment → List Sample
samples_at l ms = samples_of (λ (m : Moment). m.time) inner_elements l ms

not_full : {X : Type 0} (xs : List X) → is_full xs ≡ false → xs ≡ []
not_full [] h = refl
not_full (x ∷ xs) h = cc

and_of : (a b : Bool) → (a ≡ false → b ≡ false) → b ≡ (a && b)
and_of true b h = refl
and_of false b h = h refl

-- ---- a moment

first_more : (x : Outcome) (xs ys : List Outcome) (v w : Outcome) → first_bad xs v ≡ first_bad ys w → first_bad (x ∷ xs) v ≡ first_bad (x ∷ ys) w
first_more (scalar s) xs ys v w h = h
first_more (elements es) xs ys v w h = h
first_more (ranges from to ss) xs ys v w h = h
first_more (text bytes) xs ys v w h = h
first_more (bad kind) xs ys v w h = refl

first_good : (x : Outcome) (es : List Element) (v : Outcome) → moment_cell x ≡ Good es → first_bad (x ∷ []) v ≡ v
first_good (scalar s) es v h = refl
first_good (elements fs) es v h = refl
first_good (ranges from to ss) es v h = refl
first_good (text bytes) es v h = refl
first_good (bad kind) es v h = cc

first_is : (x : Outcome) (kind : ErrorKind) (v : Outcome) → moment_cell x ≡ Bad kind → first_bad (x ∷ []) v ≡ bad kind
first_is (scalar s) kind v h = cc
first_is (elements fs) kind v h = cc
first_is (ranges from to ss) kind v h = cc
first_is (text bytes) kind v h = cc
first_is (bad k) kind v h = cc

elements_are : (x : Outcome) (es : List Element) → moment_cell x ≡ Good es → moment_elements x ≡ es
elements_are (scalar s) es h = cc
elements_are (elements fs) es h = cc
elements_are (ranges from to ss) es h = cc
elements_are (text bytes) es h = cc
elements_are (bad kind) es h = cc

abbrev unless_kind : Option ErrorKind → Outcome → Outcome
unless_kind None v = v
unless_kind (Some kind) v = bad kind

abbrev kind_in : Bool → Option ErrorKind → Option ErrorKind
kind_in b None = None
kind_in b (Some kind) = cond b (Some kind) None

abbrev outcomes_of : List Moment → List Outcome
outcomes_of ms = map (λ (m : Moment). m.outcome) ms

module _ (from to : ℤ) where
  earliest_one : (u : ℤ) (k : Option ErrorKind) → earliest from to (bad_moment u k) ≡ kind_in (lies_in from to u) k
  earliest_one u None = refl
  earliest_one u (Some kind) = refl

  kind_by : (b : Bool) (kind : ErrorKind) (e f : Option ErrorKind) (v w : Outcome) → unless_kind e v ≡ unless_kind f w → unless_kind (cond b (Some kind) e) v ≡ unless_kind (cond b (Some kind) f) w
  kind_by true kind e f v w h = refl
  kind_by false kind e f v w h = h

  earliest_append : (xs ys : List BadMoment) (v : Outcome) → unless_kind (earliest from to (xs ++ ys)) v ≡ unless_kind (earliest from to xs) (unless_kind (earliest from to ys) v)
  earliest_append [] ys v = refl
  earliest_append (x ∷ xs) ys v =
      kind_by (lies_in from to x.time) x.kind (earliest from to (xs ++ ys)) (earliest from to xs) v (unless_kind (earliest from to ys) v) (earliest_append xs ys v)

  none_by : (b : Bool) (kind : ErrorKind) (e f g : Option ErrorKind) → (e ≡ None → (f ≡ None) × (g ≡ None)) → cond b (Some kind) e ≡ None → (cond b (Some kind) f ≡ None) × (g ≡ None)
  none_by true kind e f g h n = cc
  none_by false kind e f g h n = h n

  none_both : (xs ys : List BadMoment) → earliest from to (xs ++ ys) ≡ None → (earliest from to xs ≡ None) × (earliest from to ys ≡ None)
  none_both [] ys h = (refl, h)
  none_both (x ∷ xs) ys h =
      none_by (lies_in from to x.time) x.kind (earliest from to (xs ++ ys)) (earliest from to xs) (earliest from to ys) (none_both xs ys) h

  module _ (o : ℤ → Outcome) where
    first_over : (us vs : List ℤ) (v : Outcome) → first_bad (outcomes_of (moments o (us ++ vs))) v ≡ first_bad (outcomes_of (moments o us)) (first_bad (outcomes_of (moments o vs)) v)
    first_over [] vs v = refl
    first_over (u ∷ us) vs v =
        first_more (o u) (outcomes_of (moments o (us ++ vs))) (outcomes_of (moments o us)) v (first_bad (outcomes_of (moments o vs)) v) (first_over us vs v)

    first_step : (b : Bool) (u : ℤ) (k : Option ErrorKind) (es : List Element) (v : Outcome) → moment_cell (o u) ≡ unless_bad k (Good es)
        → first_bad (outcomes_of (moments o (cond b (u ∷ []) []))) v ≡ unless_kind (kind_in b k) v
    first_step true u None es v h = first_good (o u) es v h
    first_step true u (Some kind) es v h = first_is (o u) kind v h
    first_step false u None es v h = refl
    first_step false u (Some kind) es v h = refl

    module _ {Y : Type 0} (g : ℤ → List Element → List Y) where
      abbrev made : Moment → List Y
      made m = g m.time (moment_elements m.outcome)

      made_append : (us vs : List ℤ) → joined made (moments o (us ++ vs)) ≡ joined made (moments o us) ++ joined made (moments o vs)
      made_append [] vs = refl
      made_append (u ∷ us) vs =
          ap (λ ys. g u (moment_elements (o u)) ++ ys) (made_append us vs)
          ∙ sym (append_assoc (g u (moment_elements (o u))) (joined made (moments o us)) (joined made (moments o vs)))

      made_step : (b : Bool) (u : ℤ) (k : Option ErrorKind) (es : List Element) → moment_cell (o u) ≡ unless_bad k (Good es) → kind_in b k ≡ None
          → joined made (moments o (cond b (u ∷ []) [])) ≡ cond b (g u es) []
      made_step true u None es h n = append-nil (g u (moment_elements (o u))) ∙ ap (g u) (elements_are (o u) es h)
      made_step true u (Some kind) es h n = cc
      made_step false u k es h n = refl

    -- ---- the moments of a run

    module _ (t : ℕ → ℤ) (m : StepsData) where
      abbrev picked : ℕ → List ℤ
      picked n = filter (lies_in from to) (below t n)

      abbrev errors : ℕ → List BadMoment
      errors n = joined_below (λ j. bad_moment (t j) (bad_in m.bads j)) n

      abbrev Says : ℕ → Type 0
      Says n = (j : ℕ) → j < n → moment_cell (o (t j)) ≡ step_at m j

      says_before : (n : ℕ) → Says (suc n) → Says n
      says_before n h = λ j l. h j (omega (arith, l))

      picked_more : (n : ℕ) → picked (suc n) ≡ picked n ++ cond (lies_in from to (t n)) (t n ∷ []) []
      picked_more n = filter-append (lies_in from to) (below t n) (t n ∷ [])

      first_all : (n : ℕ) → Says n → (v : Outcome) → first_bad (outcomes_of (moments o (picked n))) v ≡ unless_kind (earliest from to (errors n)) v
      first_all zero h v = refl
      first_all (suc n) h v =
          let b = lies_in from to (t n) in
          let k = bad_in m.bads n in
          ap (λ us. first_bad (outcomes_of (moments o us)) v) (picked_more n)
          ∙ first_over (picked n) (cond b (t n ∷ []) []) v
          ∙ first_all n (says_before n h) (first_bad (outcomes_of (moments o (cond b (t n ∷ []) []))) v)
          ∙ ap (unless_kind (earliest from to (errors n)))
          (first_step b (t n) k (cell_at m.columns n) v (h n (omega arith)) ∙ ap (λ e. unless_kind e v) (sym (earliest_one (t n) k)))
          ∙ sym (earliest_append (errors n) (bad_moment (t n) k) v)

      made_all : {Y : Type 0} (g : ℤ → List Element → List Y) (n : ℕ) → Says n → earliest from to (errors n) ≡ None
          → joined (made g) (moments o (picked n)) ≡ joined_below (λ j. cond (lies_in from to (t j)) (g (t j) (cell_at m.columns j)) []) n
      made_all g zero h e = refl
      made_all g (suc n) h e =
          let b = lies_in from to (t n) in
          let k = bad_in m.bads n in
          let both = none_both (errors n) (bad_moment (t n) k) e in
          ap (λ us. joined (made g) (moments o us)) (picked_more n)
          ∙ made_append g (picked n) (cond b (t n ∷ []) [])
          ∙ (λ i. made_all g n (says_before n h) both.0 i
          ++ made_step g b (t n) k (cell_at m.columns n) (h n (omega arith)) (sym (earliest_one (t n) k) ∙ both.1) i)

      -- ---- a window without errors

      module _ (n : ℕ) (says : Says n) (good : earliest from to (errors n) ≡ None) (rising : AreRising (columns_labels m.columns)) where
        abbrev window : List Moment
        window = moments o (picked n)

        abbrev of_labels : Pairs → ℤ → List Element → List Sample
        of_labels l u es = map (timed_value u) (with_labels l es)

        abbrev own_samples : ColumnData → List Sample
        own_samples c = filter (is_within from to) (joined_below (λ j. sample_at (t j) (value_in c.values j)) n)

        samples_are : (l : Pairs) → samples_at l window ≡ joined_below (λ j. cond (lies_in from to (t j)) (of_labels l (t j) (cell_at m.columns j)) []) n
        samples_are l = made_all (of_labels l) n says good

        no_samples : (l : Pairs) → stands_in l (columns_labels m.columns) ≡ false → samples_at l window ≡ []
        no_samples l h =
            samples_are l
            ∙ joined_none (λ j. cond (lies_in from to (t j)) (of_labels l (t j) (cell_at m.columns j)) [])
            (λ j. cond_none (lies_in from to (t j)) (of_labels l (t j) (cell_at m.columns j)) (ap (map (timed_value (t j))) (none_with l j m.columns h))) n

        value_sample : (u : ℤ) (l : Pairs) (v : Option ℤ) → map (timed_value u) (element l v) ≡ sample_at u v
        value_sample u l None = refl
        value_sample u l (Some v) = refl

        own_are : (c : ColumnData) → IsOwn m.columns c → samples_at c.labels window ≡ own_samples c
        own_are c own =
            samples_are c.labels
            ∙ joined_alike (λ j. cond (lies_in from to (t j)) (of_labels c.labels (t j) (cell_at m.columns j)) []) (λ j. cond (lies_in from to (t j)) (sample_at (t j) (value_in c.values j)) [])
            (λ j. ap (λ xs. cond (lies_in from to (t j)) xs []) (ap (map (timed_value (t j))) (own j) ∙ value_sample (t j) c.labels (value_in c.values j))) n
            ∙ sym (within_all from to t (value_in c.values) n)

        sets_are : occurring inner_elements window ≡ filter (λ l. is_full (samples_at l window)) (columns_labels m.columns)
        sets_are =
            let full : Pairs → Bool = λ l. is_full (samples_at l window) in
            let ls = columns_labels m.columns in
            alike (occurring inner_elements window) (filter full ls) (occurring_ascend inner_elements window) (ascends (filter full ls) (rises_filter full ls rising))
            (λ l. occurring_in (λ (m : Moment). m.time) inner_elements l window ∙ and_of (stands_in l ls) (full l) (λ h. ap is_full (no_samples l h)) ∙ sym (has_filter full l ls))

        module _ {Y : Type 0} (g : Series → List Y) (none : (l : Pairs) → g (record { labels = l; samples = [] }) ≡ []) where
          abbrev of_set : Pairs → List Y
          of_set l = g (record { labels = l; samples = samples_at l window })

          kept_by : (l : Pairs) (ls : List Pairs) (b : Bool) → is_full (samples_at l window) ≡ b → joined of_set (filter (λ x. is_full (samples_at x window)) ls) ≡ joined of_set ls
              → joined of_set (cond b (l ∷ filter (λ x. is_full (samples_at x window)) ls) (filter (λ x. is_full (samples_at x window)) ls)) ≡ of_set l ++ joined of_set ls
          kept_by l ls true e r = ap (λ ys. of_set l ++ ys) r
          kept_by l ls false e r =
              r ∙ ap (λ ys. ys ++ joined of_set ls) (sym (ap (λ xs. g (record { labels = l; samples = xs })) (not_full (samples_at l window) e) ∙ none l))

          kept : (ls : List Pairs) → joined of_set (filter (λ x. is_full (samples_at x window)) ls) ≡ joined of_set ls
          kept [] = refl
          kept (l ∷ ls) = kept_by l ls (is_full (samples_at l window)) refl (kept ls)

          by_columns : (cs : List ColumnData) → Each (IsOwn m.columns) cs
              → joined (λ (c : ColumnData). of_set c.labels) cs ≡ joined (λ (c : ColumnData). g (record { labels = c.labels; samples = own_samples c })) cs
          by_columns [] a = refl
          by_columns (c ∷ cs) a = λ i. g (record { labels = c.labels; samples = own_are c a.0 i }) ++ by_columns cs a.1 i

          series_are : joined g (subquery_series window) ≡ joined g (map (λ (c : ColumnData). record { labels = c.labels; samples = own_samples c }) m.columns)
          series_are =
              over_sets g (λ l. samples_at l window) (occurring inner_elements window)
              ∙ ap (joined of_set) sets_are
              ∙ kept (columns_labels m.columns)
              ∙ joined_columns of_set m.columns
              ∙ by_columns m.columns (all_own m.columns rising)
              ∙ sym (joined_series g own_samples m.columns)

        is_absent : (f : RangeFn) → (f ≡ AbsentOverTime) ⊎ IsOfEach f
        is_absent AbsentOverTime = inl refl
        is_absent f = inr (λ e. cc)

        function_is : (f : RangeFn) (absent : Pairs)
            → of_series f absent from to (map (λ (c : ColumnData). record { labels = c.labels; samples = own_samples c }) m.columns) ≡ of_series f absent from to (subquery_series window)
        function_is f absent =
            let cs = map (λ (c : ColumnData). record { labels = c.labels; samples = own_samples c }) m.columns in
            let ss = subquery_series window in
            elim (is_absent f) as (λ _. of_series f absent from to cs ≡ of_series f absent from to ss) [
              | inl e ↦ subst (λ h. of_series h absent from to cs ≡ of_series h absent from to ss) (sym e)
                  (ap (λ xs. element absent (range_function AbsentOverTime xs from to)) (sym (series_are (λ (x : Series). x.samples) (λ l. refl))))
              | inr h ↦ sym (of_each f absent from to cs h)
                  ∙ sym (series_are (λ (x : Series). element (ranged_labels f x.labels) (range_function f x.samples from to)) (λ l. ap (element (ranged_labels f l)) (of_none f from to h)))
                  ∙ of_each f absent from to ss h
            ]

-- ---- the columns that are made

module _ (range : ℕ) (at times : Times) (k : ℕ) where
  abbrev from_at : ℤ
  from_at = time_at times k -ℤ pos range

  sampled_by : (cs : List ColumnData) (v : Option ℤ) → unless_sampled range at times k cs v ≡ unless_some (joined (λ (s : Series). s.samples) (column_series range at times cs k)) v
  sampled_by [] v = refl
  sampled_by (c ∷ cs) v =
      let here = window_at range (moment_samples at c.values) times k in
      sampled_by cs (unless_some here v) ∙ sym (absent_more here (joined (λ (s : Series). s.samples) (column_series range at times cs k)) v)

  pub absence_over : (f : RangeFn) (absent : Pairs) (cs : List ColumnData) → f ≡ AbsentOverTime
      → element absent (unless_sampled range at times k cs (Some one)) ≡ of_series f absent from_at (time_at times k) (column_series range at times cs k)
  absence_over f absent cs e =
      ap (element absent) (sampled_by cs (Some one) ∙ absent_is (joined (λ (s : Series). s.samples) (column_series range at times cs k)) from_at (time_at times k))
      ∙ ap (λ h. of_series h absent from_at (time_at times k) (column_series range at times cs k)) (sym e)

  each_column : (f : RangeFn) (cs : List ColumnData) → k < times.len → cell_at (map (moment_column f range at times) cs) k ≡ each_series f from_at (time_at times k) (column_series range at times cs k)
  each_column f [] h = refl
  each_column f (c ∷ cs) h =
      λ i. element (ranged_labels f c.labels)
      (in_below (λ j. range_function f (window_at range (moment_samples at c.values) times j) (time_at times j -ℤ pos range) (time_at times j)) times.len k None h i)
      ++ each_column f cs h i

  pub each_over : (f : RangeFn) (absent : Pairs) (cs : List ColumnData) → IsOfEach f → k < times.len
      → cell_at (map (moment_column f range at times) cs) k ≡ of_series f absent from_at (time_at times k) (column_series range at times cs k)
  each_over f absent cs n h = each_column f cs h ∙ of_each f absent from_at (time_at times k) (column_series range at times cs k) n

-- ---- the call

call_by : (f : RangeFn) (absent : Pairs) (from to : ℤ) (ss : List Series) (es : List Element) (e : Option ErrorKind) → (e ≡ None → es ≡ of_series f absent from to ss)
    → of_cell (unless_bad e (cell_of es)) ≡ range_call f absent (unless_kind e (ranges from to ss) ∷ [])
call_by f absent from to ss es None h = ap (λ xs. of_cell (cell_of xs)) (h refl)
call_by f absent from to ss es (Some kind) h = refl

-- what is made of the columns is what is called for
pub call_is : (f : RangeFn) (absent : Pairs) (range : ℕ) (at times : Times) (m : StepsData) (o : ℤ → Outcome) (k : ℕ) → AreRising (columns_labels m.columns) → AreMoments o at m
    → of_cell (unless_bad (bad_over range at times m.bads k) (cell_of (of_series f absent (time_at times k -ℤ pos range) (time_at times k) (column_series range at times m.columns k))))
    ≡ range_call f absent (subquery_over (time_at times k -ℤ pos range) (time_at times k)
    (moments o (filter (lies_in (time_at times k -ℤ pos range) (time_at times k)) (below (time_at at) at.len))) ∷ [])
call_is f absent range at times m o k rising says =
    let from = time_at times k -ℤ pos range in
    let to = time_at times k in
    let t = time_at at in
    let ms = moments o (picked from to o t m at.len) in
    call_by f absent from to (subquery_series ms) (of_series f absent from to (column_series range at times m.columns k)) (bad_over range at times m.bads k)
    (λ e. function_is from to o t m at.len says e rising f absent)
    ∙ ap (λ x. range_call f absent (x ∷ [])) (sym (first_all from to o t m at.len says (ranges from to (subquery_series ms))))
