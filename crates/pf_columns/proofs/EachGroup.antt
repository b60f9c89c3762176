-- The first elements of each group, found group by group, are those of all columns.
use Rattle.std.proofs.Common.{◌≡◌, ◌<◌, ◌+◌, ℕ, zero, suc, ℤ, Bool, true, false, cond, nat_eq, Option, Some, None, List, [], ◌∷◌, ◌++◌, map, length, take, get_or, refl, sym, ap, ◌∙◌, append-nil, append_assoc, arith}
use Rattle.std.proofs.lemmas.List.{length-map, length-replicate}
use Rattle.std.specs.Prelude.{replicate}
use Rattle.std.specs.declared.cmp.Ordering.TheVariants.{Less}
use Rattle.pf_base.specs.LabelSets.{Pairs}
use Rattle.pf_base.specs.LabelOrder.{labels_cmp}
use Rattle.pf_base.specs.Sorting.{isort}
use Rattle.pf_model.specs.declared.cell.Element.{Element}
use Rattle.pf_model.specs.declared.cell.StepCell.TheVariants.{Good}
use Rattle.pf_model.specs.Aggregation.{aggregated, first_of_each, groups}
use Rattle.pf_model.specs.Cells.{cell_of, distinct, element, element_cmp}
use Rattle.pf_model.specs.Lists.{Each, joined}
use Rattle.pf_model.specs.Merging.{below}
use Rattle.pf_columns.specs.Columns.{AreRising, ColumnData, cell_at, columns_labels, has_value, value_in}
use Rattle.pf_columns.specs.Groups.{place_in, those_of}
use Rattle.pf_columns.specs.Ranks.{bare, buckets_by, entry, entry_cmp, first_by_place, first_columns, first_of_group, group_marks, kept_columns, kept_values, labelled, marked, marks_at, marks_by, no_column, order_of, places_of, ranked, ranking, value_at, valued, wanted}
use Rattle.pf_columns.specs.declared.ranked.Rank.{Rank}
use Rattle.pf_columns.specs.declared.ranked.Rank.TheVariants as rank
use Rattle.pf_columns.proofs.FirstOfGroups.{all_groups, bucket_elements, first_cell, first_rises, first_so_many, joined_below, marked_cell, of_members}
use Rattle.pf_columns.proofs.GroupColumns.{those_members}
use Rattle.pf_columns.proofs.GroupKeys.{distinct_rising, each_stands}
use Rattle.pf_columns.proofs.LabelRank.{element_total}
use Rattle.pf_columns.proofs.Marking.{kept_labels}
use Rattle.pf_columns.proofs.RankedEntries.{element_of, ranked_elements}
use Rattle.pf_columns.proofs.Rising.{cell_rising}
use Rattle.pf_columns.proofs.SortedColumns.{cell_of_sorted}
use Rattle.pf_columns.proofs.SortedParts.{sorted_parts}

-- ---- columns without a value give nothing

no_value : (vs : List (Option ℤ)) → has_value vs ≡ false → (k : ℕ) → value_in vs k ≡ None
no_value [] h k = refl
no_value (None ∷ vs) h zero = refl
no_value (None ∷ vs) h (suc k) = no_value vs h k
no_value (Some v ∷ vs) h k = cc

valued_by : (k : ℕ) (c : ColumnData) (es : List ColumnData) (b : Bool) → has_value c.values ≡ b → cell_at (cond b (c ∷ []) [] ++ es) k ≡ element c.labels (value_in c.values k) ++ cell_at es k
valued_by k c es true h = refl
valued_by k c es false h = ap (λ o. element c.labels o ++ cell_at es k) (sym (no_value c.values h k))

valued_cell : (k : ℕ) (cs : List ColumnData) → cell_at (joined valued cs) k ≡ cell_at cs k
valued_cell k [] = refl
valued_cell k (c ∷ cs) = valued_by k c (joined valued cs) (has_value c.values) refl ∙ ap (λ es. element c.labels (value_in c.values k) ++ es) (valued_cell k cs)

-- ---- the columns of several lists

cell_append : (k : ℕ) (bs cs : List ColumnData) → cell_at (bs ++ cs) k ≡ cell_at bs k ++ cell_at cs k
cell_append k [] cs = refl
cell_append k (b ∷ bs) cs =
    ap (λ es. element b.labels (value_in b.values k) ++ es) (cell_append k bs cs)
    ∙ sym (append_assoc (element b.labels (value_in b.values k)) (cell_at bs k) (cell_at cs k))

cell_joined : {X : Type 0} (k : ℕ) (f : X → List ColumnData) (xs : List X) → cell_at (joined f xs) k ≡ joined (λ x. cell_at (f x) k) xs
cell_joined k f [] = refl
cell_joined k f (x ∷ xs) = cell_append k (f x) (joined f xs) ∙ ap (λ es. cell_at (f x) k ++ es) (cell_joined k f xs)

-- ---- all columns of one group

those_all : (cs : List ColumnData) → those_of 0 (replicate (length cs) 0) cs ≡ cs
those_all [] = refl
those_all (c ∷ cs) = ap (λ ds. c ∷ ds) (those_all cs)

group_cell : (r : Rank) (params : List (Option ℤ)) (cs : List ColumnData) (n k : ℕ) → AreRising (columns_labels cs) → k < n
    → cell_at (first_of_group r params cs n) k ≡ isort element_cmp (take (wanted (value_in params k)) (isort (order_of r) (cell_at cs k)))
group_cell r params cs n k rises h =
    let most = wanted (value_in params k) in
    let os = replicate (length cs) 0 in
    let b = places_of 0 0 os in
    valued_cell k (first_by_place r params cs os 1 n)
    ∙ marked_cell r params cs n rises os 1 k h
    ∙ ap (isort element_cmp)
    (ap (map (element_of r cs k)) (append-nil (ranked r most cs k b))
    ∙ ranked_elements r cs k rises most b
    ∙ ap (λ es. take most (isort (order_of r) es)) (bucket_elements r cs k 0 os (length-replicate (length cs) 0) ∙ ap (λ ds. cell_at ds k) (those_all cs)))

-- ---- columns whose labels are not read yet

bare_value : (cs : List ColumnData) (i k : ℕ) → value_at (map bare cs) i k ≡ value_at cs i k
bare_value [] i k = refl
bare_value (c ∷ cs) zero k = refl
bare_value (c ∷ cs) (suc i) k = bare_value cs i k

module _ (r : Rank) (cs : List ColumnData) where
  bare_ranked : (n k : ℕ) (b : List ℕ) → ranked r n (map bare cs) k b ≡ ranked r n cs k b
  bare_ranked n k b = λ t. take n (isort entry_cmp (joined (λ i. entry r i (bare_value cs i k t)) b))

  bare_group : (n k : ℕ) (bs : List (List ℕ)) (ms : List Bool) → group_marks r n (map bare cs) k bs ms ≡ group_marks r n cs k bs ms
  bare_group n k [] ms = refl
  bare_group n k (b ∷ bs) ms =
      bare_group n k bs (marked (ranked r n (map bare cs) k b) ms) ∙ ap (λ es. group_marks r n cs k bs (marked es ms)) (bare_ranked n k b)

  bare_marks : (n k : ℕ) (bs : List (List ℕ)) → marks_at r n (map bare cs) bs k ≡ marks_at r n cs bs k
  bare_marks n k bs =
      bare_group n k bs (replicate (length (map bare cs)) false) ∙ ap (λ m. group_marks r n cs k bs (replicate m false)) (length-map cs bare)

bare_kept : (rows : List (List Bool)) (i : ℕ) (cs : List ColumnData) → kept_columns rows i (map bare cs) ≡ map bare (kept_columns rows i cs)
bare_kept rows i [] = refl
bare_kept rows i (c ∷ cs) = ap (λ ds. record { labels = []; values = kept_values rows i 0 c.values } ∷ ds) (bare_kept rows (i + 1) cs)

labelled_again : (cs : List ColumnData) → labelled (columns_labels cs) (map bare cs) ≡ joined valued cs
labelled_again [] = refl
labelled_again (c ∷ cs) = ap (λ ds. valued c ++ ds) (labelled_again cs)

-- the labels of what is kept are read at the end
pub labelled_first : (r : Rank) (params : List (Option ℤ)) (cs bs : List ColumnData) (n : ℕ) → bs ≡ map bare cs
    → labelled (columns_labels cs) (first_by_place r params bs (replicate (length bs) 0) 1 n) ≡ first_of_group r params cs n
labelled_first r params cs bs n e =
    let os = replicate (length cs) 0 in
    let rows = marks_by r params cs (buckets_by os 1) n in
    ap (λ ds. labelled (columns_labels cs) (first_by_place r params ds (replicate (length ds) 0) 1 n)) e
    ∙ ap (λ m. labelled (columns_labels cs) (first_by_place r params (map bare cs) (replicate m 0) 1 n)) (length-map cs bare)
    ∙ (λ t. labelled (columns_labels cs) (kept_columns (below (λ k. bare_marks r cs (wanted (value_in params k)) k (buckets_by os 1) t) n) 0 (map bare cs)))
    ∙ ap (labelled (columns_labels cs)) (bare_kept rows 0 cs)
    ∙ ap (λ ls. labelled ls (map bare (kept_columns rows 0 cs))) (sym (kept_labels rows 0 cs))
    ∙ labelled_again (kept_columns rows 0 cs)

-- ---- the columns of a group rise

above_by : (l : Pairs) (c : ColumnData) (cs : List ColumnData) (b : Bool) → labels_cmp l c.labels ≡ Less → Each (λ m. labels_cmp l m ≡ Less) (columns_labels cs)
    → Each (λ m. labels_cmp l m ≡ Less) (columns_labels (cond b (c ∷ cs) cs))
above_by l c cs true h a = (h, a)
above_by l c cs false h a = a

those_above : (l : Pairs) (g : ℕ) (os : List ℕ) (cs : List ColumnData) → Each (λ m. labels_cmp l m ≡ Less) (columns_labels cs)
    → Each (λ m. labels_cmp l m ≡ Less) (columns_labels (those_of g os cs))
those_above l g [] cs a = tt
those_above l g (o ∷ os) [] a = tt
those_above l g (o ∷ os) (c ∷ cs) a = above_by l c (those_of g os cs) (nat_eq o g) a.0 (those_above l g os cs a.1)

rise_by : (c : ColumnData) (cs : List ColumnData) (b : Bool) → Each (λ m. labels_cmp c.labels m ≡ Less) (columns_labels cs) → AreRising (columns_labels cs)
    → AreRising (columns_labels (cond b (c ∷ cs) cs))
rise_by c cs true a r = (a, r)
rise_by c cs false a r = r

those_rise : (g : ℕ) (os : List ℕ) (cs : List ColumnData) → AreRising (columns_labels cs) → AreRising (columns_labels (those_of g os cs))
those_rise g [] cs r = tt
those_rise g (o ∷ os) [] r = tt
those_rise g (o ∷ os) (c ∷ cs) r = rise_by c (those_of g os cs) (nat_eq o g) (those_above c.labels g os cs r.0) (those_rise g os cs r.1)

-- ---- the columns at the places of a group

module _ (col : ℕ → ColumnData) where
  placed_by : (g i : ℕ) (os : List ℕ) (d : ColumnData) (ds : List ColumnData) (b : Bool) → col i ≡ d → map col (places_of g (i + 1) os) ≡ those_of g os ds
      → map col (cond b (i ∷ places_of g (i + 1) os) (places_of g (i + 1) os)) ≡ cond b (d ∷ those_of g os ds) (those_of g os ds)
  placed_by g i os d ds true e h = λ t. e t ∷ h t
  placed_by g i os d ds false e h = h

  placed_from : (g i : ℕ) (os : List ℕ) (ds : List ColumnData) → length os ≡ length ds → ((j : ℕ) → j < length ds → col (i + j) ≡ get_or ds j no_column)
      → map col (places_of g i os) ≡ those_of g os ds
  placed_from g i [] ds n e = refl
  placed_from g i (o ∷ os) [] n e = absurd (omega (arith, n))
  placed_from g i (o ∷ os) (d ∷ ds) n e =
      let here : col i ≡ d = ap col (omega arith) ∙ e 0 (omega arith) in
      placed_by g i os d ds (nat_eq o g) here
      (placed_from g (i + 1) os ds (omega (arith, n)) (λ j l. ap col (omega arith) ∙ e (suc j) (omega (arith, l))))

  placed : (g : ℕ) (os : List ℕ) (cs : List ColumnData) → length os ≡ length cs → ((j : ℕ) → j < length cs → col j ≡ get_or cs j no_column)
      → map col (places_of g 0 os) ≡ those_of g os cs
  placed g os cs n e = placed_from g 0 os cs n (λ j l. ap col (omega arith) ∙ e j l)

-- ---- all groups

ranking_is : (r : Rank) (key : Pairs → Pairs) (param : Option ℤ) (es : List Element) → first_of_each (order_of r) param (groups key es) ≡ aggregated (ranking r) param (groups key es)
ranking_is rank.Falling key param es = refl
ranking_is rank.Rising key param es = refl

module _ (r : Rank) (key : Pairs → Pairs) (params : List (Option ℤ)) (cs : List ColumnData) (n : ℕ) (rises : AreRising (columns_labels cs)) where
  abbrev keys : List Pairs
  keys = distinct (map key (columns_labels cs))

  abbrev numbers : List ℕ
  numbers = map (place_in keys) (map key (columns_labels cs))

  as_long : length numbers ≡ length cs
  as_long = length-map (map key (columns_labels cs)) (place_in keys) ∙ length-map (columns_labels cs) key ∙ length-map cs (λ c. c.labels)

  module _ (col : ℕ → ColumnData) (is : (j : ℕ) → j < length cs → col j ≡ get_or cs j no_column) (k : ℕ) (h : k < n) where
    abbrev most : ℕ
    most = wanted (value_in params k)

    abbrev made : List ColumnData
    made = joined (λ b. first_of_group r params (map col b) n) (buckets_by numbers (length keys))

    made_cell : cell_at made k ≡ joined (λ l. isort element_cmp (of_members key (order_of r) most cs k l)) keys
    made_cell =
        cell_joined k (λ b. first_of_group r params (map col b) n) (buckets_by numbers (length keys))
        ∙ joined_below (λ b. cell_at (first_of_group r params (map col b) n) k) (λ l. isort element_cmp (of_members key (order_of r) most cs k l)) (λ g. places_of g 0 numbers) [] keys
        (λ g l.
        ap (λ ds. cell_at (first_of_group r params ds n) k) (placed col g numbers cs as_long is)
        ∙ group_cell r params (those_of g numbers cs) n k (those_rise g numbers cs rises) h
        ∙ ap (λ ds. isort element_cmp (take most (isort (order_of r) (cell_at ds k))))
        (those_members key keys (distinct_rising (map key (columns_labels cs))) g l cs (each_stands (map key (columns_labels cs)))))

    sorted_cell : isort element_cmp (cell_at made k) ≡ cell_at (first_columns r key params cs n) k
    sorted_cell =
        ap (isort element_cmp) made_cell
        ∙ sorted_parts element_cmp element_total (of_members key (order_of r) most cs k) keys
        ∙ ap (isort element_cmp) (sym (all_groups key (order_of r) most cs k))
        ∙ sym (first_so_many (order_of r) (value_in params k) (groups key (cell_at cs k)))
        ∙ sym (first_cell r key params cs n rises k h)

    -- what is found group by group
    pub made_is : cell_of (cell_at made k) ≡ Good (aggregated (ranking r) (value_in params k) (groups key (cell_at cs k)))
    made_is =
        sym (cell_of_sorted (cell_at made k))
        ∙ ap cell_of sorted_cell
        ∙ sym (cell_rising k (first_columns r key params cs n) (first_rises r key params cs n rises))
        ∙ ap Good (first_cell r key params cs n rises k h ∙ ranking_is r key (value_in params k) (cell_at cs k))
