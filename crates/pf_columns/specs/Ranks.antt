-- Which elements of a group `topk` and `bottomk` keep at a step, by the places of their columns: this project's own.
use Rattle.std.specs.Prelude.{ℕ, ◌+◌, ℤ, neg_ℤ, Bool, true, false, cond, Option, Some, None, List, [], ◌∷◌, ◌++◌, length, map, take, nat_eq, replicate, slice_index_or, slice_set}
use Rattle.std.specs.declared.cmp.Ordering.{Ordering}
use Rattle.std.specs.Ordering.{int_cmp, nat_cmp, ordering_then}
use Rattle.pf_base.specs.LabelSets.{Pairs}
use Rattle.pf_base.specs.Sorting.{isort}
use Rattle.pf_model.specs.declared.cell.Element.{Element}
use Rattle.pf_model.specs.declared.functions.AggOp.{AggOp}
use Rattle.pf_model.specs.declared.functions.AggOp.TheVariants.{Topk, Bottomk}
use Rattle.pf_model.specs.Aggregation.{falling, rising, whole_units}
use Rattle.pf_model.specs.Lists.{joined}
use Rattle.pf_model.specs.Merging.{below}
use Rattle.pf_columns.specs.Columns.{ColumnData, columns_labels, has_value, value_in}
use Rattle.pf_columns.specs.Groups.{group_column, groups_by, keys_by, quantile_of}
use Rattle.pf_columns.specs.declared.ranked.Rank.{Rank}
use Rattle.pf_columns.specs.declared.ranked.Rank.TheVariants as rank
use Rattle.pf_columns.specs.declared.ranked.Entry.{Entry}

abbrev pub order_of : Rank → Element → Element → Ordering
order_of rank.Falling = falling
order_of rank.Rising = rising

-- values in falling order rise by their negatives
abbrev pub height_of : Rank → ℤ → ℤ
height_of rank.Falling v = neg_ℤ v
height_of rank.Rising v = v

-- how many elements of each group are kept
abbrev pub wanted : Option ℤ → ℕ
wanted None = 0
wanted (Some v) = whole_units v

-- by what the value is ordered by, then by the columns' places
abbrev pub entry_cmp : Entry → Entry → Ordering
entry_cmp a b = ordering_then (int_cmp a.height b.height) (nat_cmp a.place b.place)

-- the places of a group's columns, the first column's place being i
abbrev pub places_of : ℕ → ℕ → List ℕ → List ℕ
places_of g i [] = []
places_of g i (o ∷ os) = cond (nat_eq o g) (i ∷ places_of g (i + 1) os) (places_of g (i + 1) os)

-- the places of each group's columns
abbrev pub buckets_by : List ℕ → ℕ → List (List ℕ)
buckets_by os n = below (λ g. places_of g 0 os) n

abbrev pub no_column : ColumnData
no_column = record { labels = []; values = [] }

-- the value of the column at a place
abbrev pub value_at : List ColumnData → ℕ → ℕ → Option ℤ
value_at cs i k = value_in (slice_index_or cs i no_column).values k

-- the entry of a column, none without a value
abbrev pub entry : Rank → ℕ → Option ℤ → List Entry
entry r i None = []
entry r i (Some v) = record { height = height_of r v; place = i } ∷ []

abbrev pub entries_at : Rank → List ColumnData → ℕ → List ℕ → List Entry
entries_at r cs k places = joined (λ i. entry r i (value_at cs i k)) places

-- the first so many entries of a group
abbrev pub ranked : Rank → ℕ → List ColumnData → ℕ → List ℕ → List Entry
ranked r n cs k places = take n (isort entry_cmp (entries_at r cs k places))

-- marks, with those of the entries' places
abbrev pub marked : List Entry → List Bool → List Bool
marked [] ms = ms
marked (e ∷ es) ms = marked es (slice_set ms e.place true)

-- the same with those of the first so many entries of each group
abbrev pub group_marks : Rank → ℕ → List ColumnData → ℕ → List (List ℕ) → List Bool → List Bool
group_marks r n cs k [] ms = ms
group_marks r n cs k (places ∷ bs) ms = group_marks r n cs k bs (marked (ranked r n cs k places) ms)

-- a mark for each column, of those that are kept at a step
abbrev pub marks_at : Rank → ℕ → List ColumnData → List (List ℕ) → ℕ → List Bool
marks_at r n cs bs k = group_marks r n cs k bs (replicate (length cs) false)

-- whether a place is marked at a step
abbrev pub is_marked : List (List Bool) → ℕ → ℕ → Bool
is_marked rows k i = slice_index_or (slice_index_or rows k []) i false

abbrev pub kept_value : Bool → Option ℤ → Option ℤ
kept_value b o = cond b o None

-- the values of the column at a place that are marked, the first value's step being k
abbrev pub kept_values : List (List Bool) → ℕ → ℕ → List (Option ℤ) → List (Option ℤ)
kept_values rows i k [] = []
kept_values rows i k (o ∷ os) = kept_value (is_marked rows k i) o ∷ kept_values rows i (k + 1) os

-- columns with the values that are marked, the first column's place being i
abbrev pub kept_columns : List (List Bool) → ℕ → List ColumnData → List ColumnData
kept_columns rows i [] = []
kept_columns rows i (c ∷ cs) = record { labels = c.labels; values = kept_values rows i 0 c.values } ∷ kept_columns rows (i + 1) cs

-- the marks of so many steps
abbrev pub marks_by : Rank → List (Option ℤ) → List ColumnData → List (List ℕ) → ℕ → List (List Bool)
marks_by r params cs bs n = below (λ k. marks_at r (wanted (value_in params k)) cs bs k) n

-- the first elements of each group, where each column's group is known by its number
abbrev pub first_by_place : Rank → List (Option ℤ) → List ColumnData → List ℕ → ℕ → ℕ → List ColumnData
first_by_place r params cs os m n = kept_columns (marks_by r params cs (buckets_by os m) n) 0 cs

abbrev pub first_columns : Rank → (Pairs → Pairs) → List (Option ℤ) → List ColumnData → ℕ → List ColumnData
first_columns r key params cs n =
    let ids = groups_by key (columns_labels cs) in
    first_by_place r params cs ids.of (length ids.keys) n

-- a column that has a value at some step
abbrev pub valued : ColumnData → List ColumnData
valued c = cond (has_value c.values) (c ∷ []) []

-- the columns of which something is kept, where all are of one group
abbrev pub first_of_group : Rank → List (Option ℤ) → List ColumnData → ℕ → List ColumnData
first_of_group r params cs n = joined valued (first_by_place r params cs (replicate (length cs) 0) 1 n)

-- a column whose labels are not read yet
abbrev pub bare : ColumnData → ColumnData
bare c = record { labels = []; values = c.values }

-- columns with the labels of each, of those that have a value at some step
abbrev pub labelled : List Pairs → List ColumnData → List ColumnData
labelled ls [] = []
labelled [] (c ∷ cs) = []
labelled (l ∷ ls) (c ∷ cs) = valued (record { labels = l; values = c.values }) ++ labelled ls cs

-- the aggregation that keeps elements in an order
abbrev pub ranking : Rank → AggOp
ranking rank.Falling = Topk
ranking rank.Rising = Bottomk

-- the columns of an aggregation with a parameter: what stands here for the others is not used
abbrev pub columns_by : AggOp → (Pairs → Pairs) → List (Option ℤ) → List ColumnData → ℕ → List ColumnData
columns_by Topk key params cs n = first_columns rank.Falling key params cs n
columns_by Bottomk key params cs n = first_columns rank.Rising key params cs n
columns_by op key params cs n = map (group_column (λ k. quantile_of (value_in params k)) key cs n) (keys_by key (columns_labels cs))
