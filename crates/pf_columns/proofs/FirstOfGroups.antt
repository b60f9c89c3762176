-- The columns that keep the first elements of each group have at each step what `topk` or `bottomk` gives.
use Rattle.std.proofs.Common.{◌≡◌, ◌<◌, ◌+◌, ℕ, suc, ℤ, Bool, true, false, cond, nat_eq, Option, Some, None, List, [], ◌∷◌, ◌++◌, map, length, take, get_or, refl, sym, ap, ◌∙◌, subst, arith}
use Rattle.std.proofs.Math.Seq.{take-nil}
use Rattle.std.proofs.lemmas.List.{length-map, map-append}
use Rattle.std.specs.List.{filter}
use Rattle.std.specs.Prelude.{slice_index_or}
use Rattle.std.specs.declared.cmp.Ordering.{Ordering}
use Rattle.pf_base.specs.LabelSets.{Pairs}
use Rattle.pf_base.specs.Sorting.{isort}
use Rattle.pf_model.specs.declared.cell.Element.{Element}
use Rattle.pf_model.specs.Aggregation.{ElementGroup, first_of_each, groups}
use Rattle.pf_model.specs.Cells.{distinct, element, element_cmp, in_label_order, labels_of, values_of}
use Rattle.pf_model.specs.Lists.{joined}
use Rattle.pf_model.specs.Merging.{below}
use Rattle.pf_columns.specs.Columns.{AreRising, ColumnData, cell_at, columns_labels, value_in}
use Rattle.pf_columns.specs.Groups.{members, place_in, those_of}
use Rattle.pf_columns.specs.Ranks.{buckets_by, entries_at, entry, first_by_place, first_columns, is_marked, marks_at, marks_by, no_column, order_of, places_of, ranked, value_at, wanted}
use Rattle.pf_columns.specs.declared.ranked.Rank.{Rank}
use Rattle.pf_columns.proofs.Apart.{all_apart, buckets_apart, each_apart}
use Rattle.pf_columns.proofs.Below.{first_below, in_below}
use Rattle.pf_columns.proofs.Eaches.{map_joined}
use Rattle.pf_columns.proofs.GroupColumns.{those_members}
use Rattle.pf_columns.proofs.GroupKeys.{distinct_rising, each_stands}
use Rattle.pf_columns.proofs.GroupedCells.{keys_at, of_key, picked}
use Rattle.pf_columns.proofs.Marking.{from_none, kept_cell, kept_labels, passing_alike}
use Rattle.pf_columns.proofs.Occurring.{is_full}
use Rattle.pf_columns.proofs.RankedEntries.{element_of, from_height, kept_sorted, marks_are, ranked_elements, stand}

-- ---- the entries of a group stand for its elements

module _ (r : Rank) (cs : List ColumnData) (k : ℕ) where
  entry_element : (p : ℕ) (d : ColumnData) (o : Option ℤ) → slice_index_or cs p no_column ≡ d → map (element_of r cs k) (entry r p o) ≡ element d.labels o
  entry_element p d None e = refl
  entry_element p d (Some v) e = λ i. record { labels = (e i).labels; value = from_height r v i } ∷ []

  group_by : (g i : ℕ) (os : List ℕ) (d : ColumnData) (ds : List ColumnData) (b : Bool) → slice_index_or cs i no_column ≡ d
      → map (element_of r cs k) (entries_at r cs k (places_of g (i + 1) os)) ≡ cell_at (those_of g os ds) k
      → map (element_of r cs k) (entries_at r cs k (cond b (i ∷ places_of g (i + 1) os) (places_of g (i + 1) os))) ≡ cell_at (cond b (d ∷ those_of g os ds) (those_of g os ds)) k
  group_by g i os d ds true e h =
      map-append (element_of r cs k) (entry r i (value_at cs i k)) (entries_at r cs k (places_of g (i + 1) os))
      ∙ (λ t. entry_element i d (value_at cs i k) e t ++ h t)
      ∙ ap (λ c. element d.labels (value_in c.values k) ++ cell_at (those_of g os ds) k) e
  group_by g i os d ds false e h = h

  group_elements : (g i : ℕ) (os : List ℕ) (ds : List ColumnData) → length os ≡ length ds → ((j : ℕ) → slice_index_or cs (i + j) no_column ≡ slice_index_or ds j no_column)
      → map (element_of r cs k) (entries_at r cs k (places_of g i os)) ≡ cell_at (those_of g os ds) k
  group_elements g i [] ds n e = refl
  group_elements g i (o ∷ os) [] n e = absurd (omega (arith, n))
  group_elements g i (o ∷ os) (d ∷ ds) n e =
      let here : slice_index_or cs i no_column ≡ d = ap (λ j. slice_index_or cs j no_column) (omega arith) ∙ e 0 in
      group_by g i os d ds (nat_eq o g) here
      (group_elements g (i + 1) os ds (omega (arith, n)) (λ j. ap (λ m. slice_index_or cs m no_column) (omega arith) ∙ e (suc j)))

  pub bucket_elements : (g : ℕ) (os : List ℕ) → length os ≡ length cs → map (element_of r cs k) (entries_at r cs k (places_of g 0 os)) ≡ cell_at (those_of g os cs) k
  bucket_elements g os n = group_elements g 0 os cs n (λ j. ap (λ m. slice_index_or cs m no_column) (omega arith))

-- ---- lists that are joined

pub joined_alike : {X Y : Type 0} (f g : X → List Y) (xs : List X) → ((x : X) → f x ≡ g x) → joined f xs ≡ joined g xs
joined_alike f g [] e = refl
joined_alike f g (x ∷ xs) e = λ i. e x i ++ joined_alike f g xs e i

joined_map : {X Y Z : Type 0} (f : Y → List Z) (g : X → Y) (xs : List X) → joined f (map g xs) ≡ joined (λ x. f (g x)) xs
joined_map f g [] = refl
joined_map f g (x ∷ xs) = ap (λ ys. f (g x) ++ ys) (joined_map f g xs)

joined_none : {X Y : Type 0} (f : X → List Y) (xs : List X) → ((x : X) → f x ≡ []) → joined f xs ≡ []
joined_none f [] e = refl
joined_none f (x ∷ xs) e = λ i. e x i ++ joined_none f xs e i

-- the elements that don't pass give nothing
module _ {X Y : Type 0} (f : X → List Y) (p : X → Bool) (none : (x : X) → p x ≡ false → f x ≡ []) where
  filter_by : (x : X) (xs : List X) (b : Bool) → p x ≡ b → joined f (filter p xs) ≡ joined f xs → joined f (cond b (x ∷ filter p xs) (filter p xs)) ≡ f x ++ joined f xs
  filter_by x xs true e h = ap (λ ys. f x ++ ys) h
  filter_by x xs false e h = h ∙ ap (λ ys. ys ++ joined f xs) (sym (none x e))

  joined_filter : (xs : List X) → joined f (filter p xs) ≡ joined f xs
  joined_filter [] = refl
  joined_filter (x ∷ xs) = filter_by x xs (p x) refl (joined_filter xs)

pub joined_below : {X Y Z : Type 0} (f : X → List Y) (h : Z → List Y) (g : ℕ → X) (d : Z) (zs : List Z) → ((j : ℕ) → j < length zs → f (g j) ≡ h (get_or zs j d))
    → joined f (below g (length zs)) ≡ joined h zs
joined_below f h g d [] e = refl
joined_below f h g d (z ∷ zs) e =
    let rest = joined_below f h (λ j. g (suc j)) d zs (λ j l. e (suc j) (omega (arith, l))) in
    let here = e 0 (omega arith) in
    ap (joined f) (first_below g (length zs)) ∙ λ i. here i ++ rest i

-- ---- the definition

no_values : (es : List Element) → is_full (values_of es) ≡ false → es ≡ []
no_values [] h = refl
no_values (e ∷ es) h = let no : ◌≡◌ {A = Bool} true false = h in cc

pub first_so_many : (order : Element → Element → Ordering) (param : Option ℤ) (gs : List ElementGroup)
    → first_of_each order param gs ≡ in_label_order (joined (λ g. take (wanted param) (isort order g.elements)) gs)
first_so_many order None gs = ap in_label_order (sym (joined_none (λ (g : ElementGroup). take 0 (isort order g.elements)) gs (λ g. refl)))
first_so_many order (Some v) gs = refl

module _ (key : Pairs → Pairs) (order : Element → Element → Ordering) (n : ℕ) (cs : List ColumnData) (k : ℕ) where
  -- the first elements of a group
  abbrev pub of_members : Pairs → List Element
  of_members l = take n (isort order (cell_at (members key l cs) k))

  none_of : (l : Pairs) → is_full (values_of (cell_at (members key l cs) k)) ≡ false → of_members l ≡ []
  none_of l e = ap (λ es. take n (isort order es)) (no_values (cell_at (members key l cs) k) e) ∙ take-nil n

  pub all_groups : joined (λ g. take n (isort order g.elements)) (groups key (cell_at cs k)) ≡ joined of_members (distinct (map key (columns_labels cs)))
  all_groups =
      let es = cell_at cs k in
      let keys = distinct (map key (labels_of es)) in
      let all = distinct (map key (columns_labels cs)) in
      joined_map (λ (g : ElementGroup). take n (isort order g.elements)) (λ l. record { key = l; elements = of_key key l es }) keys
      ∙ joined_alike (λ l. take n (isort order (of_key key l es))) of_members keys (λ l. ap (λ xs. take n (isort order xs)) (picked key l k cs))
      ∙ ap (joined of_members) (keys_at key cs k)
      ∙ joined_filter of_members (λ l. is_full (values_of (cell_at (members key l cs) k))) none_of all

-- ---- the columns

-- what is kept of groups that are known by their numbers
pub marked_cell : (r : Rank) (params : List (Option ℤ)) (cs : List ColumnData) (n : ℕ) → AreRising (columns_labels cs) → (os : List ℕ) (m k : ℕ) → k < n
    → cell_at (first_by_place r params cs os m n) k ≡ isort element_cmp (map (element_of r cs k) (joined (ranked r (wanted (value_in params k)) cs k) (buckets_by os m)))
marked_cell r params cs n rises os m k h =
    let most = wanted (value_in params k) in
    let buckets = buckets_by os m in
    let rows = marks_by r params cs buckets n in
    let row : slice_index_or rows k [] ≡ marks_at r most cs buckets k = in_below (λ j. marks_at r (wanted (value_in params j)) cs buckets j) n k [] h in
    kept_cell k rows 0 cs
    ∙ passing_alike k (λ j. is_marked rows k (0 + j)) (stand (joined (ranked r most cs k) buckets)) cs
    (λ j l. ap (is_marked rows k) (from_none j) ∙ ap (λ ms. slice_index_or ms j false) row ∙ marks_are r cs k most buckets j l)
    ∙ kept_sorted r cs k rises most buckets (all_apart r cs k most buckets (each_apart os m) (buckets_apart os m))

module _ (r : Rank) (key : Pairs → Pairs) (params : List (Option ℤ)) (cs : List ColumnData) (n : ℕ) (rises : AreRising (columns_labels cs)) where
  abbrev all_keys : List Pairs
  all_keys = distinct (map key (columns_labels cs))

  abbrev places : List ℕ
  places = map (place_in all_keys) (map key (columns_labels cs))

  same_length : length places ≡ length cs
  same_length = length-map (map key (columns_labels cs)) (place_in all_keys) ∙ length-map (columns_labels cs) key ∙ length-map cs (λ c. c.labels)

  abbrev buckets : List (List ℕ)
  buckets = buckets_by places (length all_keys)

  ranked_groups : (most k : ℕ) → map (element_of r cs k) (joined (ranked r most cs k) buckets) ≡ joined (of_members key (order_of r) most cs k) all_keys
  ranked_groups most k =
      map_joined (element_of r cs k) (ranked r most cs k) buckets
      ∙ joined_below (λ ps. map (element_of r cs k) (ranked r most cs k ps)) (of_members key (order_of r) most cs k) (λ g. places_of g 0 places) [] all_keys
      (λ g h. ranked_elements r cs k rises most (places_of g 0 places)
      ∙ ap (λ es. take most (isort (order_of r) es))
      (bucket_elements r cs k g places same_length
      ∙ ap (λ ds. cell_at ds k) (those_members key all_keys (distinct_rising (map key (columns_labels cs))) g h cs (each_stands (map key (columns_labels cs))))))

  pub first_cell : (k : ℕ) → k < n → cell_at (first_columns r key params cs n) k ≡ first_of_each (order_of r) (value_in params k) (groups key (cell_at cs k))
  first_cell k h =
      let most = wanted (value_in params k) in
      marked_cell r params cs n rises places (length all_keys) k h
      ∙ ap (isort element_cmp) (ranked_groups most k ∙ sym (all_groups key (order_of r) most cs k))
      ∙ sym (first_so_many (order_of r) (value_in params k) (groups key (cell_at cs k)))

  pub first_rises : AreRising (columns_labels (first_columns r key params cs n))
  first_rises = subst AreRising (sym (kept_labels (marks_by r params cs buckets n) 0 cs)) rises
