-- An operator between two vectors, from columns: the pairs of columns are the pairs of each step, and where the columns' labels
-- are single no error of matching comes.
use Rattle.std.proofs.Common.{◌≡◌, ◌<◌, ◌+◌, ℕ, ℤ, Bool, true, false, cond, not, ◌&&◌, ◌||◌, Option, Some, None, List, [], ◌∷◌, ◌++◌, map, refl, sym, ap, ◌∙◌}
use Rattle.std.specs.List.{filter, list_any}
use Rattle.std.proofs.lemmas.List.{map-append}
use Rattle.pf_base.specs.LabelSets.{Pairs}
use Rattle.pf_base.specs.Sorting.{isort}
use Rattle.pf_model.specs.declared.cell.Element.{Element}
use Rattle.pf_model.specs.declared.cell.ErrorKind.{ErrorKind}
use Rattle.pf_model.specs.declared.cell.ErrorKind.TheVariants.{DoubleOnOneSide, ManyToMany, GroupingNotUnique}
use Rattle.pf_model.specs.declared.cell.StepCell.{StepCell}
use Rattle.pf_model.specs.declared.cell.StepCell.TheVariants.{Good, Bad}
use Rattle.pf_model.specs.declared.expr.BinaryOp.{BinaryOp}
use Rattle.pf_model.specs.declared.expr.Side.{Side}
use Rattle.pf_model.specs.declared.expr.Side.TheVariants as side
use Rattle.pf_model.specs.declared.functions.Sign.{Sign}
use Rattle.pf_model.specs.declared.functions.Sign.TheVariants as sign
use Rattle.pf_model.specs.Cells.{cell_of, element, has_equal, labels_of}
use Rattle.pf_model.specs.Clauses.{Matched}
use Rattle.pf_model.specs.Lists.{joined}
use Rattle.pf_model.specs.Matching.{Pair, has_match, is_grouping, join, joined_pairs, keys_of, many_to_many, matches_of, matching_key, one_side, pair_labels, pairs_of, result_labels}
use Rattle.pf_model.specs.Outcomes.{of_cell, operation}
use Rattle.pf_model.specs.Selection.{same_labels}
use Rattle.pf_columns.specs.Columns.{ColumnData, cell_at, columns_labels, value_in}
use Rattle.pf_columns.specs.Steps.{unless_bad}
use Rattle.pf_columns.proofs.Below.{in_below}
use Rattle.pf_eval.specs.Nodes.{first_of}
use Rattle.pf_join.specs.KeyPlaces.{key_of, place_cmp, placed, places_with, those_at}
use Rattle.pf_join.specs.Results.{labels_of_pair}
use Rattle.pf_join.proofs.OfOneKey.{those_found}
use Rattle.pf_join.proofs.Repeats.{equal_isort}
use Rattle.pf_eval.specs.Zipped.{are_apart, are_single, are_there, between, both, column_keys, is_set_sign, is_there, is_wanted, kept_if, kind_of, met, pair_by, partners, set_columns, zipped, zipped_by, zipped_with}
use Rattle.pf_columns.proofs.JoinedRuns.{joined_append}
use Rattle.pf_join.proofs.Results.{same_labels_at as labels_at}

abbrev with_side : Side → Matched → Matched
with_side s m = record { on = m.on; labels = m.labels; side = s; include = m.include }

labels_same : (m : Matched) (p : Pair) → labels_of_pair m p.left.labels p.right.labels ≡ pair_labels m p
labels_same m p = labels_at m.side m p

-- the partners of a key, found by the places of the keys of all columns
pub partners_found : (m : Matched) (key : Pairs) (cs : List ColumnData) → those_at cs (places_with key (isort place_cmp (placed 0 (column_keys m cs)))) ≡ partners m key cs
partners_found m key cs = those_found (λ c. matching_key m c.labels) key cs

-- keys that are put in order with their places have equal ones where they have some
keys_placed : (i : ℕ) (ks : List Pairs) → map key_of (placed i ks) ≡ ks
keys_placed i [] = refl
keys_placed i (k ∷ ks) = ap (λ l. k ∷ l) (keys_placed (i + 1) ks)

equal_placed : (ks : List Pairs) → has_equal (map key_of (isort place_cmp (placed 0 ks))) ≡ has_equal ks
equal_placed ks = equal_isort key_of (placed 0 ks) ∙ ap has_equal (keys_placed 0 ks)

pub apart_placed : (s : Side) (left_keys right_keys labels : List Pairs)
    → are_apart s left_keys (map key_of (isort place_cmp (placed 0 right_keys))) labels ≡ are_apart s left_keys right_keys labels
apart_placed side.One left_keys right_keys labels = ap (λ b. not b && not (has_equal left_keys)) (equal_placed right_keys)
apart_placed side.Left left_keys right_keys labels = ap (λ b. not b && not (has_equal labels)) (equal_placed right_keys)
apart_placed side.Right left_keys right_keys labels = refl

module _ (f : ℤ → ℤ → Option ℤ) (op : BinaryOp) (m : Matched) (n k : ℕ) (h : k < n) where
  abbrev pub result : Pair → List Element
  result p = element (result_labels op (pair_labels m p)) (f p.left.value p.right.value)

  abbrev meets : Pairs → Pairs → Bool
  meets l r = same_labels (matching_key m l) (matching_key m r)

  value_is : (c d : ColumnData) → value_in (pair_by f op m n c d).values k ≡ both f (value_in c.values k) (value_in d.values k)
  value_is c d = in_below (λ j. both f (value_in c.values j) (value_in d.values j)) n k None h

  abbrev pairs_with : ColumnData → List ColumnData → List ColumnData
  pairs_with c rs = map (pair_by f op m n c) (filter (λ d. meets c.labels d.labels) rs)

  -- a left column without a value
  none_by : (c d : ColumnData) (ds : List ColumnData) (b : Bool) → value_in c.values k ≡ None → cell_at (pairs_with c ds) k ≡ []
      → cell_at (map (pair_by f op m n c) (cond b (d ∷ filter (λ x. meets c.labels x.labels) ds) (filter (λ x. meets c.labels x.labels) ds))) k ≡ []
  none_by c d ds true v r = λ i. element (result_labels op (labels_of_pair m c.labels d.labels)) ((value_is c d ∙ ap (λ o. both f o (value_in d.values k)) v) i) ++ r i
  none_by c d ds false v r = r

  none_left : (c : ColumnData) (rs : List ColumnData) → value_in c.values k ≡ None → cell_at (pairs_with c rs) k ≡ []
  none_left c [] v = refl
  none_left c (d ∷ ds) v = none_by c d ds (meets c.labels d.labels) v (none_left c ds v)

  -- one with a value
  abbrev matched_with : Element → List Element → List Element
  matched_with e rs = joined result (map (λ r. record { left = e; right = r }) (filter (λ r. meets e.labels r.labels) rs))

  some_by : (c d : ColumnData) (v : ℤ) (ds : List ColumnData) (b : Bool) (o : Option ℤ) → meets c.labels d.labels ≡ b → value_in d.values k ≡ o → value_in c.values k ≡ Some v
      → cell_at (pairs_with c ds) k ≡ matched_with (record { labels = c.labels; value = v }) (cell_at ds k)
      → cell_at (map (pair_by f op m n c) (cond b (d ∷ filter (λ x. meets c.labels x.labels) ds) (filter (λ x. meets c.labels x.labels) ds))) k
      ≡ matched_with (record { labels = c.labels; value = v }) (element d.labels o ++ cell_at ds k)
  some_by c d v ds true None q w u r =
      (λ i. element (result_labels op (labels_of_pair m c.labels d.labels)) ((value_is c d ∙ λ j. both f (u j) (w j)) i) ++ r i)
  some_by c d v ds true (Some x) q w u r =
      let e : Element = record { labels = c.labels; value = v } in
      let g : Element = record { labels = d.labels; value = x } in
      let rest = filter (λ y. meets c.labels y.labels) (cell_at ds k) in
      (λ i. element (result_labels op (labels_same m (record { left = e; right = g }) i)) ((value_is c d ∙ λ j. both f (u j) (w j)) i) ++ r i)
      ∙ ap (λ y. joined result (map (λ z. record { left = e; right = z }) (cond y (g ∷ rest) rest))) (sym q)
  some_by c d v ds false None q w u r = r
  some_by c d v ds false (Some x) q w u r =
      let e : Element = record { labels = c.labels; value = v } in
      let g : Element = record { labels = d.labels; value = x } in
      let rest = filter (λ y. meets c.labels y.labels) (cell_at ds k) in
      r ∙ ap (λ y. joined result (map (λ z. record { left = e; right = z }) (cond y (g ∷ rest) rest))) (sym q)

  some_left : (c : ColumnData) (v : ℤ) (rs : List ColumnData) → value_in c.values k ≡ Some v → cell_at (pairs_with c rs) k ≡ matched_with (record { labels = c.labels; value = v }) (cell_at rs k)
  some_left c v [] u = refl
  some_left c v (d ∷ ds) u = some_by c d v ds (meets c.labels d.labels) (value_in d.values k) refl refl u (some_left c v ds u)

  left_by : (c : ColumnData) (cs rs : List ColumnData) (o : Option ℤ) → value_in c.values k ≡ o → cell_at (zipped_by f op m n cs rs) k ≡ joined result (pairs_of m (cell_at cs k) (cell_at rs k))
      → cell_at (pairs_with c rs) k ++ cell_at (zipped_by f op m n cs rs) k ≡ joined result (pairs_of m (element c.labels o ++ cell_at cs k) (cell_at rs k))
  left_by c cs rs None u r = λ i. none_left c rs u i ++ r i
  left_by c cs rs (Some v) u r =
      (λ i. some_left c v rs u i ++ r i)
      ∙ sym (joined_append result (matches_of m (cell_at rs k) (record { labels = c.labels; value = v })) (pairs_of m (cell_at cs k) (cell_at rs k)))

  pub zipped_cell : (ls rs : List ColumnData) → cell_at (zipped_by f op m n ls rs) k ≡ joined result (pairs_of m (cell_at ls k) (cell_at rs k))
  zipped_cell [] rs = refl
  zipped_cell (c ∷ cs) rs =
      joined_append (λ d. element d.labels (value_in d.values k)) (pairs_with c rs) (zipped_by f op m n cs rs)
      ∙ left_by c cs rs (value_in c.values k) refl (zipped_cell cs rs)

-- ---- labels that are single among columns are so among the elements of a step

neither : (a b : Bool) → (a || b) ≡ false → (a ≡ false) × (b ≡ false)
neither true b h = cc
neither false b h = (refl, h)

two_nots : (a b : Bool) → (not a && not b) ≡ true → (a ≡ false) × (b ≡ false)
two_nots true b h = cc
two_nots false true h = cc
two_nots false false h = (refl, refl)

module _ (key : Pairs → Pairs) (k : ℕ) where
  abbrev of_elements : List Element → List Pairs
  of_elements es = map (λ e. key e.labels) es

  abbrev of_columns : List ColumnData → List Pairs
  of_columns cs = map (λ c. key c.labels) cs

  any_some : (p : Pairs → Bool) (l : Pairs) (o : Option ℤ) (es : List Element) → p (key l) ≡ false → list_any p (of_elements es) ≡ false → list_any p (of_elements (element l o ++ es)) ≡ false
  any_some p l None es a b = b
  any_some p l (Some v) es a b = λ i. a i || b i

  any_cell : (p : Pairs → Bool) (cs : List ColumnData) → list_any p (of_columns cs) ≡ false → list_any p (of_elements (cell_at cs k)) ≡ false
  any_cell p [] a = refl
  any_cell p (c ∷ cs) a =
      let t = neither (p (key c.labels)) (list_any p (of_columns cs)) a in
      any_some p c.labels (value_in c.values k) (cell_at cs k) t.0 (any_cell p cs t.1)

  once_some : (l : Pairs) (o : Option ℤ) (es : List Element) → list_any (same_labels (key l)) (of_elements es) ≡ false → has_equal (of_elements es) ≡ false → has_equal (of_elements (element l o ++ es)) ≡ false
  once_some l None es a b = b
  once_some l (Some v) es a b = λ i. a i || b i

  pub once_cell : (cs : List ColumnData) → has_equal (of_columns cs) ≡ false → has_equal (of_elements (cell_at cs k)) ≡ false
  once_cell [] a = refl
  once_cell (c ∷ cs) a =
      let t = neither (list_any (same_labels (key c.labels)) (of_columns cs)) (has_equal (of_columns cs)) a in
      once_some c.labels (value_in c.values k) (cell_at cs k) (any_cell (same_labels (key c.labels)) cs t.0) (once_cell cs t.1)

  any_part_by : (p : Pairs → Bool) (q : Element → Bool) (e : Element) (es : List Element) (b : Bool) → p (key e.labels) ≡ false → list_any p (of_elements (filter q es)) ≡ false
      → list_any p (of_elements (cond b (e ∷ filter q es) (filter q es))) ≡ false
  any_part_by p q e es true a r = λ i. a i || r i
  any_part_by p q e es false a r = r

  any_part : (p : Pairs → Bool) (q : Element → Bool) (es : List Element) → list_any p (of_elements es) ≡ false → list_any p (of_elements (filter q es)) ≡ false
  any_part p q [] a = refl
  any_part p q (e ∷ es) a =
      let t = neither (p (key e.labels)) (list_any p (of_elements es)) a in
      any_part_by p q e es (q e) t.0 (any_part p q es t.1)

  once_part_by : (q : Element → Bool) (e : Element) (es : List Element) (b : Bool) → list_any (same_labels (key e.labels)) (of_elements (filter q es)) ≡ false → has_equal (of_elements (filter q es)) ≡ false
      → has_equal (of_elements (cond b (e ∷ filter q es) (filter q es))) ≡ false
  once_part_by q e es true a r = λ i. a i || r i
  once_part_by q e es false a r = r

  pub once_part : (q : Element → Bool) (es : List Element) → has_equal (of_elements es) ≡ false → has_equal (of_elements (filter q es)) ≡ false
  once_part q [] a = refl
  once_part q (e ∷ es) a =
      let t = neither (list_any (same_labels (key e.labels)) (of_elements es)) (has_equal (of_elements es)) a in
      once_part_by q e es (q e) (any_part (same_labels (key e.labels)) q es t.0) (once_part q es t.1)

-- ---- where labels are single, no error of matching comes

-- the left value, of whatever values
abbrev left_value : ℤ → ℤ → Option ℤ
left_value a b = Some a

module _ (op : BinaryOp) (m : Matched) (n k : ℕ) (h : k < n) where
  abbrev pair_label : Pair → Pairs
  pair_label p = result_labels op (pair_labels m p)

  labels_with : (f g : ℤ → ℤ → Option ℤ) (c : ColumnData) (ds : List ColumnData) → columns_labels (map (pair_by f op m n c) ds) ≡ columns_labels (map (pair_by g op m n c) ds)
  labels_with f g c [] = refl
  labels_with f g c (d ∷ ds) = ap (λ zs. result_labels op (labels_of_pair m c.labels d.labels) ∷ zs) (labels_with f g c ds)

  labels_by : (f g : ℤ → ℤ → Option ℤ) (ls rs : List ColumnData) → columns_labels (zipped_by f op m n ls rs) ≡ columns_labels (zipped_by g op m n ls rs)
  labels_by f g [] rs = refl
  labels_by f g (c ∷ cs) rs =
      map-append (λ d. d.labels) (zipped_with f op m n rs c) (zipped_by f op m n cs rs)
      ∙ (λ i. labels_with f g c (partners m (matching_key m c.labels) rs) i ++ labels_by f g cs rs i)
      ∙ sym (map-append (λ d. d.labels) (zipped_with g op m n rs c) (zipped_by g op m n cs rs))

  labels_of_results : (ps : List Pair) → labels_of (joined (result left_value op m n k h) ps) ≡ map pair_label ps
  labels_of_results [] = refl
  labels_of_results (p ∷ ps) = ap (λ zs. pair_label p ∷ zs) (labels_of_results ps)

  pairs_single : (ls rs : List ColumnData) → has_equal (columns_labels (zipped op m n ls rs)) ≡ false → has_equal (map pair_label (pairs_of m (cell_at ls k) (cell_at rs k))) ≡ false
  pairs_single ls rs e =
      ap has_equal (sym (labels_of_results (pairs_of m (cell_at ls k) (cell_at rs k))))
      ∙ ap (λ es. has_equal (labels_of es)) (sym (zipped_cell left_value op m n k h ls rs))
      ∙ once_cell (λ l. l) k (zipped_by left_value op m n ls rs) (ap has_equal (labels_by left_value (between op) ls rs) ∙ e)

  abbrev NoError : Side → List ColumnData → List ColumnData → Type 0
  NoError s ls rs =
      (has_equal (keys_of m (one_side s (cell_at ls k) (cell_at rs k))) ≡ false)
      × ((not (is_grouping s) && many_to_many m (cell_at ls k) (cell_at rs k)) ≡ false)
      × ((is_grouping s && has_equal (map pair_label (pairs_of m (cell_at ls k) (cell_at rs k)))) ≡ false)

  no_error : (s : Side) (ls rs : List ColumnData)
      → are_apart s (column_keys m ls) (column_keys m rs) (columns_labels (zipped op m n ls rs)) ≡ true → NoError s ls rs
  no_error side.One ls rs e =
      let t = two_nots (has_equal (column_keys m rs)) (has_equal (column_keys m ls)) e in
      (once_cell (matching_key m) k rs t.0, once_part (matching_key m) k (has_match m (cell_at rs k)) (cell_at ls k) (once_cell (matching_key m) k ls t.1), refl)
  no_error side.Left ls rs e =
      let t = two_nots (has_equal (column_keys m rs)) (has_equal (columns_labels (zipped op m n ls rs))) e in
      (once_cell (matching_key m) k rs t.0, refl, pairs_single ls rs t.1)
  no_error side.Right ls rs e =
      let t = two_nots (has_equal (column_keys m ls)) (has_equal (columns_labels (zipped op m n ls rs))) e in
      (once_cell (matching_key m) k ls t.0, refl, pairs_single ls rs t.1)

  single_is : (ls rs : List ColumnData) → are_single m ls rs (zipped op m n ls rs) ≡ true
      → cell_of (cell_at (zipped op m n ls rs) k) ≡ joined_pairs op m (cell_at ls k) (cell_at rs k)
  single_is ls rs e =
      let t = no_error m.side ls rs e in
      let made = joined (result (between op) op m n k h) (pairs_of m (cell_at ls k) (cell_at rs k)) in
      ap cell_of (zipped_cell (between op) op m n k h ls rs)
      ∙ sym (λ i. cond (t.0 i) (Bad DoubleOnOneSide) (cond (t.1 i) (Bad ManyToMany) (cond (t.2 i) (Bad GroupingNotUnique) (cell_of made))))

-- ---- the steps of arithmetic and comparisons

join_by : (s : Sign) (b : Bool) (m : Matched) (ls rs : List Element) → is_set_sign s ≡ false → join (record { sign = s; with_bool = b }) m ls rs ≡ joined_pairs (record { sign = s; with_bool = b }) m ls rs
join_by sign.Add b m ls rs e = refl
join_by sign.Sub b m ls rs e = refl
join_by sign.Mul b m ls rs e = refl
join_by sign.Div b m ls rs e = refl
join_by sign.Rem b m ls rs e = refl
join_by sign.Equal b m ls rs e = refl
join_by sign.NotEqual b m ls rs e = refl
join_by sign.Less b m ls rs e = refl
join_by sign.LessOrEqual b m ls rs e = refl
join_by sign.Greater b m ls rs e = refl
join_by sign.GreaterOrEqual b m ls rs e = refl
join_by sign.And b m ls rs e = cc
join_by sign.Or b m ls rs e = cc
join_by sign.Unless b m ls rs e = cc

join_is_pairs : (op : BinaryOp) (m : Matched) (ls rs : List Element) → is_set_sign op.sign ≡ false → join op m ls rs ≡ joined_pairs op m ls rs
join_is_pairs op m ls rs e = join_by op.sign op.with_bool m ls rs e

-- a step whose errors are those of the operands
step_of_both : (op : BinaryOp) (m : Matched) (a b : Option ErrorKind) (ls rs : List Element) (c : StepCell) → c ≡ join op m ls rs
    → of_cell (unless_bad (first_of a b) c) ≡ operation op m (of_cell (unless_bad a (Good ls))) (of_cell (unless_bad b (Good rs)))
step_of_both op m None None ls rs c e = ap of_cell e
step_of_both op m None (Some kind) ls rs c e = refl
step_of_both op m (Some kind) b ls rs c e = refl

-- a step whose error is the operator's
kind_over : (c : StepCell) → unless_bad (kind_of (of_cell c)) c ≡ c
kind_over (Good es) = refl
kind_over (Bad kind) = refl

three_over : (a b d : Bool) (i j l : ErrorKind) (c : StepCell)
    → unless_bad (kind_of (of_cell (cond a (Bad i) (cond b (Bad j) (cond d (Bad l) c))))) c ≡ cond a (Bad i) (cond b (Bad j) (cond d (Bad l) c))
three_over true b d i j l c = refl
three_over false true d i j l c = refl
three_over false false true i j l c = refl
three_over false false false i j l c = kind_over c

step_of_kind : (op : BinaryOp) (m : Matched) (a b : Option ErrorKind) (ls rs : List Element) (c : StepCell) → unless_bad (kind_of (of_cell (join op m ls rs))) c ≡ join op m ls rs
    → of_cell (unless_bad (kind_of (operation op m (of_cell (unless_bad a (Good ls))) (of_cell (unless_bad b (Good rs))))) c)
    ≡ operation op m (of_cell (unless_bad a (Good ls))) (of_cell (unless_bad b (Good rs)))
step_of_kind op m None None ls rs c e = ap of_cell e
step_of_kind op m None (Some kind) ls rs c e = refl
step_of_kind op m (Some kind) b ls rs c e = refl

-- the steps of pairs of columns
pub single_step : (op : BinaryOp) (m : Matched) (n k : ℕ) → k < n → (a b : Option ErrorKind) (ls rs : List ColumnData)
    → is_set_sign op.sign ≡ false → are_single m ls rs (zipped op m n ls rs) ≡ true
    → of_cell (unless_bad (first_of a b) (cell_of (cell_at (zipped op m n ls rs) k)))
    ≡ operation op m (of_cell (unless_bad a (Good (cell_at ls k)))) (of_cell (unless_bad b (Good (cell_at rs k))))
single_step op m n k h a b ls rs p e =
    step_of_both op m a b (cell_at ls k) (cell_at rs k) (cell_of (cell_at (zipped op m n ls rs) k))
    (single_is op m n k h ls rs e ∙ sym (join_is_pairs op m (cell_at ls k) (cell_at rs k) p))

pub pairs_step : (op : BinaryOp) (m : Matched) (n k : ℕ) → k < n → (a b : Option ErrorKind) (ls rs : List ColumnData)
    → is_set_sign op.sign ≡ false
    → of_cell (unless_bad (kind_of (operation op m (of_cell (unless_bad a (Good (cell_at ls k)))) (of_cell (unless_bad b (Good (cell_at rs k)))))) (cell_of (cell_at (zipped op m n ls rs) k)))
    ≡ operation op m (of_cell (unless_bad a (Good (cell_at ls k)))) (of_cell (unless_bad b (Good (cell_at rs k))))
pairs_step op m n k h a b ls rs p =
    let l = cell_at ls k in
    let r = cell_at rs k in
    let ps = pairs_of m l r in
    let j = join_is_pairs op m l r p in
    step_of_kind op m a b l r (cell_of (cell_at (zipped op m n ls rs) k))
    (ap (λ es. unless_bad (kind_of (of_cell (join op m l r))) (cell_of es)) (zipped_cell (between op) op m n k h ls rs)
    ∙ ap (λ x. unless_bad (kind_of (of_cell x)) (cell_of (joined (result (between op) op m n k h) ps))) j
    ∙ three_over (has_equal (keys_of m (one_side m.side l r))) (not (is_grouping m.side) && many_to_many m l r)
    (is_grouping m.side && has_equal (map (λ p. result_labels op (pair_labels m p)) ps)) DoubleOnOneSide ManyToMany GroupingNotUnique
    (cell_of (joined (result (between op) op m n k h) ps))
    ∙ sym j)

-- ---- the steps of `and`, `or` and `unless`

there_by : (m : Matched) (k : ℕ) (key : Pairs) (d : ColumnData) (ds : List ColumnData) (b : Bool) (o : Option ℤ)
    → same_labels key (matching_key m d.labels) ≡ b → value_in d.values k ≡ o
    → are_there (partners m key ds) k ≡ list_any (same_labels key) (keys_of m (cell_at ds k))
    → are_there (cond b (d ∷ partners m key ds) (partners m key ds)) k ≡ list_any (same_labels key) (keys_of m (element d.labels o ++ cell_at ds k))
there_by m k key d ds true None e v r = (λ i. is_there (v i) || r i)
there_by m k key d ds true (Some x) e v r =
    (λ i. is_there (v i) || are_there (partners m key ds) k) ∙ sym (ap (λ b. b || list_any (same_labels key) (keys_of m (cell_at ds k))) e)
there_by m k key d ds false None e v r = r
there_by m k key d ds false (Some x) e v r = r ∙ sym (ap (λ b. b || list_any (same_labels key) (keys_of m (cell_at ds k))) e)

there_is : (m : Matched) (k : ℕ) (key : Pairs) (ds : List ColumnData) → are_there (partners m key ds) k ≡ list_any (same_labels key) (keys_of m (cell_at ds k))
there_is m k key [] = refl
there_is m k key (d ∷ ds) = there_by m k key d ds (same_labels key (matching_key m d.labels)) (value_in d.values k) refl refl (there_is m k key ds)

none_kept : (b : Bool) → kept_if b None ≡ None
none_kept true = refl
none_kept false = refl

module _ (wanted : Bool) (m : Matched) (n k : ℕ) (h : k < n) (others : List ColumnData) where
  abbrev passes : Element → Bool
  passes e = is_wanted wanted (has_match m (cell_at others k) e)

  kept_by : (l : Pairs) (es : List Element) (o : Option ℤ) (b : Bool) → is_wanted wanted (list_any (same_labels (matching_key m l)) (keys_of m (cell_at others k))) ≡ b
      → element l (kept_if b o) ++ filter passes es ≡ filter passes (element l o ++ es)
  kept_by l es None b e = ap (λ x. element l x ++ filter passes es) (none_kept b)
  kept_by l es (Some v) true e = sym (ap (λ b. cond b (record { labels = l; value = v } ∷ filter passes es) (filter passes es)) e)
  kept_by l es (Some v) false e = sym (ap (λ b. cond b (record { labels = l; value = v } ∷ filter passes es) (filter passes es)) e)

  pub met_cell : (cs : List ColumnData) → cell_at (met wanted m n others cs) k ≡ filter passes (cell_at cs k)
  met_cell [] = refl
  met_cell (c ∷ cs) =
      let key = matching_key m c.labels in
      (λ i. element c.labels (in_below (λ j. kept_if (is_wanted wanted (are_there (partners m key others) j)) (value_in c.values j)) n k None h i) ++ met_cell cs i)
      ∙ ap (λ b. element c.labels (kept_if (is_wanted wanted b) (value_in c.values k)) ++ filter passes (cell_at cs k)) (there_is m k key others)
      ∙ kept_by c.labels (cell_at cs k) (value_in c.values k) (is_wanted wanted (list_any (same_labels key) (keys_of m (cell_at others k)))) refl

set_by : (s : Sign) (b : Bool) (m : Matched) (n k : ℕ) → k < n → (ls rs : List ColumnData) → is_set_sign s ≡ true
    → cell_of (cell_at (set_columns s m n ls rs) k) ≡ join (record { sign = s; with_bool = b }) m (cell_at ls k) (cell_at rs k)
set_by sign.And b m n k h ls rs e = ap cell_of (met_cell true m n k h rs ls)
set_by sign.Or b m n k h ls rs e =
    ap cell_of (joined_append (λ c. element c.labels (value_in c.values k)) ls (met false m n ls rs) ∙ ap (λ es. cell_at ls k ++ es) (met_cell false m n k h ls rs))
set_by sign.Unless b m n k h ls rs e = ap cell_of (met_cell false m n k h rs ls)
set_by sign.Add b m n k h ls rs e = cc
set_by sign.Sub b m n k h ls rs e = cc
set_by sign.Mul b m n k h ls rs e = cc
set_by sign.Div b m n k h ls rs e = cc
set_by sign.Rem b m n k h ls rs e = cc
set_by sign.Equal b m n k h ls rs e = cc
set_by sign.NotEqual b m n k h ls rs e = cc
set_by sign.Less b m n k h ls rs e = cc
set_by sign.LessOrEqual b m n k h ls rs e = cc
set_by sign.Greater b m n k h ls rs e = cc
set_by sign.GreaterOrEqual b m n k h ls rs e = cc

pub set_step : (op : BinaryOp) (m : Matched) (n k : ℕ) → k < n → (a b : Option ErrorKind) (ls rs : List ColumnData) → is_set_sign op.sign ≡ true
    → of_cell (unless_bad (first_of a b) (cell_of (cell_at (set_columns op.sign m n ls rs) k)))
    ≡ operation op m (of_cell (unless_bad a (Good (cell_at ls k)))) (of_cell (unless_bad b (Good (cell_at rs k))))
set_step op m n k h a b ls rs e =
    step_of_both op m a b (cell_at ls k) (cell_at rs k) (cell_of (cell_at (set_columns op.sign m n ls rs) k)) (set_by op.sign op.with_bool m n k h ls rs e)
