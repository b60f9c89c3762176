-- The columns of the groups, which are found once, have at each step the aggregation of its elements.
use Rattle.std.proofs.Common.{◌≡◌, ◌<◌, ◌+◌, ℕ, zero, suc, ℤ, Bool, true, false, cond, ◌||◌, nat_eq, Option, None, List, [], ◌∷◌, ◌++◌, map, length, take, drop, get_or, refl, sym, ap, ◌∙◌, subst, append-nil, append_assoc, arith}
use Rattle.std.proofs.lemmas.Bool.Decides.{nat_tests}
use Rattle.std.specs.List.{All}
use Rattle.std.specs.Ordering.{is_eq}
use Rattle.std.specs.Prelude.{slice_set}
use Rattle.std.proofs.lemmas.Grind.{take_at_read}
use Rattle.std.proofs.lemmas.List.{drop_more, get_or-set_same, get_or-set_other, length-set, map-id}
use Rattle.std.proofs.lemmas.List.Elements.{All-nil, All-cons}
use Rattle.pf_base.specs.LabelSets.{Pairs}
use Rattle.pf_model.specs.declared.cell.ErrorKind.{ErrorKind}
use Rattle.pf_model.specs.declared.cell.StepCell.TheVariants.{Good}
use Rattle.pf_model.specs.Aggregation.{ElementGroup, aggregated, each_group, groups}
use Rattle.pf_model.specs.Cells.{distinct, element, values_of}
use Rattle.pf_model.specs.Lists.{Each, joined}
use Rattle.pf_model.specs.Merging.{below}
use Rattle.pf_model.specs.Selection.{same_labels}
use Rattle.pf_model.proofs.KeySets.{same_is, stands_in}
use Rattle.pf_model.proofs.SelectorLabels.{AllAbove}
use Rattle.pf_columns.specs.Columns.{AreRising, ColumnData, cell_at, columns_labels}
use Rattle.pf_columns.specs.Groups.{bucket_columns, found_of, group_column, group_value, id_columns, keys_by, members, operator, place_in, those_of}
use Rattle.pf_columns.specs.Steps.{bad_in, unless_bad}
use Rattle.pf_columns.specs.declared.aggregate.GroupOp.{GroupOp}
use Rattle.pf_columns.specs.declared.aggregate.GroupOp.TheVariants as each
use Rattle.pf_columns.proofs.Below.{below_is, first_below, in_below, length_below}
use Rattle.pf_columns.proofs.GroupKeys.{distinct_rising, each_stands}
use Rattle.pf_columns.proofs.GroupedCells.{grouped_is}

pub map_snoc : {X Y : Type 0} (f : X → Y) (xs : List X) (x : X) → map f (xs ++ (x ∷ [])) ≡ map f xs ++ (f x ∷ [])
map_snoc f [] x = refl
map_snoc f (y ∷ ys) x = ap (λ zs. f y ∷ zs) (map_snoc f ys x)

-- ---- an id is that of a key

apart_get : (l : Pairs) (ms : List Pairs) → AllAbove l ms → (g : ℕ) → g < length ms → same_labels l (get_or ms g []) ≡ false
apart_get l [] b g h = absurd (omega (arith, h))
apart_get l (n ∷ ns) b zero h = ap is_eq b.0
apart_get l (n ∷ ns) b (suc g) h = apart_get l ns b.1 g (omega (arith, h))

eq_suc : (a b : ℕ) → nat_eq (suc a) (suc b) ≡ nat_eq a b
eq_suc a b = grind (arith, nat_tests)

suc_zero : (a : ℕ) → nat_eq (suc a) 0 ≡ false
suc_zero a = grind (arith, nat_tests)

zero_suc : (a : ℕ) → nat_eq 0 (suc a) ≡ false
zero_suc a = grind (arith, nat_tests)

id_by : (l m : Pairs) (ms : List Pairs) (b : Bool) → same_labels l m ≡ b → AllAbove m ms
    → (stands_in l ms ≡ true → (g : ℕ) → g < length ms → nat_eq (place_in ms l) g ≡ same_labels l (get_or ms g []))
    → (b || stands_in l ms) ≡ true → (g : ℕ) → g < suc (length ms)
    → nat_eq (cond b 0 (suc (place_in ms l))) g ≡ same_labels l (get_or (m ∷ ms) g [])
id_by l m ms true e r f a zero h = sym e
id_by l m ms true e r f a (suc g) h =
    zero_suc g ∙ sym (ap (λ x. same_labels x (get_or ms g [])) (same_is l m e) ∙ apart_get m ms r g (omega (arith, h)))
id_by l m ms false e r f a zero h = suc_zero (place_in ms l) ∙ sym e
id_by l m ms false e r f a (suc g) h = eq_suc (place_in ms l) g ∙ f a g (omega (arith, h))

pub id_is : (ks : List Pairs) → AreRising ks → (l : Pairs) → stands_in l ks ≡ true → (g : ℕ) → g < length ks → nat_eq (place_in ks l) g ≡ same_labels l (get_or ks g [])
id_is [] r l a g h = absurd (omega (arith, h))
id_is (m ∷ ms) r l a g h = id_by l m ms (same_labels l m) refl r.0 (id_is ms r.1 l) a g h

module _ (key : Pairs → Pairs) (ks : List Pairs) (r : AreRising ks) (g : ℕ) (h : g < length ks) where
  pub those_members : (cs : List ColumnData) → Each (λ l. stands_in l ks ≡ true) (map key (columns_labels cs))
      → those_of g (map (place_in ks) (map key (columns_labels cs))) cs ≡ members key (get_or ks g []) cs
  those_members [] a = refl
  those_members (c ∷ cs) a =
      let t = those_members cs a.1 in
      λ i. cond (id_is ks r (key c.labels) a.0 g h i) (c ∷ t i) (t i)

-- ---- one more bucket

pub bucket_next : {X : Type 0} (f : ℕ → List ℤ → Option ℤ) (columns : X → List ColumnData) (n : ℕ) (done next all : List ColumnData)
    (bs : List X) (ls : List Pairs) (i : ℕ) (b : X) (l : Pairs) (c : ColumnData) → i < length bs → i < length ls → b ≡ get_or bs i b → l ≡ get_or ls i l
    → c ≡ record { labels = l; values = below (λ k. f k (values_of (cell_at (columns b) k))) n } → next ≡ done ++ (c ∷ [])
    → done ++ bucket_columns f (map columns (drop i bs)) n (drop i ls) ≡ all
    → next ++ bucket_columns f (map columns (drop (i + 1) bs)) n (drop (i + 1) ls) ≡ all
bucket_next f columns n done next all bs ls i b l c p q r s e m k =
    let rest = bucket_columns f (map columns (drop (i + 1) bs)) n (drop (i + 1) ls) in
    let buckets : drop i bs ≡ b ∷ drop (i + 1) bs = drop_more bs i b p ∙ ap (λ x. x ∷ drop (i + 1) bs) (sym r) in
    let labels : drop i ls ≡ l ∷ drop (i + 1) ls = drop_more ls i l q ∙ ap (λ x. x ∷ drop (i + 1) ls) (sym s) in
    ap (λ ds. ds ++ rest) m
    ∙ append_assoc done (c ∷ []) rest
    ∙ ap (λ d. done ++ (d ∷ rest)) e
    ∙ sym (λ j. done ++ bucket_columns f (map columns (buckets j)) n (labels j))
    ∙ k

-- ---- the columns of the groups

module _ (f : ℕ → List ℤ → Option ℤ) (key : Pairs → Pairs) (cs : List ColumnData) (n : ℕ) where
  by_id : (os : List ℕ) (g : ℕ) (ls : List Pairs) → ((j : ℕ) → j < length ls → those_of (g + j) os cs ≡ members key (get_or ls j []) cs)
      → id_columns f os cs n g ls ≡ map (group_column f key cs n) ls
  by_id os g [] e = refl
  by_id os g (l ∷ ls) e =
      let here : those_of g os cs ≡ members key l cs = ap (λ j. those_of j os cs) (omega arith) ∙ e 0 (omega arith) in
      let rest = by_id os (g + 1) ls (λ j h. ap (λ i. those_of i os cs) (omega arith) ∙ e (suc j) (omega (arith, h))) in
      λ i. record { labels = l; values = below (λ k. f k (values_of (cell_at (here i) k))) n } ∷ rest i

  pub columns_are : id_columns f (map (place_in (distinct (map key (columns_labels cs)))) (map key (columns_labels cs))) cs n 0 (distinct (map key (columns_labels cs)))
      ≡ map (group_column f key cs n) (distinct (map key (columns_labels cs)))
  columns_are =
      let ks = map key (columns_labels cs) in
      by_id (map (place_in (distinct ks)) ks) 0 (distinct ks)
      (λ j h. ap (λ i. those_of i (map (place_in (distinct ks)) ks) cs) (omega arith)
      ∙ those_members key (distinct ks) (distinct_rising ks) j h cs (each_stands ks))

  pub group_cells : (k : ℕ) → k < n → (ls : List Pairs) → cell_at (map (group_column f key cs n) ls) k ≡ joined (λ l. element l (f k (values_of (cell_at (members key l cs) k)))) ls
  group_cells k h [] = refl
  group_cells k h (l ∷ ls) =
      λ i. element l (in_below (λ j. f j (values_of (cell_at (members key l cs) j))) n k None h i) ++ group_cells k h ls i

  labels_are : (ls : List Pairs) → columns_labels (map (group_column f key cs n) ls) ≡ ls
  labels_are [] = refl
  labels_are (l ∷ ls) = ap (λ ms. l ∷ ms) (labels_are ls)

  pub rises_groups : AreRising (columns_labels (map (group_column f key cs n) (distinct (map key (columns_labels cs)))))
  rises_groups = subst AreRising (sym (labels_are (distinct (map key (columns_labels cs))))) (distinct_rising (map key (columns_labels cs)))

-- ---- an aggregation

pub aggregated_is : (op : GroupOp) (p : Option ℤ) (gs : List ElementGroup) → each_group (group_value op) gs ≡ aggregated (operator op) p gs
aggregated_is each.Sum p gs = refl
aggregated_is each.Avg p gs = refl
aggregated_is each.Min p gs = refl
aggregated_is each.Max p gs = refl
aggregated_is each.Count p gs = refl
aggregated_is each.Group p gs = refl

-- ---- buckets

pub those_snoc : (g : ℕ) (os : List ℕ) (cs : List ColumnData) (o : ℕ) (c : ColumnData) → length os ≡ length cs → those_of g (os ++ (o ∷ [])) (cs ++ (c ∷ [])) ≡ those_of g os cs ++ cond (nat_eq o g) (c ∷ []) []
those_snoc g [] [] o c e = refl
those_snoc g [] (d ∷ ds) o c e = absurd (omega (arith, e))
those_snoc g (p ∷ ps) [] o c e = absurd (omega (arith, e))
those_snoc g (p ∷ ps) (d ∷ ds) o c e = by (nat_eq p g) (those_snoc g ps ds o c (omega (arith, e))) where
  by : (b : Bool) → those_of g (ps ++ (o ∷ [])) (ds ++ (c ∷ [])) ≡ those_of g ps ds ++ cond (nat_eq o g) (c ∷ []) []
      → cond b (d ∷ those_of g (ps ++ (o ∷ [])) (ds ++ (c ∷ []))) (those_of g (ps ++ (o ∷ [])) (ds ++ (c ∷ []))) ≡ cond b (d ∷ those_of g ps ds) (those_of g ps ds) ++ cond (nat_eq o g) (c ∷ []) []
  by true r = ap (λ xs. d ∷ xs) r
  by false r = r

module _ {X : Type 0} (f : ℕ → List X) (n o : ℕ) (c : X) (h : o < n) where
  abbrev put_in : List (List X)
  put_in = slice_set (below f n) o (get_or (below f n) o [] ++ (c ∷ []))

  put_at : (k : ℕ) → k < n → (b : Bool) → nat_eq o k ≡ b → f k ++ cond b (c ∷ []) [] ≡ get_or put_in k []
  put_at k l true e =
      let same : k ≡ o = grind (arith, nat_tests, e) in
      let there : o < length (below f n) = subst (λ m. o < m) (sym (length_below f n)) h in
      sym (ap (λ j. get_or put_in j []) same ∙ get_or-set_same (below f n) o (get_or (below f n) o [] ++ (c ∷ [])) [] there
      ∙ ap (λ xs. xs ++ (c ∷ [])) (in_below f n o [] h) ∙ ap (λ j. f j ++ (c ∷ [])) (sym same))
  put_at k l false e =
      let other : k ≡ o → ⊥ = λ q. grind (arith, nat_tests, e, q) in
      append-nil (f k) ∙ sym (get_or-set_other (below f n) o k (get_or (below f n) o [] ++ (c ∷ [])) [] other ∙ in_below f n k [] l)

  pub put_is : put_in ≡ below (λ k. f k ++ cond (nat_eq o k) (c ∷ []) []) n
  put_is =
      let many : length put_in ≡ n = length-set (below f n) o (get_or (below f n) o [] ++ (c ∷ [])) ∙ length_below f n in
      sym (ap (below (λ k. f k ++ cond (nat_eq o k) (c ∷ []) [])) (sym many)
      ∙ below_is (λ x. x) (λ k. f k ++ cond (nat_eq o k) (c ∷ []) []) [] put_in (λ k l. put_at k (subst (λ m. k < m) many l) (nat_eq o k) refl)
      ∙ map-id put_in)

pub below_alike : {X : Type 0} (f g : ℕ → X) (n : ℕ) → ((k : ℕ) → f k ≡ g k) → below f n ≡ below g n
below_alike f g zero e = refl
below_alike f g (suc n) e = λ i. below_alike f g n e i ++ (e n i ∷ [])

pub length_take_alike : {X Y : Type 0} (xs : List X) (ys : List Y) (i : ℕ) → length xs ≡ length ys → length (take i xs) ≡ length (take i ys)
length_take_alike xs ys zero e = refl
length_take_alike [] [] (suc i) e = refl
length_take_alike [] (y ∷ ys) (suc i) e = absurd (omega (arith, e))
length_take_alike (x ∷ xs) [] (suc i) e = absurd (omega (arith, e))
length_take_alike (x ∷ xs) (y ∷ ys) (suc i) e = ap suc (length_take_alike xs ys i (omega (arith, e)))

-- the loop's step
pub bucket_more : (os : List ℕ) (cs : List ColumnData) (n i : ℕ) (c : ColumnData) (before after : List (List ColumnData)) → length os ≡ length cs → i < length cs → get_or os i 0 < n → c ≡ get_or cs i c
    → before ≡ below (λ g. those_of g (take i os) (take i cs)) n → after ≡ slice_set before (get_or os i 0) (get_or before (get_or os i 0) [] ++ (c ∷ []))
    → after ≡ below (λ g. those_of g (take (i + 1) os) (take (i + 1) cs)) n
bucket_more os cs n i c before after e h w q b a =
    let o = get_or os i 0 in
    let f : ℕ → List ColumnData = λ g. those_of g (take i os) (take i cs) in
    let os' : take (i + 1) os ≡ take i os ++ (o ∷ []) = (take_at_read os i 0 (subst (λ m. i < m) (sym e) h)).1 in
    let cs' : take (i + 1) cs ≡ take i cs ++ (c ∷ []) = (take_at_read cs i c h).1 ∙ ap (λ x. take i cs ++ (x ∷ [])) (sym q) in
    let many : length (take i os) ≡ length (take i cs) = length_take_alike os cs i e in
    a ∙ ap (λ xs. slice_set xs o (get_or xs o [] ++ (c ∷ []))) b ∙ put_is f n o c w
    ∙ below_alike (λ k. f k ++ cond (nat_eq o k) (c ∷ []) []) (λ g. those_of g (take (i + 1) os) (take (i + 1) cs)) n
    (λ g. sym (those_snoc g (take i os) (take i cs) o c many) ∙ (λ j. those_of g (sym os' j) (sym cs' j)))

module _ (f : ℕ → List ℤ → Option ℤ) (os : List ℕ) (cs : List ColumnData) (n : ℕ) where
  buckets_from : (g : ℕ) (ls : List Pairs) → bucket_columns f (below (λ j. those_of (g + j) os cs) (length ls)) n ls ≡ id_columns f os cs n g ls
  buckets_from g [] = refl
  buckets_from g (l ∷ ls) =
      ap (λ bs. bucket_columns f bs n (l ∷ ls)) (first_below (λ j. those_of (g + j) os cs) (length ls))
      ∙ (λ i. record { labels = l; values = below (λ k. f k (values_of (cell_at (first i) k))) n }
      ∷ bucket_columns f (below_alike (λ j. those_of (g + suc j) os cs) (λ j. those_of ((g + 1) + j) os cs) (length ls) (λ j. ap (λ x. those_of x os cs) (omega arith)) i) n ls)
      ∙ ap (λ bs. record { labels = l; values = below (λ k. f k (values_of (cell_at (those_of g os cs) k))) n } ∷ bs) (buckets_from (g + 1) ls) where
        first : those_of (g + 0) os cs ≡ those_of g os cs
        first = ap (λ x. those_of x os cs) (omega arith)

  pub buckets_are : (ls : List Pairs) → bucket_columns f (below (λ g. those_of g os cs) (length ls)) n ls ≡ id_columns f os cs n 0 ls
  buckets_are ls = ap (λ bs. bucket_columns f bs n ls) (below_alike (λ g. those_of g os cs) (λ j. those_of (0 + j) os cs) (length ls) (λ j. ap (λ x. those_of x os cs) (omega arith))) ∙ buckets_from 0 ls

place_below : (l : Pairs) (ks : List Pairs) → stands_in l ks ≡ true → place_in ks l < length ks
place_below l [] a = cc
place_below l (m ∷ ms) a = by (same_labels l m) a (place_below l ms) where
  by : (b : Bool) → (b || stands_in l ms) ≡ true → (stands_in l ms ≡ true → place_in ms l < length ms) → cond b 0 (suc (place_in ms l)) < suc (length ms)
  by true x f = omega arith
  by false x f = let p = f x in omega (arith, p)

all_below : (ls ks : List Pairs) → Each (λ l. stands_in l ks ≡ true) ls → All (λ o. o < length ks) (map (place_in ks) ls)
all_below [] ks a = All-nil (λ o. o < length ks)
all_below (l ∷ ls) ks a = All-cons (λ o. o < length ks) (place_in ks l) (map (place_in ks) ls) (place_below l ks a.0) (all_below ls ks a.1)

pub ids_below : (ls : List Pairs) → All (λ o. o < length (distinct ls)) (map (place_in (distinct ls)) ls)
ids_below ls = all_below ls (distinct ls) (each_stands ls)

-- ---- the steps of an aggregation

module _ (op : GroupOp) (key : Pairs → Pairs) (all cs found : List ColumnData) (n : ℕ) (same : cs ≡ all)
    (made : found ≡ map (group_column (λ k. found_of (group_value op)) key cs n) (keys_by key (columns_labels cs))) where
  pub aggregation_is : (bads kept : List (Option ErrorKind)) → kept ≡ bads → (p : Option ℤ) (k : ℕ) → k < n
      → unless_bad (bad_in kept k) (Good (cell_at found k)) ≡ unless_bad (bad_in bads k) (Good (aggregated (operator op) p (groups key (cell_at all k))))
  aggregation_is bads kept e p k h =
      (λ i. unless_bad (bad_in (e i) k) (Good (cell_at (made i) k)))
      ∙ ap (λ es. unless_bad (bad_in bads k) (Good es))
      (group_cells (λ j. found_of (group_value op)) key cs n k h (keys_by key (columns_labels cs)) ∙ sym (grouped_is (group_value op) key cs k) ∙ aggregated_is op p (groups key (cell_at cs k)) ∙ ap (λ ds. aggregated (operator op) p (groups key (cell_at ds k))) same)

  pub groups_rise : AreRising (columns_labels found)
  groups_rise = subst (λ ds. AreRising (columns_labels ds)) (sym made) (rises_groups (λ k. found_of (group_value op)) key cs n)
