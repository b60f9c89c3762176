-- What is known of the groups of columns, found once by the places of their keys, is at each step what is known of the groups of
-- its elements.
use Rattle.std.proofs.Common.{◌≡◌, ◌+◌, ◌<◌, ℕ, zero, suc, ℤ, Bool, true, false, cond, nat_eq, Option, Some, None, List, [], ◌∷◌, ◌++◌, map, length, take, get_or, refl, sym, ap, ◌∙◌, subst, append-nil, arith}
use Rattle.std.specs.List.{filter}
use Rattle.std.specs.Prelude.{slice_set}
use Rattle.std.proofs.lemmas.Bool.Decides.{nat_tests}
use Rattle.std.proofs.lemmas.Grind.{take_at_read}
use Rattle.std.proofs.lemmas.List.{get_or-set_same, get_or-set_other, length-set, map-id}
use Rattle.pf_base.specs.declared.plain.Partial.{Partial}
use Rattle.pf_base.specs.LabelSets.{Pairs}
use Rattle.pf_model.specs.declared.cell.Element.{Element}
use Rattle.pf_model.specs.declared.cell.ErrorKind.{ErrorKind}
use Rattle.pf_model.specs.declared.cell.StepCell.TheVariants.{Good}
use Rattle.pf_model.specs.Aggregation.{ElementGroup, group_key, groups}
use Rattle.pf_model.specs.Cells.{distinct, labels_of, values_of}
use Rattle.pf_model.specs.Clauses.{Grouped}
use Rattle.pf_model.specs.Legs.{GroupPart, grouped_part, partial_of, partials}
use Rattle.pf_model.specs.Lists.{Each, joined}
use Rattle.pf_model.specs.Merging.{below}
use Rattle.pf_columns.specs.Columns.{AreRising, ColumnData, cell_at, columns_labels}
use Rattle.pf_columns.specs.Groups.{keys_by, members, place_in, those_of}
use Rattle.pf_columns.specs.Steps.{bad_in, unless_bad}
use Rattle.pf_columns.proofs.Below.{below_is, first_below, in_below, length_below}
use Rattle.pf_columns.proofs.GroupColumns.{below_alike, those_members, those_snoc, length_take_alike}
use Rattle.pf_columns.proofs.GroupKeys.{distinct_rising, each_stands}
use Rattle.pf_columns.proofs.GroupedCells.{keys_at, of_key, picked}
use Rattle.pf_columns.proofs.Occurring.{is_full}
use Rattle.pf_shard.specs.Groups.{AreWithin, GroupColumnData, IsWithin, group, group_columns, groups_in, groups_unless, keys_in, known_of, known_over, with_keys, with_values}
use Rattle.pf_shard.proofs.KnownValues.{known_further, each_snoc}

-- ---- a place that is set

module _ {X : Type 0} (d : X) (f : ℕ → X) (n o : ℕ) (y : X) (h : o < n) where
  abbrev set_in : List X
  set_in = slice_set (below f n) o y

  set_at : (k : ℕ) → k < n → (b : Bool) → nat_eq o k ≡ b → cond b y (f k) ≡ get_or set_in k d
  set_at k l true e =
      let same : k ≡ o = grind (arith, nat_tests, e) in
      sym (ap (λ j. get_or set_in j d) same ∙ get_or-set_same (below f n) o y d (subst (λ m. o < m) (sym (length_below f n)) h))
  set_at k l false e =
      let other : k ≡ o → ⊥ = λ q. grind (arith, nat_tests, e, q) in
      sym (get_or-set_other (below f n) o k y d other ∙ in_below f n k d l)

  set_below : set_in ≡ below (λ k. cond (nat_eq o k) y (f k)) n
  set_below =
      let many : length set_in ≡ n = length-set (below f n) o y ∙ length_below f n in
      sym (ap (below (λ k. cond (nat_eq o k) y (f k))) (sym many)
      ∙ below_is (λ x. x) (λ k. cond (nat_eq o k) y (f k)) d set_in (λ k l. set_at k (subst (λ m. k < m) many l) (nat_eq o k) refl)
      ∙ map-id set_in)

-- ---- the loop over the columns

abbrev known_from : ℕ → List ℕ → List ColumnData → ℕ → List (Option Partial)
known_from len os cs g = known_over len (those_of g os cs)

module _ (len : ℕ) (os : List ℕ) (cs : List ColumnData) (o : ℕ) (c : ColumnData) (many : length os ≡ length cs) where
  further_by : (g : ℕ) (b : Bool) → nat_eq o g ≡ b
      → cond b (with_values (known_from len os cs o) c.values) (known_from len os cs g) ≡ known_over len (those_of g os cs ++ cond b (c ∷ []) [])
  further_by g true e =
      let same : o ≡ g = grind (arith, nat_tests, e) in
      ap (λ j. with_values (known_from len os cs j) c.values) same ∙ known_further len (those_of g os cs) c
  further_by g false e = ap (known_over len) (sym (append-nil (those_of g os cs)))

  further : (g : ℕ) → cond (nat_eq o g) (with_values (known_from len os cs o) c.values) (known_from len os cs g) ≡ known_from len (os ++ (o ∷ [])) (cs ++ (c ∷ [])) g
  further g = further_by g (nat_eq o g) refl ∙ ap (known_over len) (sym (those_snoc g os cs o c many))

-- the loop's step
pub known_more : (len : ℕ) (os : List ℕ) (cs : List ColumnData) (n i : ℕ) (c : ColumnData) (before after : List (List (Option Partial)))
    → length os ≡ length cs → i < length cs → get_or os i 0 < n → c ≡ get_or cs i c
    → before ≡ below (λ g. known_over len (those_of g (take i os) (take i cs))) n
    → after ≡ slice_set before (get_or os i 0) (with_values (get_or before (get_or os i 0) []) c.values)
    → after ≡ below (λ g. known_over len (those_of g (take (i + 1) os) (take (i + 1) cs))) n
known_more len os cs n i c before after e h w q b a =
    let o = get_or os i 0 in
    let f : ℕ → List (Option Partial) = known_from len (take i os) (take i cs) in
    let os' : take (i + 1) os ≡ take i os ++ (o ∷ []) = (take_at_read os i 0 (subst (λ m. i < m) (sym e) h)).1 in
    let cs' : take (i + 1) cs ≡ take i cs ++ (c ∷ []) = (take_at_read cs i c h).1 ∙ ap (λ x. take i cs ++ (x ∷ [])) (sym q) in
    let many : length (take i os) ≡ length (take i cs) = length_take_alike os cs i e in
    a ∙ ap (λ xs. slice_set xs o (with_values (get_or xs o []) c.values)) b
    ∙ ap (λ ps. slice_set (below f n) o (with_values ps c.values)) (in_below f n o [] w)
    ∙ set_below [] f n o (with_values (f o) c.values) w
    ∙ below_alike (λ g. cond (nat_eq o g) (with_values (f o) c.values) (f g)) (λ g. known_over len (those_of g (take (i + 1) os) (take (i + 1) cs))) n
    (λ g. further len (take i os) (take i cs) o c many g ∙ (λ j. known_from len (sym os' j) (sym cs' j) g))

-- ---- the columns of the groups

module _ (key : Pairs → Pairs) (cs : List ColumnData) (n : ℕ) where
  abbrev column : Pairs → GroupColumnData
  column l = record { key = l; partials = known_over n (members key l cs) }

  keyed : (os : List ℕ) (g : ℕ) (ls : List Pairs) → ((j : ℕ) → j < length ls → those_of (g + j) os cs ≡ members key (get_or ls j []) cs)
      → with_keys ls (below (λ j. known_over n (those_of (g + j) os cs)) (length ls)) ≡ map column ls
  keyed os g [] e = refl
  keyed os g (l ∷ ls) e =
      let here : known_over n (those_of (g + 0) os cs) ≡ known_over n (members key l cs) = ap (known_over n) (e 0 (omega arith)) in
      let behind : (j : ℕ) → those_of (g + suc j) os cs ≡ those_of ((g + 1) + j) os cs = λ j. ap (λ m. those_of m os cs) (omega arith) in
      ap (with_keys (l ∷ ls)) (first_below (λ j. known_over n (those_of (g + j) os cs)) (length ls))
      ∙ (λ i. record { key = l; partials = here i }
      ∷ with_keys ls (below_alike (λ j. known_over n (those_of (g + suc j) os cs)) (λ j. known_over n (those_of ((g + 1) + j) os cs)) (length ls) (λ j. ap (known_over n) (behind j)) i))
      ∙ ap (λ ds. column l ∷ ds) (keyed os (g + 1) ls (λ j h. sym (behind j) ∙ e (suc j) (omega (arith, h))))

  abbrev all_keys : List Pairs
  all_keys = map key (columns_labels cs)

  pub columns_known : (ls : List Pairs) (pss : List (List (Option Partial))) → ls ≡ distinct all_keys
      → pss ≡ below (λ g. known_over n (those_of g (map (place_in (distinct all_keys)) all_keys) cs)) (length ls)
      → with_keys ls pss ≡ group_columns key cs n
  columns_known ls pss e h =
      let os = map (place_in (distinct all_keys)) all_keys in
      let from_start : (g : ℕ) → those_of g os cs ≡ those_of (0 + g) os cs = λ g. ap (λ m. those_of m os cs) (omega arith) in
      ap (with_keys ls) h
      ∙ (λ i. with_keys (e i) (below (λ g. known_over n (those_of g os cs)) (length (e i))))
      ∙ ap (with_keys (distinct all_keys)) (below_alike (λ g. known_over n (those_of g os cs)) (λ g. known_over n (those_of (0 + g) os cs)) (length (distinct all_keys)) (λ g. ap (known_over n) (from_start g)))
      ∙ keyed os 0 (distinct all_keys)
      (λ j l. sym (from_start j) ∙ those_members key (distinct all_keys) (distinct_rising all_keys) j l cs (each_stands all_keys))

  -- the same, where the places and the number of the keys have names of their own
  pub found_known : (os : List ℕ) (ls : List Pairs) (count : ℕ) (pss : List (List (Option Partial))) → os ≡ map (place_in (distinct all_keys)) all_keys → ls ≡ distinct all_keys
      → count ≡ length ls → pss ≡ below (λ g. known_over n (those_of g os cs)) count → with_keys ls pss ≡ group_columns key cs n
  found_known os ls count pss o e m h = columns_known ls pss e (h ∙ (λ i. below (λ g. known_over n (those_of g (o i) cs)) (m i)))

  keys_are : (ls : List Pairs) → keys_in (map column ls) ≡ ls
  keys_are [] = refl
  keys_are (l ∷ ls) = ap (λ ms. l ∷ ms) (keys_are ls)

  pub keys_rise : AreRising (keys_in (group_columns key cs n))
  keys_rise = subst AreRising (sym (keys_are (distinct all_keys))) (distinct_rising all_keys)

  -- ---- the groups of a step

  abbrev values_at : ℕ → Pairs → List ℤ
  values_at k l = values_of (cell_at (members key l cs) k)

  read_groups : (k : ℕ) → k < n → (ls : List Pairs) → groups_in (map column ls) k ≡ joined (λ l. group l (known_of (values_at k l))) ls
  read_groups k h [] = refl
  read_groups k h (l ∷ ls) = λ i. group l (in_below (λ j. known_of (values_at j l)) n k None h i) ++ read_groups k h ls i

  abbrev known_group : (Pairs → List ℤ) → Pairs → GroupPart
  known_group g l = record { key = l; partial = partial_of (g l) }

  full_by : (l : Pairs) (vs : List ℤ) (ms : List Pairs) (g : Pairs → List ℤ) → g l ≡ vs
      → map (known_group g) (filter (λ m. is_full (g m)) ms) ≡ joined (λ m. group m (known_of (g m))) ms
      → map (known_group g) (cond (is_full vs) (l ∷ filter (λ m. is_full (g m)) ms) (filter (λ m. is_full (g m)) ms)) ≡ group l (known_of vs) ++ joined (λ m. group m (known_of (g m))) ms
  full_by l [] ms g e h = h
  full_by l (v ∷ vs) ms g e h = λ i. record { key = l; partial = partial_of (e i) } ∷ h i

  full_groups : (g : Pairs → List ℤ) (ms : List Pairs) → map (known_group g) (filter (λ m. is_full (g m)) ms) ≡ joined (λ m. group m (known_of (g m))) ms
  full_groups g [] = refl
  full_groups g (m ∷ ms) = full_by m (g m) ms g refl (full_groups g ms)

  each_by : (es : List Element) (g : Pairs → List ℤ) → ((l : Pairs) → values_of (of_key key l es) ≡ g l) → (ls : List Pairs)
      → map (λ (found : ElementGroup). record { key = found.key; partial = partial_of (values_of found.elements) }) (map (λ l. record { key = l; elements = of_key key l es }) ls) ≡ map (known_group g) ls
  each_by es g h [] = refl
  each_by es g h (l ∷ ls) = λ i. record { key = l; partial = partial_of (h l i) } ∷ each_by es g h ls i

  pub groups_are : (k : ℕ) → k < n → groups_in (group_columns key cs n) k ≡ map (λ (found : ElementGroup). record { key = found.key; partial = partial_of (values_of found.elements) }) (groups key (cell_at cs k))
  groups_are k h =
      read_groups k h (keys_by key (columns_labels cs))
      ∙ sym (each_by (cell_at cs k) (values_at k) (λ l. ap values_of (picked key l k cs)) (distinct (map key (labels_of (cell_at cs k))))
      ∙ ap (map (known_group (values_at k))) (keys_at key cs k)
      ∙ full_groups (values_at k) (distinct (map key (columns_labels cs))))

part_by : (g : Grouped) (o : Option ErrorKind) (es : List Element) (gs : List GroupPart) → gs ≡ partials g es → groups_unless o gs ≡ grouped_part g (unless_bad o (Good es))
part_by g None es gs e = ap (groups_unless None) e
part_by g (Some kind) es gs e = refl

pub part_known : (g : Grouped) (all cs : List ColumnData) (found : List GroupColumnData) (n : ℕ) (bads kept : List (Option ErrorKind)) → cs ≡ all → kept ≡ bads
    → found ≡ group_columns (group_key g.without g.labels) cs n → (k : ℕ) → k < n
    → groups_unless (bad_in kept k) (groups_in found k) ≡ grouped_part g (unless_bad (bad_in bads k) (Good (cell_at all k)))
part_known g all cs found n bads kept e b f k h =
    part_by g (bad_in kept k) (cell_at cs k) (groups_in found k) (ap (λ ds. groups_in ds k) f ∙ groups_are (group_key g.without g.labels) cs n k h)
    ∙ (λ i. grouped_part g (unless_bad (bad_in (b i) k) (Good (cell_at (e i) k))))

-- ---- bounds

each_below : {X : Type 0} (P : X → Type 0) (f : ℕ → X) (n : ℕ) → ((k : ℕ) → P (f k)) → Each P (below f n)
each_below P f zero h = tt
each_below P f (suc n) h = each_snoc P (below f n) (f n) (each_below P f n h) (h n)

-- of no column nothing is known
pub none_within : (len n : ℕ) → Each (λ ps. Each (IsWithin 0) ps) (below (λ g. known_over len []) n)
none_within len n = each_below (λ ps. Each (IsWithin 0) ps) (λ g. known_over len []) n (λ g. each_below (IsWithin 0) (λ k. None) len (λ k. tt))

-- keys that are put to what is known within bounds
pub keyed_within : (most : ℕ) (ls : List Pairs) (pss : List (List (Option Partial))) → Each (λ ps. Each (IsWithin most) ps) pss → AreWithin most (with_keys ls pss)
keyed_within most [] pss h = tt
keyed_within most (l ∷ ls) [] h = tt
keyed_within most (l ∷ ls) (ps ∷ pss) h = (h.0, keyed_within most ls pss h.1)

-- keys that are put to as many lists stay as they are
pub keys_of_keyed : (ls : List Pairs) (pss : List (List (Option Partial))) → length pss ≡ length ls → keys_in (with_keys ls pss) ≡ ls
keys_of_keyed [] pss e = refl
keys_of_keyed (l ∷ ls) [] e = absurd (omega (arith, e))
keys_of_keyed (l ∷ ls) (ps ∷ pss) e = ap (λ ms. l ∷ ms) (keys_of_keyed ls pss (omega (arith, e)))
