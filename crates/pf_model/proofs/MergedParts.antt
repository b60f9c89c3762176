-- The parts of all shards of a vector, merged, know of each group what is known of the whole group.
use Rattle.std.proofs.Common.{◌≡◌, ℕ, zero, suc, ◌+◌, ◌<◌, ℤ, pos, ◌+ℤ◌, Bool, true, false, cond, ◌||◌, List, [], ◌∷◌, ◌++◌, map, length, Option, None, Some, refl, sym, ap, ◌∙◌, append_assoc, arith}
use Rattle.std.proofs.Math.IntN.{+ℤ_comm, +ℤ_idl}
use Rattle.std.proofs.Math.Nat.{add_assoc, add_comm}
use Rattle.std.proofs.lemmas.Int.{ints}
use Rattle.std.proofs.lemmas.List.{map-append}
use Rattle.std.proofs.lemmas.List.Elements.{filter-append}
use Rattle.std.specs.Int.{int_min, int_max}
use Rattle.std.specs.Prelude.{unwrap_or}
use Rattle.std.specs.List.{filter, list_any}
use Rattle.pf_base.specs.declared.plain.Partial.{Partial}
use Rattle.pf_base.specs.LabelSets.{Pairs}
use Rattle.pf_model.specs.declared.cell.Element.{Element}
use Rattle.pf_model.specs.declared.cell.StepCell.TheVariants.{Good}
use Rattle.pf_model.specs.declared.functions.AggOp.{AggOp}
use Rattle.pf_model.specs.declared.functions.AggOp.TheVariants.{Sum, Avg, Min, Max, Count, Group, Topk, Bottomk, Quantile}
use Rattle.pf_model.specs.Aggregation.{groups, group_key, aggregate, aggregated, ElementGroup}
use Rattle.pf_model.specs.Cells.{distinct, labels_of, values_of}
use Rattle.pf_model.specs.Clauses.{Grouped}
use Rattle.pf_model.specs.Legs.{GroupPart, PartData, whole, grouped, bad, partial_of, partials}
use Rattle.pf_model.specs.Merging.{below, added, merged, all_groups, merged_groups, finished, first_error, cell_unless, merged_cell}
use Rattle.pf_model.specs.Micros.{total, least, greatest}
use Rattle.pf_model.specs.Selection.{same_labels}
use Rattle.pf_model.specs.Sharding.{is_mergeable}
use Rattle.pf_model.proofs.Folds.{in_shard, Puts, fold, fold_below, fold_append, fold_of_shards, below_alike, right}
use Rattle.pf_model.proofs.KeySets.{stands_in, same_is, same_turned, below_all, first_in, distinct_in, distinct_ascends, alike, in_append}
use Rattle.pf_model.proofs.SelectorLabels.{AllAbove, Ascends}

filters_step : {X : Type 0} (p q : X → Bool) (x : X) (b c : Bool) (xs ys : List X) → p x ≡ b → q x ≡ c → filter p xs ≡ filter q ys
    → filter p (cond c (x ∷ xs) xs) ≡ filter q (cond b (x ∷ ys) ys)
filters_step p q x true true xs ys h k e = ap (λ b. cond b (x ∷ filter p xs) (filter p xs)) h ∙ ap (λ zs. x ∷ zs) e ∙ sym (ap (λ b. cond b (x ∷ filter q ys) (filter q ys)) k)
filters_step p q x true false xs ys h k e = e ∙ sym (ap (λ b. cond b (x ∷ filter q ys) (filter q ys)) k)
filters_step p q x false true xs ys h k e = ap (λ b. cond b (x ∷ filter p xs) (filter p xs)) h ∙ e
filters_step p q x false false xs ys h k e = e

-- two tests, in either order
pub filters_turned : {X : Type 0} (p q : X → Bool) (xs : List X) → filter p (filter q xs) ≡ filter q (filter p xs)
filters_turned p q [] = refl
filters_turned p q (x ∷ xs) = filters_step p q x (p x) (q x) (filter q xs) (filter p xs) refl refl (filters_turned p q xs)

-- ---- whether a test passes

or_assoc : (a b c : Bool) → ((a || b) || c) ≡ (a || (b || c))
or_assoc true b c = refl
or_assoc false b c = refl

or_comm : (a b : Bool) → (a || b) ≡ (b || a)
or_comm true true = refl
or_comm true false = refl
or_comm false true = refl
or_comm false false = refl

or_puts : Puts false (λ a b. a || b)
or_puts = record { left = λ x. refl; assoc = or_assoc; comm = or_comm }

abbrev any_below : (ℕ → Bool) → ℕ → Bool
any_below = fold_below false (λ a b. a || b) or_puts

any_is_fold : (p : Element → Bool) (es : List Element) → list_any p es ≡ fold false (λ a b. a || b) or_puts (map p es)
any_is_fold p [] = refl
any_is_fold p (e ∷ es) = ap (λ b. p e || b) (any_is_fold p es)

-- a test passes among the elements of some shard where it passes among all
any_of_shards : (n : ℕ) → 0 < n → (p : Element → Bool) (es : List Element) → any_below (λ i. list_any p (filter (in_shard n i) es)) n ≡ list_any p es
any_of_shards n h p es =
    below_alike false (λ a b. a || b) or_puts (λ i. list_any p (filter (in_shard n i) es)) (λ i. fold false (λ a b. a || b) or_puts (map p (filter (in_shard n i) es)))
    (λ i. any_is_fold p (filter (in_shard n i) es)) n
    ∙ fold_of_shards false (λ a b. a || b) or_puts n h p es
    ∙ sym (any_is_fold p es)

or_true : (b c : Bool) → c ≡ true → (b || c) ≡ true
or_true true c e = refl
or_true false c e = e

-- ---- the groups of parts

abbrev is_filled : List Element → Bool
is_filled [] = false
is_filled (e ∷ es) = true

module _ (g : Grouped) where
  abbrev key : Pairs → Pairs
  key = group_key g.without g.labels

  abbrev has_key : Pairs → Element → Bool
  has_key k e = same_labels (key e.labels) k

  abbrev keys : List Element → List Pairs
  keys es = map key (labels_of es)

  -- what the groups of a key know
  abbrev known : Pairs → List GroupPart → List Partial
  known k gs = map (λ (q : GroupPart). q.partial) (filter (λ (q : GroupPart). same_labels q.key k) gs)

  abbrev parts_at : List Element → List Pairs → List GroupPart
  parts_at es ks =
      map (λ (found : ElementGroup). record { key = found.key; partial = partial_of (values_of found.elements) })
      (map (λ k. record { key = k; elements = filter (has_key k) es }) ks)

  abbrev parts : (ℕ → List Element) → ℕ → List PartData
  parts part n = below (λ i. grouped (partials g (part i))) n

  filled_by : (k : Pairs) (e : Element) (rest : List Element) (b : Bool) → same_labels (key e.labels) k ≡ b → (same_labels k (key e.labels) || stands_in k (keys rest)) ≡ true
      → (stands_in k (keys rest) ≡ true → is_filled (filter (has_key k) rest) ≡ true) → is_filled (cond b (e ∷ filter (has_key k) rest) (filter (has_key k) rest)) ≡ true
  filled_by k e rest true h s go = refl
  filled_by k e rest false h s go = go (sym (ap (λ b. b || stands_in k (keys rest)) (same_turned k (key e.labels) ∙ h)) ∙ s)

  filled : (k : Pairs) (es : List Element) → stands_in k (keys es) ≡ true → is_filled (filter (has_key k) es) ≡ true
  filled k [] h = h
  filled k (e ∷ es) h = filled_by k e es (has_key k e) refl h (filled k es)

  groups_append : (ps : List PartData) (gs : List GroupPart) → all_groups (ps ++ (grouped gs ∷ [])) ≡ all_groups ps ++ (gs ++ [])
  groups_append [] gs = refl
  groups_append (grouped hs ∷ ps) gs = ap (λ zs. hs ++ zs) (groups_append ps gs) ∙ sym (append_assoc hs (all_groups ps) (gs ++ []))
  groups_append (whole es ∷ ps) gs = groups_append ps gs
  groups_append (bad kind ∷ ps) gs = groups_append ps gs

  errors_append : (ps : List PartData) (gs : List GroupPart) → first_error ps ≡ None → first_error (ps ++ (grouped gs ∷ [])) ≡ None
  errors_append [] gs h = refl
  errors_append (grouped hs ∷ ps) gs h = errors_append ps gs h
  errors_append (whole es ∷ ps) gs h = errors_append ps gs h
  errors_append (bad kind ∷ ps) gs h = h

  no_errors : (part : ℕ → List Element) (n : ℕ) → first_error (parts part n) ≡ None
  no_errors part zero = refl
  no_errors part (suc n) = errors_append (parts part n) (partials g (part n)) (no_errors part n)

  known_append : (k : Pairs) (xs ys : List GroupPart) → known k (xs ++ ys) ≡ known k xs ++ known k ys
  known_append k xs ys =
      ap (map (λ (q : GroupPart). q.partial)) (filter-append (λ (q : GroupPart). same_labels q.key k) xs ys)
      ∙ map-append (λ (q : GroupPart). q.partial) (filter (λ (q : GroupPart). same_labels q.key k) xs) (filter (λ (q : GroupPart). same_labels q.key k) ys)

  -- ---- one number that is known of groups, and how it is put together

  module _ {M : Type 0} (none : M) (plus : M → M → M) (laws : Puts none plus) (field : Partial → M) (weight : Element → M)
      (fits : (e : Element) (es : List Element) → field (partial_of (values_of (e ∷ es))) ≡ fold none plus laws (map weight (e ∷ es))) where
    abbrev all : List M → M
    all = fold none plus laws

    abbrev of_groups : Pairs → List GroupPart → M
    of_groups k gs = all (map field (known k gs))

    abbrev of_key : Pairs → List Element → M
    of_key k es = all (map weight (filter (has_key k) es))

    fits_filled : (es : List Element) → is_filled es ≡ true → field (partial_of (values_of es)) ≡ all (map weight es)
    fits_filled [] h = cc
    fits_filled (e ∷ es) h = fits e es

    group_step : (es : List Element) (k l : Pairs) (ks : List Pairs) (b : Bool) → same_labels l k ≡ b → AllAbove l ks → stands_in l (keys es) ≡ true
        → of_groups k (parts_at es ks) ≡ cond (stands_in k ks) (of_key k es) none
        → all (map field (map (λ (q : GroupPart). q.partial) (cond b (record { key = l; partial = partial_of (values_of (filter (has_key l) es)) } ∷ filter (λ (q : GroupPart). same_labels q.key k) (parts_at es ks)) (filter (λ (q : GroupPart). same_labels q.key k) (parts_at es ks)))))
        ≡ cond (same_labels k l || stands_in k ks) (of_key k es) none
    group_step es k l ks true e a s h =
        let is = same_is l k e in
        let absent : stands_in k ks ≡ false = sym (ap (λ x. stands_in x ks) is) ∙ below_all l ks a in
        ap (λ x. plus (field (partial_of (values_of (filter (has_key l) es)))) x) (h ∙ ap (λ b. cond b (of_key k es) none) absent)
        ∙ right none plus laws (field (partial_of (values_of (filter (has_key l) es))))
        ∙ fits_filled (filter (has_key l) es) (filled l es s)
        ∙ ap (λ x. of_key x es) is
        ∙ sym (ap (λ b. cond (b || stands_in k ks) (of_key k es) none) (same_turned k l ∙ e))
    group_step es k l ks false e a s h = h ∙ sym (ap (λ b. cond (b || stands_in k ks) (of_key k es) none) (same_turned k l ∙ e))

    groups_at : (es : List Element) (k : Pairs) (ks : List Pairs) → Ascends ks → ((l : Pairs) → stands_in l ks ≡ true → stands_in l (keys es) ≡ true)
        → of_groups k (parts_at es ks) ≡ cond (stands_in k ks) (of_key k es) none
    groups_at es k [] a s = refl
    groups_at es k (l ∷ ks) a s =
        group_step es k l ks (same_labels l k) refl a.0 (s l (first_in l ks))
        (groups_at es k ks a.1 (λ m h. s m (or_true (same_labels m l) (stands_in m ks) h)))

    absent_step : (k : Pairs) (e : Element) (rest : List Element) (b : Bool) → has_key k e ≡ b → (same_labels k (key e.labels) || stands_in k (keys rest)) ≡ false
        → (stands_in k (keys rest) ≡ false → of_key k rest ≡ none)
        → all (map weight (cond b (e ∷ filter (has_key k) rest) (filter (has_key k) rest))) ≡ none
    absent_step k e rest true h s go =
        let no : true ≡ false = sym (ap (λ b. b || stands_in k (keys rest)) (same_turned k (key e.labels) ∙ h)) ∙ s in
        cc
    absent_step k e rest false h s go = go (sym (ap (λ b. b || stands_in k (keys rest)) (same_turned k (key e.labels) ∙ h)) ∙ s)

    absent_key : (k : Pairs) (es : List Element) → stands_in k (keys es) ≡ false → of_key k es ≡ none
    absent_key k [] s = refl
    absent_key k (e ∷ es) s = absent_step k e es (has_key k e) refl s (absent_key k es)

    either_key : (k : Pairs) (es : List Element) (b : Bool) → stands_in k (distinct (keys es)) ≡ b → cond b (of_key k es) none ≡ of_key k es
    either_key k es true e = refl
    either_key k es false e = sym (absent_key k es (sym (distinct_in k (keys es)) ∙ e))

    of_part : (k : Pairs) (es : List Element) → of_groups k (partials g es) ≡ of_key k es
    of_part k es =
        groups_at es k (distinct (keys es)) (distinct_ascends (keys es)) (λ l h. sym (distinct_in l (keys es)) ∙ h)
        ∙ either_key k es (stands_in k (distinct (keys es))) refl

    of_append : (k : Pairs) (xs ys : List GroupPart) → of_groups k (xs ++ ys) ≡ plus (of_groups k xs) (of_groups k ys)
    of_append k xs ys =
        ap (λ ps. all (map field ps)) (known_append k xs ys)
        ∙ ap all (map-append field (known k xs) (known k ys))
        ∙ fold_append none plus laws (map field (known k xs)) (map field (known k ys))

    of_parts : (part : ℕ → List Element) (k : Pairs) (n : ℕ) → of_groups k (all_groups (parts part n)) ≡ fold_below none plus laws (λ i. of_key k (part i)) n
    of_parts part k zero = refl
    of_parts part k (suc n) =
        let last = partials g (part n) in
        ap (of_groups k) (groups_append (parts part n) last)
        ∙ of_append k (all_groups (parts part n)) (last ++ [])
        ∙ ap (plus (of_groups k (all_groups (parts part n)))) (of_append k last [] ∙ right none plus laws (of_groups k last) ∙ of_part k (part n))
        ∙ ap (λ x. plus x (of_key k (part n))) (of_parts part k n)

    -- over all shards
    pub of_shards : (n : ℕ) → 0 < n → (es : List Element) (k : Pairs) → of_groups k (all_groups (parts (λ i. filter (in_shard n i) es) n)) ≡ of_key k es
    of_shards n h es k =
        of_parts (λ i. filter (in_shard n i) es) k n
        ∙ below_alike none plus laws (λ i. of_key k (filter (in_shard n i) es)) (λ i. all (map weight (filter (in_shard n i) (filter (has_key k) es))))
        (λ i. ap (λ zs. all (map weight zs)) (filters_turned (has_key k) (in_shard n i) es)) n
        ∙ fold_of_shards none plus laws n h weight (filter (has_key k) es)

-- ---- sums, numbers, least and greatest values

sum_puts : Puts (pos 0) (λ a b. a +ℤ b)
sum_puts = record { left = +ℤ_idl; assoc = λ x y z. omega (arith, ints); comm = +ℤ_comm }

count_puts : Puts 0 (λ a b. a + b)
count_puts = record { left = λ x. omega arith; assoc = add_assoc; comm = add_comm }

-- the less, or the greater, of two, where there are two
abbrev either_by : (ℤ → ℤ → ℤ) → Option ℤ → Option ℤ → Option ℤ
either_by f None o = o
either_by f (Some a) None = Some a
either_by f (Some a) (Some b) = Some (f a b)

module _ (f : ℤ → ℤ → ℤ) (f_assoc : (a b c : ℤ) → f (f a b) c ≡ f a (f b c)) (f_comm : (a b : ℤ) → f a b ≡ f b a) where
  either_assoc : (x y z : Option ℤ) → either_by f (either_by f x y) z ≡ either_by f x (either_by f y z)
  either_assoc None y z = refl
  either_assoc (Some a) None z = refl
  either_assoc (Some a) (Some b) None = refl
  either_assoc (Some a) (Some b) (Some c) = ap Some (f_assoc a b c)

  either_comm : (x y : Option ℤ) → either_by f x y ≡ either_by f y x
  either_comm None None = refl
  either_comm None (Some b) = refl
  either_comm (Some a) None = refl
  either_comm (Some a) (Some b) = ap Some (f_comm a b)

  pub either_puts : Puts None (either_by f)
  either_puts = record { left = λ x. refl; assoc = either_assoc; comm = either_comm }

least_puts : Puts None (either_by int_min)
least_puts = either_puts int_min (λ a b c. grind (arith, ints)) (λ a b. grind (arith, ints))

greatest_puts : Puts None (either_by int_max)
greatest_puts = either_puts int_max (λ a b c. grind (arith, ints)) (λ a b. grind (arith, ints))

total_is : (vs : List ℤ) → total vs ≡ fold (pos 0) (λ a b. a +ℤ b) sum_puts vs
total_is [] = refl
total_is (v ∷ vs) = ap (λ z. v +ℤ z) (total_is vs)

added_is : (ns : List ℕ) → added ns ≡ fold 0 (λ a b. a + b) count_puts ns
added_is [] = refl
added_is (n ∷ ns) = ap (λ m. n + m) (added_is ns)

length_is : (es : List Element) → length (values_of es) ≡ fold 0 (λ a b. a + b) count_puts (map (λ e. 1) es)
length_is [] = refl
length_is (e ∷ es) =
    let rest : length (values_of es) ≡ fold 0 (λ a b. a + b) count_puts (map (λ e. 1) es) = length_is es in
    omega (arith, rest)

least_is : (v : ℤ) (vs : List ℤ) → fold None (either_by int_min) least_puts (map Some (v ∷ vs)) ≡ Some (least (v ∷ vs))
least_is v [] = refl
least_is v (w ∷ ws) = ap (either_by int_min (Some v)) (least_is w ws)

greatest_is : (v : ℤ) (vs : List ℤ) → fold None (either_by int_max) greatest_puts (map Some (v ∷ vs)) ≡ Some (greatest (v ∷ vs))
greatest_is v [] = refl
greatest_is v (w ∷ ws) = ap (either_by int_max (Some v)) (greatest_is w ws)

least_found : (vs : List ℤ) → unwrap_or (fold None (either_by int_min) least_puts (map Some vs)) (pos 0) ≡ least vs
least_found [] = refl
least_found (v ∷ vs) = ap (λ o. unwrap_or o (pos 0)) (least_is v vs)

greatest_found : (vs : List ℤ) → unwrap_or (fold None (either_by int_max) greatest_puts (map Some vs)) (pos 0) ≡ greatest vs
greatest_found [] = refl
greatest_found (v ∷ vs) = ap (λ o. unwrap_or o (pos 0)) (greatest_is v vs)

twice_mapped : {X Y Z : Type 0} (f : X → Y) (h : Y → Z) (xs : List X) → map h (map f xs) ≡ map (λ x. h (f x)) xs
twice_mapped f h [] = refl
twice_mapped f h (x ∷ xs) = ap (λ zs. h (f x) ∷ zs) (twice_mapped f h xs)

module _ (g : Grouped) (n : ℕ) (positive : 0 < n) (es : List Element) where
  abbrev shard_parts : List PartData
  shard_parts = parts g (λ i. filter (in_shard n i) es) n

  abbrev of_all : Pairs → List Element
  of_all k = filter (has_key g k) es

  abbrev shards_know : Pairs → List Partial
  shards_know k = known g k (all_groups shard_parts)

  one_sum : (k : Pairs) → total (map (λ p. p.sum) (shards_know k)) ≡ total (values_of (of_all k))
  one_sum k =
      total_is (map (λ p. p.sum) (shards_know k))
      ∙ of_shards g (pos 0) (λ a b. a +ℤ b) sum_puts (λ p. p.sum) (λ e. e.value) (λ e rest. total_is (values_of (e ∷ rest))) n positive es k
      ∙ sym (total_is (values_of (of_all k)))

  one_count : (k : Pairs) → added (map (λ p. p.count) (shards_know k)) ≡ length (values_of (of_all k))
  one_count k =
      added_is (map (λ p. p.count) (shards_know k))
      ∙ of_shards g 0 (λ a b. a + b) count_puts (λ p. p.count) (λ e. 1) (λ e rest. length_is (e ∷ rest)) n positive es k
      ∙ sym (length_is (of_all k))

  one_least : (k : Pairs) → least (map (λ p. p.least) (shards_know k)) ≡ least (values_of (of_all k))
  one_least k =
      let fold_all : List (Option ℤ) → Option ℤ = fold None (either_by int_min) least_puts in
      sym (least_found (map (λ p. p.least) (shards_know k)))
      ∙ ap (λ os. unwrap_or (fold_all os) (pos 0)) (twice_mapped (λ (p : Partial). p.least) Some (shards_know k))
      ∙ ap (λ o. unwrap_or o (pos 0)) (of_shards g None (either_by int_min) least_puts (λ p. Some p.least) (λ e. Some e.value)
      (λ e rest. sym (least_is e.value (values_of rest)) ∙ ap fold_all (twice_mapped (λ (d : Element). d.value) Some (e ∷ rest))) n positive es k)
      ∙ ap (λ os. unwrap_or (fold_all os) (pos 0)) (sym (twice_mapped (λ (d : Element). d.value) Some (of_all k)))
      ∙ least_found (values_of (of_all k))

  one_greatest : (k : Pairs) → greatest (map (λ p. p.greatest) (shards_know k)) ≡ greatest (values_of (of_all k))
  one_greatest k =
      let fold_all : List (Option ℤ) → Option ℤ = fold None (either_by int_max) greatest_puts in
      sym (greatest_found (map (λ p. p.greatest) (shards_know k)))
      ∙ ap (λ os. unwrap_or (fold_all os) (pos 0)) (twice_mapped (λ (p : Partial). p.greatest) Some (shards_know k))
      ∙ ap (λ o. unwrap_or o (pos 0)) (of_shards g None (either_by int_max) greatest_puts (λ p. Some p.greatest) (λ e. Some e.value)
      (λ e rest. sym (greatest_is e.value (values_of rest)) ∙ ap fold_all (twice_mapped (λ (d : Element). d.value) Some (e ∷ rest))) n positive es k)
      ∙ ap (λ os. unwrap_or (fold_all os) (pos 0)) (sym (twice_mapped (λ (d : Element). d.value) Some (of_all k)))
      ∙ greatest_found (values_of (of_all k))

  abbrev made : ℤ → ℕ → ℤ → ℤ → Partial
  made a b c d = record { sum = a; count = b; least = c; greatest = d }

  -- all shards together know of a group what is known of the whole one
  one_partial : (k : Pairs) → merged (shards_know k) ≡ partial_of (values_of (of_all k))
  one_partial k =
      let ps = shards_know k in
      let vs = values_of (of_all k) in
      ap (λ a. made a (added (map (λ (p : Partial). p.count) ps)) (least (map (λ (p : Partial). p.least) ps)) (greatest (map (λ (p : Partial). p.greatest) ps))) (one_sum k)
      ∙ ap (λ b. made (total vs) b (least (map (λ (p : Partial). p.least) ps)) (greatest (map (λ (p : Partial). p.greatest) ps))) (one_count k)
      ∙ ap (λ c. made (total vs) (length vs) c (greatest (map (λ (p : Partial). p.greatest) ps))) (one_least k)
      ∙ ap (made (total vs) (length vs) (least vs)) (one_greatest k)

  -- ---- the keys

  keys_at : (xs : List Element) (ks : List Pairs) → map (λ (q : GroupPart). q.key) (parts_at g xs ks) ≡ ks
  keys_at xs [] = refl
  keys_at xs (k ∷ ks) = ap (λ zs. k ∷ zs) (keys_at xs ks)

  part_keys : (k : Pairs) (xs : List Element) → stands_in k (map (λ (q : GroupPart). q.key) (partials g xs)) ≡ stands_in k (keys g xs)
  part_keys k xs = ap (stands_in k) (keys_at xs (distinct (keys g xs))) ∙ distinct_in k (keys g xs)

  or_none : (b : Bool) → (b || false) ≡ b
  or_none true = refl
  or_none false = refl

  parts_keys : (part : ℕ → List Element) (k : Pairs) (m : ℕ)
      → stands_in k (map (λ (q : GroupPart). q.key) (all_groups (parts g part m))) ≡ any_below (λ i. stands_in k (keys g (part i))) m
  parts_keys part k zero = refl
  parts_keys part k (suc m) =
      let last = partials g (part m) in
      let before = all_groups (parts g part m) in
      ap (λ gs. stands_in k (map (λ (q : GroupPart). q.key) gs)) (groups_append g (parts g part m) last)
      ∙ ap (stands_in k) (map-append (λ (q : GroupPart). q.key) before (last ++ []))
      ∙ in_append k (map (λ (q : GroupPart). q.key) before) (map (λ (q : GroupPart). q.key) (last ++ []))
      ∙ ap (λ b. b || stands_in k (map (λ (q : GroupPart). q.key) (last ++ []))) (parts_keys part k m)
      ∙ ap (λ b. any_below (λ i. stands_in k (keys g (part i))) m || b)
      (ap (stands_in k) (map-append (λ (q : GroupPart). q.key) last []) ∙ in_append k (map (λ (q : GroupPart). q.key) last) [] ∙ or_none (stands_in k (map (λ (q : GroupPart). q.key) last)) ∙ part_keys k (part m))

  keys_any : (k : Pairs) (xs : List Element) → stands_in k (keys g xs) ≡ list_any (λ e. same_labels k (key g e.labels)) xs
  keys_any k [] = refl
  keys_any k (x ∷ xs) = ap (λ b. same_labels k (key g x.labels) || b) (keys_any k xs)

  abbrev part_key_list : List Pairs
  part_key_list = map (λ (q : GroupPart). q.key) (all_groups shard_parts)

  shard_keys : (k : Pairs) → stands_in k (distinct part_key_list) ≡ stands_in k (distinct (keys g es))
  shard_keys k =
      distinct_in k part_key_list
      ∙ parts_keys (λ i. filter (in_shard n i) es) k n
      ∙ below_alike false (λ a b. a || b) or_puts (λ i. stands_in k (keys g (filter (in_shard n i) es))) (λ i. list_any (λ e. same_labels k (key g e.labels)) (filter (in_shard n i) es))
      (λ i. keys_any k (filter (in_shard n i) es)) n
      ∙ any_of_shards n positive (λ e. same_labels k (key g e.labels)) es
      ∙ sym (keys_any k es)
      ∙ sym (distinct_in k (keys g es))

  one_key_set : distinct part_key_list ≡ distinct (keys g es)
  one_key_set =
      alike (distinct part_key_list) (distinct (keys g es)) (distinct_ascends part_key_list) (distinct_ascends (keys g es)) shard_keys

  -- ---- the merged cell

  abbrev value_of_part : AggOp → GroupPart → Element
  value_of_part op q = record { labels = q.key; value = finished op q.partial }

  abbrev value_of_group : AggOp → ElementGroup → Element
  value_of_group op found = record { labels = found.key; value = finished op (partial_of (values_of found.elements)) }

  elements_at : (op : AggOp) (ks : List Pairs)
      → map (value_of_part op) (map (λ k. record { key = k; partial = merged (shards_know k) }) ks)
      ≡ map (value_of_group op) (map (λ k. record { key = k; elements = of_all k }) ks)
  elements_at op [] = refl
  elements_at op (k ∷ ks) =
      ap (λ p. record { labels = k; value = finished op p } ∷ map (value_of_part op) (map (λ k. record { key = k; partial = merged (shards_know k) }) ks)) (one_partial k)
      ∙ ap (λ zs. record { labels = k; value = finished op (partial_of (values_of (of_all k))) } ∷ zs) (elements_at op ks)

  finished_groups : (op : AggOp) (gs : List ElementGroup) → is_mergeable op ≡ true → map (value_of_group op) gs ≡ aggregated op None gs
  finished_groups Sum gs h = refl
  finished_groups Avg gs h = refl
  finished_groups Min gs h = refl
  finished_groups Max gs h = refl
  finished_groups Count gs h = refl
  finished_groups Group gs h = cc
  finished_groups Topk gs h = cc
  finished_groups Bottomk gs h = cc
  finished_groups Quantile gs h = cc

  -- the merged parts of all shards are the aggregation of the whole
  pub merged_values : (op : AggOp) → is_mergeable op ≡ true → merged_cell op shard_parts ≡ Good (aggregate op g.without g.labels None es)
  merged_values op h =
      ap (λ o. cell_unless o (map (value_of_part op) (merged_groups (all_groups shard_parts)))) (no_errors g (λ i. filter (in_shard n i) es) n)
      ∙ ap (λ ks. Good (map (value_of_part op) (map (λ k. record { key = k; partial = merged (shards_know k) }) ks))) one_key_set
      ∙ ap Good (elements_at op (distinct (keys g es)) ∙ finished_groups op (groups (key g) es) h)
