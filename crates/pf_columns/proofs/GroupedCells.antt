-- The groups of the cells of columns are found with the keys of all columns, which are the same at every step.
use Rattle.std.proofs.Common.{◌≡◌, ℕ, ℤ, Bool, true, false, cond, ◌&&◌, ◌||◌, Option, Some, None, List, [], ◌∷◌, ◌++◌, map, refl, sym, ap, ◌∙◌}
use Rattle.std.proofs.Math.Bool.{and-false}
use Rattle.std.specs.List.{filter}
use Rattle.std.specs.declared.cmp.Ordering.TheVariants.{Less}
use Rattle.pf_base.specs.LabelSets.{Pairs}
use Rattle.pf_base.specs.LabelOrder.{labels_cmp}
use Rattle.pf_model.specs.declared.cell.Element.{Element}
use Rattle.pf_model.specs.Aggregation.{each_group, groups}
use Rattle.pf_model.specs.Cells.{element, distinct, labels_of, values_of}
use Rattle.pf_model.specs.Lists.{joined}
use Rattle.pf_model.specs.Selection.{same_labels}
use Rattle.pf_model.proofs.KeySets.{alike, distinct_ascends, distinct_in, same_is, same_turned, stands_in}
use Rattle.pf_model.proofs.SelectorLabels.{AllAbove}
use Rattle.pf_columns.specs.Columns.{AreRising, ColumnData, value_in, cell_at, columns_labels}
use Rattle.pf_columns.specs.Groups.{members, found_of, grouped_at}
use Rattle.pf_columns.proofs.GroupKeys.{distinct_rising}
use Rattle.pf_columns.proofs.Occurring.{is_full}
use Rattle.pf_columns.proofs.Rising.{ascends}

module _ (p : Pairs → Bool) where
  below_some : (n l : Pairs) (ls : List Pairs) (b : Bool) → labels_cmp n l ≡ Less → AllAbove n ls → AllAbove n (cond b (l ∷ ls) ls)
  below_some n l ls true q h = (q, h)
  below_some n l ls false q h = h

  below_filter : (n : Pairs) (ls : List Pairs) → AllAbove n ls → AllAbove n (filter p ls)
  below_filter n [] h = tt
  below_filter n (l ∷ ls) h = below_some n l (filter p ls) (p l) h.0 (below_filter n ls h.1)

  rises_some : (l : Pairs) (ls : List Pairs) (b : Bool) → AllAbove l ls → AreRising ls → AreRising (cond b (l ∷ ls) ls)
  rises_some l ls true q h = (q, h)
  rises_some l ls false q h = h

  pub rises_filter : (ls : List Pairs) → AreRising ls → AreRising (filter p ls)
  rises_filter [] h = tt
  rises_filter (l ∷ ls) h = rises_some l (filter p ls) (p l) (below_filter l ls h.0) (rises_filter ls h.1)

  has_some : (n l : Pairs) (ls : List Pairs) (s b x : Bool) → same_labels n l ≡ s → p l ≡ b → stands_in n (filter p ls) ≡ (x && p n)
      → stands_in n (cond b (l ∷ filter p ls) (filter p ls)) ≡ ((s || x) && p n)
  has_some n l ls true true x s b h =
      let own : true ≡ p n = sym b ∙ ap p (sym (same_is n l s)) in
      ap (λ c. c || stands_in n (filter p ls)) s ∙ own
  has_some n l ls true false x s b h =
      let own : p n ≡ false = ap p (same_is n l s) ∙ b in
      h ∙ ap (λ c. x && c) own ∙ and-false x ∙ sym own
  has_some n l ls false true x s b h = ap (λ c. c || stands_in n (filter p ls)) s ∙ h
  has_some n l ls false false x s b h = h

  pub has_filter : (n : Pairs) (ls : List Pairs) → stands_in n (filter p ls) ≡ (stands_in n ls && p n)
  has_filter n [] = refl
  has_filter n (l ∷ ls) = has_some n l ls (same_labels n l) (p l) (stands_in n ls) refl refl (has_filter n ls)

module _ (key : Pairs → Pairs) where
  -- the elements that have a key
  abbrev pub of_key : Pairs → List Element → List Element
  of_key l es = filter (λ e. same_labels (key e.labels) l) es

  picked_by : (l m : Pairs) (k : ℕ) (o : Option ℤ) (vs : List (Option ℤ)) (cs : List ColumnData) (b : Bool) → same_labels (key m) l ≡ b → value_in vs k ≡ o
      → of_key l (cell_at cs k) ≡ cell_at (members key l cs) k
      → of_key l (element m o ++ cell_at cs k) ≡ cell_at (cond b (record { labels = m; values = vs } ∷ members key l cs) (members key l cs)) k
  picked_by l m k None vs cs true s v h = h ∙ ap (λ o. element m o ++ cell_at (members key l cs) k) (sym v)
  picked_by l m k None vs cs false s v h = h
  picked_by l m k (Some x) vs cs true s v h =
      ap (λ b. cond b (record { labels = m; value = x } ∷ of_key l (cell_at cs k)) (of_key l (cell_at cs k))) s
      ∙ ap (λ es. record { labels = m; value = x } ∷ es) h
      ∙ ap (λ o. element m o ++ cell_at (members key l cs) k) (sym v)
  picked_by l m k (Some x) vs cs false s v h =
      ap (λ b. cond b (record { labels = m; value = x } ∷ of_key l (cell_at cs k)) (of_key l (cell_at cs k))) s ∙ h

  pub picked : (l : Pairs) (k : ℕ) (cs : List ColumnData) → of_key l (cell_at cs k) ≡ cell_at (members key l cs) k
  picked l k [] = refl
  picked l k (c ∷ cs) = picked_by l c.labels k (value_in c.values k) c.values cs (same_labels (key c.labels) l) refl refl (picked l k cs)

  -- a key is one of the elements' where its group stands_in a value
  full_some : (n : Pairs) (e : Element) (es : List Element) (b : Bool) → (b || is_full (values_of (of_key n es))) ≡ is_full (values_of (cond b (e ∷ of_key n es) (of_key n es)))
  full_some n e es true = refl
  full_some n e es false = refl

  has_keys : (n : Pairs) (es : List Element) → stands_in n (map key (labels_of es)) ≡ is_full (values_of (of_key n es))
  has_keys n [] = refl
  has_keys n (e ∷ es) =
      (λ i. same_turned n (key e.labels) i || has_keys n es i) ∙ full_some n e es (same_labels (key e.labels) n)

  none_by : (n : Pairs) (k : ℕ) (c : ColumnData) (ms : List ColumnData) (b x : Bool) → (x ≡ false → is_full (values_of (cell_at ms k)) ≡ false)
      → (b || x) ≡ false → is_full (values_of (cell_at (cond b (c ∷ ms) ms) k)) ≡ false
  none_by n k c ms true x h e = let both : true ≡ false = e in cc
  none_by n k c ms false x h e = h e

  -- a key that no column stands_in stands_in no value
  no_value : (n : Pairs) (k : ℕ) (cs : List ColumnData) → stands_in n (map key (columns_labels cs)) ≡ false → is_full (values_of (cell_at (members key n cs) k)) ≡ false
  no_value n k [] e = refl
  no_value n k (c ∷ cs) e =
      none_by n k c (members key n cs) (same_labels (key c.labels) n) (stands_in n (map key (columns_labels cs))) (no_value n k cs)
      (ap (λ b. b || stands_in n (map key (columns_labels cs))) (same_turned (key c.labels) n) ∙ e)

  both : (a b : Bool) → (a ≡ false → b ≡ false) → b ≡ (a && b)
  both true b h = refl
  both false b h = h refl

  -- the keys of the elements at a step
  pub keys_at : (cs : List ColumnData) (k : ℕ)
      → distinct (map key (labels_of (cell_at cs k))) ≡ filter (λ l. is_full (values_of (cell_at (members key l cs) k))) (distinct (map key (columns_labels cs)))
  keys_at cs k =
      let es = cell_at cs k in
      let g : Pairs → List ℤ = λ l. values_of (cell_at (members key l cs) k) in
      let all = distinct (map key (columns_labels cs)) in
      alike (distinct (map key (labels_of es))) (filter (λ m. is_full (g m)) all) (distinct_ascends (map key (labels_of es)))
      (ascends _ (rises_filter (λ m. is_full (g m)) all (distinct_rising (map key (columns_labels cs)))))
      (λ n. distinct_in n (map key (labels_of es)) ∙ has_keys n es ∙ ap (λ xs. is_full (values_of xs)) (picked n k cs)
      ∙ both (stands_in n all) (is_full (g n)) (λ e. no_value n k cs (sym (distinct_in n (map key (columns_labels cs))) ∙ e))
      ∙ sym (has_filter (λ m. is_full (g m)) n all))

module _ (f : List ℤ → ℤ) (key : Pairs → Pairs) where
  row_by : (l : Pairs) (vs : List ℤ) (ms : List Pairs) (g : Pairs → List ℤ) → g l ≡ vs
      → map (λ m. record { labels = m; value = f (g m) }) (filter (λ m. is_full (g m)) ms) ≡ joined (λ m. element m (found_of f (g m))) ms
      → map (λ m. record { labels = m; value = f (g m) }) (cond (is_full vs) (l ∷ filter (λ m. is_full (g m)) ms) (filter (λ m. is_full (g m)) ms)) ≡ element l (found_of f vs) ++ joined (λ m. element m (found_of f (g m))) ms
  row_by l [] ms g e h = h
  row_by l (v ∷ vs) ms g e h = λ i. record { labels = l; value = f (e i) } ∷ h i

  full_rows : (g : Pairs → List ℤ) (ms : List Pairs) → map (λ m. record { labels = m; value = f (g m) }) (filter (λ m. is_full (g m)) ms) ≡ joined (λ m. element m (found_of f (g m))) ms
  full_rows g [] = refl
  full_rows g (m ∷ ms) = row_by m (g m) ms g refl (full_rows g ms)

  each_by : (es : List Element) (g : Pairs → List ℤ) → ((l : Pairs) → values_of (of_key key l es) ≡ g l) → (ls : List Pairs)
      → each_group f (map (λ l. record { key = l; elements = of_key key l es }) ls) ≡ map (λ l. record { labels = l; value = f (g l) }) ls
  each_by es g h [] = refl
  each_by es g h (l ∷ ls) = λ i. record { labels = l; value = f (h l i) } ∷ each_by es g h ls i

  pub grouped_is : (cs : List ColumnData) (k : ℕ) → each_group f (groups key (cell_at cs k)) ≡ grouped_at f key cs k
  grouped_is cs k =
      let g : Pairs → List ℤ = λ l. values_of (cell_at (members key l cs) k) in
      each_by (cell_at cs k) g (λ l. ap values_of (picked key l k cs)) (distinct (map key (labels_of (cell_at cs k))))
      ∙ ap (map (λ l. record { labels = l; value = f (g l) })) (keys_at key cs k)
      ∙ full_rows g (distinct (map key (columns_labels cs)))
