-- Columns of steps, and of those behind them: the next one of both, and that they rise.
use Rattle.std.proofs.Common.{◌≡◌, ◌+◌, ◌++◌, ℕ, List, [], ◌∷◌, Option, Some, None, length, map, refl, sym, ap, ◌∙◌, subst}
use Rattle.std.specs.Prelude.{MatchOption}
use Rattle.std.specs.Option.{option_to_list}
use Rattle.std.specs.declared.cmp.Ordering.{Ordering}
use Rattle.std.specs.declared.cmp.Ordering.TheVariants.{Less, Equal, Greater}
use Rattle.pf_base.specs.LabelOrder.{labels_cmp}
use Rattle.pf_model.specs.Direct.{MatrixRow}
use Rattle.pf_columns.specs.Columns.{AreRising, ColumnData, columns_labels}
use Rattle.pf_columns.specs.Joins.{by_labels, column_of_both, fronts_cmp, into_columns, joined_columns, later_column}
use Rattle.pf_columns.specs.Runs.{by_order, into_rows, joined_rows, rows_labels}
use Rattle.pf_columns.proofs.JoinedRows.{joined_rise}

abbrev Cols : Type 0
Cols = List ColumnData

module _ (n : ℕ) where
  -- ---- the next column

  joined_none : (xs : Cols) → joined_columns n xs [] ≡ xs
  joined_none [] = refl
  joined_none (a ∷ xs) = refl

  less_by : (s : ColumnData) (xs ys : Cols) → fronts_cmp (s ∷ xs) ys ≡ Less → joined_columns n (s ∷ xs) ys ≡ s ∷ joined_columns n xs ys
  less_by s xs [] h = ap (λ cs. s ∷ cs) (sym (joined_none xs))
  less_by s xs (b ∷ ys) h = ap (λ o. by_labels o n s b (joined_columns n xs (b ∷ ys)) (joined_columns n xs ys) (into_columns n s xs (joined_columns n xs) ys)) h

  next_less : (s : ColumnData) (xs ys rest : Cols) → Less ≡ fronts_cmp xs ys → xs ≡ s ∷ rest → joined_columns n xs ys ≡ s ∷ joined_columns n rest ys
  next_less s xs ys rest h e =
      ap (λ cs. joined_columns n cs ys) e ∙ less_by s rest ys (ap (λ cs. fronts_cmp cs ys) (sym e) ∙ sym h)

  none_by : (ys : Cols) → Less ≡ fronts_cmp [] ys → joined_columns n [] ys ≡ []
  none_by [] h = refl
  none_by (b ∷ ys) h = cc

  next_none : (xs ys : Cols) → Less ≡ fronts_cmp xs ys → xs ≡ [] → joined_columns n xs ys ≡ []
  next_none xs ys h e = ap (λ cs. joined_columns n cs ys) e ∙ none_by ys (h ∙ ap (λ cs. fronts_cmp cs ys) e)

  empty : (xs : Cols) → length xs ≡ 0 → xs ≡ []
  empty [] h = refl
  empty (x ∷ xs) h = cc

  pub less_by_pop : (o : Option ColumnData) (xs ys rest : Cols) (k m : ℕ) → k ≡ length xs → Less ≡ fronts_cmp xs ys → xs ≡ option_to_list o ++ rest
      → MatchOption o ((k ≡ 0) × (m ≡ 0)) (λ _. m + 1 ≡ k) → MatchOption o (joined_columns n xs ys ≡ []) (λ s. joined_columns n xs ys ≡ s ∷ joined_columns n rest ys)
  less_by_pop None xs ys rest k m l h e p = next_none xs ys h (empty xs (sym l ∙ p.0))
  less_by_pop (Some s) xs ys rest k m l h e p = next_less s xs ys rest h e

  greater_by : (s : ColumnData) (xs ys : Cols) → fronts_cmp xs (s ∷ ys) ≡ Greater → joined_columns n xs (s ∷ ys) ≡ later_column n s ∷ joined_columns n xs ys
  greater_by s [] ys h = refl
  greater_by s (a ∷ xs) ys h = ap (λ o. by_labels o n a s (joined_columns n xs (s ∷ ys)) (joined_columns n xs ys) (into_columns n a xs (joined_columns n xs) ys)) h

  pub next_greater : (s : ColumnData) (xs ys rest : Cols) → Greater ≡ fronts_cmp xs ys → ys ≡ s ∷ rest → joined_columns n xs ys ≡ later_column n s ∷ joined_columns n xs rest
  next_greater s xs ys rest h e = ap (joined_columns n xs) e ∙ greater_by s xs rest (ap (fronts_cmp xs) (sym e) ∙ sym h)

  pub next_equal : (a b : ColumnData) (xs ys xs' ys' : Cols) → Equal ≡ fronts_cmp xs ys → xs ≡ a ∷ xs' → ys ≡ b ∷ ys'
      → joined_columns n xs ys ≡ column_of_both n a b ∷ joined_columns n xs' ys'
  next_equal a b xs ys xs' ys' h p q =
      (λ i. joined_columns n (p i) (q i))
      ∙ ap (λ o. by_labels o n a b (joined_columns n xs' (b ∷ ys')) (joined_columns n xs' ys') (into_columns n a xs' (joined_columns n xs') ys'))
      ((λ i. fronts_cmp (sym p i) (sym q i)) ∙ sym h)

  -- ---- they rise: their labels are those of rows that are joined

  abbrev bare : Cols → List MatrixRow
  bare cs = map (λ c. record { labels = c.labels; points = [] }) cs

  same_labels : (cs : Cols) → columns_labels cs ≡ rows_labels (bare cs)
  same_labels [] = refl
  same_labels (c ∷ cs) = ap (λ ls. c.labels ∷ ls) (same_labels cs)

  later_labels : (cs : Cols) → columns_labels (map (later_column n) cs) ≡ rows_labels (bare cs)
  later_labels [] = refl
  later_labels (c ∷ cs) = ap (λ ls. c.labels ∷ ls) (later_labels cs)

  abbrev row : ColumnData → MatrixRow
  row c = record { labels = c.labels; points = [] }

  ordered_labels : (o : Ordering) (a b : ColumnData) (x y z : Cols) (p q r : List MatrixRow) → columns_labels x ≡ rows_labels p → columns_labels y ≡ rows_labels q → columns_labels z ≡ rows_labels r
      → columns_labels (by_labels o n a b x y z) ≡ rows_labels (by_order o (row a) (row b) p q r)
  ordered_labels Less a b x y z p q r e f g = ap (λ ls. a.labels ∷ ls) e
  ordered_labels Equal a b x y z p q r e f g = ap (λ ls. a.labels ∷ ls) f
  ordered_labels Greater a b x y z p q r e f g = ap (λ ls. b.labels ∷ ls) g

  into_labels : (a : ColumnData) (xs : Cols) (rest : Cols → Cols) (others : List MatrixRow → List MatrixRow)
      → ((ys : Cols) → columns_labels (rest ys) ≡ rows_labels (others (bare ys)))
      → (ys : Cols) → columns_labels (into_columns n a xs rest ys) ≡ rows_labels (into_rows (row a) (bare xs) others (bare ys))
  into_labels a xs rest others each [] = ap (λ ls. a.labels ∷ ls) (same_labels xs)
  into_labels a xs rest others each (b ∷ ys) =
      ordered_labels (labels_cmp a.labels b.labels) a b (rest (b ∷ ys)) (rest ys) (into_columns n a xs rest ys) (others (row b ∷ bare ys)) (others (bare ys))
      (into_rows (row a) (bare xs) others (bare ys)) (each (b ∷ ys)) (each ys) (into_labels a xs rest others each ys)

  joined_labels : (xs ys : Cols) → columns_labels (joined_columns n xs ys) ≡ rows_labels (joined_rows (bare xs) (bare ys))
  joined_labels [] ys = later_labels ys
  joined_labels (a ∷ xs) ys = into_labels a xs (joined_columns n xs) (joined_rows (bare xs)) (joined_labels xs) ys

  pub joined_rising : (xs ys : Cols) → AreRising (columns_labels xs) → AreRising (columns_labels ys) → AreRising (columns_labels (joined_columns n xs ys))
  joined_rising xs ys r s =
      subst AreRising (sym (joined_labels xs ys))
      (joined_rise (bare xs) (subst AreRising (same_labels xs) r) (bare ys) (subst AreRising (same_labels ys) s))
