-- What the columns are at a step whose places pass a test, and what one place more adds: its element, in label order.
use Rattle.std.proofs.Common.{◌≡◌, ◌<◌, ◌+◌, ℕ, zero, suc, ℤ, Bool, true, false, cond, Option, Some, None, List, [], ◌∷◌, ◌++◌, length, refl, sym, ap, ◌∙◌, arith}
use Rattle.std.specs.Prelude.{slice_index_or}
use Rattle.std.specs.Ordering.{is_gt, ordering_reverse}
use Rattle.std.specs.declared.cmp.Ordering.TheVariants.{Less}
use Rattle.pf_base.specs.LabelSets.{Pairs}
use Rattle.pf_base.specs.LabelOrder.{labels_cmp, labels_total}
use Rattle.pf_base.specs.Sorting.{ins}
use Rattle.pf_model.specs.declared.cell.Element.{Element}
use Rattle.pf_model.specs.Cells.{element, element_cmp}
use Rattle.pf_model.proofs.SelectorLabels.{AllAbove, ElementsAbove}
use Rattle.pf_columns.specs.Columns.{AreRising, ColumnData, cell_at, columns_labels, value_in}
use Rattle.pf_columns.specs.Ranks.{is_marked, kept_columns, kept_value, kept_values, no_column, value_at}
use Rattle.pf_columns.proofs.Rising.{above_one}
use Rattle.pf_columns.proofs.SortedColumns.{passes}

pub none_added : (i : ℕ) → i ≡ i + 0
none_added i = omega arith

pub from_none : (j : ℕ) → 0 + j ≡ j
from_none j = omega arith

one_moved : (i j : ℕ) → (i + 1) + j ≡ i + suc j
one_moved i j = omega arith

-- the element of the column at a place
abbrev pub element_at : List ColumnData → ℕ → ℤ → Element
element_at cs p v = record { labels = (slice_index_or cs p no_column).labels; value = v }

module _ (k : ℕ) where
  -- the elements of the columns whose places pass, the first column's place being 0
  abbrev pub passing : (ℕ → Bool) → List ColumnData → List Element
  passing b [] = []
  passing b (c ∷ cs) = element c.labels (kept_value (b 0) (value_in c.values k)) ++ passing (λ j. b (suc j)) cs

  pub passing_alike : (b d : ℕ → Bool) (cs : List ColumnData) → ((j : ℕ) → j < length cs → b j ≡ d j) → passing b cs ≡ passing d cs
  passing_alike b d [] e = refl
  passing_alike b d (c ∷ cs) e =
      let rest = passing_alike (λ j. b (suc j)) (λ j. d (suc j)) cs (λ j h. e (suc j) (omega (arith, h))) in
      let here = e 0 (omega arith) in
      λ i. element c.labels (kept_value (here i) (value_in c.values k)) ++ rest i

  pub none_passing : (cs : List ColumnData) → passing (λ j. false) cs ≡ []
  none_passing [] = refl
  none_passing (c ∷ cs) = none_passing cs

  above_passing : (n : Pairs) (b : ℕ → Bool) (cs : List ColumnData) → AllAbove n (columns_labels cs) → ElementsAbove n (passing b cs)
  above_passing n b [] h = tt
  above_passing n b (c ∷ cs) h =
      above_one n c.labels (kept_value (b 0) (value_in c.values k)) (passing (λ j. b (suc j)) cs) h.0 (above_passing n (λ j. b (suc j)) cs h.1)

  ins_first : (e : Element) (es : List Element) → ElementsAbove e.labels es → ins element_cmp e es ≡ e ∷ es
  ins_first e [] h = refl
  ins_first e (f ∷ fs) h = ap (λ o. cond (is_gt o) (f ∷ ins element_cmp e fs) (e ∷ f ∷ fs)) h.0

  -- a column behind others
  pub behind : (n : Pairs) (cs : List ColumnData) (p : ℕ) (v : ℤ) → AllAbove n (columns_labels cs) → value_at cs p k ≡ Some v
      → labels_cmp n (slice_index_or cs p no_column).labels ≡ Less
  behind n [] p v a e = let no : ◌≡◌ {A = Option ℤ} None (Some v) = e in cc
  behind n (c ∷ cs) zero v a e = a.0
  behind n (c ∷ cs) (suc p) v a e = behind n cs p v a.1 e

  pub one_more : (cs : List ColumnData) → AreRising (columns_labels cs) → (p : ℕ) (v : ℤ) → value_at cs p k ≡ Some v → (b d : ℕ → Bool) → b p ≡ false → d p ≡ true
      → ((j : ℕ) → (j ≡ p → ⊥) → d j ≡ b j) → passing d cs ≡ ins element_cmp (element_at cs p v) (passing b cs)
  one_more [] r p v e b d n y s = let no : ◌≡◌ {A = Option ℤ} None (Some v) = e in cc
  one_more (c ∷ cs) r zero v e b d n y s =
      let first = element_at (c ∷ cs) zero v in
      let rest = passing_alike (λ j. d (suc j)) (λ j. b (suc j)) cs (λ j h. s (suc j) (λ q. omega (arith, q))) in
      (λ i. element c.labels (kept_value (y i) (e i)) ++ rest i)
      ∙ sym (ap (λ x. ins element_cmp first (element c.labels (kept_value x (value_in c.values k)) ++ passing (λ j. b (suc j)) cs)) n
      ∙ ins_first first (passing (λ j. b (suc j)) cs) (above_passing c.labels (λ j. b (suc j)) cs r.0))
  one_more (c ∷ cs) r (suc p) v e b d n y s =
      let rest = one_more cs r.1 p v e (λ j. b (suc j)) (λ j. d (suc j)) n y (λ j q. s (suc j) (λ w. q (omega (arith, w)))) in
      let here = s 0 (λ q. omega (arith, q)) in
      let l = (slice_index_or cs p no_column).labels in
      (λ i. element c.labels (kept_value (here i) (value_in c.values k)) ++ rest i)
      ∙ passes k l v c.labels (kept_value (b 0) (value_in c.values k)) (passing (λ j. b (suc j)) cs)
      (ap is_gt (labels_total.antisymm l c.labels ∙ ap ordering_reverse (behind c.labels cs p v r.0 e)))

  -- ---- the columns that are kept

  kept_at : (rows : List (List Bool)) (i s : ℕ) (vs : List (Option ℤ)) (j : ℕ) → value_in (kept_values rows i s vs) j ≡ kept_value (is_marked rows (s + j) i) (value_in vs j)
  kept_at rows i s [] j = sym (none_kept (is_marked rows (s + j) i)) where
    none_kept : (b : Bool) → ◌≡◌ {A = Option ℤ} (kept_value b None) None
    none_kept true = refl
    none_kept false = refl
  kept_at rows i s (v ∷ vs) zero = ap (λ m. kept_value (is_marked rows m i) v) (none_added s)
  kept_at rows i s (v ∷ vs) (suc j) = kept_at rows i (s + 1) vs j ∙ ap (λ m. kept_value (is_marked rows m i) (value_in vs j)) (one_moved s j)

  pub kept_cell : (rows : List (List Bool)) (i : ℕ) (cs : List ColumnData) → cell_at (kept_columns rows i cs) k ≡ passing (λ j. is_marked rows k (i + j)) cs
  kept_cell rows i [] = refl
  kept_cell rows i (c ∷ cs) =
      let value = kept_at rows i 0 c.values k ∙ (λ t. kept_value (is_marked rows (from_none k t) (none_added i t)) (value_in c.values k)) in
      let rest = kept_cell rows (i + 1) cs
      ∙ passing_alike (λ j. is_marked rows k ((i + 1) + j)) (λ j. is_marked rows k (i + suc j)) cs (λ j l. ap (is_marked rows k) (one_moved i j)) in
      λ t. element c.labels (value t) ++ rest t

pub kept_labels : (rows : List (List Bool)) (i : ℕ) (cs : List ColumnData) → columns_labels (kept_columns rows i cs) ≡ columns_labels cs
kept_labels rows i [] = refl
kept_labels rows i (c ∷ cs) = ap (λ ls. c.labels ∷ ls) (kept_labels rows (i + 1) cs)
