-- Rows in label order, of which those of one label set are joined.
use Rattle.std.proofs.Common.{◌≡◌, ◌+◌, ℕ, Bool, true, false, cond, Option, Some, None, List, [], ◌∷◌, ◌++◌, length, refl, sym, ap, ◌∙◌, subst, append-nil}
use Rattle.std.specs.Prelude.{MatchOption}
use Rattle.std.specs.Option.{option_to_list}
use Rattle.std.specs.Ordering.{is_eq, ordering_reverse}
use Rattle.std.specs.declared.cmp.Ordering.{Ordering}
use Rattle.std.specs.declared.cmp.Ordering.TheVariants.{Less, Equal, Greater}
use Rattle.pf_base.specs.LabelOrder.{labels_cmp, labels_exact, labels_total}
use Rattle.pf_base.specs.LabelSets.{Pairs}
use Rattle.pf_model.specs.Direct.{MatrixRow}
use Rattle.pf_model.specs.Selection.{same_labels}
use Rattle.pf_model.proofs.KeySets.{same_is, same_turned}
use Rattle.pf_model.proofs.SelectorLabels.{AllAbove, above_all}
use Rattle.pf_columns.specs.Columns.{AreRising}
use Rattle.pf_columns.specs.Runs.{by_order, heads_cmp, into_rows, joined_rows, points_for, row_of_both, rows_labels}

abbrev Rows : Type 0
Rows = List MatrixRow

abbrev Rise : Rows → Type 0
Rise rows = AreRising (rows_labels rows)

abbrev Above : Pairs → Rows → Type 0
Above l rows = AllAbove l (rows_labels rows)

-- ---- the next row

pub joined_none : (xs : Rows) → joined_rows xs [] ≡ xs
joined_none [] = refl
joined_none (a ∷ xs) = refl

less_by : (s : MatrixRow) (xs ys : Rows) → heads_cmp (s ∷ xs) ys ≡ Less → joined_rows (s ∷ xs) ys ≡ s ∷ joined_rows xs ys
less_by s xs [] h = ap (λ rows. s ∷ rows) (sym (joined_none xs))
less_by s xs (b ∷ ys) h = ap (λ o. by_order o s b (joined_rows xs (b ∷ ys)) (joined_rows xs ys) (into_rows s xs (joined_rows xs) ys)) h

pub next_less : (s : MatrixRow) (xs ys rest : Rows) → Less ≡ heads_cmp xs ys → xs ≡ s ∷ rest → joined_rows xs ys ≡ s ∷ joined_rows rest ys
next_less s xs ys rest h e =
    ap (λ rows. joined_rows rows ys) e ∙ less_by s rest ys (ap (λ rows. heads_cmp rows ys) (sym e) ∙ sym h)

none_by : (ys : Rows) → Less ≡ heads_cmp [] ys → joined_rows [] ys ≡ []
none_by [] h = refl
none_by (b ∷ ys) h = cc

pub next_none : (xs ys : Rows) → Less ≡ heads_cmp xs ys → xs ≡ [] → joined_rows xs ys ≡ []
next_none xs ys h e = ap (λ rows. joined_rows rows ys) e ∙ none_by ys (h ∙ ap (λ rows. heads_cmp rows ys) e)

empty : (xs : Rows) → length xs ≡ 0 → xs ≡ []
empty [] h = refl
empty (x ∷ xs) h = cc

pub less_by_pop : (o : Option MatrixRow) (xs ys rest : Rows) (n m : ℕ) → n ≡ length xs → Less ≡ heads_cmp xs ys → xs ≡ option_to_list o ++ rest
    → MatchOption o ((n ≡ 0) × (m ≡ 0)) (λ _. m + 1 ≡ n) → MatchOption o (joined_rows xs ys ≡ []) (λ s. joined_rows xs ys ≡ s ∷ joined_rows rest ys)
less_by_pop None xs ys rest n m l h e p = next_none xs ys h (empty xs (sym l ∙ p.0))
less_by_pop (Some s) xs ys rest n m l h e p = next_less s xs ys rest h e

greater_by : (s : MatrixRow) (xs ys : Rows) → heads_cmp xs (s ∷ ys) ≡ Greater → joined_rows xs (s ∷ ys) ≡ s ∷ joined_rows xs ys
greater_by s [] ys h = refl
greater_by s (a ∷ xs) ys h = ap (λ o. by_order o a s (joined_rows xs (s ∷ ys)) (joined_rows xs ys) (into_rows a xs (joined_rows xs) ys)) h

pub next_greater : (s : MatrixRow) (xs ys rest : Rows) → Greater ≡ heads_cmp xs ys → ys ≡ s ∷ rest → joined_rows xs ys ≡ s ∷ joined_rows xs rest
next_greater s xs ys rest h e = ap (joined_rows xs) e ∙ greater_by s xs rest (ap (heads_cmp xs) (sym e) ∙ sym h)

greater_none : (xs : Rows) → Greater ≡ heads_cmp xs [] → ⊥
greater_none [] h = cc
greater_none (a ∷ xs) h = cc

pub next_equal : (a b : MatrixRow) (xs ys xs' ys' : Rows) → Equal ≡ heads_cmp xs ys → xs ≡ a ∷ xs' → ys ≡ b ∷ ys' → joined_rows xs ys ≡ row_of_both a b ∷ joined_rows xs' ys'
next_equal a b xs ys xs' ys' h p q =
    (λ i. joined_rows (p i) (q i))
    ∙ ap (λ o. by_order o a b (joined_rows xs' (b ∷ ys')) (joined_rows xs' ys') (into_rows a xs' (joined_rows xs') ys'))
    ((λ i. heads_cmp (sym p i) (sym q i)) ∙ sym h)

-- ---- they rise

module _ (l : Pairs) where
  ordered_above : (o : Ordering) (a b : MatrixRow) (x y z : Rows) → labels_cmp l a.labels ≡ Less → labels_cmp l b.labels ≡ Less
      → Above l x → Above l y → Above l z → Above l (by_order o a b x y z)
  ordered_above Less a b x y z p q h i j = (p, h)
  ordered_above Equal a b x y z p q h i j = (p, i)
  ordered_above Greater a b x y z p q h i j = (q, j)

  into_above : (a : MatrixRow) (xs : Rows) (rest : Rows → Rows) → ((ys : Rows) → Above l ys → Above l (rest ys)) → labels_cmp l a.labels ≡ Less → Above l xs
      → (ys : Rows) → Above l ys → Above l (into_rows a xs rest ys)
  into_above a xs rest each p h [] g = (p, h)
  into_above a xs rest each p h (b ∷ ys) g =
      ordered_above (labels_cmp a.labels b.labels) a b (rest (b ∷ ys)) (rest ys) (into_rows a xs rest ys) p g.0 (each (b ∷ ys) g) (each ys g.1)
      (into_above a xs rest each p h ys g.1)

  joined_above : (xs : Rows) → Above l xs → (ys : Rows) → Above l ys → Above l (joined_rows xs ys)
  joined_above [] h ys g = g
  joined_above (a ∷ xs) h ys g = into_above a xs (joined_rows xs) (joined_above xs h.1) h.0 h.1 ys g

pub turned : (k l : Pairs) → labels_cmp k l ≡ Greater → labels_cmp l k ≡ Less
turned k l h = labels_total.antisymm l k ∙ ap ordering_reverse h

module _ (a : MatrixRow) (xs : Rows) (rest : Rows → Rows) (h : Above a.labels xs) (each : (l : Pairs) → Above l xs → (ys : Rows) → Above l ys → Above l (rest ys)) where
  ordered_rises : (b : MatrixRow) (ys : Rows) (o : Ordering) → labels_cmp a.labels b.labels ≡ o → Rise (b ∷ ys)
      → Rise (rest (b ∷ ys)) → Rise (rest ys) → Rise (into_rows a xs rest ys)
      → Rise (by_order o a b (rest (b ∷ ys)) (rest ys) (into_rows a xs rest ys))
  ordered_rises b ys Less e g x y z = (each a.labels h (b ∷ ys) (e, above_all a.labels b.labels (rows_labels ys) e g.0), x)
  ordered_rises b ys Equal e g x y z =
      (each a.labels h ys (subst (λ l. Above l ys) (sym (labels_exact a.labels b.labels e)) g.0), y)
  ordered_rises b ys Greater e g x y z =
      let below = turned a.labels b.labels e in
      let above : Above b.labels xs = above_all b.labels a.labels (rows_labels xs) below h in
      (into_above b.labels a xs rest (each b.labels above) below above ys g.0, z)

  into_rises : Rise xs → ((ys : Rows) → Rise ys → Rise (rest ys)) → (ys : Rows) → Rise ys → Rise (into_rows a xs rest ys)
  into_rises r rises [] g = (h, r)
  into_rises r rises (b ∷ ys) g =
      ordered_rises b ys (labels_cmp a.labels b.labels) refl g (rises (b ∷ ys) g) (rises ys g.1) (into_rises r rises ys g.1)

pub joined_rise : (xs : Rows) → Rise xs → (ys : Rows) → Rise ys → Rise (joined_rows xs ys)
joined_rise [] h ys g = g
joined_rise (a ∷ xs) h ys g = into_rises a xs (joined_rows xs) h.0 (λ l k. joined_above l xs k) h.1 (joined_rise xs h.1) ys g

-- ---- the points of a label set

pub no_row : (l : Pairs) (rows : Rows) → Above l rows → points_for l rows ≡ []
no_row l [] h = refl
no_row l (r ∷ rows) h = ap (λ b. cond b r.points (points_for l rows)) (same_turned r.labels l ∙ ap is_eq h.0) ∙ no_row l rows h.1

module _ (l : Pairs) where
  less_points : (b : Bool) (a : MatrixRow) (xs ys more : Rows) → same_labels a.labels l ≡ b → Above a.labels ys → points_for l more ≡ points_for l xs ++ points_for l ys
      → cond b a.points (points_for l more) ≡ cond b a.points (points_for l xs) ++ points_for l ys
  less_points true a xs ys more s h e =
      sym (append-nil a.points)
      ∙ ap (λ ps. a.points ++ ps) (sym (no_row l ys (subst (λ k. Above k ys) (same_is a.labels l s) h)))
  less_points false a xs ys more s h e = e

  equal_points : (b : Bool) (a c : MatrixRow) (xs ys more : Rows) → points_for l more ≡ points_for l xs ++ points_for l ys
      → cond b (a.points ++ c.points) (points_for l more) ≡ cond b a.points (points_for l xs) ++ cond b c.points (points_for l ys)
  equal_points true a c xs ys more e = refl
  equal_points false a c xs ys more e = e

  greater_points : (b : Bool) (c : MatrixRow) (xs ys more : Rows) → same_labels c.labels l ≡ b → Above c.labels xs → points_for l more ≡ points_for l xs ++ points_for l ys
      → cond b c.points (points_for l more) ≡ points_for l xs ++ cond b c.points (points_for l ys)
  greater_points true c xs ys more s h e = ap (λ ps. ps ++ c.points) (sym (no_row l xs (subst (λ k. Above k xs) (same_is c.labels l s) h)))
  greater_points false c xs ys more s h e = e

  module _ (a : MatrixRow) (xs : Rows) (rest : Rows → Rows) (h : Above a.labels xs) where
    ordered_points : (b : MatrixRow) (ys : Rows) (o : Ordering) → labels_cmp a.labels b.labels ≡ o → Rise (b ∷ ys)
        → points_for l (rest (b ∷ ys)) ≡ points_for l xs ++ points_for l (b ∷ ys)
        → points_for l (rest ys) ≡ points_for l xs ++ points_for l ys
        → points_for l (into_rows a xs rest ys) ≡ points_for l (a ∷ xs) ++ points_for l ys
        → points_for l (by_order o a b (rest (b ∷ ys)) (rest ys) (into_rows a xs rest ys)) ≡ points_for l (a ∷ xs) ++ points_for l (b ∷ ys)
    ordered_points b ys Less e g x y z =
        less_points (same_labels a.labels l) a xs (b ∷ ys) (rest (b ∷ ys)) refl (e, above_all a.labels b.labels (rows_labels ys) e g.0) x
    ordered_points b ys Equal e g x y z =
        equal_points (same_labels a.labels l) a b xs ys (rest ys) y
        ∙ ap (λ k. points_for l (a ∷ xs) ++ cond (same_labels k l) b.points (points_for l ys)) (labels_exact a.labels b.labels e)
    ordered_points b ys Greater e g x y z =
        let below = turned a.labels b.labels e in
        greater_points (same_labels b.labels l) b (a ∷ xs) ys (into_rows a xs rest ys) refl (below, above_all b.labels a.labels (rows_labels xs) below h) z

    into_points : ((ys : Rows) → Rise ys → points_for l (rest ys) ≡ points_for l xs ++ points_for l ys)
        → (ys : Rows) → Rise ys → points_for l (into_rows a xs rest ys) ≡ points_for l (a ∷ xs) ++ points_for l ys
    into_points each [] g = sym (append-nil (points_for l (a ∷ xs)))
    into_points each (b ∷ ys) g =
        ordered_points b ys (labels_cmp a.labels b.labels) refl g (each (b ∷ ys) g) (each ys g.1) (into_points each ys g.1)

  pub joined_points : (xs : Rows) → Rise xs → (ys : Rows) → Rise ys → points_for l (joined_rows xs ys) ≡ points_for l xs ++ points_for l ys
  joined_points [] h ys g = refl
  joined_points (a ∷ xs) h ys g = into_points a xs (joined_rows xs) h.0 (joined_points xs h.1) ys g
