-- Columns of equal labels, one behind the other, are fused, and each step stays what it was.
use Rattle.std.proofs.Common.{◌≡◌, ◌<◌, ℕ, ℤ, Bool, true, false, cond, ◌||◌, Option, Some, None, List, [], ◌∷◌, ◌++◌, refl, sym, ap, ◌∙◌, subst, append_assoc, append-nil, length, arith}
use Rattle.std.specs.List.{list_any}
use Rattle.std.specs.declared.cmp.Ordering.TheVariants.{Less}
use Rattle.pf_base.specs.LabelSets.{Pairs}
use Rattle.pf_base.specs.LabelOrder.{labels_cmp, labels_total}
use Rattle.pf_base.specs.Sorting.{isort}
use Rattle.pf_model.specs.declared.cell.Element.{Element}
use Rattle.pf_model.specs.declared.cell.ErrorKind.{ErrorKind}
use Rattle.pf_model.specs.declared.cell.ErrorKind.TheVariants.{DoubleLabels}
use Rattle.pf_model.specs.declared.cell.StepCell.TheVariants.{Good, Bad}
use Rattle.pf_model.specs.Cells.{cell_of, element, element_cmp, has_equal, labels_of}
use Rattle.pf_model.specs.Merging.{below}
use Rattle.pf_model.specs.Selection.{same_labels}
use Rattle.pf_model.proofs.KeySets.{same_is, same_self}
use Rattle.pf_model.proofs.SelectorLabels.{AllAbove}
use Rattle.pf_columns.specs.Columns.{AreRising, ColumnData, cell_at, columns_labels, value_in}
use Rattle.pf_columns.specs.Steps.{AddsClashes, IsFusion, bad_in, clash, column_cmp, either, step_at, unless_bad}
use Rattle.pf_columns.proofs.Below.{read_below}
use Rattle.pf_columns.proofs.Rising.{cell_rising, less_of}
use Rattle.pf_columns.proofs.SortedColumns.{NeverFall, NoneBelow, sorted_alike, sorted_never_fall}
use Rattle.pf_columns.proofs.JoinedRuns.{joined_append}

-- ---- two elements with equal labels

pub or_true : (b : Bool) → (b || true) ≡ true
or_true true = refl
or_true false = refl

doubled : (xs : List Element) (e f : Element) (ys : List Element) → same_labels e.labels f.labels ≡ true → has_equal (labels_of (xs ++ (e ∷ f ∷ ys))) ≡ true
doubled [] e f ys h = ap (λ b. (b || list_any (same_labels e.labels) (labels_of ys)) || has_equal (labels_of (f ∷ ys))) h
doubled (x ∷ xs) e f ys h = ap (λ b. list_any (same_labels x.labels) (labels_of (xs ++ (e ∷ f ∷ ys))) || b) (doubled xs e f ys h) ∙ or_true _

merge : (l : Pairs) (xs rest : List Element) (bad : Option ErrorKind) (a b : Option ℤ)
    → unless_bad (clash bad a b) (cell_of (xs ++ (element l (either a b) ++ rest))) ≡ unless_bad bad (cell_of (xs ++ (element l a ++ (element l b ++ rest))))
merge l xs rest (Some kind) a b = refl
merge l xs rest None None b = refl
merge l xs rest None (Some v) None = refl
merge l xs rest None (Some v) (Some w) =
    let e : Element = record { labels = l; value = v } in
    let f : Element = record { labels = l; value = w } in
    sym (ap (λ b. cond b (Bad DoubleLabels) (Good (isort element_cmp (xs ++ (e ∷ f ∷ rest))))) (doubled xs e f rest (same_self l)))

-- ---- two columns

pub fusion_is : (len : ℕ) (a b fusion : ColumnData) → fusion.labels ≡ a.labels
    → fusion.values ≡ below (λ k. either (value_in a.values k) (value_in b.values k)) len → IsFusion len a b fusion
fusion_is len a b fusion l v = record {
  labels = l;
  values = λ k h. read_below None fusion.values (λ j. either (value_in a.values j) (value_in b.values j)) len k v h;
}

pub clashes_are : (len : ℕ) (bads more : List (Option ErrorKind)) (a b : ColumnData)
    → more ≡ below (λ k. clash (bad_in bads k) (value_in a.values k) (value_in b.values k)) len → AddsClashes len bads a b more
clashes_are len bads more a b e k h = read_below None more (λ j. clash (bad_in bads j) (value_in a.values j) (value_in b.values j)) len k e h

kept_by : (bad : Option ErrorKind) (a b : Option ℤ) → clash None a b ≡ None → bad ≡ clash bad a b
kept_by None a b h = sym h
kept_by (Some kind) a b h = refl

pub no_clashes : (len : ℕ) (bads : List (Option ErrorKind)) (a b : ColumnData)
    → ((k : ℕ) → k < len → clash None (value_in a.values k) (value_in b.values k) ≡ None) → AddsClashes len bads a b bads
no_clashes len bads a b h k l = kept_by (bad_in bads k) (value_in a.values k) (value_in b.values k) (h k l)

-- ---- labels that rise, with one more

labels_behind : (cs : List ColumnData) (c : ColumnData) → columns_labels (cs ++ (c ∷ [])) ≡ columns_labels cs ++ (c.labels ∷ [])
labels_behind [] c = refl
labels_behind (d ∷ ds) c = ap (λ ls. d.labels ∷ ls) (labels_behind ds c)

above_behind : (n l m : Pairs) (ls : List Pairs) → labels_cmp l m ≡ Less → AllAbove n (ls ++ (l ∷ [])) → AllAbove n ((ls ++ (l ∷ [])) ++ (m ∷ []))
above_behind n l m [] p h = (h.0, (labels_total.trans n l m h.0 p, tt))
above_behind n l m (x ∷ xs) p h = (h.0, above_behind n l m xs p h.1)

rises_behind : (l m : Pairs) (ls : List Pairs) → labels_cmp l m ≡ Less → AreRising (ls ++ (l ∷ [])) → AreRising ((ls ++ (l ∷ [])) ++ (m ∷ []))
rises_behind l m [] p h = ((p, tt), (tt, tt))
rises_behind l m (x ∷ xs) p h = (above_behind x l m xs p h.0, rises_behind l m xs p h.1)

cell_behind : (k : ℕ) (cs : List ColumnData) (c : ColumnData) → cell_at (cs ++ (c ∷ [])) k ≡ cell_at cs k ++ element c.labels (value_in c.values k)
cell_behind k cs c =
    joined_append (λ d. element d.labels (value_in d.values k)) cs (c ∷ [])
    ∙ ap (λ es. cell_at cs k ++ es) (append-nil (element c.labels (value_in c.values k)))

-- ---- the columns that are done, the last one, and the rest, are all columns

pub record AreFused (cs : List ColumnData) (before : List (Option ErrorKind)) (len : ℕ) (done : List ColumnData) (last : ColumnData) (bads : List (Option ErrorKind)) (rest : List ColumnData) : Type 0 where
  pub rising : AreRising (columns_labels done ++ (last.labels ∷ []))
  pub order : NeverFall (last ∷ rest)
  pub cells : (k : ℕ) → k < len
      → unless_bad (bad_in bads k) (cell_of (cell_at done k ++ (element last.labels (value_in last.values k) ++ cell_at rest k)))
      ≡ unless_bad (bad_in before k) (cell_of (cell_at cs k))

module _ (cs : List ColumnData) (before : List (Option ErrorKind)) (len : ℕ) where
  pub fused_first : (all : List ColumnData) (c : ColumnData) (rest : List ColumnData) → cs ≡ isort column_cmp all → cs ≡ c ∷ rest → AreFused cs before len [] c before rest
  fused_first all c rest s e = record {
    rising = (tt, tt);
    order = subst NeverFall (sym s ∙ e) (sorted_never_fall all);
    cells = λ k h. ap (λ ds. unless_bad (bad_in before k) (cell_of (cell_at ds k))) (sym e);
  }

  fused_same : (done after : List ColumnData) (last c fusion : ColumnData) (bads more : List (Option ErrorKind)) (rest : List ColumnData)
      → AreFused cs before len done last bads (c ∷ rest) → same_labels last.labels c.labels ≡ true → after ≡ done
      → IsFusion len last c fusion → AddsClashes len bads last c more
      → AreFused cs before len after fusion more rest
  fused_same done after last c fusion bads more rest f s d n b = record {
    rising = subst (λ ds. AreRising (columns_labels ds ++ (fusion.labels ∷ []))) (sym d) (subst (λ l. AreRising (columns_labels done ++ (l ∷ []))) (sym n.labels) f.rising);
    order = (subst (λ l. NoneBelow l rest) (sym n.labels) f.order.0.1, f.order.1.1);
    cells = λ k h.
        (λ i. unless_bad (b k h i) (cell_of (cell_at (d i) k ++ (element (n.labels i) (n.values k h i) ++ cell_at rest k))))
        ∙ merge last.labels (cell_at done k) (cell_at rest k) (bad_in bads k) (value_in last.values k) (value_in c.values k)
        ∙ ap (λ l. unless_bad (bad_in bads k) (cell_of (cell_at done k ++ (element last.labels (value_in last.values k) ++ (element l (value_in c.values k) ++ cell_at rest k)))))
        (same_is last.labels c.labels s)
        ∙ f.cells k h;
  }

  next_as_it_is : (done : List ColumnData) (last c : ColumnData) (bads : List (Option ErrorKind)) (rest : List ColumnData)
      → AreFused cs before len done last bads (c ∷ rest) → same_labels last.labels c.labels ≡ false
      → AreFused cs before len (done ++ (last ∷ [])) c bads rest
  next_as_it_is done last c bads rest f s = record {
    rising = subst (λ ls. AreRising (ls ++ (c.labels ∷ []))) (sym (labels_behind done last))
        (rises_behind last.labels c.labels (columns_labels done) (less_of (labels_cmp last.labels c.labels) f.order.0.0 s) f.rising);
    order = f.order.1;
    cells = λ k h.
        ap (λ es. unless_bad (bad_in bads k) (cell_of (es ++ (element c.labels (value_in c.values k) ++ cell_at rest k)))) (cell_behind k done last)
        ∙ ap (λ es. unless_bad (bad_in bads k) (cell_of es)) (append_assoc (cell_at done k) (element last.labels (value_in last.values k)) (element c.labels (value_in c.values k) ++ cell_at rest k))
        ∙ f.cells k h;
  }

  fused_next : (done after : List ColumnData) (last c next : ColumnData) (bads more : List (Option ErrorKind)) (rest : List ColumnData)
      → AreFused cs before len done last bads (c ∷ rest) → same_labels last.labels c.labels ≡ false
      → after ≡ done ++ (last ∷ []) → next ≡ c → more ≡ bads
      → AreFused cs before len after next more rest
  fused_next done after last c next bads more rest f s d n b =
      subst (λ ds. AreFused cs before len ds next more rest) (sym d)
      (subst (λ x. AreFused cs before len (done ++ (last ∷ [])) x more rest) (sym n)
      (subst (λ bs. AreFused cs before len (done ++ (last ∷ [])) c bs rest) (sym b) (next_as_it_is done last c bads rest f s)))

  more_by : (done after : List ColumnData) (last c next : ColumnData) (bads more : List (Option ErrorKind)) (rest : List ColumnData) (b : Bool) → same_labels last.labels c.labels ≡ b
      → AreFused cs before len done last bads (c ∷ rest)
      → (same_labels last.labels c.labels ≡ true → (after ≡ done) × IsFusion len last c next × AddsClashes len bads last c more)
      → (same_labels last.labels c.labels ≡ false → (after ≡ done ++ (last ∷ [])) × (next ≡ c) × (more ≡ bads))
      → AreFused cs before len after next more rest
  more_by done after last c next bads more rest true e f s o = let h = s e in fused_same done after last c next bads more rest f e h.0 h.1 h.2
  more_by done after last c next bads more rest false e f s o = let h = o e in fused_next done after last c next bads more rest f e h.0 h.1 h.2

  -- one column more
  pub fused_more : (done after : List ColumnData) (last c next : ColumnData) (bads more : List (Option ErrorKind)) (rest : List ColumnData)
      → AreFused cs before len done last bads (c ∷ rest)
      → (same_labels last.labels c.labels ≡ true → (after ≡ done) × IsFusion len last c next × AddsClashes len bads last c more)
      → (same_labels last.labels c.labels ≡ false → (after ≡ done ++ (last ∷ [])) × (next ≡ c) × (more ≡ bads))
      → AreFused cs before len after next more rest
  fused_more done after last c next bads more rest f s o = more_by done after last c next bads more rest (same_labels last.labels c.labels) refl f s o

  pub fused_rise : (done all : List ColumnData) (last : ColumnData) (bads : List (Option ErrorKind)) (rest : List ColumnData)
      → AreFused cs before len done last bads rest → all ≡ done ++ (last ∷ []) → AreRising (columns_labels all)
  fused_rise done all last bads rest f e = subst (λ ds. AreRising (columns_labels ds)) (sym e) (subst AreRising (sym (labels_behind done last)) f.rising)

  pub fused_cell : (done all : List ColumnData) (last : ColumnData) (bads : List (Option ErrorKind)) → AreFused cs before len done last bads [] → all ≡ done ++ (last ∷ [])
      → (k : ℕ) → k < len → step_at (record { columns = all; bads = bads }) k ≡ unless_bad (bad_in before k) (cell_of (cell_at cs k))
  fused_cell done all last bads f e k h =
      ap (unless_bad (bad_in bads k)) (cell_rising k all (fused_rise done all last bads [] f e))
      ∙ ap (λ ds. unless_bad (bad_in bads k) (cell_of (cell_at ds k))) e
      ∙ ap (λ es. unless_bad (bad_in bads k) (cell_of es)) (joined_append (λ d. element d.labels (value_in d.values k)) done (last ∷ []))
      ∙ f.cells k h

-- ---- no column

pub none_fused : (all found : List ColumnData) (bads : List (Option ErrorKind)) (k : ℕ) → isort column_cmp all ≡ [] → found ≡ []
    → step_at (record { columns = found; bads = bads }) k ≡ unless_bad (bad_in bads k) (cell_of (cell_at all k))
none_fused all found bads k e n =
    ap (λ ds. unless_bad (bad_in bads k) (Good (cell_at ds k))) n
    ∙ ap (λ ds. unless_bad (bad_in bads k) (cell_of (cell_at ds k))) (sym e)
    ∙ ap (unless_bad (bad_in bads k)) (sorted_alike k all)

pub nothing_left : {X : Type 0} (xs : List X) → length xs ≡ 0 → xs ≡ []
nothing_left [] h = refl
nothing_left (x ∷ xs) h = absurd (omega (arith, h))
