-- A test on labels before and after elements are put in label order: a cell of some elements is that part of the whole cell.
use Rattle.std.proofs.Common.{◌≡◌, Bool, true, false, cond, ◌||◌, List, [], ◌∷◌, refl, sym, ap, ◌∙◌}
use Rattle.std.specs.List.{filter, list_any}
use Rattle.std.specs.Ordering.{is_gt, ordering_reverse}
use Rattle.std.specs.declared.cmp.Ordering.{Ordering}
use Rattle.std.specs.declared.cmp.Ordering.TheVariants.{Less, Equal, Greater}
use Rattle.pf_base.specs.LabelSets.{Pairs}
use Rattle.pf_base.specs.LabelOrder.{labels_cmp, labels_total}
use Rattle.pf_base.specs.Sorting.{ins}
use Rattle.pf_model.specs.declared.cell.Element.{Element}
use Rattle.pf_model.specs.declared.cell.StepCell.TheVariants.{Good, Bad}
use Rattle.pf_model.specs.declared.cell.ErrorKind.TheVariants.{DoubleLabels}
use Rattle.pf_model.specs.Cells.{element_cmp, in_label_order, labels_of, has_equal, cell_of}
use Rattle.pf_model.specs.Lists.{Each}
use Rattle.pf_model.specs.Selection.{same_labels}

-- ---- label sets that are not above others

reversed : (o r : Ordering) → o ≡ ordering_reverse r → (k : Ordering) → r ≡ k → o ≡ ordering_reverse k
reversed o r e k h = e ∙ ap ordering_reverse h

not_above_by : (a b c : Pairs) (o r : Ordering) → labels_cmp a b ≡ o → labels_cmp b c ≡ r → is_gt o ≡ false → is_gt r ≡ false → is_gt (labels_cmp a c) ≡ false
not_above_by a b c Less Less e f h k = ap is_gt (labels_total.trans a b c e f)
not_above_by a b c Less Equal e f h k =
    let back : labels_cmp b a ≡ Greater = reversed (labels_cmp b a) (labels_cmp a b) (labels_total.antisymm b a) Less e in
    let there : labels_cmp c a ≡ Greater = sym (labels_total.congr b c a f) ∙ back in
    ap is_gt (reversed (labels_cmp a c) (labels_cmp c a) (labels_total.antisymm a c) Greater there)
not_above_by a b c Equal r e f h k = ap is_gt (labels_total.congr a b c e ∙ f) ∙ k
not_above_by a b c Less Greater e f h k = cc
not_above_by a b c Greater r e f h k = cc

not_above : (a b c : Pairs) → is_gt (labels_cmp a b) ≡ false → is_gt (labels_cmp b c) ≡ false → is_gt (labels_cmp a c) ≡ false
not_above a b c h k = not_above_by a b c (labels_cmp a b) (labels_cmp b c) refl refl h k

below_by : (a b : Pairs) (o : Ordering) → labels_cmp a b ≡ o → is_gt o ≡ true → is_gt (labels_cmp b a) ≡ false
below_by a b Greater e h = ap is_gt (reversed (labels_cmp b a) (labels_cmp a b) (labels_total.antisymm b a) Greater e)
below_by a b Less e h = cc
below_by a b Equal e h = cc

-- ---- elements in label order

abbrev pub NoneBelow : Element → List Element → Type 0
NoneBelow e fs = Each (λ f. is_gt (element_cmp e f) ≡ false) fs

abbrev pub Rises : List Element → Type 0
Rises [] = Unit {0}
Rises (e ∷ es) = NoneBelow e es × Rises es

none_below : (e f : Element) (fs : List Element) → is_gt (element_cmp e f) ≡ false → NoneBelow f fs → NoneBelow e fs
none_below e f [] h a = tt
none_below e f (g ∷ gs) h a = (not_above e.labels f.labels g.labels h a.0, none_below e f gs h a.1)

ins_none_step : (k e f : Element) (fs behind : List Element) (b : Bool) → is_gt (element_cmp k e) ≡ false → NoneBelow k (f ∷ fs) → NoneBelow k behind
    → NoneBelow k (cond b (f ∷ behind) (e ∷ f ∷ fs))
ins_none_step k e f fs behind true h a c = (a.0, c)
ins_none_step k e f fs behind false h a c = (h, a)

ins_none : (k e : Element) (fs : List Element) → is_gt (element_cmp k e) ≡ false → NoneBelow k fs → NoneBelow k (ins element_cmp e fs)
ins_none k e [] h a = (h, tt)
ins_none k e (f ∷ fs) h a = ins_none_step k e f fs (ins element_cmp e fs) (is_gt (element_cmp e f)) h a (ins_none k e fs h a.1)

ins_step : (e f : Element) (fs behind : List Element) (b : Bool) → is_gt (element_cmp e f) ≡ b → Rises (f ∷ fs) → (is_gt (element_cmp f e) ≡ false → NoneBelow f behind)
    → Rises behind → Rises (cond b (f ∷ behind) (e ∷ f ∷ fs))
ins_step e f fs behind true h a n r = (n (below_by e.labels f.labels (labels_cmp e.labels f.labels) refl h), r)
ins_step e f fs behind false h a n r = ((h, none_below e f fs h a.0), a)

ins_rises : (e : Element) (fs : List Element) → Rises fs → Rises (ins element_cmp e fs)
ins_rises e [] a = (tt, tt)
ins_rises e (f ∷ fs) a =
    ins_step e f fs (ins element_cmp e fs) (is_gt (element_cmp e f)) refl a (λ h. ins_none f e fs h a.0) (ins_rises e fs a.1)

order_rises : (es : List Element) → Rises (in_label_order es)
order_rises [] = tt
order_rises (e ∷ es) = ins_rises e (in_label_order es) (order_rises es)

-- ---- the test

module _ (Q : Element → Bool) where
  none_filtered : (k f : Element) (rest : List Element) (b : Bool) → is_gt (element_cmp k f) ≡ false → NoneBelow k rest → NoneBelow k (cond b (f ∷ rest) rest)
  none_filtered k f rest true h a = (h, a)
  none_filtered k f rest false h a = a

  filter_none : (k : Element) (fs : List Element) → NoneBelow k fs → NoneBelow k (filter Q fs)
  filter_none k [] a = tt
  filter_none k (f ∷ fs) a = none_filtered k f (filter Q fs) (Q f) a.0 (filter_none k fs a.1)

  ins_first : (e : Element) (fs : List Element) → NoneBelow e fs → ins element_cmp e fs ≡ e ∷ fs
  ins_first e [] a = refl
  ins_first e (f ∷ fs) a = ap (λ b. cond b (f ∷ ins element_cmp e fs) (e ∷ f ∷ fs)) a.0

  behind_step : (e f : Element) (rest behind : List Element) (b : Bool) → is_gt (element_cmp e f) ≡ true → ins element_cmp e rest ≡ behind
      → ins element_cmp e (cond b (f ∷ rest) rest) ≡ cond b (f ∷ behind) behind
  behind_step e f rest behind true h k = ap (λ b. cond b (f ∷ ins element_cmp e rest) (e ∷ f ∷ rest)) h ∙ ap (λ zs. f ∷ zs) k
  behind_step e f rest behind false h k = k

  kept_step : (e f : Element) (fs behind : List Element) (b : Bool) → is_gt (element_cmp e f) ≡ b → Q e ≡ true → Rises (f ∷ fs)
      → ins element_cmp e (filter Q fs) ≡ filter Q behind → ins element_cmp e (filter Q (f ∷ fs)) ≡ filter Q (cond b (f ∷ behind) (e ∷ f ∷ fs))
  kept_step e f fs behind true h q a k = behind_step e f (filter Q fs) (filter Q behind) (Q f) h k
  kept_step e f fs behind false h q a k =
      ins_first e (filter Q (f ∷ fs)) (filter_none e (f ∷ fs) (h, none_below e f fs h a.0))
      ∙ sym (ap (λ b. cond b (e ∷ filter Q (f ∷ fs)) (filter Q (f ∷ fs))) q)

  ins_kept : (e : Element) (fs : List Element) → Q e ≡ true → Rises fs → ins element_cmp e (filter Q fs) ≡ filter Q (ins element_cmp e fs)
  ins_kept e [] q a = sym (ap (λ b. cond b (e ∷ []) []) q)
  ins_kept e (f ∷ fs) q a = kept_step e f fs (ins element_cmp e fs) (is_gt (element_cmp e f)) refl q a (ins_kept e fs q a.1)

  out_step : (e f : Element) (fs behind : List Element) (b : Bool) → Q e ≡ false → filter Q behind ≡ filter Q fs → filter Q (cond b (f ∷ behind) (e ∷ f ∷ fs)) ≡ filter Q (f ∷ fs)
  out_step e f fs behind true q k = ap (λ zs. cond (Q f) (f ∷ zs) zs) k
  out_step e f fs behind false q k = ap (λ b. cond b (e ∷ filter Q (f ∷ fs)) (filter Q (f ∷ fs))) q

  ins_out : (e : Element) (fs : List Element) → Q e ≡ false → filter Q (ins element_cmp e fs) ≡ filter Q fs
  ins_out e [] q = ap (λ b. cond b (e ∷ []) []) q
  ins_out e (f ∷ fs) q = out_step e f fs (ins element_cmp e fs) (is_gt (element_cmp e f)) q (ins_out e fs q)

  order_step : (e : Element) (kept whole : List Element) (b : Bool) → Q e ≡ b → Rises whole → in_label_order kept ≡ filter Q whole
      → in_label_order (cond b (e ∷ kept) kept) ≡ filter Q (ins element_cmp e whole)
  order_step e kept whole true q a h = ap (ins element_cmp e) h ∙ ins_kept e whole q a
  order_step e kept whole false q a h = h ∙ sym (ins_out e whole q)

  pub order_filtered : (es : List Element) → in_label_order (filter Q es) ≡ filter Q (in_label_order es)
  order_filtered [] = refl
  order_filtered (e ∷ es) = order_step e (filter Q es) (in_label_order es) (Q e) refl (order_rises es) (order_filtered es)

  -- no two equal label sets among all, and so none among some
  both_false : (b c : Bool) → (b || c) ≡ false → (b ≡ false) × (c ≡ false)
  both_false true c h = (h, cc)
  both_false false c h = (refl, h)

  any_step : (l : Pairs) (e : Element) (rest : List Element) (b : Bool) → same_labels l e.labels ≡ false → list_any (same_labels l) (labels_of rest) ≡ false
      → list_any (same_labels l) (labels_of (cond b (e ∷ rest) rest)) ≡ false
  any_step l e rest true h k = ap (λ b. b || list_any (same_labels l) (labels_of rest)) h ∙ k
  any_step l e rest false h k = k

  any_filtered : (l : Pairs) (es : List Element) → list_any (same_labels l) (labels_of es) ≡ false → list_any (same_labels l) (labels_of (filter Q es)) ≡ false
  any_filtered l [] h = refl
  any_filtered l (e ∷ es) h =
      let parts = both_false (same_labels l e.labels) (list_any (same_labels l) (labels_of es)) h in
      any_step l e (filter Q es) (Q e) parts.0 (any_filtered l es parts.1)

  equal_step : (e : Element) (rest : List Element) (b : Bool) → list_any (same_labels e.labels) (labels_of rest) ≡ false → has_equal (labels_of rest) ≡ false
      → has_equal (labels_of (cond b (e ∷ rest) rest)) ≡ false
  equal_step e rest true h k = ap (λ b. b || has_equal (labels_of rest)) h ∙ k
  equal_step e rest false h k = k

  equal_filtered : (es : List Element) → has_equal (labels_of es) ≡ false → has_equal (labels_of (filter Q es)) ≡ false
  equal_filtered [] h = refl
  equal_filtered (e ∷ es) h =
      let parts = both_false (list_any (same_labels e.labels) (labels_of es)) (has_equal (labels_of es)) h in
      equal_step e (filter Q es) (Q e) (any_filtered e.labels es parts.0) (equal_filtered es parts.1)

  -- where the whole is a cell, so is each part, and it is that part of the cell
  pub cell_filtered : (es : List Element) → has_equal (labels_of es) ≡ false → cell_of (filter Q es) ≡ Good (filter Q (in_label_order es))
  cell_filtered es h =
      ap (λ b. cond b (Bad DoubleLabels) (Good (in_label_order (filter Q es)))) (equal_filtered es h) ∙ ap Good (order_filtered es)
