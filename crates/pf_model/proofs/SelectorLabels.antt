-- The elements of an instant selector stand in label order, and no two have equal labels: so a selector has no error.
use Rattle.std.proofs.Common.{◌≡◌, ℤ, Bool, true, false, cond, ◌||◌, List, [], ◌∷◌, ◌++◌, Option, Some, None, refl, sym, ap, ◌∙◌, subst, nat_lt}
use Rattle.std.specs.List.{filter, list_any}
use Rattle.std.specs.Ordering.{is_eq, is_gt, ordering_reverse}
use Rattle.std.specs.declared.cmp.Ordering.{Ordering}
use Rattle.std.specs.declared.cmp.Ordering.TheVariants.{Less, Equal, Greater}
use Rattle.pf_base.specs.declared.plain.Row.{Row}
use Rattle.pf_base.specs.LabelSets.{Pairs}
use Rattle.pf_base.specs.LabelOrder.{labels_cmp, labels_total, labels_exact}
use Rattle.pf_base.specs.Sorting.{ins}
use Rattle.pf_model.specs.declared.cell.Element.{Element}
use Rattle.pf_model.specs.declared.cell.StepCell.TheVariants.{Good, Bad}
use Rattle.pf_model.specs.declared.cell.ErrorKind.TheVariants.{DoubleLabels}
use Rattle.pf_model.specs.declared.expr.Matcher.{Matcher}
use Rattle.pf_model.specs.Cells.{placed, put, element_cmp, in_label_order, labels_of, has_equal, cell_of}
use Rattle.pf_model.specs.Evaluation.{label_sets, element_of, vector, selected}
use Rattle.pf_model.specs.Lists.{Each, joined}
use Rattle.pf_model.specs.Selection.{same_labels, accepts, is_read, later, last_onto, last_row}

-- ---- label sets in ascending order

abbrev pub AllAbove : Pairs → List Pairs → Type 0
AllAbove l ms = Each (λ m. labels_cmp l m ≡ Less) ms

abbrev pub Ascends : List Pairs → Type 0
Ascends [] = Unit {0}
Ascends (m ∷ ms) = AllAbove m ms × Ascends ms

pub above_all : (k l : Pairs) (ms : List Pairs) → labels_cmp k l ≡ Less → AllAbove l ms → AllAbove k ms
above_all k l [] h a = tt
above_all k l (m ∷ ms) h a = (labels_total.trans k l m h a.0, above_all k l ms h a.1)

placed_above : (k l m : Pairs) (ms behind : List Pairs) (o : Ordering) → labels_cmp k l ≡ Less → AllAbove k (m ∷ ms) → AllAbove k behind → AllAbove k (placed o l m ms behind)
placed_above k l m ms behind Less h a b = (h, a)
placed_above k l m ms behind Equal h a b = a
placed_above k l m ms behind Greater h a b = (a.0, b)

pub put_above : (k l : Pairs) (ms : List Pairs) → labels_cmp k l ≡ Less → AllAbove k ms → AllAbove k (put l ms)
put_above k l [] h a = (h, tt)
put_above k l (m ∷ ms) h a = placed_above k l m ms (put l ms) (labels_cmp l m) h a (put_above k l ms h a.1)

placed_ascends : (l m : Pairs) (ms behind : List Pairs) (o : Ordering) → labels_cmp l m ≡ o → Ascends (m ∷ ms) → (labels_cmp m l ≡ Less → AllAbove m behind) → Ascends behind → Ascends (placed o l m ms behind)
placed_ascends l m ms behind Less e a f b = ((e, above_all l m ms e a.0), a)
placed_ascends l m ms behind Equal e a f b = a
placed_ascends l m ms behind Greater e a f b = (f (labels_total.antisymm m l ∙ ap ordering_reverse e), b)

pub put_ascends : (l : Pairs) (ms : List Pairs) → Ascends ms → Ascends (put l ms)
put_ascends l [] h = (tt, tt)
put_ascends l (m ∷ ms) h = placed_ascends l m ms (put l ms) (labels_cmp l m) refl h (λ e. put_above m l ms e h.0) (put_ascends l ms h.1)

pub label_sets_ascend : (rows : List Row) → Ascends (label_sets rows)
label_sets_ascend [] = tt
label_sets_ascend (r ∷ rs) = put_ascends r.labels (label_sets rs) (label_sets_ascend rs)

-- ---- the elements of some label sets

abbrev pub HasLabels : Pairs → Option Row → Type 0
HasLabels l None = Unit {0}
HasLabels l (Some r) = r.labels ≡ l

later_alike : (l : Pairs) (o : Option Row) (r : Row) → HasLabels l o → r.labels ≡ l → HasLabels l (later o r)
later_alike l None r h e = e
later_alike l (Some found) r h e =
    elim (nat_lt found.time r.time) as (λ b. HasLabels l (cond b (Some r) (Some found))) [ true ↦ e | false ↦ h ]

pub last_alike : (l : Pairs) (o : Option Row) (rows : List Row) → HasLabels l o → Each (λ r. r.labels ≡ l) rows → HasLabels l (last_onto o rows)
last_alike l o [] h e = h
last_alike l o (r ∷ rs) h e = last_alike l (later o r) rs (later_alike l o r h e.0) e.1

kept_alike : (l : Pairs) (r : Row) (rest : List Row) (b : Bool) → same_labels r.labels l ≡ b → Each (λ r. r.labels ≡ l) rest → Each (λ r. r.labels ≡ l) (cond b (r ∷ rest) rest)
kept_alike l r rest true e h = (labels_exact r.labels l (is_tie (labels_cmp r.labels l) e), h) where
  is_tie : (o : Ordering) → is_eq o ≡ true → o ≡ Equal
  is_tie Less k = cc
  is_tie Equal k = refl
  is_tie Greater k = cc
kept_alike l r rest false e h = h

pub filtered_alike : (l : Pairs) (rows : List Row) → Each (λ r. r.labels ≡ l) (filter (λ r. same_labels r.labels l) rows)
filtered_alike l [] = tt
filtered_alike l (r ∷ rs) = kept_alike l r (filter (λ s. same_labels s.labels l) rs) (same_labels r.labels l) refl (filtered_alike l rs)

abbrev pub ElementsAbove : Pairs → List Element → Type 0
ElementsAbove l es = Each (λ e. labels_cmp l e.labels ≡ Less) es

-- the elements stand in label order, each once
abbrev pub AreInOrder : List Element → Type 0
AreInOrder [] = Unit {0}
AreInOrder (e ∷ es) = ElementsAbove e.labels es × AreInOrder es

above_step : (k l : Pairs) (o : Option Row) (rest : List Element) → HasLabels l o → labels_cmp k l ≡ Less → ElementsAbove k rest → ElementsAbove k (element_of o ++ rest)
above_step k l None rest h e a = a
above_step k l (Some r) rest h e a = (ap (labels_cmp k) h ∙ e, a)

order_step : (l : Pairs) (o : Option Row) (rest : List Element) → HasLabels l o → ElementsAbove l rest → AreInOrder rest → AreInOrder (element_of o ++ rest)
order_step l None rest h a s = s
order_step l (Some r) rest h a s = (subst (λ m. ElementsAbove m rest) (sym h) a, s)

module _ (f : Pairs → Option Row) (alike : (l : Pairs) → HasLabels l (f l)) where
  all_above : (k : Pairs) (ls : List Pairs) → AllAbove k ls → ElementsAbove k (joined (λ l. element_of (f l)) ls)
  all_above k [] a = tt
  all_above k (l ∷ ls) a = above_step k l (f l) (joined (λ m. element_of (f m)) ls) (alike l) a.0 (all_above k ls a.1)

  all_in_order : (ls : List Pairs) → Ascends ls → AreInOrder (joined (λ l. element_of (f l)) ls)
  all_in_order [] a = tt
  all_in_order (l ∷ ls) a = order_step l (f l) (joined (λ m. element_of (f m)) ls) (alike l) (all_above l ls a.0) (all_in_order ls a.1)

pub vector_in_order : (rows : List Row) → AreInOrder (vector rows)
vector_in_order rows =
    all_in_order (λ l. last_row (filter (λ r. same_labels r.labels l) rows))
    (λ l. last_alike l None (filter (λ r. same_labels r.labels l) rows) tt (filtered_alike l rows))
    (label_sets rows) (label_sets_ascend rows)

-- ---- such elements are a cell as they stand

none_equal : (l : Pairs) (es : List Element) → ElementsAbove l es → list_any (same_labels l) (labels_of es) ≡ false
none_equal l [] a = refl
none_equal l (e ∷ es) a = ap (λ o. is_eq o || list_any (same_labels l) (labels_of es)) a.0 ∙ none_equal l es a.1

no_equals : (es : List Element) → AreInOrder es → has_equal (labels_of es) ≡ false
no_equals [] s = refl
no_equals (e ∷ es) s = ap (λ b. b || has_equal (labels_of es)) (none_equal e.labels es s.0) ∙ no_equals es s.1

ins_below : (e : Element) (es : List Element) → ElementsAbove e.labels es → ins element_cmp e es ≡ e ∷ es
ins_below e [] a = refl
ins_below e (f ∷ fs) a = ap (λ o. cond (is_gt o) (f ∷ ins element_cmp e fs) (e ∷ f ∷ fs)) a.0

order_stays : (es : List Element) → AreInOrder es → in_label_order es ≡ es
order_stays [] s = refl
order_stays (e ∷ es) s = ap (ins element_cmp e) (order_stays es s.1) ∙ ins_below e es s.0

pub cell_in_order : (es : List Element) → AreInOrder es → cell_of es ≡ Good es
cell_in_order es s =
    ap (λ b. cond b (Bad DoubleLabels) (Good (in_label_order es))) (no_equals es s) ∙ ap Good (order_stays es s)

-- the elements of an instant selector are a cell as they stand
pub selector_is_cell : (samples : List Row) (ms : List Matcher) (to : ℤ) → cell_of (selected samples ms to) ≡ Good (selected samples ms to)
selector_is_cell samples ms to =
    cell_in_order (selected samples ms to) (vector_in_order (filter (is_read to) (filter (λ r. accepts ms r.labels) samples)))
