-- Elements in label order have two of equal labels exactly where two neighbours are such.
use Rattle.std.proofs.Common.{◌≡◌, Bool, true, false, cond, ◌||◌, Some, List, [], ◌∷◌, refl, sym, ap, ◌∙◌, subst}
use Rattle.std.specs.List.{All, list_any}
use Rattle.std.specs.Ordering.{is_eq, is_gt}
use Rattle.std.proofs.lemmas.List.Elements.{All-head, All-tail}
use Rattle.pf_base.specs.LabelSets.{Pairs}
use Rattle.pf_base.specs.LabelOrder.{labels_cmp, labels_total}
use Rattle.pf_base.specs.Sorting.{ins, isort}
use Rattle.pf_base.proofs.Sorting.{Ascends, ascends_isort, level}
use Rattle.pf_model.specs.declared.cell.Element.{Element}
use Rattle.pf_model.specs.declared.cell.ErrorKind.TheVariants.{DoubleLabels}
use Rattle.pf_model.specs.declared.cell.StepCell.TheVariants.{Good, Bad}
use Rattle.pf_model.specs.Cells.{cell_of, element_cmp, has_equal, in_label_order, labels_of}
use Rattle.pf_model.specs.Selection.{same_labels}
use Rattle.pf_model.proofs.KeySets.{same_is, same_turned, or_turned as turned}
use Rattle.pf_math.specs.Neighbours.{repeats_after, repeats_labels}
use Rattle.pf_math.proofs.ElementOrder.{element_total}

-- ---- among elements in order

-- l lies below m, and m is at most n: so l is not n
pub apart_by : (l m n : Pairs) (b : Bool) → same_labels l n ≡ b → is_gt (labels_cmp l m) ≡ false → same_labels l m ≡ false → is_gt (labels_cmp m n) ≡ false → b ≡ false
apart_by l m n true e p s q =
    let back : is_gt (labels_cmp m l) ≡ false = subst (λ x. is_gt (labels_cmp m x) ≡ false) (sym (same_is l n e)) q in
    let same : same_labels l m ≡ true = ap is_eq (level (labels_cmp l m) (labels_cmp m l) (labels_total.antisymm l m) p back) in cc
apart_by l m n false e p s q = refl

lacks : (l m : Pairs) (es : List Element) → is_gt (labels_cmp l m) ≡ false → same_labels l m ≡ false → All (λ e. is_gt (labels_cmp m e.labels) ≡ false) es
    → list_any (same_labels l) (labels_of es) ≡ false
lacks l m [] p s a = refl
lacks l m (e ∷ es) p s a =
    ap (λ b. b || list_any (same_labels l) (labels_of es)) (apart_by l m e.labels (same_labels l e.labels) refl p s (All-head (λ f. is_gt (labels_cmp m f.labels) ≡ false) e es a))
    ∙ lacks l m es p s (All-tail (λ f. is_gt (labels_cmp m f.labels) ≡ false) e es a)

after_by : (l m : Pairs) (es : List Element) (b : Bool) → same_labels l m ≡ b → is_gt (labels_cmp l m) ≡ false → All (λ e. is_gt (labels_cmp m e.labels) ≡ false) es
    → (rest : Bool) → (b || rest) ≡ ((b || list_any (same_labels l) (labels_of es)) || rest)
after_by l m es true s p a rest = refl
after_by l m es false s p a rest = sym (ap (λ b. b || rest) (lacks l m es p s a))

after_is : (e : Element) (es : List Element) → Ascends element_cmp (e ∷ es)
    → repeats_after (Some e.labels) es ≡ (list_any (same_labels e.labels) (labels_of es) || has_equal (labels_of es))
after_is e [] a = refl
after_is e (f ∷ fs) a =
    ap (λ b. same_labels e.labels f.labels || b) (after_is f fs a.1)
    ∙ after_by e.labels f.labels fs (same_labels e.labels f.labels) refl (All-head (λ g. is_gt (element_cmp e g) ≡ false) f fs a.0) a.1.0 (has_equal (labels_of (f ∷ fs)))

ascending_is : (es : List Element) → Ascends element_cmp es → repeats_labels es ≡ has_equal (labels_of es)
ascending_is [] a = refl
ascending_is (e ∷ es) a = after_is e es a

-- ---- elements in order have an equal pair where the elements have one

crossed : (a b c d : Bool) → ((a || b) || (c || d)) ≡ ((a || c) || (b || d))
crossed true b c d = refl
crossed false true true d = refl
crossed false true false d = refl
crossed false false c d = refl

any_ins_by : (l : Pairs) (e f : Element) (fs : List Element) (b : Bool) → list_any (same_labels l) (labels_of (ins element_cmp e fs)) ≡ (same_labels l e.labels || list_any (same_labels l) (labels_of fs))
    → list_any (same_labels l) (labels_of (cond b (f ∷ ins element_cmp e fs) (e ∷ f ∷ fs))) ≡ (same_labels l e.labels || list_any (same_labels l) (labels_of (f ∷ fs)))
any_ins_by l e f fs true r = ap (λ b. same_labels l f.labels || b) r ∙ turned (same_labels l f.labels) (same_labels l e.labels) (list_any (same_labels l) (labels_of fs))
any_ins_by l e f fs false r = refl

any_ins : (l : Pairs) (e : Element) (es : List Element) → list_any (same_labels l) (labels_of (ins element_cmp e es)) ≡ (same_labels l e.labels || list_any (same_labels l) (labels_of es))
any_ins l e [] = refl
any_ins l e (f ∷ fs) = any_ins_by l e f fs (is_gt (element_cmp e f)) (any_ins l e fs)

any_isort : (l : Pairs) (es : List Element) → list_any (same_labels l) (labels_of (isort element_cmp es)) ≡ list_any (same_labels l) (labels_of es)
any_isort l [] = refl
any_isort l (e ∷ es) = any_ins l e (isort element_cmp es) ∙ ap (λ b. same_labels l e.labels || b) (any_isort l es)

equal_ins_by : (e f : Element) (fs : List Element) (b : Bool) → has_equal (labels_of (ins element_cmp e fs)) ≡ (list_any (same_labels e.labels) (labels_of fs) || has_equal (labels_of fs))
    → has_equal (labels_of (cond b (f ∷ ins element_cmp e fs) (e ∷ f ∷ fs))) ≡ (list_any (same_labels e.labels) (labels_of (f ∷ fs)) || has_equal (labels_of (f ∷ fs)))
equal_ins_by e f fs true r =
    (λ i. any_ins f.labels e fs i || r i)
    ∙ ap (λ b. (b || list_any (same_labels f.labels) (labels_of fs)) || (list_any (same_labels e.labels) (labels_of fs) || has_equal (labels_of fs))) (same_turned f.labels e.labels)
    ∙ crossed (same_labels e.labels f.labels) (list_any (same_labels f.labels) (labels_of fs)) (list_any (same_labels e.labels) (labels_of fs)) (has_equal (labels_of fs))
equal_ins_by e f fs false r = refl

equal_ins : (e : Element) (es : List Element) → has_equal (labels_of (ins element_cmp e es)) ≡ (list_any (same_labels e.labels) (labels_of es) || has_equal (labels_of es))
equal_ins e [] = refl
equal_ins e (f ∷ fs) = equal_ins_by e f fs (is_gt (element_cmp e f)) (equal_ins e fs)

equal_isort : (es : List Element) → has_equal (labels_of (isort element_cmp es)) ≡ has_equal (labels_of es)
equal_isort [] = refl
equal_isort (e ∷ es) = equal_ins e (isort element_cmp es) ∙ λ i. any_isort e.labels es i || equal_isort es i

repeats_is : (es sorted : List Element) → sorted ≡ in_label_order es → repeats_labels sorted ≡ has_equal (labels_of es)
repeats_is es sorted e =
    ap repeats_labels e ∙ ascending_is (isort element_cmp es) (ascends_isort element_cmp element_total es) ∙ equal_isort es

-- ---- the two answers

pub bad_cell : (es sorted : List Element) → sorted ≡ in_label_order es → repeats_labels sorted ≡ true → Bad DoubleLabels ≡ cell_of es
bad_cell es sorted e h = sym (ap (λ b. cond b (Bad DoubleLabels) (Good (in_label_order es))) (sym (repeats_is es sorted e) ∙ h))

pub good_cell : (es sorted : List Element) → sorted ≡ in_label_order es → repeats_labels sorted ≡ false → Good sorted ≡ cell_of es
good_cell es sorted e h = ap Good e ∙ sym (ap (λ b. cond b (Bad DoubleLabels) (Good (in_label_order es))) (sym (repeats_is es sorted e) ∙ h))
