-- Keys in order have two equal ones exactly where two neighbours are such.
use Rattle.std.proofs.Common.{◌≡◌, Bool, true, false, cond, ◌||◌, Some, List, [], ◌∷◌, map, refl, sym, ap, ◌∙◌}
use Rattle.std.specs.Cmp.{IsTotalOrder}
use Rattle.std.specs.List.{All, list_any}
use Rattle.std.specs.Ordering.{is_gt}
use Rattle.std.specs.declared.cmp.Ordering.{Ordering}
use Rattle.std.proofs.lemmas.List.Elements.{All-head, All-tail}
use Rattle.pf_base.specs.LabelSets.{Pairs}
use Rattle.pf_base.specs.LabelOrder.{labels_cmp, labels_total}
use Rattle.pf_base.specs.Sorting.{ins, isort}
use Rattle.pf_base.proofs.Sorting.{Ascends, ascends_isort}
use Rattle.pf_model.specs.declared.cell.Element.{Element}
use Rattle.pf_model.specs.declared.cell.ErrorKind.TheVariants.{DoubleLabels}
use Rattle.pf_model.specs.declared.cell.StepCell.TheVariants.{Good, Bad}
use Rattle.pf_model.specs.Cells.{cell_of, has_equal, in_label_order}
use Rattle.pf_model.specs.Selection.{same_labels}
use Rattle.pf_model.proofs.KeySets.{same_turned, or_turned as turned}
use Rattle.pf_join.specs.Neighbours.{repeats, repeats_after}
use Rattle.pf_math.proofs.Repeats.{apart_by}

crossed : (a b c d : Bool) → ((a || b) || (c || d)) ≡ ((a || c) || (b || d))
crossed true b c d = refl
crossed false true true d = refl
crossed false true false d = refl
crossed false false c d = refl

module _ {X : Type 0} (key : X → Pairs) where
  abbrev pub by_key : X → X → Ordering
  by_key x y = labels_cmp (key x) (key y)

  pub by_key_total : IsTotalOrder by_key
  by_key_total = record {
    antisymm = λ x y. labels_total.antisymm (key x) (key y);
    trans = λ x y z. labels_total.trans (key x) (key y) (key z);
    congr = λ x y z. labels_total.congr (key x) (key y) (key z);
  }

  abbrev keys : List X → List Pairs
  keys xs = map key xs

  abbrev among : Pairs → List X → Bool
  among l xs = list_any (same_labels l) (keys xs)

  -- ---- among elements in order

  lacks : (l m : Pairs) (xs : List X) → is_gt (labels_cmp l m) ≡ false → same_labels l m ≡ false → All (λ x. is_gt (labels_cmp m (key x)) ≡ false) xs
      → among l xs ≡ false
  lacks l m [] p s a = refl
  lacks l m (x ∷ xs) p s a =
      ap (λ b. b || among l xs) (apart_by l m (key x) (same_labels l (key x)) refl p s (All-head (λ y. is_gt (labels_cmp m (key y)) ≡ false) x xs a))
      ∙ lacks l m xs p s (All-tail (λ y. is_gt (labels_cmp m (key y)) ≡ false) x xs a)

  after_by : (l m : Pairs) (xs : List X) (b : Bool) → same_labels l m ≡ b → is_gt (labels_cmp l m) ≡ false → All (λ x. is_gt (labels_cmp m (key x)) ≡ false) xs
      → (rest : Bool) → (b || rest) ≡ ((b || among l xs) || rest)
  after_by l m xs true s p a rest = refl
  after_by l m xs false s p a rest = sym (ap (λ b. b || rest) (lacks l m xs p s a))

  after_is : (x : X) (xs : List X) → Ascends by_key (x ∷ xs) → repeats_after key (Some (key x)) xs ≡ (among (key x) xs || has_equal (keys xs))
  after_is x [] a = refl
  after_is x (y ∷ ys) a =
      ap (λ b. same_labels (key x) (key y) || b) (after_is y ys a.1)
      ∙ after_by (key x) (key y) ys (same_labels (key x) (key y)) refl (All-head (λ z. is_gt (by_key x z) ≡ false) y ys a.0) a.1.0 (has_equal (keys (y ∷ ys)))

  pub ascending_is : (xs : List X) → Ascends by_key xs → repeats key xs ≡ has_equal (keys xs)
  ascending_is [] a = refl
  ascending_is (x ∷ xs) a = after_is x xs a

  -- ---- elements in order have an equal pair where the elements have one

  any_ins_by : (l : Pairs) (x y : X) (ys : List X) (b : Bool) → among l (ins by_key x ys) ≡ (same_labels l (key x) || among l ys)
      → among l (cond b (y ∷ ins by_key x ys) (x ∷ y ∷ ys)) ≡ (same_labels l (key x) || among l (y ∷ ys))
  any_ins_by l x y ys true r = ap (λ b. same_labels l (key y) || b) r ∙ turned (same_labels l (key y)) (same_labels l (key x)) (among l ys)
  any_ins_by l x y ys false r = refl

  any_ins : (l : Pairs) (x : X) (xs : List X) → among l (ins by_key x xs) ≡ (same_labels l (key x) || among l xs)
  any_ins l x [] = refl
  any_ins l x (y ∷ ys) = any_ins_by l x y ys (is_gt (by_key x y)) (any_ins l x ys)

  pub any_isort : (l : Pairs) (xs : List X) → among l (isort by_key xs) ≡ among l xs
  any_isort l [] = refl
  any_isort l (x ∷ xs) = any_ins l x (isort by_key xs) ∙ ap (λ b. same_labels l (key x) || b) (any_isort l xs)

  equal_ins_by : (x y : X) (ys : List X) (b : Bool) → has_equal (keys (ins by_key x ys)) ≡ (among (key x) ys || has_equal (keys ys))
      → has_equal (keys (cond b (y ∷ ins by_key x ys) (x ∷ y ∷ ys))) ≡ (among (key x) (y ∷ ys) || has_equal (keys (y ∷ ys)))
  equal_ins_by x y ys true r =
      (λ i. any_ins (key y) x ys i || r i)
      ∙ ap (λ b. (b || among (key y) ys) || (among (key x) ys || has_equal (keys ys))) (same_turned (key y) (key x))
      ∙ crossed (same_labels (key x) (key y)) (among (key y) ys) (among (key x) ys) (has_equal (keys ys))
  equal_ins_by x y ys false r = refl

  equal_ins : (x : X) (xs : List X) → has_equal (keys (ins by_key x xs)) ≡ (among (key x) xs || has_equal (keys xs))
  equal_ins x [] = refl
  equal_ins x (y ∷ ys) = equal_ins_by x y ys (is_gt (by_key x y)) (equal_ins x ys)

  pub equal_isort : (xs : List X) → has_equal (keys (isort by_key xs)) ≡ has_equal (keys xs)
  equal_isort [] = refl
  equal_isort (x ∷ xs) = equal_ins x (isort by_key xs) ∙ λ i. any_isort (key x) xs i || equal_isort xs i

  pub repeats_is : (xs sorted : List X) → sorted ≡ isort by_key xs → repeats key sorted ≡ has_equal (keys xs)
  repeats_is xs sorted e =
      ap (repeats key) e ∙ ascending_is (isort by_key xs) (ascends_isort by_key by_key_total xs) ∙ equal_isort xs

own : (ls : List Pairs) → map (λ l. l) ls ≡ ls
own [] = refl
own (l ∷ ls) = ap (λ ms. l ∷ ms) (own ls)

pub sets_repeat : (ls sorted : List Pairs) → sorted ≡ isort labels_cmp ls → repeats (λ l. l) sorted ≡ has_equal ls
sets_repeat ls sorted e = repeats_is (λ l. l) ls sorted e ∙ ap has_equal (own ls)

-- ---- the two answers

pub bad_cell : (es sorted : List Element) → sorted ≡ in_label_order es → repeats (λ e. e.labels) sorted ≡ true → Bad DoubleLabels ≡ cell_of es
bad_cell es sorted e h = sym (ap (λ b. cond b (Bad DoubleLabels) (Good (in_label_order es))) (sym (repeats_is (λ f. f.labels) es sorted e) ∙ h))

pub good_cell : (es sorted : List Element) → sorted ≡ in_label_order es → repeats (λ e. e.labels) sorted ≡ false → Good sorted ≡ cell_of es
good_cell es sorted e h = ap Good e ∙ sym (ap (λ b. cond b (Bad DoubleLabels) (Good (in_label_order es))) (sym (repeats_is (λ f. f.labels) es sorted e) ∙ h))
