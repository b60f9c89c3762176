-- Label sets, each once and in order, are known by what stands among them.
use Rattle.std.proofs.Common.{◌≡◌, Bool, true, false, ◌||◌, List, [], ◌∷◌, ◌++◌, refl, sym, ap, ◌∙◌, subst}
use Rattle.std.specs.List.{list_any}
use Rattle.std.specs.Ordering.{is_eq, ordering_reverse}
use Rattle.std.specs.declared.cmp.Ordering.{Ordering}
use Rattle.std.specs.declared.cmp.Ordering.TheVariants.{Less, Equal, Greater}
use Rattle.std.proofs.lemmas.Cmp.{tied_itself}
use Rattle.pf_base.specs.LabelSets.{Pairs}
use Rattle.pf_base.specs.LabelOrder.{labels_cmp, labels_total, labels_exact}
use Rattle.pf_model.specs.Cells.{placed, put, distinct}
use Rattle.pf_model.specs.Selection.{same_labels}
use Rattle.pf_model.proofs.SelectorLabels.{AllAbove, Ascends, above_all, put_ascends}

pub same_self : (l : Pairs) → same_labels l l ≡ true
same_self l = ap is_eq (tied_itself labels_total l)

tie_turned : (o : Ordering) → is_eq (ordering_reverse o) ≡ is_eq o
tie_turned Less = refl
tie_turned Equal = refl
tie_turned Greater = refl

pub same_turned : (l m : Pairs) → same_labels l m ≡ same_labels m l
same_turned l m = ap is_eq (labels_total.antisymm l m) ∙ tie_turned (labels_cmp m l)

tie_is : (o : Ordering) → is_eq o ≡ true → o ≡ Equal
tie_is Less k = cc
tie_is Equal k = refl
tie_is Greater k = cc

pub same_is : (l m : Pairs) → same_labels l m ≡ true → l ≡ m
same_is l m h = labels_exact l m (tie_is (labels_cmp l m) h)

-- a label set stands among some
abbrev pub stands_in : Pairs → List Pairs → Bool
stands_in k ks = list_any (same_labels k) ks

or_both : (b c : Bool) → b ≡ false → c ≡ false → (b || c) ≡ false
or_both b c h k = ap (λ x. x || c) h ∙ k

pub below_all : (k : Pairs) (ms : List Pairs) → AllAbove k ms → stands_in k ms ≡ false
below_all k [] a = refl
below_all k (m ∷ ms) a = or_both (same_labels k m) (stands_in k ms) (ap is_eq a.0) (below_all k ms a.1)

pub first_in : (k : Pairs) (ms : List Pairs) → stands_in k (k ∷ ms) ≡ true
first_in k ms = ap (λ b. b || stands_in k ms) (same_self k)

-- ---- one put among some

or_same : (b c : Bool) → (b || c) ≡ (b || (b || c))
or_same true c = refl
or_same false c = refl

pub or_turned : (a b c : Bool) → (a || (b || c)) ≡ (b || (a || c))
or_turned true true c = refl
or_turned true false c = refl
or_turned false b c = refl

placed_in : (k l m : Pairs) (ms behind : List Pairs) (o : Ordering) → labels_cmp l m ≡ o → stands_in k behind ≡ (same_labels k l || stands_in k ms)
    → stands_in k (placed o l m ms behind) ≡ (same_labels k l || stands_in k (m ∷ ms))
placed_in k l m ms behind Less e h = refl
placed_in k l m ms behind Equal e h =
    or_same (same_labels k m) (stands_in k ms)
    ∙ ap (λ x. same_labels k x || (same_labels k m || stands_in k ms)) (sym (labels_exact l m e))
placed_in k l m ms behind Greater e h =
    ap (λ b. same_labels k m || b) h ∙ or_turned (same_labels k m) (same_labels k l) (stands_in k ms)

pub put_in : (k l : Pairs) (ms : List Pairs) → stands_in k (put l ms) ≡ (same_labels k l || stands_in k ms)
put_in k l [] = refl
put_in k l (m ∷ ms) = placed_in k l m ms (put l ms) (labels_cmp l m) refl (put_in k l ms)

pub distinct_in : (k : Pairs) (ls : List Pairs) → stands_in k (distinct ls) ≡ stands_in k ls
distinct_in k [] = refl
distinct_in k (l ∷ ls) = put_in k l (distinct ls) ∙ ap (λ b. same_labels k l || b) (distinct_in k ls)

pub distinct_ascends : (ls : List Pairs) → Ascends (distinct ls)
distinct_ascends [] = tt
distinct_ascends (l ∷ ls) = put_ascends l (distinct ls) (distinct_ascends ls)

-- ---- two ascending lists among which the same stand are one

no_member : (x y : Pairs) (xs ys : List Pairs) → labels_cmp x y ≡ Less → AllAbove y ys
    → ((k : Pairs) → stands_in k (x ∷ xs) ≡ stands_in k (y ∷ ys)) → true ≡ false
no_member x y xs ys e a h = sym (first_in x xs) ∙ h x ∙ below_all x (y ∷ ys) (e, above_all x y ys e a)

tail_by : (x k : Pairs) (xs ys : List Pairs) (b : Bool) → same_labels k x ≡ b → AllAbove x xs → AllAbove x ys
    → (same_labels k x || stands_in k xs) ≡ (same_labels k x || stands_in k ys) → stands_in k xs ≡ stands_in k ys
tail_by x k xs ys true e a b h =
    let is = same_is k x e in
    ap (λ l. stands_in l xs) is ∙ below_all x xs a ∙ sym (below_all x ys b) ∙ sym (ap (λ l. stands_in l ys) is)
tail_by x k xs ys false e a b h = sym (ap (λ c. c || stands_in k xs) e) ∙ h ∙ ap (λ c. c || stands_in k ys) e

turned_less : (x y : Pairs) → labels_cmp x y ≡ Greater → labels_cmp y x ≡ Less
turned_less x y e = labels_total.antisymm y x ∙ ap ordering_reverse e

alike_by : (x y : Pairs) (xs ys : List Pairs) (o : Ordering) → labels_cmp x y ≡ o → Ascends (x ∷ xs) → Ascends (y ∷ ys)
    → ((k : Pairs) → stands_in k (x ∷ xs) ≡ stands_in k (y ∷ ys))
    → (((k : Pairs) → stands_in k xs ≡ stands_in k ys) → xs ≡ ys) → x ∷ xs ≡ y ∷ ys
alike_by x y xs ys Less e a b h go = let no : true ≡ false = no_member x y xs ys e b.0 h in cc
alike_by x y xs ys Greater e a b h go =
    let no : true ≡ false = no_member y x ys xs (turned_less x y e) a.0 (λ k. sym (h k)) in cc
alike_by x y xs ys Equal e a b h go =
    let is = labels_exact x y e in
    let above : AllAbove x ys = subst (λ l. AllAbove l ys) (sym is) b.0 in
    let rest = go (λ k. tail_by x k xs ys (same_labels k x) refl a.0 above (h k ∙ ap (λ l. same_labels k l || stands_in k ys) (sym is))) in
    ap (λ zs. x ∷ zs) rest ∙ ap (λ l. l ∷ ys) is

pub alike : (xs ys : List Pairs) → Ascends xs → Ascends ys → ((k : Pairs) → stands_in k xs ≡ stands_in k ys) → xs ≡ ys
alike [] [] a b h = refl
alike [] (y ∷ ys) a b h = let no : false ≡ true = h y ∙ first_in y ys in cc
alike (x ∷ xs) [] a b h = let no : true ≡ false = sym (first_in x xs) ∙ h x in cc
alike (x ∷ xs) (y ∷ ys) a b h = alike_by x y xs ys (labels_cmp x y) refl a b h (alike xs ys a.1 b.1)

pub in_append : (k : Pairs) (xs ys : List Pairs) → stands_in k (xs ++ ys) ≡ (stands_in k xs || stands_in k ys)
in_append k [] ys = refl
in_append k (x ∷ xs) ys = ap (λ b. same_labels k x || b) (in_append k xs ys) ∙ or_assoc (same_labels k x) (stands_in k xs) (stands_in k ys) where
  or_assoc : (a b c : Bool) → (a || (b || c)) ≡ ((a || b) || c)
  or_assoc true b c = refl
  or_assoc false b c = refl
