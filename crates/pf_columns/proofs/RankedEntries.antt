-- The entries of a group are ordered as its elements are, and the marks of those that are kept give their elements in label order.
use Rattle.std.proofs.Common.{◌≡◌, ◌<◌, ℕ, zero, suc, ℤ, Bool, true, false, cond, ◌||◌, nat_eq, nat_lt, Option, Some, None, List, [], ◌∷◌, map, length, take, get_or, refl, sym, ap, ◌∙◌, subst, arith}
use Rattle.std.proofs.lemmas.Bool.Decides.{nat_tests}
use Rattle.std.proofs.lemmas.List.{get_or-replicate, get_or-set_other, get_or-set_same, length-replicate, length-set, take-map}
use Rattle.std.proofs.lemmas.List.Folds.{list_any-append}
use Rattle.std.proofs.lemmas.Cmp.{int_cmp_total, nat_cmp_total, tied_itself}
use Rattle.std.proofs.Math.Bool.{or-false}
use Rattle.std.proofs.Math.IntN.{neg_ℤ-neg_ℤ}
use Rattle.std.specs.List.{list_any}
use Rattle.std.specs.Prelude.{int_lt, neg_ℤ, negsuc, pos, replicate, slice_index_or, slice_set}
use Rattle.std.specs.Ordering.{int_cmp, nat_cmp, ordering_reverse, ordering_then}
use Rattle.std.specs.declared.cmp.Ordering.{Ordering}
use Rattle.std.specs.declared.cmp.Ordering.TheVariants.{Less, Equal, Greater}
use Rattle.pf_base.specs.LabelOrder.{labels_cmp, labels_total}
use Rattle.pf_base.specs.Sorting.{ins, isort}
use Rattle.pf_model.specs.declared.cell.Element.{Element}
use Rattle.pf_model.specs.Cells.{element_cmp}
use Rattle.pf_model.specs.Lists.{Each, joined}
use Rattle.pf_columns.specs.Columns.{AreRising, ColumnData, columns_labels}
use Rattle.pf_columns.specs.Ranks.{entries_at, entry, entry_cmp, group_marks, height_of, marked, marks_at, no_column, order_of, ranked, value_at}
use Rattle.pf_columns.specs.declared.ranked.Entry.{Entry}
use Rattle.pf_columns.specs.declared.ranked.Rank.{Rank}
use Rattle.pf_columns.specs.declared.ranked.Rank.TheVariants as rank
use Rattle.pf_columns.proofs.Apart.{AreApart, AreOtherEntries}
use Rattle.pf_columns.proofs.Eaches.{each_append, each_isort, each_take, map_isort}
use Rattle.pf_columns.proofs.Fusing.{or_true}
use Rattle.pf_columns.proofs.Marking.{behind, element_at, none_passing, one_more, passing}

-- ---- marks are those of the places of entries

abbrev pub stand : List Entry → ℕ → Bool
stand es j = list_any (λ e. nat_eq e.place j) es

pub length_marked : (es : List Entry) (ms : List Bool) → length (marked es ms) ≡ length ms
length_marked [] ms = refl
length_marked (e ∷ es) ms = length_marked es (slice_set ms e.place true) ∙ length-set ms e.place true

same_place : (p j : ℕ) → nat_eq p j ≡ true → j ≡ p
same_place p j h = grind (arith, nat_tests, h)

other_place : (p j : ℕ) → nat_eq p j ≡ false → j ≡ p → ⊥
other_place p j h q = grind (arith, nat_tests, h, q)

set_by : (ms : List Bool) (p j : ℕ) (x b : Bool) → nat_eq p j ≡ b → j < length ms → (x || get_or (slice_set ms p true) j false) ≡ ((b || x) || get_or ms j false)
set_by ms p j x true e h =
    let there : p < length ms = let q = same_place p j e in omega (arith, q, h) in
    ap (λ b. x || b) (ap (λ i. get_or (slice_set ms p true) i false) (same_place p j e) ∙ get_or-set_same ms p true false there) ∙ or_true x
set_by ms p j x false e h = ap (λ b. x || b) (get_or-set_other ms p j true false (other_place p j e))

pub marks_stand : (es : List Entry) (ms : List Bool) (j : ℕ) → j < length ms → get_or (marked es ms) j false ≡ (stand es j || get_or ms j false)
marks_stand [] ms j h = refl
marks_stand (e ∷ es) ms j h =
    marks_stand es (slice_set ms e.place true) j (subst (λ n. j < n) (sym (length-set ms e.place true)) h)
    ∙ set_by ms e.place j (stand es j) (nat_eq e.place j) refl h

module _ (r : Rank) (cs : List ColumnData) (k n : ℕ) where
  shuffled : (a b c : Bool) → (a || (b || c)) ≡ ((b || a) || c)
  shuffled true true c = refl
  shuffled true false c = refl
  shuffled false true c = refl
  shuffled false false c = refl

  group_stand : (bs : List (List ℕ)) (ms : List Bool) (j : ℕ) → j < length ms → get_or (group_marks r n cs k bs ms) j false ≡ (stand (joined (ranked r n cs k) bs) j || get_or ms j false)
  group_stand [] ms j h = refl
  group_stand (b ∷ bs) ms j h =
      let es = ranked r n cs k b in
      let rest = joined (ranked r n cs k) bs in
      group_stand bs (marked es ms) j (subst (λ m. j < m) (sym (length_marked es ms)) h)
      ∙ ap (λ x. stand rest j || x) (marks_stand es ms j h)
      ∙ shuffled (stand rest j) (stand (ranked r n cs k b) j) (get_or ms j false)
      ∙ ap (λ x. x || get_or ms j false) (sym (list_any-append (λ e. nat_eq e.place j) (ranked r n cs k b) rest))

  pub marks_are : (bs : List (List ℕ)) (j : ℕ) → j < length cs → get_or (marks_at r n cs bs k) j false ≡ stand (joined (ranked r n cs k) bs) j
  marks_are bs j h =
      group_stand bs (replicate (length cs) false) j (subst (λ m. j < m) (sym (length-replicate (length cs) false)) h)
      ∙ ap (λ x. stand (joined (ranked r n cs k) bs) j || x) (get_or-replicate (length cs) j false false h)
      ∙ or-false (stand (joined (ranked r n cs k) bs) j)

-- ---- entries stand for elements

abbrev pub value_from : Rank → ℤ → ℤ
value_from rank.Falling h = neg_ℤ h
value_from rank.Rising h = h

pub from_height : (r : Rank) (v : ℤ) → value_from r (height_of r v) ≡ v
from_height rank.Falling v = neg_ℤ-neg_ℤ v
from_height rank.Rising v = refl

-- the place of a column tells its labels' order
pub place_order : (k : ℕ) (cs : List ColumnData) → AreRising (columns_labels cs) → (p q : ℕ) (v w : ℤ) → value_at cs p k ≡ Some v → value_at cs q k ≡ Some w
    → labels_cmp (slice_index_or cs p no_column).labels (slice_index_or cs q no_column).labels ≡ nat_cmp p q
place_order k [] r p q v w a b = let no : ◌≡◌ {A = Option ℤ} None (Some v) = a in cc
place_order k (c ∷ cs) r zero zero v w a b = tied_itself labels_total c.labels ∙ sym (tied_itself nat_cmp_total 0)
place_order k (c ∷ cs) r zero (suc q) v w a b = behind k c.labels cs q w r.0 b ∙ sym (first q) where
  first : (i : ℕ) → nat_cmp 0 (suc i) ≡ Less
  first i = grind (arith, nat_tests)
place_order k (c ∷ cs) r (suc p) zero v w a b =
    labels_total.antisymm (slice_index_or cs p no_column).labels c.labels ∙ ap ordering_reverse (behind k c.labels cs p v r.0 a) ∙ sym (second p) where
      second : (i : ℕ) → nat_cmp (suc i) 0 ≡ Greater
      second i = grind (arith, nat_tests)
place_order k (c ∷ cs) r (suc p) (suc q) v w a b = place_order k cs r.1 p q v w a b ∙ sym (both p q) where
  both : (i j : ℕ) → nat_cmp (suc i) (suc j) ≡ nat_cmp i j
  both i j = grind (arith, nat_tests)

lt_suc : (a b : ℕ) → nat_lt a b ≡ nat_lt (suc a) (suc b)
lt_suc a b = grind (arith, nat_tests)

lt_none : (a : ℕ) → false ≡ nat_lt a 0
lt_none a = grind (arith, nat_tests)

lt_some : (a : ℕ) → true ≡ nat_lt 0 (suc a)
lt_some a = grind (arith, nat_tests)

neg_lt : (a b : ℤ) → int_lt (neg_ℤ b) (neg_ℤ a) ≡ int_lt a b
neg_lt (pos zero) (pos zero) = refl
neg_lt (pos zero) (pos (suc b)) = lt_some b
neg_lt (pos (suc a)) (pos zero) = lt_none (suc a)
neg_lt (pos (suc a)) (pos (suc b)) = lt_suc a b
neg_lt (pos zero) (negsuc b) = sym (lt_none (suc b))
neg_lt (pos (suc a)) (negsuc b) = refl
neg_lt (negsuc a) (pos zero) = sym (lt_some a)
neg_lt (negsuc a) (pos (suc b)) = refl
neg_lt (negsuc a) (negsuc b) = sym (lt_suc b a)

neg_order : (a b : ℤ) → ordering_reverse (int_cmp (neg_ℤ a) (neg_ℤ b)) ≡ int_cmp a b
neg_order a b =
    sym (int_cmp_total.antisymm (neg_ℤ b) (neg_ℤ a))
    ∙ λ i. cond (neg_lt a b i) Less (cond (neg_lt b a i) Greater Equal)

module _ (r : Rank) (cs : List ColumnData) (k : ℕ) where
  abbrev pub element_of : Entry → Element
  element_of e = element_at cs e.place (value_from r e.height)

  -- the entry's column has its value at the step
  abbrev pub Stands : Entry → Type 0
  Stands e = value_at cs e.place k ≡ Some (value_from r e.height)

  entry_stands : (i : ℕ) (o : Option ℤ) → value_at cs i k ≡ o → Each Stands (entry r i o)
  entry_stands i None e = tt
  entry_stands i (Some v) e = (e ∙ ap Some (sym (from_height r v)), tt)

  entries_stand : (ps : List ℕ) → Each Stands (entries_at r cs k ps)
  entries_stand [] = tt
  entries_stand (p ∷ ps) = each_append Stands (entry r p (value_at cs p k)) (entries_at r cs k ps) (entry_stands p (value_at cs p k) refl) (entries_stand ps)

  module _ (rises : AreRising (columns_labels cs)) where
    agree_by : (s : Rank) (a b : ℤ) (l o : Ordering) → l ≡ o → (e f : Element) → e.value ≡ value_from s a → f.value ≡ value_from s b → element_cmp e f ≡ l
        → order_of s e f ≡ ordering_then (int_cmp a b) o
    agree_by rank.Falling a b l o h e f x y z =
        (λ i. ordering_then (ordering_reverse (int_cmp (x i) (y i))) ((z ∙ h) i)) ∙ ap (λ t. ordering_then t o) (neg_order a b)
    agree_by rank.Rising a b l o h e f x y z = λ i. ordering_then (int_cmp (x i) (y i)) ((z ∙ h) i)

    agree : (d e : Entry) → Stands d → Stands e → order_of r (element_of d) (element_of e) ≡ entry_cmp d e
    agree d e a b =
        agree_by r d.height e.height _ (nat_cmp d.place e.place)
        (place_order k cs rises d.place e.place (value_from r d.height) (value_from r e.height) a b)
        (element_of d) (element_of e) refl refl refl

    -- what is kept of entries
    pub ranked_elements : (n : ℕ) (ps : List ℕ) → map element_of (ranked r n cs k ps) ≡ take n (isort (order_of r) (map element_of (entries_at r cs k ps)))
    ranked_elements n ps =
        let es = entries_at r cs k ps in
        sym (take-map element_of n (isort entry_cmp es)) ∙ ap (take n) (map_isort element_of entry_cmp (order_of r) Stands agree es (entries_stand ps))

    ranked_stand : (n : ℕ) (bs : List (List ℕ)) → Each Stands (joined (ranked r n cs k) bs)
    ranked_stand n [] = tt
    ranked_stand n (b ∷ bs) =
        let es = entries_at r cs k b in
        each_append Stands (ranked r n cs k b) (joined (ranked r n cs k) bs) (each_take Stands n (isort entry_cmp es) (each_isort Stands entry_cmp es (entries_stand b))) (ranked_stand n bs)

    not_there : (p : ℕ) (es : List Entry) → AreOtherEntries p es → stand es p ≡ false
    not_there p [] a = refl
    not_there p (e ∷ es) a = (λ i. a.0 i || not_there p es a.1 i)

    own_place : (p : ℕ) → nat_eq p p ≡ true
    own_place p = grind (arith, nat_tests)

    not_other : (p j : ℕ) → (j ≡ p → ⊥) → nat_eq p j ≡ false
    not_other p j n = grind (arith, nat_tests, n)

    passing_sorted : (es : List Entry) → Each Stands es → AreApart es → passing k (stand es) cs ≡ isort element_cmp (map element_of es)
    passing_sorted [] a s = none_passing k cs
    passing_sorted (e ∷ es) a s =
        one_more k cs rises e.place (value_from r e.height) a.0 (stand es) (stand (e ∷ es)) (not_there e.place es s.0)
        (ap (λ b. b || stand es e.place) (own_place e.place))
        (λ j n. ap (λ b. b || stand es j) (not_other e.place j n))
        ∙ ap (ins element_cmp (element_of e)) (passing_sorted es a.1 s.1)

    pub kept_sorted : (n : ℕ) (bs : List (List ℕ)) → AreApart (joined (ranked r n cs k) bs)
        → passing k (stand (joined (ranked r n cs k) bs)) cs ≡ isort element_cmp (map element_of (joined (ranked r n cs k) bs))
    kept_sorted n bs s = passing_sorted (joined (ranked r n cs k) bs) (ranked_stand n bs) s
