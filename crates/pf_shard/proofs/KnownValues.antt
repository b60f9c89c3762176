-- What is known of values, put together value by value, and that it stays within its bounds.
use Rattle.std.proofs.Common.{◌≡◌, ◌⊎◌, inl, inr, ◌+◌, ◌<◌, ◌≤◌, ℕ, zero, suc, ℤ, pos, ◌+ℤ◌, min, Option, Some, None, List, [], ◌∷◌, ◌++◌, length, map, take, drop, get_or, refl, sym, ap, ◌∙◌, subst, append-nil, append_assoc, to_z, of_z, w64, arith}
use Rattle.std.specs.Prelude.{slice_set, unsigned_abs}
use Rattle.std.specs.Int.{int_min, int_max, w128}
use Rattle.std.proofs.lemmas.Int.{ints, fits_signed_from_abs}
use Rattle.std.proofs.lemmas.List.{drop_all, drop_more, drop-set, drop-set-lt, length-set, map-append, take_more_set}
use Rattle.pf_base.specs.declared.plain.Partial.{Partial}
use Rattle.pf_base.specs.Arithmetic.{IsValue}
use Rattle.pf_base.specs.LabelSets.{Pairs}
use Rattle.pf_model.specs.declared.cell.Element.{Element}
use Rattle.pf_model.specs.Cells.{element, values_of}
use Rattle.pf_model.specs.Legs.{partial_of}
use Rattle.pf_model.specs.Lists.{Each}
use Rattle.pf_model.specs.Merging.{below, merged}
use Rattle.pf_columns.specs.Columns.{ColumnData, cell_at, value_in}
use Rattle.pf_columns.proofs.Below.{first_below}
use Rattle.pf_columns.proofs.GroupColumns.{below_alike}
use Rattle.pf_shard.specs.Groups.{IsWithin, both, known_of, known_one, known_over, with_values}
use Rattle.pf_shard.specs.Parts.{Fit}

abbrev made : ℤ → ℕ → ℤ → ℤ → Partial
made a b c d = record { sum = a; count = b; least = c; greatest = d }

-- ---- bounds

pub wider : (m n : ℕ) (p : Option Partial) → m ≤ n → IsWithin m p → IsWithin n p
wider m n None h w = tt
wider m n (Some p) h w = (w.0, omega (arith, w.1, h), w.2)

pub all_wider : (m n : ℕ) (ps : List (Option Partial)) → m ≤ n → Each (IsWithin m) ps → Each (IsWithin n) ps
all_wider m n [] h w = tt
all_wider m n (p ∷ ps) h w = (wider m n p h w.0, all_wider m n ps h w.1)

pub fits : (a b : Partial) → IsWithin 1099511627776 (Some a) → IsWithin 1099511627776 (Some b) → Fit a b
fits a b h k =
    let size : unsigned_abs (a.sum +ℤ b.sum) ≤ 2199023255552000000000000000000 = omega (arith, ints, h.1, h.2, k.1, k.2) in
    (fits_signed_from_abs w128 (a.sum +ℤ b.sum) (omega (arith, size)), omega (arith, h.1, k.1))

both_sums : (a b : Partial) (m n : ℕ) → IsWithin m (Some a) → IsWithin n (Some b) → IsWithin (m + n) (Some (merged (a ∷ b ∷ [])))
both_sums a b m n h k =
    (omega (arith, h.0), omega (arith, h.1, k.1), omega (arith, ints, h.2, k.2))

pub both_within : (m n : ℕ) (a b : Option Partial) → IsWithin m a → IsWithin n b → IsWithin (m + n) (both a b)
both_within m n None b h k = wider n (m + n) b (omega arith) k
both_within m n (Some a) None h k = wider m (m + n) (Some a) (omega arith) h
both_within m n (Some a) (Some b) h k = both_sums a b m n h k

-- ---- one value

abbrev cast : ℤ → ℤ
cast v = to_z w128 (of_z w128 (to_z w64 (of_z w64 v)))

pub value_small : (v : ℤ) → IsValue v → unsigned_abs v ≤ 1000000000000000000
value_small v h = omega (arith, ints, h.0, h.1)

-- ---- put together

sums_three : (a b c : ℤ) → (a +ℤ (b +ℤ pos 0)) +ℤ (c +ℤ pos 0) ≡ a +ℤ ((b +ℤ (c +ℤ pos 0)) +ℤ pos 0)
sums_three a b c = omega (arith, ints)

counts_three : (a b c : ℕ) → (a + (b + 0)) + (c + 0) ≡ a + ((b + (c + 0)) + 0)
counts_three a b c = omega arith

min_three : (a b c : ℤ) → int_min (int_min a b) c ≡ int_min a (int_min b c)
min_three a b c = grind (arith, ints)

max_three : (a b c : ℤ) → int_max (int_max a b) c ≡ int_max a (int_max b c)
max_three a b c = grind (arith, ints)

pub both_three : (a b c : Option Partial) → both (both a b) c ≡ both a (both b c)
both_three None b c = refl
both_three (Some a) None c = refl
both_three (Some a) (Some b) None = refl
both_three (Some a) (Some b) (Some c) =
    λ i. Some (made (sums_three a.sum b.sum c.sum i) (counts_three a.count b.count c.count i) (min_three a.least b.least c.least i) (max_three a.greatest b.greatest c.greatest i))

pub both_none : (a : Option Partial) → both a None ≡ a
both_none None = refl
both_none (Some a) = refl

first_sum : (v t : ℤ) → v +ℤ t ≡ (v +ℤ pos 0) +ℤ (t +ℤ pos 0)
first_sum v t = omega (arith, ints)

first_count : (n : ℕ) → suc (suc n) ≡ 1 + (suc n + 0)
first_count n = omega arith

known_cons : (v : ℤ) (vs : List ℤ) → known_of (v ∷ vs) ≡ both (known_one (Some v)) (known_of vs)
known_cons v [] = refl
known_cons v (w ∷ ws) =
    let p = partial_of (w ∷ ws) in
    λ i. Some (made (first_sum v p.sum i) (first_count (length ws) i) (int_min v p.least) (int_max v p.greatest))

known_snoc : (vs : List ℤ) (v : ℤ) → known_of (vs ++ (v ∷ [])) ≡ both (known_of vs) (known_one (Some v))
known_snoc [] v = refl
known_snoc (x ∷ xs) v =
    known_cons x (xs ++ (v ∷ []))
    ∙ ap (both (known_one (Some x))) (known_snoc xs v)
    ∙ sym (both_three (known_one (Some x)) (known_of xs) (known_one (Some v)))
    ∙ ap (λ o. both o (known_one (Some v))) (sym (known_cons x xs))

cell_snoc : (cs : List ColumnData) (c : ColumnData) (k : ℕ) → cell_at (cs ++ (c ∷ [])) k ≡ cell_at cs k ++ element c.labels (value_in c.values k)
cell_snoc [] c k = append-nil (element c.labels (value_in c.values k))
cell_snoc (d ∷ ds) c k =
    ap (λ es. element d.labels (value_in d.values k) ++ es) (cell_snoc ds c k)
    ∙ sym (append_assoc (element d.labels (value_in d.values k)) (cell_at ds k) (element c.labels (value_in c.values k)))

known_element : (es : List Element) (l : Pairs) (o : Option ℤ) → known_of (values_of (es ++ element l o)) ≡ both (known_of (values_of es)) (known_one o)
known_element es l None = ap (λ fs. known_of (values_of fs)) (append-nil es) ∙ sym (both_none (known_of (values_of es)))
known_element es l (Some v) =
    ap known_of (map-append (λ (e : Element). e.value) es (element l (Some v))) ∙ known_snoc (values_of es) v

with_below : (n : ℕ) (f : ℕ → Option Partial) (vs : List (Option ℤ)) → with_values (below f n) vs ≡ below (λ k. both (f k) (known_one (value_in vs k))) n
with_below zero f vs = refl
with_below (suc n) f [] =
    ap (λ ps. with_values ps []) (first_below f n) ∙ sym (first_below f n)
    ∙ below_alike f (λ k. both (f k) (known_one (value_in [] k))) (suc n) (λ k. sym (both_none (f k)))
with_below (suc n) f (v ∷ vs) =
    ap (λ ps. with_values ps (v ∷ vs)) (first_below f n)
    ∙ ap (λ ps. both (f 0) (known_one v) ∷ ps) (with_below n (λ k. f (suc k)) vs)
    ∙ sym (first_below (λ k. both (f k) (known_one (value_in (v ∷ vs) k))) n)

-- a further column
pub known_further : (n : ℕ) (cs : List ColumnData) (c : ColumnData) → with_values (known_over n cs) c.values ≡ known_over n (cs ++ (c ∷ []))
known_further n cs c =
    with_below n (λ k. known_of (values_of (cell_at cs k))) c.values
    ∙ below_alike (λ k. both (known_of (values_of (cell_at cs k))) (known_one (value_in c.values k))) (λ k. known_of (values_of (cell_at (cs ++ (c ∷ [])) k))) n
    (λ k. sym (ap (λ es. known_of (values_of es)) (cell_snoc cs c k) ∙ known_element (cell_at cs k) c.labels (value_in c.values k)))

-- ---- the steps of the walk over a column's values

with_no_values : (ps : List (Option Partial)) → with_values ps [] ≡ ps
with_no_values [] = refl
with_no_values (p ∷ ps) = refl

pub each_snoc : {X : Type 0} (P : X → Type 0) (xs : List X) (x : X) → Each P xs → P x → Each P (xs ++ (x ∷ []))
each_snoc P [] x h p = (p, tt)
each_snoc P (y ∷ ys) x h p = (h.0, each_snoc P ys x h.1 p)

pub each_append : {X : Type 0} (P : X → Type 0) (xs ys : List X) → Each P xs → Each P ys → Each P (xs ++ ys)
each_append P [] ys h k = k
each_append P (x ∷ xs) ys h k = (h.0, each_append P xs ys h.1 k)

pub each_set : {X : Type 0} (P : X → Type 0) (xs : List X) (i : ℕ) (y : X) → Each P xs → P y → Each P (slice_set xs i y)
each_set P [] i y h p = tt
each_set P (x ∷ xs) zero y h p = (p, h.1)
each_set P (x ∷ xs) (suc i) y h p = (h.0, each_set P xs i y h.1 p)

pub read_each : {X : Type 0} (P : X → Type 0) (xs : List X) (i : ℕ) (x : X) → Each P xs → i < length xs → x ≡ get_or xs i x → P x
read_each P [] i x h l e = absurd (omega (arith, l))
read_each P (y ∷ ys) zero x h l e = subst P (sym e) h.0
read_each P (y ∷ ys) (suc i) x h l e = read_each P ys i x h.1 (omega (arith, l)) e

pub each_unmap : {X Y : Type 0} (P : Y → Type 0) (f : X → Y) (xs : List X) → Each P (map f xs) → Each (λ x. P (f x)) xs
each_unmap P f [] h = tt
each_unmap P f (x ∷ xs) h = (h.0, each_unmap P f xs h.1)

pub each_wider : {X : Type 0} (P Q : X → Type 0) → ((x : X) → P x → Q x) → (xs : List X) → Each P xs → Each Q xs
each_wider P Q f [] h = tt
each_wider P Q f (x ∷ xs) h = (f x h.0, each_wider P Q f xs h.1)

pub lists_wider : (m n : ℕ) (pss : List (List (Option Partial))) → m ≤ n → Each (λ ps. Each (IsWithin m) ps) pss → Each (λ ps. Each (IsWithin n) ps) pss
lists_wider m n pss h = each_wider (λ ps. Each (IsWithin m) ps) (λ ps. Each (IsWithin n) ps) (λ ps. all_wider m n ps h) pss

pub take_drop : {X : Type 0} (i : ℕ) (xs : List X) → take i xs ++ drop i xs ≡ xs
take_drop zero xs = refl
take_drop (suc i) [] = refl
take_drop (suc i) (x ∷ xs) = ap (λ ys. x ∷ ys) (take_drop i xs)

-- what is known so far, with the values that are left, is what is wanted
pub record IsAdding (old known : List (Option Partial)) (values : List (Option ℤ)) (i : ℕ) : Type 0 where
  pub many : length known ≡ length old
  pub bound : Each (IsWithin 4294967295) (drop i known)
  pub same : take i known ++ with_values (drop i known) (drop i values) ≡ with_values old values
  pub within : (n : ℕ) → Each (IsWithin n) old → Each (IsWithin (n + 1)) (take i known) × Each (IsWithin n) (drop i known)

pub adding_none : (old : List (Option Partial)) (values : List (Option ℤ)) → Each (IsWithin 4294967295) old → IsAdding old old values 0
adding_none old values h = record { many = refl; bound = h; same = refl; within = λ n w. (tt, w) }

module _ (old known new : List (Option Partial)) (values : List (Option ℤ)) (i : ℕ) (p q : Option Partial) (v : Option ℤ)
    (ih : i < length known) (jh : i < length values) (pe : p ≡ get_or known i p) (ve : v ≡ get_or values i v)
    (qe : q ≡ both p (known_one v)) (qw : (n : ℕ) → IsWithin n p → IsWithin (n + 1) q) (ne : new ≡ slice_set known i q) where
  left_are : drop i known ≡ p ∷ drop (i + 1) known
  left_are = drop_more known i p ih ∙ ap (λ x. x ∷ drop (i + 1) known) (sym pe)

  values_are : drop i values ≡ v ∷ drop (i + 1) values
  values_are = drop_more values i v jh ∙ ap (λ x. x ∷ drop (i + 1) values) (sym ve)

  taken : take (i + 1) new ≡ take i known ++ (q ∷ [])
  taken = ap (take (i + 1)) ne ∙ take_more_set known i q ih

  new_left : drop i new ≡ q ∷ drop (i + 1) known
  new_left = ap (drop i) ne ∙ drop-set known i q ih

  dropped : drop (i + 1) new ≡ drop (i + 1) known
  dropped = ap (drop (i + 1)) ne ∙ drop-set-lt (i + 1) known i q (omega arith)

  pub adding_more : IsAdding old known values i → IsAdding old new values (i + 1)
  adding_more is =
      let firsts : Each (IsWithin 4294967295) (p ∷ drop (i + 1) known) = subst (Each (IsWithin 4294967295)) left_are is.bound in
      record {
        many = ap length ne ∙ length-set known i q ∙ is.many;
        bound = subst (Each (IsWithin 4294967295)) (sym dropped) firsts.1;
        same =
            (λ j. taken j ++ with_values (dropped j) (drop (i + 1) values))
            ∙ append_assoc (take i known) (q ∷ []) (with_values (drop (i + 1) known) (drop (i + 1) values))
            ∙ ap (λ x. take i known ++ (x ∷ with_values (drop (i + 1) known) (drop (i + 1) values))) qe
            ∙ (λ j. take i known ++ with_values (sym left_are j) (sym values_are j))
            ∙ is.same;
        within = λ n w.
            let so = is.within n w in
            let left : Each (IsWithin n) (p ∷ drop (i + 1) known) = subst (Each (IsWithin n)) left_are so.1 in (
              subst (Each (IsWithin (n + 1))) (sym taken) (each_snoc (IsWithin (n + 1)) (take i known) q so.0 (qw n left.0)),
              subst (Each (IsWithin n)) (sym dropped) left.1,
            );
      }

pub min_left : (a b : ℕ) → (a ≤ min a b) ⊎ (b ≤ min a b)
min_left zero b = inl (omega arith)
min_left (suc a) zero = inr (omega arith)
min_left (suc a) (suc b) = elim (min_left a b) [ inl h ↦ inl (omega (arith, h)) | inr h ↦ inr (omega (arith, h)) ]

module _ (old known : List (Option Partial)) (values : List (Option ℤ)) (i : ℕ) (is : IsAdding old known values i) where
  at_end : (length known ≤ i) ⊎ (length values ≤ i) → with_values (drop i known) (drop i values) ≡ drop i known
  at_end (inl h) = ap (λ ps. with_values ps (drop i values)) (drop_all i known h) ∙ sym (drop_all i known h)
  at_end (inr h) = ap (with_values (drop i known)) (drop_all i values h) ∙ with_no_values (drop i known)

  ends : min (length old) (length values) ≤ i → (length known ≤ i) ⊎ (length values ≤ i)
  ends h = elim (min_left (length old) (length values)) [
    | inl a ↦ inl (let m = is.many in omega (arith, m, a, h))
    | inr b ↦ inr (omega (arith, b, h))
  ]

  pub added : min (length old) (length values) ≤ i → known ≡ with_values old values
  added h = sym (take_drop i known) ∙ ap (λ ps. take i known ++ ps) (sym (at_end (ends h))) ∙ is.same

  pub added_within : (n : ℕ) → Each (IsWithin n) old → Each (IsWithin (n + 1)) known
  added_within n w =
      let so = is.within n w in
      subst (Each (IsWithin (n + 1))) (take_drop i known)
      (each_append (IsWithin (n + 1)) (take i known) (drop i known) so.0 (all_wider n (n + 1) (drop i known) (omega arith) so.1))
