-- A pair put among pairs of other names.
use Rattle.std.proofs.Common.{◌≡◌, ℕ, suc, ◌+◌, ◌-◌, ◌<◌, ◌^◌, Bool, true, false, cond, not, ◌&&◌, List, [], ◌∷◌, ◌++◌, take, drop, append_assoc, length, refl, sym, ap, ◌∙◌, subst, arith, eqb, Ordering}
use Rattle.std.specs.Prelude.{slice_range}
use Rattle.std.specs.List.{list_all}
use Rattle.std.specs.Cmp.{first_so, second_so}
use Rattle.std.specs.Cmp.Lexicographic.{slice_cmp, nat_list_cmp_total, nat_list_eq_equiv}
use Rattle.std.specs.Ordering.{nat_cmp, is_lt, is_gt, is_eq, ordering_then, ordering_reverse}
use Rattle.std.specs.Str.{bytes_eq}
use Rattle.std.specs.declared.cmp.Ordering.TheVariants.{Less, Equal, Greater}
use Rattle.std.proofs.lemmas.List.{take_rest}
use Rattle.std.proofs.lemmas.Map.Text.{is_eq-slice_cmp}
use Rattle.pf_base.specs.LabelSets.{Pairs, IsLabels, rises, rises_after, is_named, has_value, is_label_name, is_empty}
use Rattle.pf_base.specs.LabelOrder.{pair_cmp}
use Rattle.pf_base.specs.LabelChanges.{is_other, others}
use Rattle.pf_base.specs.LabelWalk.{place}
use Rattle.pf_base.specs.Sorting.{ins}
use Rattle.pf_base.proofs.LabelFacts.{below, both, all_ins, all_kept, labels_filter}

-- where names differ, the order of pairs is that of their names
gt_by_name : (o r : Ordering) → is_eq o ≡ false → is_gt (ordering_then o r) ≡ not (is_lt o)
gt_by_name Less r e = refl
gt_by_name Equal r e = cc
gt_by_name Greater r e = refl

apart : (name : List ℕ) (p : List ℕ × List ℕ) → is_other name p ≡ true → is_eq (slice_cmp nat_cmp name p.0) ≡ false
apart name p h = is_eq-slice_cmp name p.0 ∙ nat_list_eq_equiv.symm name p.0 ∙ turned (bytes_eq p.0 name) h where
  turned : (b : Bool) → not b ≡ true → b ≡ false
  turned true e = sym e
  turned false e = refl

module _ (name value : List ℕ) where
  abbrev new : List ℕ × List ℕ
  new = (name, value)

  abbrev AreOthers : Pairs → Type 0
  AreOthers ps = list_all (is_other name) ps ≡ true

  head_other : (p : List ℕ × List ℕ) (ps : Pairs) → AreOthers (p ∷ ps) → is_other name p ≡ true
  head_other p ps h = first_so (is_other name p) (list_all (is_other name) ps) h

  tail_others : (p : List ℕ × List ℕ) (ps : Pairs) → AreOthers (p ∷ ps) → AreOthers ps
  tail_others p ps h = second_so (is_other name p) (list_all (is_other name) ps) h

  gt_is : (p : List ℕ × List ℕ) → is_other name p ≡ true → is_gt (pair_cmp new p) ≡ not (below name p.0)
  gt_is p h = gt_by_name (slice_cmp nat_cmp name p.0) (slice_cmp nat_cmp value p.1) (apart name p h)

  -- a pair below the name's place is another's
  other_above : (p : List ℕ × List ℕ) → below name p.0 ≡ true → is_other name p ≡ true
  other_above p h = turned (bytes_eq p.0 name) (sym (is_eq-slice_cmp name p.0 ∙ nat_list_eq_equiv.symm name p.0)) (less_apart (slice_cmp nat_cmp name p.0) h) where
    less_apart : (o : Ordering) → is_lt o ≡ true → is_eq o ≡ false
    less_apart Less e = refl
    less_apart Equal e = cc
    less_apart Greater e = refl

    turned : (b : Bool) → b ≡ is_eq (slice_cmp nat_cmp name p.0) → is_eq (slice_cmp nat_cmp name p.0) ≡ false → not b ≡ true
    turned b e f = ap not (e ∙ f)

  abbrev Splits : Pairs → ℕ → Type 0
  Splits ps k = ins pair_cmp new (others name ps) ≡ others name (take k ps) ++ new ∷ others name (drop k ps)

  split_here : (p : List ℕ × List ℕ) (ps : Pairs) → below name p.0 ≡ true → Splits (p ∷ ps) 0
  split_here p ps h =
      let o : is_other name p ≡ true = other_above p h in
      let all : others name (p ∷ ps) ≡ p ∷ others name ps = ap (λ b. cond b (p ∷ others name ps) (others name ps)) o in
      ap (ins pair_cmp new) all
      ∙ ap (λ b. cond b (p ∷ ins pair_cmp new (others name ps)) (new ∷ p ∷ others name ps)) (gt_is p o ∙ ap not h)
      ∙ ap (λ l. new ∷ l) (sym all)

  later_by : (p : List ℕ × List ℕ) (xs ys zs : Pairs) (o : Bool) → is_other name p ≡ o → below name p.0 ≡ false → ins pair_cmp new xs ≡ ys ++ new ∷ zs
      → ins pair_cmp new (cond o (p ∷ xs) xs) ≡ cond o (p ∷ ys) ys ++ new ∷ zs
  later_by p xs ys zs true o h t =
      ap (λ b. cond b (p ∷ ins pair_cmp new xs) (new ∷ p ∷ xs)) (gt_is p o ∙ ap not h) ∙ ap (λ l. p ∷ l) t
  later_by p xs ys zs false o h t = t

  split_later : (p : List ℕ × List ℕ) (ps : Pairs) (k : ℕ) → below name p.0 ≡ false → Splits ps k → Splits (p ∷ ps) (suc k)
  split_later p ps k h t = later_by p (others name ps) (others name (take k ps)) (others name (drop k ps)) (is_other name p) refl h t

  split_by : (p : List ℕ × List ℕ) (ps : Pairs) (b : Bool) → below name p.0 ≡ b → Splits ps (place name ps) → Splits (p ∷ ps) (cond b 0 (1 + place name ps))
  split_by p ps true h t = split_here p ps h
  split_by p ps false h t = let s : suc (place name ps) ≡ 1 + place name ps = omega arith in subst (Splits (p ∷ ps)) s (split_later p ps (place name ps) h t)

  split_at_place : (ps : Pairs) → Splits ps (place name ps)
  split_at_place [] = refl
  split_at_place (p ∷ ps) = split_by p ps (below name p.0) refl (split_at_place ps)

  -- ---- names still rise

  flip : (o r : Ordering) → o ≡ ordering_reverse r → is_lt r ≡ false → is_eq r ≡ false → is_lt o ≡ true
  flip o Less e l n = cc
  flip o Equal e l n = cc
  flip o Greater e l n = ap is_lt e

  above : (p : List ℕ × List ℕ) → is_other name p ≡ true → below name p.0 ≡ false → below p.0 name ≡ true
  above p h e = flip (slice_cmp nat_cmp p.0 name) (slice_cmp nat_cmp name p.0) (nat_list_cmp_total.antisymm p.0 name) e (apart name p h)

  after_by : (a : List ℕ) (p : List ℕ × List ℕ) (ps : Pairs) (b : Bool) → below name p.0 ≡ b → is_other name p ≡ true → below a name ≡ true → rises_after a (p ∷ ps) ≡ true
      → (below p.0 name ≡ true → rises_after p.0 (ins pair_cmp new ps) ≡ true) → rises_after a (cond (not b) (p ∷ ins pair_cmp new ps) (new ∷ p ∷ ps)) ≡ true
  after_by a p ps true e o l h t = both (below a name) (below name p.0 && rises_after p.0 ps) l (both (below name p.0) (rises_after p.0 ps) e (second_so (below a p.0) (rises_after p.0 ps) h))
  after_by a p ps false e o l h t = both (below a p.0) (rises_after p.0 (ins pair_cmp new ps)) (first_so (below a p.0) (rises_after p.0 ps) h) (t (above p o e))

  rises_after_ins : (a : List ℕ) (ps : Pairs) → below a name ≡ true → rises_after a ps ≡ true → AreOthers ps → rises_after a (ins pair_cmp new ps) ≡ true
  rises_after_ins a [] l h o = both (below a name) true l refl
  rises_after_ins a (p ∷ ps) l h o =
      subst (λ b. rises_after a (cond b (p ∷ ins pair_cmp new ps) (new ∷ p ∷ ps)) ≡ true) (sym (gt_is p (head_other p ps o)))
      (after_by a p ps (below name p.0) refl (head_other p ps o) l h
      (λ k. rises_after_ins p.0 ps k (second_so (below a p.0) (rises_after p.0 ps) h) (tail_others p ps o)))

  first_by : (p : List ℕ × List ℕ) (ps : Pairs) (b : Bool) → below name p.0 ≡ b → is_other name p ≡ true → rises_after p.0 ps ≡ true
      → (below p.0 name ≡ true → rises_after p.0 (ins pair_cmp new ps) ≡ true) → rises (cond (not b) (p ∷ ins pair_cmp new ps) (new ∷ p ∷ ps)) ≡ true
  first_by p ps true e o h t = both (below name p.0) (rises_after p.0 ps) e h
  first_by p ps false e o h t = t (above p o e)

  rises_ins : (ps : Pairs) → rises ps ≡ true → AreOthers ps → rises (ins pair_cmp new ps) ≡ true
  rises_ins [] h o = refl
  rises_ins (p ∷ ps) h o =
      subst (λ b. rises (cond b (p ∷ ins pair_cmp new ps) (new ∷ p ∷ ps)) ≡ true) (sym (gt_is p (head_other p ps o)))
      (first_by p ps (below name p.0) refl (head_other p ps o) h (λ k. rises_after_ins p.0 ps k h (tail_others p ps o)))

-- the other pairs below the place that the code found, this pair, and the other pairs from there on
pub put_is : (name value : List ℕ) (ps : Pairs) (k n : ℕ) → k ≡ place name ps → n ≡ length ps
    → (others name (slice_range ps 0 k) ++ (name, value) ∷ []) ++ others name (slice_range ps k n) ≡ ins pair_cmp (name, value) (others name ps)
put_is name value ps k n e l =
    let front : slice_range ps 0 k ≡ take k ps = ap (λ m. take m ps) (omega arith) in
    let back : slice_range ps k n ≡ drop k ps = ap (λ m. take (m - k) (drop k ps)) l ∙ take_rest ps k in
    (λ i. (others name (front i) ++ (name, value) ∷ []) ++ others name (back i))
    ∙ append_assoc (others name (take k ps)) ((name, value) ∷ []) (others name (drop k ps))
    ∙ sym (subst (Splits name value ps) (sym e) (split_at_place name value ps))

pub filled : (bs : List ℕ) → false ≡ eqb (length bs) 0 → is_empty bs ≡ false
filled [] e = sym e
filled (b ∷ bs) e = refl

pub others_are : (name : List ℕ) (ps qs : Pairs) → qs ≡ others name ps → list_all (is_other name) qs ≡ true
others_are name ps qs e = ap (list_all (is_other name)) e ∙ all_kept (is_other name) ps

-- a label set with the labels of other names, and this one
pub labels_put : (name value : List ℕ) (ps qs rs : Pairs) → IsLabels ps → is_label_name name ≡ true → is_empty value ≡ false
    → qs ≡ others name ps → rs ≡ ins pair_cmp (name, value) qs → length rs < 2 ^ 32 → IsLabels rs
labels_put name value ps qs rs h n v e r few' =
    let l = labels_filter (is_other name) ps qs h e in
    let o = others_are name ps qs e in
    record {
      rising = ap rises r ∙ rises_ins name value qs l.rising o;
      full = ap (list_all has_value) r ∙ all_ins has_value (name, value) qs (ap not v) l.full;
      named = ap (list_all is_named) r ∙ all_ins is_named (name, value) qs n l.named;
      few = few';
    }
