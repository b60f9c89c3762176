-- What `build` and the filters leave is a label set.
use Rattle.std.proofs.Common.{◌≡◌, ℕ, ◌≤◌, ◌<◌, ◌^◌, Bool, true, false, cond, ◌&&◌, List, [], ◌∷◌, length, refl, sym, ap, ◌∙◌, subst, arith, None, Some, Ordering}
use Rattle.std.specs.List.{All, filter, list_all}
use Rattle.std.specs.Str.{bytes_eq}
use Rattle.std.specs.Cmp.{first_so, second_so}
use Rattle.std.specs.Cmp.Lexicographic.{slice_cmp, nat_list_cmp_total}
use Rattle.std.specs.Ordering.{nat_cmp, is_lt, is_gt, is_eq, ordering_then}
use Rattle.std.specs.declared.cmp.Ordering.TheVariants.{Less, Equal, Greater}
use Rattle.std.proofs.lemmas.List.Elements.{All-head}
use Rattle.std.proofs.lemmas.Map.Text.{is_eq-slice_cmp}
use Rattle.pf_base.specs.LabelSets.{Pairs, IsLabels, rises, rises_after, is_named, has_value}
use Rattle.pf_base.specs.LabelOrder.{pair_cmp, pair_total}
use Rattle.pf_base.specs.LabelBuild.{bad_name}
use Rattle.pf_base.specs.LabelWalk.{repeated_name, repeated_after}
use Rattle.pf_base.specs.Sorting.{ins, isort}
use Rattle.pf_base.proofs.Sorting.{Ascends, ascends_isort}

pub both : (s t : Bool) → s ≡ true → t ≡ true → (s && t) ≡ true
both s t p q = λ i. p i && q i

-- ---- names in order

less_is : (o : Ordering) → is_lt o ≡ true → o ≡ Less
less_is Less h = refl
less_is Equal h = cc
less_is Greater h = cc

abbrev pub below : List ℕ → List ℕ → Bool
below a b = is_lt (slice_cmp nat_cmp a b)

pub below_trans : (a b c : List ℕ) → below a b ≡ true → below b c ≡ true → below a c ≡ true
below_trans a b c p q = ap is_lt (nat_list_cmp_total.trans a b c (less_is _ p) (less_is _ q))

pub rises_lower : (a b : List ℕ) (ps : Pairs) → below a b ≡ true → rises_after b ps ≡ true → rises_after a ps ≡ true
rises_lower a b [] l h = refl
rises_lower a b (p ∷ ps) l h =
    both (below a p.0) (rises_after p.0 ps) (below_trans a b p.0 l (first_so (below b p.0) (rises_after p.0 ps) h)) (second_so (below b p.0) (rises_after p.0 ps) h)

pub rises_from_after : (a : List ℕ) (ps : Pairs) → rises_after a ps ≡ true → rises ps ≡ true
rises_from_after a [] h = refl
rises_from_after a (p ∷ ps) h = second_so (below a p.0) (rises_after p.0 ps) h

-- ---- filters

module _ (keep : List ℕ × List ℕ → Bool) where
  rises_after_filter : (a : List ℕ) (ps : Pairs) → rises_after a ps ≡ true → rises_after a (filter keep ps) ≡ true
  rises_after_filter a [] h = refl
  rises_after_filter a (p ∷ ps) h =
      let l = first_so (below a p.0) (rises_after p.0 ps) h in
      let t = rises_after_filter p.0 ps (second_so (below a p.0) (rises_after p.0 ps) h) in
      elim (keep p) as (λ b. rises_after a (cond b (p ∷ filter keep ps) (filter keep ps)) ≡ true) [
        | true ↦ both (below a p.0) (rises_after p.0 (filter keep ps)) l t
        | false ↦ rises_lower a p.0 (filter keep ps) l t
      ]

  rises_filter : (ps : Pairs) → rises ps ≡ true → rises (filter keep ps) ≡ true
  rises_filter [] h = refl
  rises_filter (p ∷ ps) h =
      let t = rises_after_filter p.0 ps h in
      elim (keep p) as (λ b. rises (cond b (p ∷ filter keep ps) (filter keep ps)) ≡ true) [
        | true ↦ t
        | false ↦ rises_from_after p.0 (filter keep ps) t
      ]

  all_filter : (q : List ℕ × List ℕ → Bool) (ps : Pairs) → list_all q ps ≡ true → list_all q (filter keep ps) ≡ true
  all_filter q [] h = refl
  all_filter q (p ∷ ps) h =
      let t = all_filter q ps (second_so (q p) (list_all q ps) h) in
      elim (keep p) as (λ b. list_all q (cond b (p ∷ filter keep ps) (filter keep ps)) ≡ true) [
        | true ↦ both (q p) (list_all q (filter keep ps)) (first_so (q p) (list_all q ps) h) t
        | false ↦ t
      ]

  all_kept_by : (p : List ℕ × List ℕ) (ps : Pairs) (b : Bool) → keep p ≡ b → list_all keep (filter keep ps) ≡ true → list_all keep (cond b (p ∷ filter keep ps) (filter keep ps)) ≡ true
  all_kept_by p ps true e t = both (keep p) (list_all keep (filter keep ps)) e t
  all_kept_by p ps false e t = t

  pub all_kept : (ps : Pairs) → list_all keep (filter keep ps) ≡ true
  all_kept [] = refl
  all_kept (p ∷ ps) = all_kept_by p ps (keep p) refl (all_kept ps)

  pub shorter : (ps : Pairs) → length (filter keep ps) ≤ length ps
  shorter [] = omega arith
  shorter (p ∷ ps) =
      let t = shorter ps in
      elim (keep p) as (λ b. length (cond b (p ∷ filter keep ps) (filter keep ps)) ≤ length (p ∷ ps)) [ true ↦ omega arith | false ↦ omega arith ]

  pub labels_filter : (ps qs : Pairs) → IsLabels ps → qs ≡ filter keep ps → IsLabels qs
  labels_filter ps qs h e = subst IsLabels (sym e) (record {
    rising = rises_filter ps h.rising;
    full = all_filter has_value ps h.full;
    named = all_filter is_named ps h.named;
    few = let n = shorter ps in let m : length ps < 2 ^ 32 = h.few in omega arith;
  })

-- ---- `build`

named_by : (p : List ℕ × List ℕ) (ps : Pairs) (b : Bool) → is_named p ≡ b → (bad_name ps ≡ None → list_all is_named ps ≡ true) → cond b (bad_name ps) (Some p.0) ≡ None → (is_named p && list_all is_named ps) ≡ true
named_by p ps true e t h = both (is_named p) (list_all is_named ps) e (t h)
named_by p ps false e t h = cc

named : (ps : Pairs) → bad_name ps ≡ None → list_all is_named ps ≡ true
named [] h = refl
named (p ∷ ps) h = named_by p ps (is_named p) refl (named ps) h

module _ (q : List ℕ × List ℕ → Bool) where
  pub all_ins : (x : List ℕ × List ℕ) (ps : Pairs) → q x ≡ true → list_all q ps ≡ true → list_all q (ins pair_cmp x ps) ≡ true
  all_ins x [] e h = both (q x) true e refl
  all_ins x (p ∷ ps) e h =
      elim (is_gt (pair_cmp x p)) as (λ b. list_all q (cond b (p ∷ ins pair_cmp x ps) (x ∷ p ∷ ps)) ≡ true) [
        | true ↦ both (q p) (list_all q (ins pair_cmp x ps)) (first_so (q p) (list_all q ps) h) (all_ins x ps e (second_so (q p) (list_all q ps) h))
        | false ↦ both (q x) (list_all q (p ∷ ps)) e h
      ]

  all_isort : (ps : Pairs) → list_all q ps ≡ true → list_all q (isort pair_cmp ps) ≡ true
  all_isort [] h = refl
  all_isort (p ∷ ps) h = all_ins p (isort pair_cmp ps) (first_so (q p) (list_all q ps) h) (all_isort ps (second_so (q p) (list_all q ps) h))

lesser : (o r : Ordering) → is_gt (ordering_then o r) ≡ false → is_eq o ≡ false → is_lt o ≡ true
lesser Less r g e = refl
lesser Equal r g e = cc
lesser Greater r g e = cc

rises_apart_by : (a p : List ℕ × List ℕ) (ps : Pairs) (b : Bool) → bytes_eq a.0 p.0 ≡ b → is_gt (pair_cmp a p) ≡ false → (repeated_after p.0 ps ≡ None → rises_after p.0 ps ≡ true) → cond b (Some a.0) (repeated_after p.0 ps) ≡ None → (below a.0 p.0 && rises_after p.0 ps) ≡ true
rises_apart_by a p ps true e g t h = cc
rises_apart_by a p ps false e g t h =
    both (below a.0 p.0) (rises_after p.0 ps) (lesser (slice_cmp nat_cmp a.0 p.0) (slice_cmp nat_cmp a.1 p.1) g (is_eq-slice_cmp a.0 p.0 ∙ e)) (t h)

rises_apart : (a : List ℕ × List ℕ) (ps : Pairs) → All (λ q. is_gt (pair_cmp a q) ≡ false) ps → Ascends pair_cmp ps → repeated_after a.0 ps ≡ None → rises_after a.0 ps ≡ true
rises_apart a [] up rest h = refl
rises_apart a (p ∷ ps) up rest h =
    rises_apart_by a p ps (bytes_eq a.0 p.0) refl (All-head (λ q. is_gt (pair_cmp a q) ≡ false) p ps up) (rises_apart p ps rest.0 rest.1) h

rises_sorted : (ps : Pairs) → Ascends pair_cmp ps → repeated_name ps ≡ None → rises ps ≡ true
rises_sorted [] up h = refl
rises_sorted (p ∷ ps) up h = rises_apart p ps up.0 up.1 h

-- pairs with label names, sorted, no name twice, those with a value, at most 64
pub is_labels : (ps ss qs : Pairs) → bad_name ps ≡ None → ss ≡ isort pair_cmp ps → repeated_name ss ≡ None → qs ≡ filter has_value ss → length qs ≤ 64 → IsLabels qs
is_labels ps ss qs b e r k n = record {
  rising = subst (λ l. rises l ≡ true) (sym k) (rises_filter has_value ss (rises_sorted ss (subst (Ascends pair_cmp) (sym e) (ascends_isort pair_cmp pair_total ps)) r));
  full = subst (λ l. list_all has_value l ≡ true) (sym k) (all_kept has_value ss);
  named = subst (λ l. list_all is_named l ≡ true) (sym k) (all_filter has_value is_named ss (subst (λ l. list_all is_named l ≡ true) (sym e) (all_isort is_named ps (named ps b))));
  few = omega arith;
}
