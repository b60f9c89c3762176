-- The key of one label: label sets that have a pair of its name have one key, and so have the series that are listed by it.
use Rattle.std.proofs.Common.{◌≡◌, ℕ, suc, ◌+◌, ◌<◌, Bool, true, false, cond, ◌&&◌, ◌||◌, List, [], ◌∷◌, length, get_or, eqb, refl, sym, ap, ◌∙◌, subst, arith}
use Rattle.std.specs.List.{list_any}
use Rattle.std.specs.Str.{bytes_eq}
use Rattle.std.specs.Cmp.{first_so, second_so, tied_itself}
use Rattle.std.specs.Cmp.Lexicographic.{nat_list_cmp_total}
use Rattle.std.specs.Ordering.{is_lt}
use Rattle.std.proofs.lemmas.Bool.{eqb-true}
use Rattle.std.proofs.lemmas.Slice.Eq.{bytes_eq-Decides}
use Rattle.pf_base.specs.LabelSets.{Pairs, rises, rises_after, value_of}
use Rattle.pf_base.specs.LabelChanges.{kept}
use Rattle.pf_base.proofs.LabelFacts.{below, rises_from_after, rises_lower}
use Rattle.pf_block.specs.SeriesIds.{has_pair, ids_from, ids_with}

clash : (b : Bool) → b ≡ true → b ≡ false → ⊥
clash true p q = cc
clash false p q = cc

-- ---- names that rise

not_itself : (a b : List ℕ) → below a b ≡ true → a ≡ b → ⊥
not_itself a b h e =
    let t = ap is_lt (tied_itself nat_list_cmp_total a) in
    clash (below a a) (subst (λ x. below a x ≡ true) (sym e) h) t

apart : (a b : List ℕ) (v : Bool) → (v ≡ true → a ≡ b) → below a b ≡ true → v ≡ false
apart a b false f h = refl
apart a b true f h = absurd (not_itself a b h (f refl))

none_kept : (name : List ℕ) (ps : Pairs) → rises_after name ps ≡ true → kept (name ∷ []) ps ≡ []
none_kept name [] h = refl
none_kept name (p ∷ ps) h =
    let l = first_so (below name p.0) (rises_after p.0 ps) h in
    let other : bytes_eq name p.0 ≡ false = apart name p.0 (bytes_eq name p.0) (λ e. (bytes_eq-Decides name p.0).0 e) l in
    ap (λ b. cond (b || false) (p ∷ kept (name ∷ []) ps) (kept (name ∷ []) ps)) other
    ∙ none_kept name ps (rises_lower name p.0 ps l (second_so (below name p.0) (rises_after p.0 ps) h))

none_paired : (name v : List ℕ) (ps : Pairs) → rises_after name ps ≡ true → has_pair name v ps ≡ false
none_paired name v [] h = refl
none_paired name v (p ∷ ps) h =
    let l = first_so (below name p.0) (rises_after p.0 ps) h in
    let other : bytes_eq p.0 name ≡ false = apart name p.0 (bytes_eq p.0 name) (λ e. sym ((bytes_eq-Decides p.0 name).0 e)) l in
    ap (λ b. (b && bytes_eq p.1 v) || has_pair name v ps) other
    ∙ none_paired name v ps (rises_lower name p.0 ps l (second_so (below name p.0) (rises_after p.0 ps) h))

-- ---- what is kept where there is the pair

here : (x y z : Bool) → z ≡ false → ((x && y) || z) ≡ true → y ≡ true
here true true z e h = refl
here true false z e h = absurd (clash z h e)
here false y z e h = absurd (clash z h e)

later : (x y z : Bool) → x ≡ false → ((x && y) || z) ≡ true → z ≡ true
later true y z e h = cc
later false y z e h = h

turned : (a b : List ℕ) (v : Bool) → bytes_eq b a ≡ v → bytes_eq a b ≡ false → v ≡ false
turned a b false e h = refl
turned a b true e h = absurd (clash (bytes_eq a b) ((bytes_eq-Decides a b).1 (sym ((bytes_eq-Decides b a).0 e))) h)

one_by : (name v : List ℕ) (p : List ℕ × List ℕ) (ps : Pairs) (b : Bool) → bytes_eq name p.0 ≡ b → rises_after p.0 ps ≡ true → has_pair name v (p ∷ ps) ≡ true
    → (has_pair name v ps ≡ true → kept (name ∷ []) ps ≡ (name, v) ∷ []) → cond (b || false) (p ∷ kept (name ∷ []) ps) (kept (name ∷ []) ps) ≡ (name, v) ∷ []
one_by name v p ps true e r h f =
    let same : name ≡ p.0 = (bytes_eq-Decides name p.0).0 e in
    let after : rises_after name ps ≡ true = subst (λ x. rises_after x ps ≡ true) (sym same) r in
    let value : p.1 ≡ v = (bytes_eq-Decides p.1 v).0 (here (bytes_eq p.0 name) (bytes_eq p.1 v) (has_pair name v ps) (none_paired name v ps after) h) in
    let none = none_kept name ps after in
    λ i. (sym same i, value i) ∷ none i
one_by name v p ps false e r h f =
    f (later (bytes_eq p.0 name) (bytes_eq p.1 v) (has_pair name v ps) (turned name p.0 (bytes_eq p.0 name) refl e) h)

pub one_kept : (name v : List ℕ) (ps : Pairs) → rises ps ≡ true → has_pair name v ps ≡ true → kept (name ∷ []) ps ≡ (name, v) ∷ []
one_kept name v [] r h = cc
one_kept name v (p ∷ ps) r h = one_by name v p ps (bytes_eq name p.0) refl r h (one_kept name v ps (rises_from_after p.0 ps r))

-- a value that is there stands in a pair
paired_by : (name v : List ℕ) (p : List ℕ × List ℕ) (ps : Pairs) (b : Bool) → v ≡ cond b p.1 (value_of ps name) → (v ≡ value_of ps name → has_pair name v ps ≡ true)
    → ((b && bytes_eq p.1 v) || has_pair name v ps) ≡ true
paired_by name v p ps true e f = ap (λ b. b || has_pair name v ps) ((bytes_eq-Decides p.1 v).1 (sym e))
paired_by name v p ps false e f = f e

pub value_pair : (name v : List ℕ) (ps : Pairs) → v ≡ value_of ps name → eqb (length v) 0 ≡ false → has_pair name v ps ≡ true
value_pair name v [] e h = absurd (clash (eqb (length v) 0) (ap (λ (x : List ℕ). eqb (length x) 0) e) h)
value_pair name v (p ∷ ps) e h = paired_by name v p ps (bytes_eq p.0 name) e (λ d. value_pair name v ps d h)

-- ---- the series that are listed by a pair

-- the label sets stand in a list from a place on
abbrev StandFrom : ℕ → List Pairs → List Pairs → Type 0
StandFrom first all ls = (k : ℕ) → k < length ls → get_or all (first + k) [] ≡ get_or ls k []

stand_on : (all : List Pairs) (first : ℕ) (l : Pairs) (ls : List Pairs) → StandFrom first all (l ∷ ls) → StandFrom (first + 1) all ls
stand_on all first l ls s k h = ap (λ n. get_or all n []) (let e : (first + 1) + k ≡ first + suc k = omega arith in e) ∙ s (suc k) (omega (arith, h))

module _ (name v : List ℕ) (all : List Pairs) (k : ℕ) where
  abbrev IsPaired : ℕ → Type 0
  IsPaired n = (k < n) × (has_pair name v (get_or all k []) ≡ true)

  first_paired : (first : ℕ) (l : Pairs) (ls : List Pairs) (rest : List ℕ) (b : Bool) → eqb k first ≡ b → has_pair name v l ≡ true → StandFrom first all (l ∷ ls)
      → (list_any (eqb k) rest ≡ true → IsPaired ((first + 1) + length ls)) → (b || list_any (eqb k) rest) ≡ true → IsPaired ((first + 1) + length ls)
  first_paired first l ls rest true e p s f h =
      let is : k ≡ first = eqb-true k first e in
      let at : k ≡ first + 0 = omega (arith, is) in
      (omega (arith, is), ap (λ n. has_pair name v (get_or all n [])) at ∙ ap (has_pair name v) (s 0 (omega arith)) ∙ p)
  first_paired first l ls rest false e p s f h = f h

  by_pair : (first : ℕ) (l : Pairs) (ls : List Pairs) (rest : List ℕ) (b : Bool) → has_pair name v l ≡ b → StandFrom first all (l ∷ ls)
      → (list_any (eqb k) rest ≡ true → IsPaired ((first + 1) + length ls)) → list_any (eqb k) (cond b (first ∷ rest) rest) ≡ true → IsPaired ((first + 1) + length ls)
  by_pair first l ls rest true p s f h = first_paired first l ls rest (eqb k first) refl p s f h
  by_pair first l ls rest false p s f h = f h

  paired_from : (first : ℕ) (ls : List Pairs) → StandFrom first all ls → list_any (eqb k) (ids_from first name v ls) ≡ true → IsPaired (first + length ls)
  paired_from first [] s h = cc
  paired_from first (l ∷ ls) s h =
      let found = by_pair first l ls (ids_from (first + 1) name v ls) (has_pair name v l) refl s (paired_from (first + 1) ls (stand_on all first l ls s)) h in
      (omega (arith, found.0), found.1)

  pub listed_pair : list_any (eqb k) (ids_with name v all) ≡ true → IsPaired (length all)
  listed_pair h =
      let found = paired_from 0 all (λ n l. ap (λ m. get_or all m []) (let e : 0 + n ≡ n = omega arith in e)) h in
      (omega (arith, found.0), found.1)
