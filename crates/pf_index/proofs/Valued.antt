-- The value of a label that stands in a label set.
use Rattle.std.proofs.Common.{◌≡◌, ℕ, Bool, true, false, cond, ◌&&◌, ◌||◌, List, [], ◌∷◌, refl, ap, ◌∙◌, subst}
use Rattle.std.specs.Str.{bytes_eq}
use Rattle.std.specs.Cmp.{first_so, second_so, tied_itself}
use Rattle.std.specs.Ordering.{is_lt}
use Rattle.std.specs.Cmp.Lexicographic.{nat_list_cmp_total}
use Rattle.std.proofs.lemmas.Slice.Eq.{bytes_eq-Decides}
use Rattle.pf_base.specs.LabelSets.{Pairs, rises, rises_after, value_of}
use Rattle.pf_base.proofs.LabelFacts.{below, rises_from_after, rises_lower}
use Rattle.pf_block.specs.SeriesIds.{has_pair}

apart_names : (a b : List ℕ) (v : Bool) → bytes_eq b a ≡ v → below a b ≡ true → v ≡ false
apart_names a b false e l = refl
apart_names a b true e l = let same : b ≡ a = (bytes_eq-Decides b a).0 e in absurd (self_below a (subst (λ x. below a x ≡ true) same l)) where
  self_below : (a : List ℕ) → below a a ≡ true → ⊥
  self_below a h = let t = ap is_lt (tied_itself nat_list_cmp_total a) in clash (below a a) h t where
    clash : (b : Bool) → b ≡ true → b ≡ false → ⊥
    clash true p q = cc
    clash false p q = cc

none_later : (name v : List ℕ) (ps : Pairs) → rises_after name ps ≡ true → has_pair name v ps ≡ false
none_later name v [] h = refl
none_later name v (p ∷ ps) h =
    let l = first_so (below name p.0) (rises_after p.0 ps) h in
    ap (λ b. (b && bytes_eq p.1 v) || has_pair name v ps) (apart_names name p.0 (bytes_eq p.0 name) refl l)
    ∙ none_later name v ps (rises_lower name p.0 ps l (second_so (below name p.0) (rises_after p.0 ps) h))

value_by : (name v : List ℕ) (p : List ℕ × List ℕ) (ps : Pairs) (b c : Bool) → bytes_eq p.0 name ≡ b → bytes_eq p.1 v ≡ c → rises_after p.0 ps ≡ true → ((b && c) || has_pair name v ps) ≡ true
    → (has_pair name v ps ≡ true → value_of ps name ≡ v) → cond b p.1 (value_of ps name) ≡ v
value_by name v p ps true true e d r h f = (bytes_eq-Decides p.1 v).0 d
value_by name v p ps true false e d r h f =
    let same : p.0 ≡ name = (bytes_eq-Decides p.0 name).0 e in
    let n : has_pair name v ps ≡ false = none_later name v ps (subst (λ x. rises_after x ps ≡ true) same r) in
    absurd (clash (has_pair name v ps) h n) where
      clash : (b : Bool) → b ≡ true → b ≡ false → ⊥
      clash true p q = cc
      clash false p q = cc
value_by name v p ps false c e d r h f = f h

pub value_is : (name v : List ℕ) (ps : Pairs) → rises ps ≡ true → has_pair name v ps ≡ true → value_of ps name ≡ v
value_is name v [] r h = cc
value_is name v (p ∷ ps) r h =
    value_by name v p ps (bytes_eq p.0 name) (bytes_eq p.1 v) refl refl r h (value_is name v ps (rises_from_after p.0 ps r))
