-- Where the extent that has a step stands.
use Rattle.std.proofs.Common.{◌≡◌, ℕ, zero, suc, ◌≤◌, ◌<◌, Bool, true, false, cond, Option, None, Some, List, [], ◌∷◌, length, refl, sym, subst, ap, ◌∙◌, arith}
use Rattle.std.specs.Prelude.{nat_lt, option_map, slice_get, slice_index_or}
use Rattle.std.specs.List.{AllWithin}
use Rattle.std.specs.List.Sorted.{IsPartitionedBy}
use Rattle.std.proofs.lemmas.Bool.{lt-ltb, ltb-false, ltb-true}
use Rattle.std.proofs.lemmas.Option.{slice_get_past, slice_get_read}
use Rattle.pf_model.specs.Lists.{Each}
use Rattle.pf_extent.specs.declared.extent.Extent.{Extent}
use Rattle.pf_extent.specs.Steps.{AreApart, IsBehind, IsLawful, ended, extent_at, has_step, known_at, known_of}
use Rattle.pf_extent.proofs.KnownSteps.{none_before, not_there}
use Rattle.pf_extent.proofs.Parts.{step_of}

-- ---- the last steps rise

behind_all : (e : Extent) (es : List Extent) (j : ℕ) (d : Extent) → AreApart es → Each (IsBehind e) es → j < length es → e.last ≤ (slice_index_or es j d).last
behind_all e [] j d a b h = absurd (omega (arith, h))
behind_all e (x ∷ es) zero d a b h = omega (arith, b.0.apart, a.0.order)
behind_all e (x ∷ es) (suc j) d a b h = behind_all e es j d a.2 b.1 (omega (arith, h))

rises : (es : List Extent) (i j : ℕ) (d : Extent) → AreApart es → i ≤ j → j < length es → (slice_index_or es i d).last ≤ (slice_index_or es j d).last
rises [] i j d a l h = absurd (omega (arith, h))
rises (e ∷ es) zero zero d a l h = omega arith
rises (e ∷ es) zero (suc j) d a l h = behind_all e es j d a.2 a.1 (omega (arith, h))
rises (e ∷ es) (suc i) zero d a l h = absurd (omega (arith, l))
rises (e ∷ es) (suc i) (suc j) d a l h = rises es i j d a.2 (omega (arith, l)) (omega (arith, h))

pub is_partitioned : (t : ℕ) (es : List Extent) → AreApart es → IsPartitionedBy (λ e. nat_lt e.last t) es
is_partitioned t es a i j d l m h =
    let after : (slice_index_or es i d).last ≤ (slice_index_or es j d).last = rises es i j d a l m in
    let before : (slice_index_or es j d).last < t = ltb-true (slice_index_or es j d).last t h in
    lt-ltb (slice_index_or es i d).last t (omega (arith, after, before))

pub ended_is : (t : ℕ) (es : List Extent) (i : ℕ) → i ≤ length es → AllWithin (λ e. nat_lt e.last t ≡ true) es 0 i → AllWithin (λ e. nat_lt e.last t ≡ false) es i (length es) → i ≡ ended t es
ended_is t [] i l p q = omega arith
ended_is t (e ∷ es) zero l p q = let h : nat_lt e.last t ≡ false = q 0 e (omega arith) (omega arith) in sym (ap (λ b. cond b (suc (ended t es)) 0) h)
ended_is t (e ∷ es) (suc i) l p q =
    let h : nat_lt e.last t ≡ true = p 0 e (omega arith) (omega arith) in
    let r : i ≡ ended t es = ended_is t es i (omega arith) (λ k d a b. p (suc k) d (omega arith) (omega arith)) (λ k d a b. q (suc k) d (omega arith) (omega arith)) in
    ap suc r ∙ sym (ap (λ b. cond b (suc (ended t es)) 0) h)

-- ---- what stands there

no_extent : (t : ℕ) (es : List Extent) → Each (λ e. has_step t e ≡ false) es → extent_at t es ≡ None
no_extent t [] a = refl
no_extent t (e ∷ es) a = ap (λ b. cond b (Some e) (extent_at t es)) a.0 ∙ no_extent t es a.1

abbrev pub if_step : ℕ → Option Extent → Option Extent
if_step t None = None
if_step t (Some e) = cond (has_step t e) (Some e) None

found_by : (t : ℕ) (e : Extent) (es : List Extent) (b : Bool) → nat_lt e.last t ≡ b → Each (IsBehind e) es
    → extent_at t es ≡ if_step t (slice_get es (ended t es))
    → extent_at t (e ∷ es) ≡ if_step t (slice_get (e ∷ es) (cond b (suc (ended t es)) 0))
found_by t e es true i a h =
    let before : e.last < t = ltb-true e.last t i in
    let off : has_step t e ≡ false = not_there (has_step t e) (λ p. absurd (omega (arith, (step_of t e p).1, before))) in
    ap (λ b. cond b (Some e) (extent_at t es)) off ∙ h
found_by t e es false i a h =
    let upto : t ≤ e.last = ltb-false e.last t i in
    ap (cond (has_step t e) (Some e)) (no_extent t es (none_before t e es upto a))

pub extent_is : (t : ℕ) (es : List Extent) → AreApart es → extent_at t es ≡ if_step t (slice_get es (ended t es))
extent_is t [] a = refl
extent_is t (e ∷ es) a = found_by t e es (nat_lt e.last t) refl a.1 (extent_is t es a.2)

pub has_distance : (es : List Extent) (k : ℕ) (e : Extent) → AreApart es → slice_get es k ≡ Some e → 1 ≤ e.step
has_distance [] k e a h = cc
has_distance (x ∷ es) zero e a h = let same : x ≡ e = cc in subst (λ y. 1 ≤ y.step) same a.0.distance
has_distance (x ∷ es) (suc k) e a h = has_distance es k e a.2 h

pub found_in : (t : ℕ) (es : List Extent) (e : Extent) (k : ℕ) (b : Bool) → AreApart es → k ≡ ended t es → true ≡ nat_lt k (length es) → e ≡ slice_index_or es k e → b ≡ has_step t e
    → extent_at t es ≡ cond b (Some e) None
found_in t es e k b a p l r h =
    let within : k < length es = ltb-true k (length es) (sym l) in
    extent_is t es a
    ∙ ap (λ i. if_step t (slice_get es i)) (sym p)
    ∙ ap (if_step t) (slice_get_read es (length es) k e refl within r)
    ∙ ap (λ c. cond c (Some e) None) (sym h)

pub missing_in : (t : ℕ) (es : List Extent) (k : ℕ) → AreApart es → k ≡ ended t es → false ≡ nat_lt k (length es) → extent_at t es ≡ None
missing_in t es k a p l =
    let past : length es ≤ k = ltb-false k (length es) (sym l) in
    extent_is t es a ∙ ap (λ i. if_step t (slice_get es i)) (sym p) ∙ ap (if_step t) (slice_get_past es k past)

-- ---- what is known of it

known_by : (t : ℕ) (e : Extent) (es : List Extent) (b : Bool) → known_at t es ≡ option_map (known_of t) (extent_at t es)
    → cond b (Some (known_of t e)) (known_at t es) ≡ option_map (known_of t) (cond b (Some e) (extent_at t es))
known_by t e es true h = refl
known_by t e es false h = h

pub known_is : (t : ℕ) (es : List Extent) → known_at t es ≡ option_map (known_of t) (extent_at t es)
known_is t [] = refl
known_is t (e ∷ es) = known_by t e es (has_step t e) (known_is t es)

lawful_by : (t : ℕ) (x e : Extent) (es : List Extent) (b : Bool) → has_step t x ≡ b → IsLawful x → (extent_at t es ≡ Some e → IsLawful e × (has_step t e ≡ true))
    → cond b (Some x) (extent_at t es) ≡ Some e → IsLawful e × (has_step t e ≡ true)
lawful_by t x e es true i l r h = let same : x ≡ e = cc in subst (λ y. IsLawful y × (has_step t y ≡ true)) same (l, i)
lawful_by t x e es false i l r h = r h

pub lawful_at : (t : ℕ) (es : List Extent) (e : Extent) → AreApart es → extent_at t es ≡ Some e → IsLawful e × (has_step t e ≡ true)
lawful_at t [] e a h = cc
lawful_at t (x ∷ es) e a h = lawful_by t x e es (has_step t x) refl a.0 (lawful_at t es e a.2) h
