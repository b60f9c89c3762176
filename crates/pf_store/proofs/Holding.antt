-- What lists of rows hold.
use Rattle.std.proofs.Common.{◌≡◌, ℕ, ℤ, Bool, true, false, cond, ◌&&◌, not, List, [], ◌∷◌, ◌++◌, refl, sym, ap, ◌∙◌, Some, None, Option, nat_eq, nat_le}
use Rattle.std.specs.Cmp.{first_so, second_so, Equal-is}
use Rattle.std.proofs.lemmas.Bool.{eqb-true, eq-eqb}
use Rattle.pf_base.specs.declared.plain.Row.{Row}
use Rattle.pf_base.specs.LabelSets.{Pairs}
use Rattle.pf_base.specs.LabelOrder.{labels_cmp, labels_equiv, labels_exact, labels_ties}
use Rattle.pf_model.specs.declared.expr.Matcher.{Matcher}
use Rattle.pf_model.specs.Log.{held_value, is_deleted, left_by}
use Rattle.pf_model.specs.Selection.{accepts, same_labels}

-- a row is of these labels and this time
abbrev pub is_at : Row → Pairs → ℕ → Bool
is_at r l t = same_labels r.labels l && nat_eq r.time t

pub same_exact : (l m : Pairs) → same_labels l m ≡ true → l ≡ m
same_exact l m h = labels_exact l m ((Equal-is (labels_cmp l m)).0 h)

pub same_own : (l : Pairs) → same_labels l l ≡ true
same_own l = sym (labels_ties l l) ∙ labels_equiv.refl l

pub nat_exact : (m n : ℕ) → nat_eq m n ≡ true → m ≡ n
nat_exact m n h = eqb-true m n h

pub nat_own : (n : ℕ) → nat_eq n n ≡ true
nat_own n = eq-eqb n n refl

-- the first value that is there
abbrev pub either : {X : Type 0} → Option X → Option X → Option X
either None b = b
either (Some v) b = Some v

pub either_none : {X : Type 0} (a : Option X) → either a None ≡ a
either_none None = refl
either_none (Some v) = refl

pub either_assoc : (a b c : Option ℤ) → either (either a b) c ≡ either a (either b c)
either_assoc None b c = refl
either_assoc (Some v) b c = refl

pub held_value-append : (xs ys : List Row) (l : Pairs) (t : ℕ) → held_value (xs ++ ys) l t ≡ either (held_value xs l t) (held_value ys l t)
held_value-append [] ys l t = refl
held_value-append (x ∷ xs) ys l t =
    elim (is_at x l t) as (λ b. cond b (Some x.value) (held_value (xs ++ ys) l t) ≡ either (cond b (Some x.value) (held_value xs l t)) (held_value ys l t)) [
      | true ↦ refl
      | false ↦ held_value-append xs ys l t
    ]

-- a row's series and time are those of the key
pub is_at_labels : (r : Row) (l : Pairs) (t : ℕ) → is_at r l t ≡ true → r.labels ≡ l
is_at_labels r l t h = same_exact r.labels l (first_so (same_labels r.labels l) (nat_eq r.time t) h)

pub is_at_time : (r : Row) (l : Pairs) (t : ℕ) → is_at r l t ≡ true → r.time ≡ t
is_at_time r l t h = nat_exact r.time t (second_so (same_labels r.labels l) (nat_eq r.time t) h)

-- what a deletion leaves
module _ (ms : List Matcher) (from to : ℕ) where
  abbrev pub removes : Pairs → ℕ → Bool
  removes l t = accepts ms l && (nat_le from t && nat_le t to)

  left_by_kept_by : (x : Row) (xs : List Row) (l : Pairs) (t : ℕ) (v : Bool) → is_at x l t ≡ true → held_value (left_by ms from to xs) l t ≡ cond v None (held_value xs l t) →
      held_value (cond (not v) (x ∷ left_by ms from to xs) (left_by ms from to xs)) l t ≡ cond v None (Some x.value)
  left_by_kept_by x xs l t true e h = h
  left_by_kept_by x xs l t false e h = ap (λ b. cond b (Some x.value) (held_value (left_by ms from to xs) l t)) e

  left_by_kept : (x : Row) (xs : List Row) (l : Pairs) (t : ℕ) (v : Bool) → is_at x l t ≡ true → removes l t ≡ v → held_value (left_by ms from to xs) l t ≡ cond v None (held_value xs l t) →
      held_value (cond (not (is_deleted ms from to x)) (x ∷ left_by ms from to xs) (left_by ms from to xs)) l t ≡ cond v None (Some x.value)
  left_by_kept x xs l t v e d h =
      ap (λ b. held_value (cond (not b) (x ∷ left_by ms from to xs) (left_by ms from to xs)) l t) (ap (λ m. removes m x.time) (is_at_labels x l t e) ∙ ap (λ n. removes l n) (is_at_time x l t e) ∙ d)
      ∙ left_by_kept_by x xs l t v e h

  left_by_past : (x : Row) (xs : List Row) (l : Pairs) (t : ℕ) (d : Bool) → is_at x l t ≡ false → held_value (left_by ms from to xs) l t ≡ cond (removes l t) None (held_value xs l t) →
      held_value (cond (not d) (x ∷ left_by ms from to xs) (left_by ms from to xs)) l t ≡ cond (removes l t) None (held_value xs l t)
  left_by_past x xs l t true e h = h
  left_by_past x xs l t false e h = ap (λ b. cond b (Some x.value) (held_value (left_by ms from to xs) l t)) e ∙ h

  left_by_row : (x : Row) (xs : List Row) (l : Pairs) (t : ℕ) (b : Bool) → is_at x l t ≡ b → held_value (left_by ms from to xs) l t ≡ cond (removes l t) None (held_value xs l t) →
      held_value (cond (not (is_deleted ms from to x)) (x ∷ left_by ms from to xs) (left_by ms from to xs)) l t ≡ cond (removes l t) None (cond b (Some x.value) (held_value xs l t))
  left_by_row x xs l t true e h = left_by_kept x xs l t (removes l t) e refl h
  left_by_row x xs l t false e h = left_by_past x xs l t (is_deleted ms from to x) e h

  pub left_held : (xs : List Row) (l : Pairs) (t : ℕ) → held_value (left_by ms from to xs) l t ≡ cond (removes l t) None (held_value xs l t)
  left_held [] l t = elim (removes l t) as (λ b. ◌≡◌ {A = Option ℤ} None (cond {A = Option ℤ} b None None)) [ true ↦ refl | false ↦ refl ]
  left_held (x ∷ xs) l t = left_by_row x xs l t (is_at x l t) refl (left_held xs l t)
