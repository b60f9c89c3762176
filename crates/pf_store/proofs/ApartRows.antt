-- The samples that stand after a log are apart.
use Rattle.std.proofs.Common.{◌≡◌, ℕ, ℤ, Bool, true, false, cond, ◌&&◌, not, List, [], ◌∷◌, ◌++◌, refl, sym, ap, ◌∙◌, subst, Some, None, Option, nat_eq, nat_lt, append_assoc, append-nil, arith}
use Rattle.std.specs.Ordering.{int_eq}
use Rattle.std.proofs.lemmas.Bool.Decides.{nat_tests}
use Rattle.pf_base.specs.declared.plain.Row.{Row}
use Rattle.pf_model.specs.declared.expr.Matcher.{Matcher}
use Rattle.pf_model.specs.Log.{AreApart, Change, Rules, Store, append, delete, changed, store_after, store_of, empty_store, floor_at, held_value, left_by, is_deleted, is_taken, taken_rows, too_old, repeated, differs, compared, verdict_on, verdicts_on}
use Rattle.pf_model.specs.Selection.{same_labels}
use Rattle.pf_model.proofs.KeySets.{same_turned}
use Rattle.pf_store.proofs.Holding.{is_at, either, held_value-append, left_held, removes}
use Rattle.pf_store.proofs.Judging.{cond_front as front}

-- ---- a further row

flipped : (m n : ℕ) → nat_eq m n ≡ nat_eq n m
flipped m n = grind (arith, nat_tests)

turned : (r s : Row) → is_at r s.labels s.time ≡ is_at s r.labels r.time
turned r s = ap (λ b. b && nat_eq r.time s.time) (same_turned r.labels s.labels) ∙ ap (λ b. same_labels s.labels r.labels && b) (flipped r.time s.time)

unheld_front : (b : Bool) (v : ℤ) (o : Option ℤ) → cond b (Some v) o ≡ None → b ≡ false
unheld_front true v o h = cc
unheld_front false v o h = refl

unheld_rest : (b : Bool) (v : ℤ) (o : Option ℤ) → cond b (Some v) o ≡ None → o ≡ None
unheld_rest true v o h = cc
unheld_rest false v o h = h

apart_more : (xs : List Row) (r : Row) → AreApart xs → held_value xs r.labels r.time ≡ None → AreApart (xs ++ r ∷ [])
apart_more [] r a n = (refl, tt)
apart_more (x ∷ xs) r a n =
    let e : is_at r x.labels x.time ≡ false = turned r x ∙ unheld_front (is_at x r.labels r.time) x.value (held_value xs r.labels r.time) n in (
      held_value-append xs (r ∷ []) x.labels x.time ∙ ap (λ o. either o (cond (is_at r x.labels x.time) (Some r.value) None)) a.0
          ∙ ap (λ b. cond {A = Option ℤ} b (Some r.value) None) e,
      apart_more xs r a.1 (unheld_rest (is_at x r.labels r.time) x.value (held_value xs r.labels r.time) n),
    )

-- ---- a batch

unheld_by : (o : Option ℤ) (v : ℤ) → is_taken (compared o v) ≡ true → o ≡ None
unheld_by None v h = refl
unheld_by (Some held) v h = elim (int_eq held v) as (λ b. is_taken (cond b repeated (differs held)) ≡ true → Some held ≡ None) [ true ↦ (λ e. cc) | false ↦ (λ e. cc) ] h

-- a row that is taken isn't held
unheld : (floor : Option ℕ) (held : List Row) (r : Row) → is_taken (verdict_on floor held r) ≡ true → held_value held r.labels r.time ≡ None
unheld None held r h = unheld_by (held_value held r.labels r.time) r.value h
unheld (Some floor) held r h =
    elim (nat_lt r.time floor) as (λ b. is_taken (cond b (too_old floor) (compared (held_value held r.labels r.time) r.value)) ≡ true → held_value held r.labels r.time ≡ None) [
      | true ↦ (λ e. cc)
      | false ↦ unheld_by (held_value held r.labels r.time) r.value
    ] h

apart_with : (held : List Row) (r : Row) (b : Bool) → AreApart held → (b ≡ true → held_value held r.labels r.time ≡ None) → AreApart (held ++ cond b (r ∷ []) [])
apart_with held r true a f = apart_more held r a (f refl)
apart_with held r false a f = subst AreApart (sym (append-nil held)) a

apart_taken : (floor : Option ℕ) (held rows : List Row) → AreApart held → AreApart (held ++ taken_rows rows (verdicts_on floor held rows))
apart_taken floor held [] a = subst AreApart (sym (append-nil held)) a
apart_taken floor held (r ∷ rs) a =
    let b = is_taken (verdict_on floor held r) in
    let new = held ++ cond b (r ∷ []) [] in
    let rest = taken_rows rs (verdicts_on floor new rs) in
    subst AreApart (append_assoc held (cond b (r ∷ []) []) rest ∙ ap (λ t. held ++ t) (sym (front b r rest)))
    (apart_taken floor new rs (apart_with held r b a (unheld floor held r)))

-- ---- a deletion

module _ (ms : List Matcher) (from to : ℕ) where
  unheld_left : (xs : List Row) (r : Row) → held_value xs r.labels r.time ≡ None → held_value (left_by ms from to xs) r.labels r.time ≡ None
  unheld_left xs r n =
      left_held ms from to xs r.labels r.time ∙ ap (λ o. cond (removes ms from to r.labels r.time) None o) n ∙ none (removes ms from to r.labels r.time)
    where
      none : (b : Bool) → ◌≡◌ {A = Option ℤ} (cond {A = Option ℤ} b None None) None
      none true = refl
      none false = refl

  apart_kept : (x : Row) (xs : List Row) (b : Bool) → held_value (left_by ms from to xs) x.labels x.time ≡ None → AreApart (left_by ms from to xs) →
      AreApart (cond (not b) (x ∷ left_by ms from to xs) (left_by ms from to xs))
  apart_kept x xs true n a = a
  apart_kept x xs false n a = (n, a)

  apart_left : (xs : List Row) → AreApart xs → AreApart (left_by ms from to xs)
  apart_left [] a = tt
  apart_left (x ∷ xs) a = apart_kept x xs (is_deleted ms from to x) (unheld_left xs x a.0) (apart_left xs a.1)

-- ---- a log

apart_changed : (s : Store) (c : Change) → AreApart s.samples → AreApart (changed s c).samples
apart_changed s (append rows) a = apart_taken (floor_at s) s.samples rows a
apart_changed s (delete ms from to) a = apart_left ms from to s.samples a

apart_after : (s : Store) (log : List Change) → AreApart s.samples → AreApart (store_after s log).samples
apart_after s [] a = a
apart_after s (c ∷ cs) a = apart_after (changed s c) cs (apart_changed s c a)

-- the samples of every log hold each series' time once
pub apart_of_log : (rules : Rules) (log : List Change) → AreApart (store_of rules log).samples
apart_of_log rules log = apart_after (empty_store rules) log tt
