-- What a client's own moments say of a history that it finds: of its own queries, what is answered, cancelled and open there.
use Rattle.std.proofs.Common.{◌≡◌, ℕ, zero, suc, nat_eq, ◌+◌, ◌≤◌, inl, inr, Bool, true, false, Option, Some, None, List, [], ◌∷◌, ◌++◌, length, filter, slice_get, refl, sym, ap, ◌∙◌, subst, arith}
use mathlib.Core.List.{IsPrefix}
use Rattle.std.proofs.lemmas.Bool.Decides.{nat_tests}
use Rattle.std.proofs.lemmas.Option.{none-some, slice_get_within}
use Rattle.pf_base.specs.declared.plain.Limits.{Limits}
use Rattle.pf_model.specs.Lists.{Each, first_with}
use Rattle.pf_journal.proofs.Histories.{journal_length, journal_prefix}
use Rattle.pf_journal.proofs.Opened.{AreBelow, IsAmong, asked_at, below_next, bool_cases, cancelled_by, no_answer_yet, no_cancel_yet, opened, opened_by}
use Rattle.pf_journal.proofs.Owning.{moments_append, own_later, owns_more, owns_other}
use Rattle.pf_journal.specs.Asking.{Asked}
use Rattle.pf_journal.specs.Legal.{IsLawful, Legal, Moment, machine_after, moments, moments_from}
use Rattle.pf_journal.specs.Machine.{Entry, Machine, Open, What, append, delete, ask, full, no_tenant, cancel, answer, next, open_at, started}
use Rattle.pf_journal.specs.Named.{Named, closes_in, journal_of}
use Rattle.pf_journal.specs.Owned.{AreCancelsOwn, AreClosesOwn, OwnsWithin, own_of, owns}
use Rattle.pf_journal.specs.Turns.{answer_of, cancel_of, is_answer_of, is_cancel_of, place_of}

-- ---- lists

each_front : {X : Type 0} (P : X → Type 0) (xs ys : List X) → Each P (xs ++ ys) → Each P xs
each_front P [] ys h = tt
each_front P (x ∷ xs) ys h = (h.0, each_front P xs ys h.1)

each_filter : {X : Type 0} (P : X → Type 0) (q : X → Bool) (xs : List X) → Each P xs → Each P (filter q xs)
each_filter P q [] h = tt
each_filter P q (x ∷ xs) h = elim (bool_cases (q x)) [
  | inl t ↦ rw t (h.0, each_filter P q xs h.1)
  | inr t ↦ rw t (each_filter P q xs h.1)
]

none_first : {X : Type 0} (p : X → Bool) (xs : List X) → Each (λ x. p x ≡ false) xs → first_with p xs ≡ None
none_first p [] h = refl
none_first p (x ∷ xs) h = rw h.0 (none_first p xs h.1)

-- the first that passes is the first among those that each such one is of
first_filter : {X : Type 0} (p q : X → Bool) (xs : List X) → Each (λ x. p x ≡ true → q x ≡ true) xs → first_with p xs ≡ first_with p (filter q xs)
first_filter p q [] h = refl
first_filter p q (x ∷ xs) h = elim (bool_cases (p x)) [
  | inl t ↦ rw (h.0 t) (rw t refl)
  | inr t ↦ elim (bool_cases (q x)) [
    | inl s ↦ rw s (rw t (first_filter p q xs h.1))
    | inr s ↦ rw s (rw t (first_filter p q xs h.1))
  ]
]

-- ---- moments by their places

-- what holds of each place of a history holds of each moment
each_by : (P : Moment → Type 0) (m : Machine) (xs : List Named)
    → ((i : ℕ) (x : Named) (y : Moment) → slice_get xs i ≡ Some x → y.entry ≡ x.entry → m.count + i ≡ place_of y → P y) → Each P (moments_from m (journal_of xs))
each_by P m [] f = tt
each_by P m (x ∷ xs) f = (
  f 0 x (record { before = m; entry = x.entry }) refl refl (omega arith),
  each_by P (next m x.entry.what) xs (λ i z y at same place. f (suc i) z y at same (omega (arith, place))),
)

among_filter : (q : Moment → Bool) (xs : List Moment) (x : Moment) → IsAmong x (filter q xs) → IsAmong x xs × (q x ≡ true)
among_filter q [] x h = absurd h
among_filter q (y ∷ ys) x h = elim (bool_cases (q y)) [
  | inl t ↦
      let here : IsAmong x (y ∷ filter q ys) = rw t at h in
      elim here [
        | inl same ↦ (inl same, ap q same ∙ t)
        | inr more ↦ let r = among_filter q ys x more in (inr r.0, r.1)
      ]
  | inr t ↦
      let there : IsAmong x (filter q ys) = rw t at h in
      let r = among_filter q ys x there in
      (inr r.0, r.1)
]

-- where a moment stands
pub record Stands (m : Machine) (es : List Entry) (x : Moment) : Type 0 where
  pub i : ℕ
  pub place : place_of x ≡ m.count + i
  pub there : slice_get es i ≡ Some x.entry

pub stands : (m : Machine) (es : List Entry) (x : Moment) → IsAmong x (moments_from m es) → Stands m es x
stands m [] x h = absurd h
stands m (e ∷ es) x (inl same) = record {
  i = 0;
  place = ap place_of same ∙ omega arith;
  there = sym (ap (λ (y : Moment). Some y.entry) same);
}
stands m (e ∷ es) x (inr h) =
    let r = stands (next m e.what) es x h in
    record { i = suc r.i; place = (let p = r.place in omega (arith, p)); there = r.there }

-- an own moment is one of a longer history's, at an own place
pub own_among : (own : List ℕ) (seen found : List Named) (x : Moment) → IsPrefix seen found → OwnsWithin (length seen) own → IsAmong x (own_of own seen)
    → IsAmong x (moments (journal_of found)) × (owns own (place_of x) ≡ true)
own_among own seen found x grows within h =
    among_filter (λ y. owns own (place_of y)) (moments (journal_of found)) x
    (subst (IsAmong x) (sym (own_later own seen found grows within)) h)

-- ---- answers and cancels

answer_closes : (query : ℕ) (what : What) → is_answer_of query what ≡ true → closes_in what ≡ Some query
answer_closes query (append u batch vs entry) h = cc
answer_closes query (delete u ms from to generation entry) h = cc
answer_closes query (ask u asked pin generation floor) h = cc
answer_closes query (full u outstanding) h = cc
answer_closes query (no_tenant name) h = cc
answer_closes query (cancel q) h = cc
answer_closes query (answer q code cached evaluated) h = ap Some (grind (arith, nat_tests, h))

answers_own : (own : List ℕ) (found : List Named) (query : ℕ) → AreClosesOwn own found → owns own query ≡ true
    → Each (λ x. is_answer_of query x.entry.what ≡ true → owns own (place_of x) ≡ true) (moments (journal_of found))
answers_own own found query h mine = each_by _ started found (λ i x y at same place t.
    let here : i ≡ place_of y = omega (arith, place) in
    subst (λ p. owns own p ≡ true) here
    (h i query x at (answer_closes query x.entry.what (subst (λ (e : Entry). is_answer_of query e.what ≡ true) same t)) mine))

cancels_own : (own : List ℕ) (found : List Named) (query : ℕ) → AreCancelsOwn own found → owns own query ≡ true
    → Each (λ x. is_cancel_of query x.entry.what ≡ true → owns own (place_of x) ≡ true) (moments (journal_of found))
cancels_own own found query h mine = each_by _ started found (λ i x y at same place t.
    let here : i ≡ place_of y = omega (arith, place) in
    subst (λ p. owns own p ≡ true) here
    (h i query x at (subst (λ (e : Entry). is_cancel_of query e.what ≡ true) same t) mine))

-- the answer of an own query is an own entry
pub answer_found : (own : List ℕ) (seen found : List Named) (x : Moment) → IsPrefix seen found → OwnsWithin (length seen) own → AreClosesOwn own found
    → owns own (place_of x) ≡ true → answer_of (Some x) (moments (journal_of found)) ≡ answer_of (Some x) (own_of own seen)
answer_found own seen found x grows within closes mine =
    first_filter (λ y. is_answer_of (place_of x) y.entry.what) (λ y. owns own (place_of y)) (moments (journal_of found)) (answers_own own found (place_of x) closes mine)
    ∙ ap (answer_of (Some x)) (own_later own seen found grows within)

-- and its cancel, where those of own queries are
pub cancel_found : (own : List ℕ) (seen found : List Named) (x : Moment) → IsPrefix seen found → OwnsWithin (length seen) own → AreCancelsOwn own found
    → owns own (place_of x) ≡ true → cancel_of (Some x) (moments (journal_of found)) ≡ cancel_of (Some x) (own_of own seen)
cancel_found own seen found x grows within cancels mine =
    first_filter (λ y. is_cancel_of (place_of x) y.entry.what) (λ y. owns own (place_of y)) (moments (journal_of found)) (cancels_own own found (place_of x) cancels mine)
    ∙ ap (cancel_of (Some x)) (own_later own seen found grows within)

-- ---- cancels of a shorter history

get_front : {X : Type 0} (xs ys : List X) (i : ℕ) (x : X) → slice_get xs i ≡ Some x → slice_get (xs ++ ys) i ≡ Some x
get_front [] ys i x h = absurd (none-some _ h)
get_front (y ∷ xs) ys zero x h = h
get_front (y ∷ xs) ys (suc i) x h = get_front xs ys i x h

-- nobody else cancels own queries in a front of a history where nobody else does
pub cancels_front : (own : List ℕ) (seen found : List Named) → IsPrefix seen found → AreCancelsOwn own found → AreCancelsOwn own seen
cancels_front own seen found grows h place query x at =
    h place query x (subst (λ (xs : List Named). slice_get xs place ≡ Some x) grows.1 (get_front seen grows.0 place x at))

-- nor did before a further own entry
pub cancels_before : (own : List ℕ) (n : ℕ) (seen found : List Named) → IsPrefix seen found → length seen ≤ n → AreCancelsOwn (own ++ n ∷ []) found
    → AreCancelsOwn own seen
cancels_before own n seen found grows le h place query x at is mine =
    let front = slice_get_within seen place x at in
    let other : nat_eq n place ≡ false = grind (arith, nat_tests, front, le) in
    sym (owns_other own n place other) ∙ cancels_front (own ++ n ∷ []) seen found grows h place query x at is (owns_more own (n ∷ []) query mine)

-- ---- what is open

-- an own query is open in what a client finds until its own answer
pub open_found : (l : Limits) (names : List (List ℕ)) (own : List ℕ) (seen found : List Named) (x : Moment) → IsPrefix seen found → OwnsWithin (length seen) own
    → AreClosesOwn own found → Legal l names (journal_of found) → IsAmong x (own_of own seen)
    → (u : ℕ) (asked : Asked) (pin generation : ℕ) (floor : Option ℕ) → x.entry.what ≡ ask u asked pin generation floor
    → open_at (place_of x) (machine_after started (journal_of found)).queries
    ≡ opened_by (asked_at x u asked) (cancel_of (Some x) (moments (journal_of found))) (answer_of (Some x) (own_of own seen))
open_found l names own seen found x grows within closes legal among u asked pin generation floor is =
    let there = own_among own seen found x grows within among in
    opened l names (journal_of found) x legal there.0 u asked pin generation floor is
    ∙ ap (opened_by (asked_at x u asked) (cancel_of (Some x) (moments (journal_of found)))) (answer_found own seen found x grows within closes there.1)

-- and cancelled by its own cancel, where those of own queries are own
pub open_found_own : (l : Limits) (names : List (List ℕ)) (own : List ℕ) (seen found : List Named) (x : Moment) → IsPrefix seen found → OwnsWithin (length seen) own
    → AreClosesOwn own found → AreCancelsOwn own found → Legal l names (journal_of found) → IsAmong x (own_of own seen)
    → (u : ℕ) (asked : Asked) (pin generation : ℕ) (floor : Option ℕ) → x.entry.what ≡ ask u asked pin generation floor
    → open_at (place_of x) (machine_after started (journal_of found)).queries
    ≡ opened_by (asked_at x u asked) (cancel_of (Some x) (own_of own seen)) (answer_of (Some x) (own_of own seen))
open_found_own l names own seen found x grows within closes cancels legal among u asked pin generation floor is =
    open_found l names own seen found x grows within closes legal among u asked pin generation floor is
    ∙ ap (λ c. opened_by (asked_at x u asked) c (answer_of (Some x) (own_of own seen)))
    (cancel_found own seen found x grows within cancels (own_among own seen found x grows within among).1)

-- a query that is not answered is open as it was asked
pub opened_as : (o : Open) (cancelled answered : Option Moment) → answered ≡ None
    → (p : Open) × (opened_by o cancelled answered ≡ Some p) × (p ≡ record o { cancelled = p.cancelled })
opened_as o cancelled answered none = rw none (cancelled_by o o.cancelled cancelled, refl, same o.cancelled cancelled) where
  same : (c : Option ℕ) (y : Option Moment) → cancelled_by o c y ≡ record o { cancelled = (cancelled_by o c y).cancelled }
  same (Some place) y = refl
  same None None = refl
  same None (Some y) = refl

-- ---- a new query

fresh_from : (l : Limits) (names : List (List ℕ)) (m : Machine) (es : List Entry) (n : ℕ) → AreBelow m → Each (IsLawful l names) (moments_from m es) → m.count + length es ≤ n
    → Each (λ x. (is_answer_of n x.entry.what ≡ false) × (is_cancel_of n x.entry.what ≡ false)) (moments_from m es)
fresh_from l names m [] n low h le = tt
fresh_from l names m (e ∷ es) n low h le = (
  (no_answer_yet l names m e.what n low h.0.allowed (omega (arith, le)), no_cancel_yet l names m e.what n low h.0.allowed (omega (arith, le))),
  fresh_from l names (next m e.what) es n (below_next m e.what low) h.1 (omega (arith, le)),
)

each_left : {X : Type 0} (P Q : X → Type 0) (xs : List X) → Each (λ x. P x × Q x) xs → Each P xs
each_left P Q [] h = tt
each_left P Q (x ∷ xs) h = (h.0.0, each_left P Q xs h.1)

each_right : {X : Type 0} (P Q : X → Type 0) (xs : List X) → Each (λ x. P x × Q x) xs → Each Q xs
each_right P Q [] h = tt
each_right P Q (x ∷ xs) h = (h.0.1, each_right P Q xs h.1)

-- no entry of a legal history answers or cancels what is asked behind it
pub fresh : (l : Limits) (names : List (List ℕ)) (own : List ℕ) (seen found : List Named) (x : Moment) → IsPrefix seen found → OwnsWithin (length seen) own
    → Legal l names (journal_of found) → length found ≤ place_of x → (answer_of (Some x) (own_of own seen) ≡ None) × (cancel_of (Some x) (own_of own seen) ≡ None)
fresh l names own seen found x grows within legal le =
    let n : ℕ = place_of x in
    let all = fresh_from l names started (journal_of found) n tt legal (let k = journal_length found in omega (arith, k, le)) in
    let some = subst (Each (λ y. (is_answer_of n y.entry.what ≡ false) × (is_cancel_of n y.entry.what ≡ false))) (own_later own seen found grows within)
    (each_filter _ (λ y. owns own (place_of y)) (moments (journal_of found)) all) in (
      none_first (λ y. is_answer_of n y.entry.what) (own_of own seen) (each_left _ _ (own_of own seen) some),
      none_first (λ y. is_cancel_of n y.entry.what) (own_of own seen) (each_right _ _ (own_of own seen) some),
    )

-- a front of a legal history is legal
pub legal_front : (l : Limits) (names : List (List ℕ)) (seen found : List Named) → IsPrefix seen found → Legal l names (journal_of found) → Legal l names (journal_of seen)
legal_front l names seen found grows legal =
    let j = journal_prefix seen found grows in
    each_front (IsLawful l names) (moments (journal_of seen)) (moments_from (machine_after started (journal_of seen)) j.0)
    (subst (Each (IsLawful l names)) (moments_append started (journal_of seen) j.0) (subst (Legal l names) (sym j.1) legal))
