-- The query of an ask: it is open until its answer, and cancelled where its cancel stands.
use Rattle.std.proofs.Common.{◌≡◌, ℕ, ◌+◌, ◌<◌, ◌≤◌, ◌⊎◌, inl, inr, Bool, true, false, cond, nat_eq, nat_lt, Option, Some, None, List, [], ◌∷◌, ◌++◌, refl, sym, ap, ◌∙◌, subst, arith}
use Rattle.std.proofs.lemmas.Bool.Decides.{nat_tests}
use Rattle.pf_base.specs.declared.plain.Limits.{Limits}
use Rattle.pf_model.specs.Lists.{Each, first_with}
use Rattle.pf_journal.specs.Asking.{Asked}
use Rattle.pf_journal.specs.Legal.{IsLawful, Moment, machine_after, moments, moments_from, Legal}
use Rattle.pf_journal.specs.Machine.{Allowed, CancelsOpen, AnswersOpen, Entry, Machine, Open, What, append, delete, ask, full, no_tenant, cancel, answer, cancelled_at, closed, log_of, next, open_at, started}
use Rattle.pf_journal.specs.Turns.{answer_of, cancel_of, entered_above, is_answer_of, is_cancel_of, own_moments, place_of}

pub bool_cases : (b : Bool) → (b ≡ true) ⊎ (b ≡ false)
bool_cases true = inl refl
bool_cases false = inr refl

-- ---- queries by their places

open_place : (place : ℕ) (qs : List Open) (o : Open) → open_at place qs ≡ Some o → o.place ≡ place
open_place place [] o g = cc
open_place place (q ∷ qs) o g = elim (bool_cases (nat_eq q.place place)) [
  | inl t ↦
      let there : Some q ≡ Some o = rw t at g in
      let same : q ≡ o = cc in
      subst (λ x. x.place ≡ place) same (grind (arith, nat_tests, t))
  | inr t ↦
      let there : open_at place qs ≡ Some o = rw t at g in
      open_place place qs o there
]

open_each : (P : Open → Type 0) (place : ℕ) (qs : List Open) (o : Open) → Each P qs → open_at place qs ≡ Some o → P o
open_each P place [] o h g = cc
open_each P place (q ∷ qs) o h g = elim (bool_cases (nat_eq q.place place)) [
  | inl t ↦
      let there : Some q ≡ Some o = rw t at g in
      let same : q ≡ o = cc in
      subst P same h.0
  | inr t ↦
      let there : open_at place qs ≡ Some o = rw t at g in
      open_each P place qs o h.1 there
]

pushed_there : (place : ℕ) (qs : List Open) (o q : Open) → open_at place qs ≡ Some o → open_at place (qs ++ q ∷ []) ≡ Some o
pushed_there place [] o q g = cc
pushed_there place (p ∷ qs) o q g = elim (bool_cases (nat_eq p.place place)) [
  | inl t ↦
      let there : Some p ≡ Some o = rw t at g in
      rw t there
  | inr t ↦
      let there : open_at place qs ≡ Some o = rw t at g in
      rw t (pushed_there place qs o q there)
]

pushed_none : (place : ℕ) (qs : List Open) (q : Open) → open_at place qs ≡ None → nat_eq q.place place ≡ false → open_at place (qs ++ q ∷ []) ≡ None
pushed_none place [] q g n = rw n refl
pushed_none place (p ∷ qs) q g n = elim (bool_cases (nat_eq p.place place)) [
  | inl t ↦
      let there : Some p ≡ None = rw t at g in
      cc
  | inr t ↦
      let there : open_at place qs ≡ None = rw t at g in
      rw t (pushed_none place qs q there n)
]

pushed_last : (place : ℕ) (qs : List Open) (q : Open) → Each (λ o. o.place < place) qs → nat_eq q.place place ≡ true
    → open_at place (qs ++ q ∷ []) ≡ Some q
pushed_last place [] q h n = rw n refl
pushed_last place (p ∷ qs) q h n =
    let low = h.0 in
    let other : nat_eq p.place place ≡ false = grind (arith, nat_tests, low) in
    rw other (pushed_last place qs q h.1 n)

closed_same : (place : ℕ) (qs : List Open) → open_at place (closed place qs) ≡ None
closed_same place [] = refl
closed_same place (p ∷ qs) = elim (bool_cases (nat_eq p.place place)) [
  | inl t ↦ rw t (closed_same place qs)
  | inr t ↦ rw t (rw t (closed_same place qs))
]

closed_other : (place query : ℕ) (qs : List Open) → nat_eq query place ≡ false → open_at place (closed query qs) ≡ open_at place qs
closed_other place query [] n = refl
closed_other place query (p ∷ qs) n = elim (bool_cases (nat_eq p.place query)) [
  | inl t ↦
      let other : nat_eq p.place place ≡ false = grind (arith, nat_tests, t, n) in
      rw t (rw other (closed_other place query qs n))
  | inr t ↦ rw t (ap (cond (nat_eq p.place place) (Some p)) (closed_other place query qs n))
]

-- a query that is cancelled at a place
abbrev pub cancelled_from : Open → ℕ → Open
cancelled_from o place = record { place = o.place; tenant = o.tenant; asked = o.asked; log = o.log; cancelled = Some place }

cancelled_same : (at place : ℕ) (qs : List Open) (o : Open) → open_at place qs ≡ Some o → open_at place (cancelled_at at place qs) ≡ Some (cancelled_from o at)
cancelled_same at place [] o g = cc
cancelled_same at place (p ∷ qs) o g = elim (bool_cases (nat_eq p.place place)) [
  | inl t ↦
      let there : Some p ≡ Some o = rw t at g in
      let same : p ≡ o = cc in
      rw t (rw t (ap (λ x. Some (cancelled_from x at)) same))
  | inr t ↦
      let there : open_at place qs ≡ Some o = rw t at g in
      rw t (rw t (cancelled_same at place qs o there))
]

cancelled_other : (at place query : ℕ) (qs : List Open) → nat_eq query place ≡ false → open_at place (cancelled_at at query qs) ≡ open_at place qs
cancelled_other at place query [] n = refl
cancelled_other at place query (p ∷ qs) n = elim (bool_cases (nat_eq p.place query)) [
  | inl t ↦
      let other : nat_eq p.place place ≡ false = grind (arith, nat_tests, t, n) in
      rw t (rw other refl)
  | inr t ↦ rw t (ap (cond (nat_eq p.place place) (Some p)) (cancelled_other at place query qs n))
]

-- ---- what becomes of a query

abbrev pub cancelled_by : Open → Option ℕ → Option Moment → Open
cancelled_by o (Some place) c = o
cancelled_by o None None = o
cancelled_by o None (Some y) = cancelled_from o (place_of y)

-- what is open of a query, by its cancel and its answer
abbrev pub opened_by : Open → (cancelled answered : Option Moment) → Option Open
opened_by o c (Some y) = None
opened_by o c None = Some (cancelled_by o o.cancelled c)

abbrev state_by : Option Open → (cancelled answered : Option Moment) → Option Open
state_by None c a = None
state_by (Some o) c a = opened_by o c a

state_alone : (s : Option Open) → s ≡ state_by s None None
state_alone None = refl
state_alone (Some o) = ap Some (alone o.cancelled) where
  alone : (c : Option ℕ) → o ≡ cancelled_by o c None
  alone None = refl
  alone (Some place) = refl

abbrev Lawful : Limits → List (List ℕ) → Machine → List Entry → Type 0
Lawful l names m es = Each (IsLawful l names) (moments_from m es)

uncancelled : (o : Open) (c : Option Open) → c ≡ Some o → CancelsOpen c → o.cancelled ≡ None
uncancelled o None e h = cc
uncancelled o (Some p) e h = let same : p ≡ o = cc in subst (λ x. x.cancelled ≡ None) same h

-- the first cancel counts
cancelled_first : (o : Open) → o.cancelled ≡ None → (y : Moment) (at : ℕ) → at ≡ place_of y → (later answered : Option Moment)
    → state_by (Some (cancelled_from o at)) later answered ≡ state_by (Some o) (Some y) answered
cancelled_first o e y at same later (Some a) = refl
cancelled_first o e y at same later None = rw e (ap (λ k. Some (cancelled_from o k)) same)

-- one entry: what later entries make of the query is known by what is open behind this one
step : (l : Limits) (names : List (List ℕ)) (m : Machine) (place : ℕ) (w : What) (s : Option Open) (y : Moment)
    → place < m.count → m.count ≡ place_of y → open_at place m.queries ≡ s → Allowed l names m w
    → (later : Option Open) (c a : Option Moment)
    → ((t : Option Open) → open_at place (next m w).queries ≡ t → later ≡ state_by t c a)
    → later ≡ state_by s (cond (is_cancel_of place w) (Some y) c) (cond (is_answer_of place w) (Some y) a)
step l names m place (append u batch vs entry) s y below here g h later c a ih = ih s g
step l names m place (delete u ms from to generation entry) s y below here g h later c a ih = ih s g
step l names m place (full u outstanding) s y below here g h later c a ih = ih s g
step l names m place (no_tenant name) s y below here g h later c a ih = ih s g
step l names m place (ask u asked pin generation floor) None y below here g h later c a ih =
    ih None (pushed_none place m.queries _ g (grind (arith, nat_tests, below)))
step l names m place (ask u asked pin generation floor) (Some o) y below here g h later c a ih =
    ih (Some o) (pushed_there place m.queries o _ g)
step l names m place (cancel query) s y below here g h later c a ih = elim (bool_cases (nat_eq query place)) [
  | inl t ↦
      let same : query ≡ place = grind (arith, nat_tests, t) in
      let uncut : CancelsOpen (open_at place m.queries) = subst (λ n. CancelsOpen (open_at n m.queries)) same h in
      rw t (by s g uncut (λ o g'. subst (λ n. open_at place (cancelled_at m.count n m.queries) ≡ Some (cancelled_from o m.count)) (sym same) (cancelled_same m.count place m.queries o g')))
  | inr t ↦ rw t (ih s (cancelled_other m.count place query m.queries t ∙ g))
] where
  by : (s : Option Open) → open_at place m.queries ≡ s → CancelsOpen (open_at place m.queries)
      → ((o : Open) → open_at place m.queries ≡ Some o → open_at place (cancelled_at m.count query m.queries) ≡ Some (cancelled_from o m.count))
      → later ≡ state_by s (Some y) a
  by None g uncut there = absurd (subst CancelsOpen g uncut)
  by (Some o) g uncut there = ih (Some (cancelled_from o m.count)) (there o g)
      ∙ cancelled_first o (uncancelled o (open_at place m.queries) g uncut) y m.count here c a
step l names m place (answer query code cached evaluated) s y below here g h later c a ih = elim (bool_cases (nat_eq query place)) [
  | inl t ↦
      let same : query ≡ place = grind (arith, nat_tests, t) in
      rw t (ih None (subst (λ n. open_at place (closed n m.queries) ≡ None) (sym same) (closed_same place m.queries)) ∙ none s)
  | inr t ↦ rw t (ih s (closed_other place query m.queries t ∙ g))
] where
  none : (s : Option Open) → None ≡ state_by s c (Some y)
  none None = refl
  none (Some o) = refl

-- what entries make of a query that was asked before them
pub after : (l : Limits) (names : List (List ℕ)) (m : Machine) (es : List Entry) (x : Moment) (s : Option Open)
    → place_of x < m.count → open_at (place_of x) m.queries ≡ s → Lawful l names m es
    → open_at (place_of x) (machine_after m es).queries
    ≡ state_by s (cancel_of (Some x) (moments_from m es)) (answer_of (Some x) (moments_from m es))
after l names m [] x s below g h = g ∙ state_alone s
after l names m (e ∷ es) x s below g h =
    step l names m (place_of x) e.what s (record { before = m; entry = e }) below refl g h.0.allowed
    (open_at (place_of x) (machine_after (next m e.what) es).queries) (cancel_of (Some x) (moments_from (next m e.what) es))
    (answer_of (Some x) (moments_from (next m e.what) es))
    (λ t g'. after l names (next m e.what) es x t (omega (arith, below)) g' h.1)

-- ---- the query of an ask

-- open queries have places of the journal
abbrev pub AreBelow : Machine → Type 0
AreBelow m = Each (λ o. o.place < m.count) m.queries

each_so : (P Q : Open → Type 0) → ((o : Open) → P o → Q o) → (qs : List Open) → Each P qs → Each Q qs
each_so P Q f [] h = tt
each_so P Q f (q ∷ qs) h = (f q h.0, each_so P Q f qs h.1)

each_push : (P : Open → Type 0) (qs : List Open) (q : Open) → Each P qs → P q → Each P (qs ++ q ∷ [])
each_push P [] q h p = (p, tt)
each_push P (o ∷ qs) q h p = (h.0, each_push P qs q h.1 p)

pub each_closed : (P : Open → Type 0) (place : ℕ) (qs : List Open) → Each P qs → Each P (closed place qs)
each_closed P place [] h = tt
each_closed P place (q ∷ qs) h = elim (bool_cases (nat_eq q.place place)) [
  | inl t ↦ rw t (each_closed P place qs h.1)
  | inr t ↦ rw t (h.0, each_closed P place qs h.1)
]

each_cancelled : (P : Open → Type 0) → ((o : Open) (at : ℕ) → P o → P (cancelled_from o at)) → (at place : ℕ) (qs : List Open) → Each P qs → Each P (cancelled_at at place qs)
each_cancelled P f at place [] h = tt
each_cancelled P f at place (q ∷ qs) h = elim (bool_cases (nat_eq q.place place)) [
  | inl t ↦ rw t (f q at h.0, h.1)
  | inr t ↦ rw t (h.0, each_cancelled P f at place qs h.1)
]

below_more : (m : Machine) → AreBelow m → Each (λ o. o.place < m.count + 1) m.queries
below_more m h = each_so _ _ (λ o p. omega (arith, p)) m.queries h

pub below_next : (m : Machine) (w : What) → AreBelow m → AreBelow (next m w)
below_next m (append u batch vs entry) h = below_more m h
below_next m (delete u ms from to generation entry) h = below_more m h
below_next m (ask u asked pin generation floor) h = each_push _ m.queries _ (below_more m h) (omega arith)
below_next m (full u outstanding) h = below_more m h
below_next m (no_tenant name) h = below_more m h
below_next m (cancel query) h = each_cancelled _ (λ o at p. p) m.count query m.queries (below_more m h)
below_next m (answer query code cached evaluated) h = each_closed _ query m.queries (below_more m h)

-- a moment is one of some
abbrev pub IsAmong : Moment → List Moment → Type 0
IsAmong x [] = ⊥
IsAmong x (y ∷ ys) = (x ≡ y) ⊎ IsAmong x ys

pub found_among : (p : Moment → Bool) (xs : List Moment) (x : Moment) → first_with p xs ≡ Some x → IsAmong x xs
found_among p [] x h = cc
found_among p (y ∷ ys) x h = elim (bool_cases (p y)) [
  | inl t ↦
      let there : Some y ≡ Some x = rw t at h in
      let same : x ≡ y = cc in
      inl same
  | inr t ↦
      let there : first_with p ys ≡ Some x = rw t at h in
      inr (found_among p ys x there)
]

pub later_places : (m : Machine) (es : List Entry) (x : Moment) → IsAmong x (moments_from m es) → m.count ≤ place_of x
later_places m [] x h = absurd h
later_places m (e ∷ es) x (inl same) = let s = ap place_of same in omega (arith, s)
later_places m (e ∷ es) x (inr h) = let s = later_places (next m e.what) es x h in omega (arith, s)

-- an entry cancels or answers no query that is asked behind it
not_yet : (m : Machine) (query place : ℕ) (o : Open) → AreBelow m → open_at query m.queries ≡ Some o → m.count ≤ place → nat_eq query place ≡ false
not_yet m query place o h g late =
    let low = open_each (λ o. o.place < m.count) query m.queries o h g in
    let same = open_place query m.queries o g in
    grind (arith, nat_tests, low, same, late)

pub no_cancel_yet : (l : Limits) (names : List (List ℕ)) (m : Machine) (w : What) (place : ℕ) → AreBelow m → Allowed l names m w → m.count ≤ place
    → is_cancel_of place w ≡ false
no_cancel_yet l names m (append u batch vs entry) place h k late = refl
no_cancel_yet l names m (delete u ms from to generation entry) place h k late = refl
no_cancel_yet l names m (ask u asked pin generation floor) place h k late = refl
no_cancel_yet l names m (full u outstanding) place h k late = refl
no_cancel_yet l names m (no_tenant name) place h k late = refl
no_cancel_yet l names m (cancel query) place h k late = by (open_at query m.queries) refl k where
  by : (s : Option Open) → open_at query m.queries ≡ s → CancelsOpen s → nat_eq query place ≡ false
  by None g k = absurd k
  by (Some o) g k = not_yet m query place o h g late
no_cancel_yet l names m (answer query code cached evaluated) place h k late = refl

pub no_answer_yet : (l : Limits) (names : List (List ℕ)) (m : Machine) (w : What) (place : ℕ) → AreBelow m → Allowed l names m w → m.count ≤ place
    → is_answer_of place w ≡ false
no_answer_yet l names m (append u batch vs entry) place h k late = refl
no_answer_yet l names m (delete u ms from to generation entry) place h k late = refl
no_answer_yet l names m (ask u asked pin generation floor) place h k late = refl
no_answer_yet l names m (full u outstanding) place h k late = refl
no_answer_yet l names m (no_tenant name) place h k late = refl
no_answer_yet l names m (cancel query) place h k late = refl
no_answer_yet l names m (answer query code cached evaluated) place h k late = by (open_at query m.queries) refl k where
  by : (s : Option Open) → open_at query m.queries ≡ s → AnswersOpen l s code cached evaluated → nat_eq query place ≡ false
  by None g k = absurd k
  by (Some o) g k = not_yet m query place o h g late

-- a query as it is asked at a moment
abbrev pub asked_at : Moment → (tenant : ℕ) → Asked → Open
asked_at x u asked = record { place = place_of x; tenant = u; asked = asked; log = log_of x.before.logs u; cancelled = None }

-- that of the first entry
opened_first : (l : Limits) (names : List (List ℕ)) (m : Machine) (e : Entry) (es : List Entry) → AreBelow m → Lawful l names (next m e.what) es
    → (u : ℕ) (asked : Asked) (pin generation : ℕ) (floor : Option ℕ) → e.what ≡ ask u asked pin generation floor
    → open_at m.count (machine_after m (e ∷ es)).queries
    ≡ opened_by (asked_at (record { before = m; entry = e }) u asked) (cancel_of (Some (record { before = m; entry = e })) (moments_from m (e ∷ es)))
    (answer_of (Some (record { before = m; entry = e })) (moments_from m (e ∷ es)))
opened_first l names m e es low h u asked pin generation floor is =
    let y : Moment = record { before = m; entry = e } in
    let h' : Lawful l names (next m (ask u asked pin generation floor)) es = subst (λ w. Lawful l names (next m w) es) is h in
    let there : open_at m.count (next m (ask u asked pin generation floor)).queries ≡ Some (asked_at y u asked) =
    pushed_last m.count m.queries (asked_at y u asked) low (grind (arith, nat_tests)) in
    rw is (after l names (next m (ask u asked pin generation floor)) es y (Some (asked_at y u asked)) (omega arith) there h')

-- what is open of the query that was asked at a moment
pub opened_from : (l : Limits) (names : List (List ℕ)) (m : Machine) (es : List Entry) (x : Moment) → AreBelow m → Lawful l names m es
    → IsAmong x (moments_from m es) → (u : ℕ) (asked : Asked) (pin generation : ℕ) (floor : Option ℕ) → x.entry.what ≡ ask u asked pin generation floor
    → open_at (place_of x) (machine_after m es).queries
    ≡ opened_by (asked_at x u asked) (cancel_of (Some x) (moments_from m es)) (answer_of (Some x) (moments_from m es))
opened_from l names m [] x low h among u asked pin generation floor is = absurd among
opened_from l names m (e ∷ es) x low h (inl same) u asked pin generation floor is =
    subst (λ (z : Moment). open_at (place_of z) (machine_after m (e ∷ es)).queries
    ≡ opened_by (asked_at z u asked) (cancel_of (Some z) (moments_from m (e ∷ es))) (answer_of (Some z) (moments_from m (e ∷ es)))) (sym same)
    (opened_first l names m e es low h.1 u asked pin generation floor (sym (ap (λ (z : Moment). z.entry.what) same) ∙ is))
opened_from l names m (e ∷ es) x low h (inr among) u asked pin generation floor is =
    let late = later_places (next m e.what) es x among in
    let at_last : m.count ≤ place_of x = omega (arith, late) in
    rw (no_cancel_yet l names m e.what (place_of x) low h.0.allowed at_last)
    (rw (no_answer_yet l names m e.what (place_of x) low h.0.allowed at_last)
    (opened_from l names (next m e.what) es x (below_next m e.what low) h.1 among u asked pin generation floor is))

-- what is open of the query that was asked at a moment of a legal journal
pub opened : (l : Limits) (names : List (List ℕ)) (journal : List Entry) (x : Moment) → Legal l names journal → IsAmong x (moments journal)
    → (u : ℕ) (asked : Asked) (pin generation : ℕ) (floor : Option ℕ) → x.entry.what ≡ ask u asked pin generation floor
    → open_at (place_of x) (machine_after started journal).queries
    ≡ opened_by (asked_at x u asked) (cancel_of (Some x) (moments journal)) (answer_of (Some x) (moments journal))
opened l names journal x h = opened_from l names started journal x tt h

-- ---- one client alone

-- where all entries are one client's, its own moments are all
pub all_own : (client : ℕ) (m : Machine) (es : List Entry) → Each (λ e. e.client ≡ client) es → own_moments client (moments_from m es) ≡ moments_from m es
all_own client m [] h = refl
all_own client m (e ∷ es) h =
    let mine = h.0 in
    let t : nat_eq e.client client ≡ true = grind (arith, nat_tests, mine) in
    rw t (ap (λ xs. record { before = m; entry = e } ∷ xs) (all_own client (next m e.what) es h.1))

-- and where all lines are above one, all entered above it
pub all_above : (line : ℕ) (xs : List Moment) → Each (λ x. x.entry.line < line) xs → entered_above line xs ≡ xs
all_above line [] h = refl
all_above line (x ∷ xs) h =
    let low = h.0 in
    let t : nat_lt x.entry.line line ≡ true = grind (arith, nat_tests, low) in
    rw t (ap (λ ys. x ∷ ys) (all_above line xs h.1))
