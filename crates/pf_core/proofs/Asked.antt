-- What an entry of the journal asked stays as the journal grows, and each open query is what its entry asked.
use Rattle.std.proofs.Common.{◌≡◌, ℕ, ◌≤◌, ◌⊎◌, inl, inr, false, true, nat_eq, Some, None, List, [], ◌∷◌, ◌++◌, refl, sym, ap, ◌∙◌, subst, arith}
use Rattle.std.proofs.lemmas.Bool.Decides.{nat_tests}
use Rattle.pf_journal.proofs.Opened.{AreBelow, below_next}
use Rattle.pf_journal.specs.Legal.{machine_after}
use Rattle.pf_journal.specs.Machine.{Entry, Machine, Open, What, append, delete, ask, full, no_tenant, cancel, answer, cancelled_at, closed, log_of, next, open_at, queries_after, started}
use Rattle.pf_core.specs.Asks.{as_opened, asked_by, opened_at, opened_from}
use Rattle.pf_core.proofs.Machines.{bool_cases, cancelled_as, open_at_closed, open_at_closed_same, open_at_pushed, open_at_pushed_other}

-- ---- what was asked stays

asked_grows : (m : Machine) (es more : List Entry) (place : ℕ) (o : Open) → opened_from m es place ≡ Some o → opened_from m (es ++ more) place ≡ Some o
asked_grows m [] more place o h = cc
asked_grows m (e ∷ es) more place o h = elim (bool_cases (nat_eq m.count place)) [
  | inl t ↦ let f : asked_by m e.what ≡ Some o = rw t at h in rw t f
  | inr t ↦ let f : opened_from (next m e.what) es place ≡ Some o = rw t at h in rw t (asked_grows (next m e.what) es more place o f)
]

pub opened_grows : (journal more : List Entry) (place : ℕ) (o : Open) → opened_at journal place ≡ Some o → opened_at (journal ++ more) place ≡ Some o
opened_grows journal more place o h = asked_grows started journal more place o h

asked_above : (m : Machine) (es : List Entry) (place : ℕ) (o : Open) → opened_from m es place ≡ Some o → m.count ≤ place
asked_above m [] place o h = cc
asked_above m (e ∷ es) place o h = elim (bool_cases (nat_eq m.count place)) [
  | inl t ↦ grind (arith, nat_tests, t)
  | inr t ↦
      let f : opened_from (next m e.what) es place ≡ Some o = rw t at h in
      let above = asked_above (next m e.what) es place o f in
      omega (arith, above)
]

-- ---- what is open was asked

-- what is open of a query now was open before, maybe not cancelled yet
record WasOpen (place : ℕ) (o : Open) (qs : List Open) : Type 0 where
  was : Open
  there : open_at place qs ≡ Some was
  same : as_opened was ≡ as_opened o

cancelled_was : (place query other : ℕ) (qs : List Open) (o : Open) → open_at other (cancelled_at place query qs) ≡ Some o → WasOpen other o qs
cancelled_was place query other [] o h = cc
cancelled_was place query other (q ∷ qs) o h = elim (bool_cases (nat_eq q.place query)) [
  | inl t ↦
      let f : open_at other (cancelled_as place q ∷ qs) ≡ Some o = rw t at h in
      elim (bool_cases (nat_eq q.place other)) [
        | inl u ↦
            let g : Some (cancelled_as place q) ≡ Some o = rw u at f in
            let e : cancelled_as place q ≡ o = cc in
            record { was = q; there = rw u refl; same = ap as_opened e }
        | inr u ↦
            let g : open_at other qs ≡ Some o = rw u at f in
            record { was = o; there = rw u g; same = refl }
      ]
  | inr t ↦
      let f : open_at other (q ∷ cancelled_at place query qs) ≡ Some o = rw t at h in
      elim (bool_cases (nat_eq q.place other)) [
        | inl u ↦
            let g : Some q ≡ Some o = rw u at f in
            record { was = o; there = rw u g; same = refl }
        | inr u ↦
            let g : open_at other (cancelled_at place query qs) ≡ Some o = rw u at f in
            let w = cancelled_was place query other qs o g in
            record { was = w.was; there = rw u w.there; same = w.same }
      ]
]

closed_was : (query other : ℕ) (qs : List Open) (o : Open) → open_at other (closed query qs) ≡ Some o → open_at other qs ≡ Some o
closed_was query other qs o h = elim (bool_cases (nat_eq query other)) [
  | inl t ↦
      let same : query ≡ other = grind (arith, nat_tests, t) in
      let none : open_at other (closed query qs) ≡ None = subst (λ x. open_at x (closed query qs) ≡ None) same (open_at_closed_same query qs) in
      cc
  | inr t ↦ sym (open_at_closed query other qs (λ e. grind (arith, nat_tests, t, e))) ∙ h
]

-- one entry: the query was open before it, or it asks it
came_by : (m : Machine) (w : What) (place : ℕ) (o : Open) → AreBelow m → open_at place (queries_after m w) ≡ Some o
    → WasOpen place o m.queries ⊎ ((m.count ≡ place) × (asked_by m w ≡ Some (as_opened o)))
came_by m (append u batch vs entry) place o low h = inl (record { was = o; there = h; same = refl })
came_by m (delete u ms from to generation entry) place o low h = inl (record { was = o; there = h; same = refl })
came_by m (ask u asked pin generation floor) place o low h = asks (bool_cases (nat_eq m.count place)) where
  new : Open
  new = record { place = m.count; tenant = u; asked = asked; log = log_of m.logs u; cancelled = None }

  asks : (nat_eq m.count place ≡ true) ⊎ (nat_eq m.count place ≡ false)
      → WasOpen place o m.queries ⊎ ((m.count ≡ place) × (Some new ≡ Some (as_opened o)))
  asks (inl t) =
      let same : m.count ≡ place = grind (arith, nat_tests, t) in
      let there : open_at place (m.queries ++ new ∷ []) ≡ Some new =
      subst (λ x. open_at x (m.queries ++ new ∷ []) ≡ Some new) same (open_at_pushed m.queries m.count new low refl) in
      let found : Some new ≡ Some o = sym there ∙ h in
      let e : new ≡ o = cc in
      inr (same, ap (λ (x : Open). Some (as_opened x)) e)
  asks (inr t) = inl (record { was = o; there = sym (open_at_pushed_other m.queries place new t) ∙ h; same = refl })
came_by m (full u outstanding) place o low h = inl (record { was = o; there = h; same = refl })
came_by m (no_tenant name) place o low h = inl (record { was = o; there = h; same = refl })
came_by m (cancel query) place o low h = inl (cancelled_was m.count query place m.queries o h)
came_by m (answer query code cached evaluated) place o low h =
    inl (record { was = o; there = closed_was query place m.queries o h; same = refl })

came : (m : Machine) (es : List Entry) (place : ℕ) (o : Open) → AreBelow m → open_at place (machine_after m es).queries ≡ Some o
    → WasOpen place o m.queries ⊎ (opened_from m es place ≡ Some (as_opened o))
came m [] place o low h = inl (record { was = o; there = h; same = refl })
came m (e ∷ es) place o low h = by (came (next m e.what) es place o (below_next m e.what low) h) where
  first : (was : Open) → as_opened was ≡ as_opened o
      → WasOpen place was m.queries ⊎ ((m.count ≡ place) × (asked_by m e.what ≡ Some (as_opened was)))
      → WasOpen place o m.queries ⊎ (opened_from m (e ∷ es) place ≡ Some (as_opened o))
  first was same (inl w) = inl (record { was = w.was; there = w.there; same = w.same ∙ same })
  first was same (inr a) =
      let here = a.0 in
      let t : nat_eq m.count place ≡ true = grind (arith, nat_tests, here) in
      inr (rw t (a.1 ∙ ap (λ (x : Open). Some x) same))

  by : WasOpen place o (next m e.what).queries ⊎ (opened_from (next m e.what) es place ≡ Some (as_opened o))
      → WasOpen place o m.queries ⊎ (opened_from m (e ∷ es) place ≡ Some (as_opened o))
  by (inl w) = first w.was w.same (came_by m e.what place w.was low w.there)
  by (inr g) =
      let above = asked_above (next m e.what) es place (as_opened o) g in
      let t : nat_eq m.count place ≡ false = grind (arith, nat_tests, above) in
      inr (rw t g)

-- an open query is what its entry asked, up to its cancel
pub asked_open : (journal : List Entry) (place : ℕ) (o : Open) → open_at place (machine_after started journal).queries ≡ Some o
    → opened_at journal place ≡ Some (as_opened o)
asked_open journal place o h = by (came started journal place o tt h) where
  by : WasOpen place o [] ⊎ (opened_from started journal place ≡ Some (as_opened o)) → opened_at journal place ≡ Some (as_opened o)
  by (inl w) = let g = w.there in cc
  by (inr g) = g
