-- Laws of the journal machine: what one entry more changes.
use Rattle.std.proofs.Common.{◌≡◌, ◌≢◌, ℕ, zero, suc, ◌+◌, ◌<◌, ◌≤◌, ◌⊎◌, inl, inr, Bool, true, false, cond, max, nat_eq, Option, Some, None, List, [], ◌∷◌, ◌++◌, length, refl, ap, ◌∙◌, arith, subst}
use Rattle.std.proofs.lemmas.Bool.Decides.{nat_tests}
use Rattle.pf_journal.specs.Legal.{moments_from, machine_after}
use Rattle.pf_model.specs.Lists.{Each}
use Rattle.pf_model.specs.Log.{Change}
use Rattle.pf_journal.specs.Machine.{Machine, Open, Entry, next, log_of, with_log, open_at, cancelled_at, closed, open_of, reserved, room_kept}
use Rattle.pf_core.specs.States.{Above}
pub use Rattle.pf_journal.proofs.Opened.{each_closed}

pub bool_cases : (b : Bool) → (b ≡ true) ⊎ (b ≡ false)
bool_cases true = inl refl
bool_cases false = inr refl

pub moments_push : (m : Machine) (J : List Entry) (e : Entry)
    → moments_from m (J ++ e ∷ []) ≡ moments_from m J ++ record { before = machine_after m J; entry = e } ∷ []
moments_push m [] e = refl
moments_push m (f ∷ J) e = ap (λ xs. record { before = m; entry = f } ∷ xs) (moments_push (next m f.what) J e)

pub after_push : (m : Machine) (J : List Entry) (e : Entry) → machine_after m (J ++ e ∷ []) ≡ next (machine_after m J) e.what
after_push m [] e = refl
after_push m (f ∷ J) e = after_push (next m f.what) J e

pub count_after : (m : Machine) (J : List Entry) → (machine_after m J).count ≡ m.count + length J
count_after m [] = omega arith
count_after m (f ∷ J) = omega (arith, count_after (next m f.what) J)

-- ---- logs

pub log_of_past : (logs : List (List Change)) (u : ℕ) → length logs ≤ u → log_of logs u ≡ []
log_of_past [] u h = refl
log_of_past (l ∷ ls) zero h = absurd (omega (arith, h))
log_of_past (l ∷ ls) (suc u) h = log_of_past ls u (omega (arith, h))

pub length_with_log : (logs : List (List Change)) (u : ℕ) (log : List Change) → u ≤ length logs
    → length (with_log logs u log) ≡ max (length logs) (u + 1)
length_with_log [] u log h = omega (arith, h)
length_with_log (l ∷ ls) zero log h = omega (arith, h)
length_with_log (l ∷ ls) (suc u) log h = let rest = length_with_log ls u log (omega (arith, h)) in omega (arith, h, rest)

pub log_of_same : (logs : List (List Change)) (u : ℕ) (log : List Change) → u ≤ length logs → log_of (with_log logs u log) u ≡ log
log_of_same [] zero log h = refl
log_of_same [] (suc u) log h = absurd (omega (arith, h))
log_of_same (l ∷ ls) zero log h = refl
log_of_same (l ∷ ls) (suc u) log h = log_of_same ls u log (omega (arith, h))

pub log_of_other : (logs : List (List Change)) (u v : ℕ) (log : List Change) → u ≤ length logs → v ≢ u
    → log_of (with_log logs u log) v ≡ log_of logs v
log_of_other [] zero zero log h d = absurd (d refl)
log_of_other [] zero (suc v) log h d = refl
log_of_other [] (suc u) v log h d = absurd (omega (arith, h))
log_of_other (l ∷ ls) zero zero log h d = absurd (d refl)
log_of_other (l ∷ ls) zero (suc v) log h d = refl
log_of_other (l ∷ ls) (suc u) zero log h d = refl
log_of_other (l ∷ ls) (suc u) (suc v) log h d = log_of_other ls u v log (omega (arith, h)) (λ e. d (ap suc e))

-- ---- open queries

pub open_place : (place : ℕ) (qs : List Open) (o : Open) → open_at place qs ≡ Some o → o.place ≡ place
open_place place [] o g = cc
open_place place (q ∷ qs) o g = elim (bool_cases (nat_eq q.place place)) [
  | inl t ↦ let h = rw t at g in let e : q ≡ o = cc in subst (λ (x : Open). x.place ≡ place) e (grind (arith, nat_tests, t))
  | inr t ↦ let h = rw t at g in open_place place qs o h
]

pub open_each : (P : Open → Type 0) (place : ℕ) (qs : List Open) (o : Open) → Each P qs → open_at place qs ≡ Some o → P o
open_each P place [] o h g = cc
open_each P place (q ∷ qs) o h g = elim (bool_cases (nat_eq q.place place)) [
  | inl t ↦ let f = rw t at g in let e : q ≡ o = cc in subst P e h.0
  | inr t ↦ let f = rw t at g in open_each P place qs o h.1 f
]

above_weaker : (least more : ℕ) (qs : List Open) → least ≤ more → Above more qs → Above least qs
above_weaker least more [] p h = tt
above_weaker least more (q ∷ qs) p h = (omega (arith, p, h.0), h.1)

pub above_closed : (least place : ℕ) (qs : List Open) → Above least qs → Above least (closed place qs)
above_closed least place [] h = tt
above_closed least place (q ∷ qs) h = elim (bool_cases (nat_eq q.place place)) [
  | inl t ↦ rw t (above_weaker least (q.place + 1) (closed place qs) (omega (arith, h.0)) (above_closed (q.place + 1) place qs h.1))
  | inr t ↦ rw t (h.0, above_closed (q.place + 1) place qs h.1)
]

pub above_push : (least n : ℕ) (qs : List Open) (o : Open) → Above least qs → Each (λ q. q.place < n) qs → least ≤ n → o.place ≡ n → Above least (qs ++ o ∷ [])
above_push least n [] o h b p e = (omega (arith, p, e), tt)
above_push least n (q ∷ qs) o h b p e = (h.0, above_push (q.place + 1) n qs o h.1 b.1 (omega (arith, b.0)) e)

-- nothing above a place is closed at it
closed_none : (least place : ℕ) (qs : List Open) → place < least → Above least qs → closed place qs ≡ qs
closed_none least place [] p h = refl
closed_none least place (q ∷ qs) p h =
    let other : nat_eq q.place place ≡ false = grind (arith, nat_tests, p, h.0) in
    rw other (ap (λ (rest : List Open). q ∷ rest) (closed_none (q.place + 1) place qs (omega (arith, p, h.0)) h.1))

counted : (v : Bool) (n : ℕ) → cond v (1 + n) n ≡ n + cond v 1 0
counted true n = omega arith
counted false n = omega arith

further : (v : Bool) (n k d : ℕ) → n ≡ k + d → cond v (1 + n) n ≡ cond v (1 + k) k + d
further true n k d e = omega (arith, e)
further false n k d e = omega (arith, e)

pub open_closed : (least place u : ℕ) (qs : List Open) (o : Open) → Above least qs → open_at place qs ≡ Some o
    → open_of u qs ≡ open_of u (closed place qs) + cond (nat_eq o.tenant u) 1 0
open_closed least place u [] o h g = cc
open_closed least place u (q ∷ qs) o h g = elim (bool_cases (nat_eq q.place place)) [
  | inl t ↦
      let f = rw t at g in
      let e : q ≡ o = cc in
      let none : closed place qs ≡ qs = closed_none (q.place + 1) place qs (grind (arith, nat_tests, t)) h.1 in
      rw t (rw none (counted (nat_eq q.tenant u) (open_of u qs) ∙ ap (λ (x : Open). open_of u qs + cond (nat_eq x.tenant u) 1 0) e))
  | inr t ↦
      let f = rw t at g in
      rw t (further (nat_eq q.tenant u) (open_of u qs) (open_of u (closed place qs)) (cond (nat_eq o.tenant u) 1 0)
      (open_closed (q.place + 1) place u qs o h.1 f))
]

pub open_at_closed : (place other : ℕ) (qs : List Open) → other ≢ place → open_at other (closed place qs) ≡ open_at other qs
open_at_closed place other [] d = refl
open_at_closed place other (q ∷ qs) d = elim (bool_cases (nat_eq q.place place)) [
  | inl t ↦
      let o : nat_eq q.place other ≡ false = grind (arith, nat_tests, t, d) in
      rw t (rw o (open_at_closed place other qs d))
  | inr t ↦ rw t (ap (λ (found : Option Open). cond (nat_eq q.place other) (Some q) found) (open_at_closed place other qs d))
]

pub open_at_pushed : (qs : List Open) (n : ℕ) (p : Open) → Each (λ q. q.place < n) qs → p.place ≡ n → open_at n (qs ++ p ∷ []) ≡ Some p
open_at_pushed [] n p b e = let same : nat_eq p.place n ≡ true = grind (arith, nat_tests, e) in rw same refl
open_at_pushed (q ∷ qs) n p b e =
    let other : nat_eq q.place n ≡ false = grind (arith, nat_tests, b.0) in
    rw other (open_at_pushed qs n p b.1 e)

pub open_none : (n u : ℕ) (qs : List Open) → Each (λ q. q.tenant < n) qs → n ≤ u → open_of u qs ≡ 0
open_none n u [] h p = refl
open_none n u (q ∷ qs) h p =
    let other : nat_eq q.tenant u ≡ false = grind (arith, nat_tests, h.0, p) in
    rw other (open_none n u qs h.1 p)

pub open_push : (u : ℕ) (qs : List Open) (o : Open) → open_of u (qs ++ o ∷ []) ≡ open_of u qs + cond (nat_eq o.tenant u) 1 0
open_push u [] o = counted (nat_eq o.tenant u) 0
open_push u (q ∷ qs) o = further (nat_eq q.tenant u) (open_of u (qs ++ o ∷ [])) (open_of u qs) (cond (nat_eq o.tenant u) 1 0) (open_push u qs o)

-- ---- other places

pub open_at_closed_same : (place : ℕ) (qs : List Open) → open_at place (closed place qs) ≡ None
open_at_closed_same place [] = refl
open_at_closed_same place (q ∷ qs) = elim (bool_cases (nat_eq q.place place)) [
  | inl t ↦ rw t (open_at_closed_same place qs)
  | inr t ↦ rw t (rw t (open_at_closed_same place qs))
]

-- a query at the end is found nowhere else
pub open_at_pushed_other : (qs : List Open) (place : ℕ) (p : Open) → nat_eq p.place place ≡ false → open_at place (qs ++ p ∷ []) ≡ open_at place qs
open_at_pushed_other [] place p d = rw d refl
open_at_pushed_other (q ∷ qs) place p d =
    ap (λ (found : Option Open). cond (nat_eq q.place place) (Some q) found) (open_at_pushed_other qs place p d)

-- ---- cancelled queries

abbrev pub cancelled_as : (place : ℕ) → Open → Open
cancelled_as place o = record { place = o.place; tenant = o.tenant; asked = o.asked; log = o.log; cancelled = Some place }

pub open_at_cancelled : (place query : ℕ) (qs : List Open) (o : Open) → open_at query qs ≡ Some o
    → open_at query (cancelled_at place query qs) ≡ Some (cancelled_as place o)
open_at_cancelled place query [] o g = cc
open_at_cancelled place query (q ∷ qs) o g = elim (bool_cases (nat_eq q.place query)) [
  | inl t ↦
      let f = rw t at g in
      let e : q ≡ o = cc in
      rw t (rw t (ap (λ (x : Open). Some (cancelled_as place x)) e))
  | inr t ↦ let f = rw t at g in rw t (rw t (open_at_cancelled place query qs o f))
]

pub open_at_cancelled_other : (place query other : ℕ) (qs : List Open) → nat_eq query other ≡ false
    → open_at other (cancelled_at place query qs) ≡ open_at other qs
open_at_cancelled_other place query other [] d = refl
open_at_cancelled_other place query other (q ∷ qs) d = elim (bool_cases (nat_eq q.place query)) [
  | inl t ↦
      let o : nat_eq q.place other ≡ false = grind (arith, nat_tests, t, d) in
      rw t (rw o refl)
  | inr t ↦ rw t (ap (λ (found : Option Open). cond (nat_eq q.place other) (Some q) found) (open_at_cancelled_other place query other qs d))
]

-- a fact of the places and the tenants of open queries
pub each_cancelled : (P : Open → Type 0) (place query : ℕ) → ((o : Open) → P o → P (cancelled_as place o))
    → (qs : List Open) → Each P qs → Each P (cancelled_at place query qs)
each_cancelled P place query f [] h = tt
each_cancelled P place query f (q ∷ qs) h = elim (bool_cases (nat_eq q.place query)) [
  | inl t ↦ rw t (f q h.0, h.1)
  | inr t ↦ rw t (h.0, each_cancelled P place query f qs h.1)
]

pub above_cancelled : (least place query : ℕ) (qs : List Open) → Above least qs → Above least (cancelled_at place query qs)
above_cancelled least place query [] h = tt
above_cancelled least place query (q ∷ qs) h = elim (bool_cases (nat_eq q.place query)) [
  | inl t ↦ rw t h
  | inr t ↦ rw t (h.0, above_cancelled (q.place + 1) place query qs h.1)
]

pub open_cancelled : (u place query : ℕ) (qs : List Open) → open_of u (cancelled_at place query qs) ≡ open_of u qs
open_cancelled u place query [] = refl
open_cancelled u place query (q ∷ qs) = elim (bool_cases (nat_eq q.place query)) [
  | inl t ↦ rw t refl
  | inr t ↦ rw t (ap (λ n. cond (nat_eq q.tenant u) (1 + n) n) (open_cancelled u place query qs))
]

-- ---- the room that open queries keep

pub reserved_pushed : (qs : List Open) (o : Open) → reserved (qs ++ o ∷ []) ≡ reserved qs + room_kept o.cancelled
reserved_pushed [] o = omega arith
reserved_pushed (q ∷ qs) o = let rest = reserved_pushed qs o in omega (arith, rest)

pub reserved_closed : (least place : ℕ) (qs : List Open) (o : Open) → Above least qs → open_at place qs ≡ Some o
    → reserved qs ≡ reserved (closed place qs) + room_kept o.cancelled
reserved_closed least place [] o h g = cc
reserved_closed least place (q ∷ qs) o h g = elim (bool_cases (nat_eq q.place place)) [
  | inl t ↦
      let f = rw t at g in
      let e : q ≡ o = cc in
      let none : closed place qs ≡ qs = closed_none (q.place + 1) place qs (grind (arith, nat_tests, t)) h.1 in
      let same : room_kept q.cancelled ≡ room_kept o.cancelled = ap (λ (x : Open). room_kept x.cancelled) e in
      rw t (rw none (omega (arith, same)))
  | inr t ↦
      let f = rw t at g in
      let rest = reserved_closed (q.place + 1) place qs o h.1 f in
      rw t (omega (arith, rest))
]

pub reserved_cancelled : (place query : ℕ) (qs : List Open) (o : Open) → open_at query qs ≡ Some o → o.cancelled ≡ None
    → reserved qs ≡ reserved (cancelled_at place query qs) + 1
reserved_cancelled place query [] o g u = cc
reserved_cancelled place query (q ∷ qs) o g u = elim (bool_cases (nat_eq q.place query)) [
  | inl t ↦
      let f = rw t at g in
      let e : q ≡ o = cc in
      let two : room_kept q.cancelled ≡ 2 = ap (λ (x : Open). room_kept x.cancelled) e ∙ ap room_kept u in
      rw t (omega (arith, two))
  | inr t ↦
      let f = rw t at g in
      let rest = reserved_cancelled place query qs o f u in
      rw t (omega (arith, rest))
]

-- an open query keeps room
pub reserved_some : (query : ℕ) (qs : List Open) (o : Open) → open_at query qs ≡ Some o → room_kept o.cancelled ≤ reserved qs
reserved_some query [] o g = cc
reserved_some query (q ∷ qs) o g = elim (bool_cases (nat_eq q.place query)) [
  | inl t ↦
      let f = rw t at g in
      let e : q ≡ o = cc in
      let same : room_kept q.cancelled ≡ room_kept o.cancelled = ap (λ (x : Open). room_kept x.cancelled) e in
      omega (arith, same)
  | inr t ↦ let f = rw t at g in let rest = reserved_some query qs o f in omega (arith, rest)
]
