-- No tenant has more open queries than it may, nor more than its queries keep room for.
use Rattle.std.proofs.Common.{◌≡◌, ℕ, ◌+◌, ◌<◌, ◌≤◌, inl, inr, Bool, true, false, cond, nat_eq, Option, Some, None, List, [], ◌∷◌, ◌++◌, refl, arith, subst}
use Rattle.std.proofs.lemmas.Bool.Decides.{nat_tests}
use Rattle.pf_base.specs.declared.plain.Limits.{Limits}
use Rattle.pf_journal.specs.Legal.{IsLawful, Legal, machine_after, moments_from}
use Rattle.pf_journal.specs.Machine.{Allowed, Entry, Machine, Open, What, answer, append, ask, cancel, closed, delete, full, log_of, next, no_tenant, open_of, outstanding_of, reserved, room_kept, started}
use Rattle.pf_model.specs.Lists.{Each}
use Rattle.pf_core.proofs.Machines.{bool_cases, open_cancelled, open_push}

-- ---- the room that is kept

pub some_room : (place : Option ℕ) → 1 ≤ room_kept place
some_room None = omega arith
some_room (Some p) = omega arith

one_more : (b : Bool) (k n room : ℕ) → 1 ≤ room → k ≤ n → cond b (1 + k) k ≤ room + n
one_more true k n room some h = omega (arith, some, h)
one_more false k n room some h = omega (arith, h)

pub open_room : (u : ℕ) (qs : List Open) → open_of u qs ≤ reserved qs
open_room u [] = omega arith
open_room u (q ∷ qs) = one_more (nat_eq q.tenant u) (open_of u qs) (reserved qs) (room_kept q.cancelled) (some_room q.cancelled) (open_room u qs)

-- ---- the limit

less_one : (b : Bool) (k n : ℕ) → k ≤ n → k ≤ cond b (1 + n) n
less_one true k n h = omega (arith, h)
less_one false k n h = h

less_both : (b : Bool) (k n : ℕ) → k ≤ n → cond b (1 + k) k ≤ cond b (1 + n) n
less_both true k n h = omega (arith, h)
less_both false k n h = h

open_less : (place u : ℕ) (qs : List Open) → open_of u (closed place qs) ≤ open_of u qs
open_less place u [] = omega arith
open_less place u (q ∷ qs) = elim (bool_cases (nat_eq q.place place)) [
  | inl t ↦ rw t (less_one (nat_eq q.tenant u) (open_of u (closed place qs)) (open_of u qs) (open_less place u qs))
  | inr t ↦ rw t (less_both (nat_eq q.tenant u) (open_of u (closed place qs)) (open_of u qs) (open_less place u qs))
]

-- while no limit changes
abbrev AreLimited : Limits → Machine → Type 0
AreLimited l m = (u : ℕ) → open_of u m.queries ≤ outstanding_of l u

after_ask : (l : Limits) (m : Machine) (u v n : ℕ) (b : Bool) → nat_eq u v ≡ b → open_of u m.queries < outstanding_of l u → AreLimited l m
    → n ≡ open_of v m.queries + cond b 1 0 → n ≤ outstanding_of l v
after_ask l m u v n true e below h is =
    let same : u ≡ v = grind (arith, nat_tests, e) in
    let less = subst (λ k. open_of k m.queries < outstanding_of l k) same below in
    omega (arith, less, is)
after_ask l m u v n false e below h is = let was = h v in omega (arith, was, is)

limited_next : (l : Limits) (names : List (List ℕ)) (m : Machine) (x : What) → Allowed l names m x → AreLimited l m → AreLimited l (next m x)
limited_next l names m (append u batch vs entry) a h = h
limited_next l names m (delete u ms from to generation entry) a h = h
limited_next l names m (ask u asked pin generation floor) a h = λ v.
    let o : Open = record { place = m.count; tenant = u; asked = asked; log = log_of m.logs u; cancelled = None } in
    after_ask l m u v (open_of v (m.queries ++ o ∷ [])) (nat_eq u v) refl a.below h (open_push v m.queries o)
limited_next l names m (full u outstanding) a h = h
limited_next l names m (no_tenant name) a h = h
limited_next l names m (cancel query) a h = λ v. let same = open_cancelled v m.count query m.queries in let was = h v in omega (arith, same, was)
limited_next l names m (answer query code cached evaluated) a h = λ v. let less = open_less query v m.queries in let was = h v in omega (arith, less, was)

limited_after : (l : Limits) (names : List (List ℕ)) (m : Machine) (J : List Entry) → Each (IsLawful l names) (moments_from m J) → AreLimited l m
    → AreLimited l (machine_after m J)
limited_after l names m [] e h = h
limited_after l names m (x ∷ J) e h = limited_after l names (next m x.what) J e.1 (limited_next l names m x.what e.0.allowed h)

pub limited : (l : Limits) (names : List (List ℕ)) (J : List Entry) → Legal l names J → (u : ℕ)
    → open_of u (machine_after started J).queries ≤ outstanding_of l u
limited l names J h = limited_after l names started J h (λ u. omega arith)
