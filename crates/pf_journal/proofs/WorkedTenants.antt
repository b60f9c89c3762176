-- Worked examples of a tenant too many: 1,024 are known, each by the same name, which is lawful of names that nobody looks at; and the
-- journal of 1,025 asks, each of another tenant.
use Rattle.std.proofs.Common.{◌≡◌, ◌∙◌, ℕ, zero, suc, ◌+◌, ◌*◌, ◌<◌, ◌≤◌, false, cond, List, [], ◌∷◌, ◌++◌, length, refl, sym, ap, subst, None, Some, codes, nat_eq, replicate, slice_get, take, add-one, add-zero, arith}
use Rattle.std.proofs.lemmas.Bool.Decides.{nat_tests}
use Rattle.std.proofs.lemmas.Option.{none-some}
use Rattle.pf_model.specs.Lists.{Each}
use Rattle.pf_model.specs.Log.{floor_of, rules_of, store_of}
use Rattle.pf_journal.proofs.Examples.{at_line, differ, is_name, usual}
use Rattle.pf_journal.proofs.Sessions.{vector_over}
use Rattle.pf_journal.specs.Legal.{IsLawful, Legal, moments_from}
use Rattle.pf_journal.specs.Machine.{Allowed, Entry, HasRoom, IsTenant, Machine, Open, ask, log_of, next, no_tenant, open_of, reserved, room_kept, with_log}

abbrev names : ℕ → List (List ℕ)
names n = replicate n (codes "a")

abbrev knows : ℕ → Machine
knows n = record { logs = replicate n []; queries = []; count = n }

none_is_b : (n k u : ℕ) → slice_get (take k (names n)) u ≡ Some (codes "b") → ⊥
none_is_b zero zero u h = none-some _ h
none_is_b zero (suc k) u h = none-some _ h
none_is_b (suc n) zero u h = none-some _ h
none_is_b (suc n) (suc k) zero h = differ (is_name (codes "a")) _ _ refl refl h
none_is_b (suc n) (suc k) (suc u) h = none_is_b n k u h

-- one more is refused
one_more : Allowed usual.limits (names 1024) (knows 1024) (no_tenant (codes "b"))
one_more = record { many = refl; unknown = none_is_b 1024 1024 }

-- but none that is known, and none where fewer are known
a_known_one : Allowed usual.limits (names 1024) (knows 1024) (no_tenant (codes "a")) → ⊥
a_known_one h = h.unknown 0 refl

too_early : Allowed usual.limits (names 1023) (knows 1023) (no_tenant (codes "b")) → ⊥
too_early h = differ (nat_eq 1023) _ _ refl refl h.many

-- and it is no tenant
no_number : IsTenant (knows 1024) 1024 → ⊥
no_number h = omega (arith, h.most)

-- ---- one ask of each tenant

abbrev opened : ℕ → Open
opened u = record { place = u; tenant = u; asked = vector_over; log = []; cancelled = None }

abbrev opens : ℕ → List Open
opens zero = []
opens (suc n) = opens n ++ (opened n ∷ [])

-- behind so many asks
abbrev asked : ℕ → Machine
asked n = record { logs = replicate n []; queries = opens n; count = n }

abbrev asks : (from n : ℕ) → List Entry
asks u zero = []
asks u (suc n) = at_line (u + 1) (ask u vector_over 0 0 None) ∷ asks (u + 1) n

no_log : (n : ℕ) → log_of (replicate n []) n ≡ []
no_log zero = refl
no_log (suc n) = no_log n

one_log : (n : ℕ) → with_log (replicate n []) n [] ≡ replicate (suc n) []
one_log zero = refl
one_log (suc n) = ap (λ ls. [] ∷ ls) (one_log n)

many_logs : (n : ℕ) → length (asked n).logs ≡ n
many_logs zero = refl
many_logs (suc n) = ap suc (many_logs n)

one_more_open : (u : ℕ) (os : List Open) (o : Open) → nat_eq o.tenant u ≡ false → open_of u (os ++ (o ∷ [])) ≡ open_of u os
one_more_open u [] o e = rw e refl
one_more_open u (x ∷ xs) o e = ap (λ n. cond (nat_eq x.tenant u) (1 + n) n) (one_more_open u xs o e)

none_open : (u n : ℕ) → n ≤ u → open_of u (opens n) ≡ 0
none_open u zero h = refl
none_open u (suc n) h = one_more_open u (opens n) (opened n) (grind (arith, nat_tests, h)) ∙ none_open u n (omega (arith, h))

two_more : (os : List Open) (o : Open) → o.cancelled ≡ None → reserved (os ++ (o ∷ [])) ≡ reserved os + 2
two_more [] o e = rw e refl
two_more (x ∷ xs) o e = ap (λ n. room_kept x.cancelled + n) (two_more xs o e) ∙ omega arith

all_reserved : (n : ℕ) → reserved (opens n) ≡ 2 * n
all_reserved zero = refl
all_reserved (suc n) = let h = all_reserved n in two_more (opens n) (opened n) refl ∙ omega (arith, h)

next_asked : (n : ℕ) → next (asked n) (ask n vector_over 0 0 None) ≡ asked (suc n)
next_asked n =
    (λ i. record {
      logs = with_log (replicate n []) n (no_log n i);
      queries = opens n ++ (record { place = n; tenant = n; asked = vector_over; log = no_log n i; cancelled = None } ∷ []);
      count = n + 1;
    })
    ∙ ap (λ ls. record { logs = ls; queries = opens (suc n); count = n + 1 }) (one_log n) ∙ ap (λ k. record { logs = replicate (suc n) []; queries = opens (suc n); count = k }) (omega arith)

ask_is_lawful : (n : ℕ) → n < 1024 → IsLawful usual.limits (names 1024) (record { before = asked n; entry = at_line (n + 1) (ask n vector_over 0 0 None) })
ask_is_lawful n h =
    let log = no_log n in
    let logs = many_logs n in
    let none = none_open n n (omega arith) in
    let kept = all_reserved (suc n) in
    record {
      allowed = record {
        tenant = record { next = omega (arith, logs); most = h };
        below = omega (arith, none);
        pinned = sym (ap length log);
        aged = sym (ap (λ l. (store_of (rules_of usual.limits) l).generation) log);
        floored = sym (ap (floor_of (rules_of usual.limits)) log);
      };
      room = subst (HasRoom usual.limits) (sym (next_asked n)) (omega (arith, kept, h));
      named = omega (arith, logs, h);
    }

asks_are_lawful : (u n : ℕ) (last : List Entry) → u + n ≤ 1024 → Each (IsLawful usual.limits (names 1024)) (moments_from (asked (u + n)) last)
    → Each (IsLawful usual.limits (names 1024)) (moments_from (asked u) (asks u n ++ last))
asks_are_lawful u zero last h e =
    subst (λ m. Each (IsLawful usual.limits (names 1024)) (moments_from (asked m) last)) (add-zero u) e
asks_are_lawful u (suc n) last h e = (
  ask_is_lawful u (omega (arith, h)),
  subst (λ m. Each (IsLawful usual.limits (names 1024)) (moments_from m (asks (u + 1) n ++ last))) (sym (next_asked u))
      (subst (λ k. Each (IsLawful usual.limits (names 1024)) (moments_from (asked k) (asks (u + 1) n ++ last))) (add-one u)
      (asks_are_lawful (u + 1) n last (omega (arith, h))
      (subst (λ k. Each (IsLawful usual.limits (names 1024)) (moments_from (asked k) last)) (omega arith) e))),
)

-- the last of 1,025 asks, each of another tenant, is refused
too_many_asks : Legal usual.limits (names 1024) (asks 0 1024 ++ (at_line 1025 (no_tenant (codes "b")) ∷ []))
too_many_asks =
    asks_are_lawful 0 1024 (at_line 1025 (no_tenant (codes "b")) ∷ []) (omega arith)
    (record { allowed = record { many = refl; unknown = none_is_b 1024 1024 }; room = omega (arith, all_reserved 1024); named = omega arith }, tt)
