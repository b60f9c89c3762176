-- A tenant is known, or new, or a stranger.
use Rattle.std.proofs.Common.{◌≡◌, ℕ, zero, suc, ◌<◌, ◌≤◌, inl, inr, Option, Some, None, List, [], ◌∷◌, ◌++◌, length, take, refl, sym, ap, ◌∙◌, arith, slice_get, slice_set, subst, append-nil}
use Rattle.std.specs.Prelude.{unwrap_or}
use Rattle.std.proofs.lemmas.List.{length_push}
use Rattle.pf_journal.specs.Machine.{IsNoTenant, IsTenant, Machine, log_of, with_log}
use Rattle.pf_model.specs.Lists.{Each}
use Rattle.pf_model.specs.Log.{Change, Rules, rules_of}
use Rattle.pf_store.specs.Standing.{IsLog, LogData}
use Rattle.pf_core.specs.Seats.{AreTenants, IsFree, IsSeat, IsSeated, IsStranger, TenantsData, count_at, settled}
use Rattle.pf_core.specs.States.{AreWithin, HasHistory, KeepsCounts, KeepsLogs, machine_in}
use Rattle.pf_core.specs.declared.state.State.{State}
use Rattle.pf_core.specs.declared.tenants.Seat.{Seat}
use Rattle.pf_core.proofs.Keeping.{apart_grows, counts_grow, logs_put, logs_set}
use Rattle.pf_core.proofs.Lists.{get_push, get_pushed}
use Rattle.pf_core.proofs.Machines.{length_with_log, log_of_past}

-- ---- lists

pub length_set : {X : Type 0} (xs : List X) (i : ℕ) (y : X) → length (slice_set xs i y) ≡ length xs
length_set [] i y = refl
length_set (x ∷ xs) zero y = refl
length_set (x ∷ xs) (suc i) y = ap suc (length_set xs i y)

-- an element stands at each place of a list
pub record Stored {X : Type 0} (xs : List X) (i : ℕ) : Type 0 where
  pub element : X
  pub there : slice_get xs i ≡ Some element

pub stored : {X : Type 0} (xs : List X) (i : ℕ) → i < length xs → Stored xs i
stored [] i h = absurd (omega (arith, h))
stored (x ∷ xs) zero h = record { element = x; there = refl }
stored (x ∷ xs) (suc i) h = let s = stored xs i (omega (arith, h)) in record { element = s.element; there = s.there }

take_all : {X : Type 0} (xs : List X) → take (length xs) xs ≡ xs
take_all [] = refl
take_all (x ∷ xs) = ap (λ (ys : List _). x ∷ ys) (take_all xs)

-- ---- counts

pub count_there : (ns : List ℕ) (u n : ℕ) → slice_get ns u ≡ Some n → count_at ns u ≡ n
count_there ns u n g = ap (λ (o : Option ℕ). unwrap_or o 0) g

past : (ns : List ℕ) (u : ℕ) → length ns ≤ u → slice_get ns u ≡ None
past [] u h = refl
past (n ∷ ns) zero h = absurd (omega (arith, h))
past (n ∷ ns) (suc u) h = past ns u (omega (arith, h))

pub count_past : (ns : List ℕ) (u : ℕ) → length ns ≤ u → count_at ns u ≡ 0
count_past ns u h = ap (λ (o : Option ℕ). unwrap_or o 0) (past ns u h)

within_push : (limit : ℕ) (kept : List ℕ) → AreWithin limit kept → AreWithin limit (kept ++ 0 ∷ [])
within_push limit kept h u n g = elim (get_push kept 0 u n g) [
  | inl was ↦ h u n was
  | inr new ↦ let none = new.1 in omega (arith, none)
]

-- ---- the tenants with a seat put in

-- the names that a seat adds
abbrev pub names_of : Option (List ℕ) → List (List ℕ)
names_of None = []
names_of (Some name) = name ∷ []

pub settled_names : (t : TenantsData) (u : ℕ) (log : LogData) (newcomer : Option (List ℕ)) → (settled t u log newcomer).names ≡ t.names ++ names_of newcomer
settled_names t u log None = sym (append-nil t.names)
settled_names t u log (Some name) = refl

pub settled_tenants : (t : TenantsData) (u : ℕ) (log : LogData) (newcomer : Option (List ℕ))
    → AreTenants t → IsFree t u newcomer → AreTenants (settled t u log newcomer)
settled_tenants t u log None h f =
    let many = h.many_logs in
    let long = length_set t.logs u log in
    record { apart = h.apart; few = h.few; many_logs = omega (arith, many, long); many_counts = h.many_counts }
settled_tenants t u log (Some name) h f =
    let long_names = length_push t.names name in
    let long_logs = length_push t.logs log in
    let long_counts = length_push t.counts 0 in
    let many_logs = h.many_logs in
    let many_counts = h.many_counts in
    let is = f.0 in
    let few = f.1.0 in
    record {
      apart = apart_grows t.names name h.apart f.1.1;
      few = omega (arith, long_names, is, few);
      many_logs = omega (arith, long_names, long_logs, many_logs);
      many_counts = omega (arith, long_names, long_counts, many_counts);
    }

pub settled_many : (t : TenantsData) (u : ℕ) (log : LogData) (newcomer : Option (List ℕ)) (logs : List (List Change)) (after : List Change)
    → IsFree t u newcomer → length t.names ≡ length logs → length (settled t u log newcomer).names ≡ length (with_log logs u after)
settled_many t u log None logs after f many =
    let long = length_with_log logs u after (omega (arith, f, many)) in omega (arith, f, many, long)
settled_many t u log (Some name) logs after f many =
    let is = f.0 in
    let long = length_with_log logs u after (omega (arith, is, many)) in
    let long_names = length_push t.names name in
    omega (arith, is, many, long, long_names)

pub settled_logs : (rules : Rules) (t : TenantsData) (u : ℕ) (log : LogData) (newcomer : Option (List ℕ)) (logs : List (List Change)) (after : List Change)
    → AreTenants t → IsFree t u newcomer → length t.names ≡ length logs
    → KeepsLogs rules t.logs logs → IsLog rules log after → KeepsLogs rules (settled t u log newcomer).logs (with_log logs u after)
settled_logs rules t u log None logs after h f many keeps is =
    let logs_many = h.many_logs in
    logs_set rules t.logs logs u log after keeps (omega (arith, f, logs_many)) (omega (arith, f, many)) is
settled_logs rules t u log (Some name) logs after h f many keeps is =
    let logs_many = h.many_logs in
    let at_end = f.0 in
    logs_put rules t.logs logs u log after keeps (omega (arith, at_end, logs_many)) (omega (arith, at_end, many)) is

pub settled_counts : (t : TenantsData) (u : ℕ) (log : LogData) (newcomer : Option (List ℕ)) (m : Machine) (limit : ℕ)
    → AreTenants t → length t.names ≡ length m.logs → KeepsCounts t.counts m.queries → AreWithin limit t.counts
    → Each (λ o. o.tenant < length m.logs) m.queries
    → KeepsCounts (settled t u log newcomer).counts m.queries × AreWithin limit (settled t u log newcomer).counts
settled_counts t u log None m limit h many keeps within known = (keeps, within)
settled_counts t u log (Some name) m limit h many keeps within known =
    let counts_many = h.many_counts in
    (counts_grow t.counts m.queries (length m.logs) keeps (omega (arith, counts_many, many)) known, within_push limit t.counts within)

-- the count of a seat's tenant
pub settled_count : (t : TenantsData) (u : ℕ) (log : LogData) (newcomer : Option (List ℕ))
    → AreTenants t → IsFree t u newcomer → slice_get (settled t u log newcomer).counts u ≡ Some (count_at t.counts u)
settled_count t u log None h f =
    let many = h.many_counts in
    let s = stored t.counts u (omega (arith, f, many)) in
    s.there ∙ ap (λ (n : ℕ). Some n) (sym (count_there t.counts u s.element s.there))
settled_count t u log (Some name) h f =
    let many = h.many_counts in
    let at_end = f.0 in
    let here : u ≡ length t.counts = omega (arith, at_end, many) in
    let none : count_at t.counts u ≡ 0 = count_past t.counts u (omega (arith, here)) in
    subst (λ k. slice_get (t.counts ++ 0 ∷ []) k ≡ Some 0) (sym here) (get_pushed t.counts 0) ∙ ap (λ (n : ℕ). Some n) (sym none)

-- ---- a seat in the machine

-- the tenant that an entry is to name, as the machine has it
pub record IsPlaced (s : State) (name : List ℕ) (seat : Seat) : Type 0 where
  pub number : IsTenant (machine_in s) seat.number
  pub is : IsLog (rules_of s.limits) seat.log (log_of (machine_in s).logs seat.number)
  pub named : (log : LogData) → slice_get (settled s.tenants seat.number log seat.newcomer).names seat.number ≡ Some name

placed_by : (s : State) (name : List ℕ) (seat : Seat) (newcomer : Option (List ℕ)) → seat.newcomer ≡ newcomer
    → HasHistory s → AreTenants s.tenants → IsFree s.tenants seat.number newcomer
    → IsSeated s.tenants (rules_of s.limits) name seat.number seat.log newcomer → IsPlaced s name seat
placed_by s name seat None e h t free seated =
    let many = h.stands.names.many in
    let few = t.few in
    record {
      number = record { next = omega (arith, free, many); most = omega (arith, free, few) };
      is = h.keeps.keeps_logs seat.number seat.log seated.1;
      named = λ log. subst (λ (o : Option (List ℕ)). slice_get (settled s.tenants seat.number log o).names seat.number ≡ Some name) (sym e) seated.0;
    }
placed_by s name seat (Some new) e h t free seated =
    let many = h.stands.names.many in
    let here = free.0 in
    let few = free.1.0 in
    let none : log_of (machine_in s).logs seat.number ≡ [] = log_of_past (machine_in s).logs seat.number (omega (arith, here, many)) in
    record {
      number = record { next = omega (arith, here, many); most = few };
      is = subst (IsLog (rules_of s.limits) seat.log) (sym none) seated.1;
      named = λ log. subst (λ (o : Option (List ℕ)). slice_get (settled s.tenants seat.number log o).names seat.number ≡ Some name) (sym e)
          (subst (λ k. slice_get (s.tenants.names ++ new ∷ []) k ≡ Some name) (sym here)
          (get_pushed s.tenants.names new ∙ ap (λ (n : List ℕ). Some n) seated.0));
    }

pub placed : (s : State) (name : List ℕ) (seat : Seat) → HasHistory s → IsSeat s.tenants (rules_of s.limits) name seat → IsPlaced s name seat
placed s name seat h p = placed_by s name seat seat.newcomer refl h p.tenants p.free p.seated

-- a stranger is one for the machine
pub stranger : (s : State) (name : List ℕ) → HasHistory s → IsStranger s.tenants name → IsNoTenant (s.tenants.names ++ []) (machine_in s) name
stranger s name h p =
    let many = h.stands.names.many in
    record {
      many = sym many ∙ p.many;
      unknown = λ u g. p.unknown u (subst (λ (ns : List (List ℕ)). slice_get ns u ≡ Some name)
          (ap (λ k. take k (s.tenants.names ++ [])) (sym many) ∙ ap (λ (ns : List (List ℕ)). take (length s.tenants.names) ns) (append-nil s.tenants.names) ∙ take_all s.tenants.names) g);
    }
