-- Entries of tenants, and those that change nothing else.
use Rattle.std.proofs.Common.{◌≡◌, ℕ, ◌+◌, ◌≤◌, nat_le, true, Option, Some, None, List, [], ◌++◌, length, refl, sym, ap, ◌∙◌, arith, map, slice_get, subst, append-nil}
use Rattle.std.proofs.lemmas.Bool.Decides.{nat_tests}
use Rattle.pf_base.specs.Batches.{BatchData}
use Rattle.pf_base.specs.declared.plain.By.{By}
use Rattle.pf_journal.specs.Machine.{Allowed, Machine, What, append, delete, full, next, no_tenant, log_of, with_log}
use Rattle.pf_model.specs.Log.{Change, Verdict, log_with, log_without, rules_of, verdicts_of}
use Rattle.pf_model.specs.declared.expr.Matcher.{Matcher}
use Rattle.pf_store.specs.Standing.{IsLog, deleted_after, verdicts_after}
use Rattle.pf_store.specs.Verdicts.{VerdictsData}
use Rattle.pf_store.specs.declared.tenant_log.Deleted.{Deleted}
use Rattle.pf_core.specs.Cores.{Enters, EntersFor, IsAppended, IsDeleted}
use Rattle.pf_core.specs.Entries.{entry_of}
use Rattle.pf_core.specs.Seats.{IsFree, IsSeat, IsStranger, TenantsData, count_at, settled}
use Rattle.pf_core.specs.States.{CutsOut, IsEntered, HasHistory, IsTold, Keeps, Steps, TakesIn, core_of, kept_in, machine_in}
use Rattle.pf_core.specs.declared.state.State.{State}
use Rattle.pf_core.specs.declared.tenants.Seat.{Seat}
use Rattle.pf_core.proofs.Keeping.{are_open_log, are_open_same, machine_with}
use Rattle.pf_core.proofs.Limited.{limited}
use Rattle.pf_core.proofs.Seated.{count_past, count_there, names_of, placed, settled_counts, settled_logs, settled_many, settled_names, settled_tenants, stored, stranger}
use Rattle.pf_core.proofs.Stepped.{room_for, stepped}

-- an entry of a tenant whose log is changed
pub changed : (old new : State) (by : By) (name : List ℕ) (seat after : Seat) (what : ℕ → What) (log : List Change)
    → HasHistory old → IsSeat old.tenants (rules_of old.limits) name seat
    → after.number ≡ seat.number → after.newcomer ≡ seat.newcomer → IsLog (rules_of old.limits) after.log log
    → next (machine_in old) (what seat.number) ≡ machine_with (with_log (machine_in old).logs seat.number log) (machine_in old).queries ((machine_in old).count + 1)
    → ((names : List (List ℕ)) → Allowed old.limits names (machine_in old) (what seat.number))
    → IsEntered old by after (what seat.number) new
    → nat_le (length old.journal.items + old.reserved + 1) old.limits.journal ≡ true
    → HasHistory new × EntersFor (core_of old) by name what (core_of new)
changed old new by name seat after what log h p number newcomer is stepping allowed e room =
    let m = machine_in old in
    let here = placed old name seat h p in
    let t = settled old.tenants seat.number after.log seat.newcomer in
    let moved : settled old.tenants after.number after.log after.newcomer ≡ t =
    λ i. settled old.tenants (number i) after.log (newcomer i) in
    let many = h.stands.names.many in
    let near = here.number.next in
    let counts = settled_counts old.tenants seat.number after.log seat.newcomer m old.limits.journal p.tenants many h.keeps.keeps_counts h.keeps.within h.keeps.are_open.known in
    let within : length old.journal.items + old.reserved + 1 ≤ old.limits.journal = grind (arith, nat_tests, room) in
    let keeps : Keeps old.limits t (kept_in old) old.reserved (machine_with (with_log m.logs seat.number log) m.queries (m.count + 1)) = record {
      keeps_logs = settled_logs (rules_of old.limits) old.tenants seat.number after.log seat.newcomer m.logs log p.tenants p.free many h.keeps.keeps_logs is;
      keeps_counts = counts.0;
      within = counts.1;
      keeps_queries = h.keeps.keeps_queries;
      keeps_room = h.keeps.keeps_room;
      are_open = are_open_log m seat.number log near h.keeps.are_open;
    } in
    let stepped_so = stepped old new by (what seat.number) t (kept_in old) old.reserved (names_of seat.newcomer) h
    (subst (λ (x : TenantsData). Steps old by (what seat.number) x (kept_in old) old.reserved new) moved e)
    (settled_names old.tenants seat.number after.log seat.newcomer)
    (settled_many old.tenants seat.number after.log seat.newcomer m.logs log p.free many ∙ ap (λ (n : Machine). length n.logs) (sym stepping))
    (settled_tenants old.tenants seat.number after.log seat.newcomer p.tenants p.free).apart
    (allowed (old.tenants.names ++ names_of seat.newcomer))
    (subst (λ (n : Machine). Keeps old.limits t (kept_in old) old.reserved n) (sym stepping) keeps)
    (omega (arith, within)) in (
      stepped_so.0,
      record {
        number = seat.number;
        named = subst (λ (x : TenantsData). slice_get x.names seat.number ≡ Some name) (sym (e.tenants ∙ moved)) (here.named after.log);
        entered = stepped_so.1;
      },
    )

-- a batch is taken in
pub appended : (old new : State) (by : By) (name : List ℕ) (seat after : Seat) (batch : BatchData) (v : VerdictsData) (what : What)
    → HasHistory old → IsSeat old.tenants (rules_of old.limits) name seat → TakesIn seat batch v what after → IsEntered old by after what new
    → nat_le (length old.journal.items + old.reserved + 1) old.limits.journal ≡ true
    → HasHistory new × IsAppended (core_of old) by name batch v (core_of new)
appended old new by name seat after batch v what h p t e room =
    let here = placed old name seat h p in
    let before = log_of (machine_in old).logs seat.number in
    let verdicts : v ≡ verdicts_after (rules_of old.limits) before batch.rows = t.judged (rules_of old.limits) before here.is in
    let listed : v.list ≡ verdicts_of (rules_of old.limits) before batch.rows = ap (λ (x : VerdictsData). x.list) verdicts in
    let log = log_with before batch.rows v.list in
    let is : IsLog (rules_of old.limits) after.log log =
    subst (λ (vs : List Verdict). IsLog (rules_of old.limits) after.log (log_with before batch.rows vs)) (sym listed)
    (t.stands (rules_of old.limits) before here.is) in
    let entry : v.entry ≡ length log =
    ap (λ (x : VerdictsData). x.entry) verdicts ∙ ap (λ (vs : List Verdict). length (log_with before batch.rows vs)) (sym listed) in
    let both = changed old new by name seat after (λ u. append u batch v.list v.entry) log h p t.number t.newcomer is refl
    (λ names. record { tenant = here.number; judged = listed; counted = entry })
    (subst (λ (x : What). IsEntered old by after x new) t.what e) room in
    (both.0, (room_for old 1 h room, both.1))

-- samples are cut out
pub deleted : (old new : State) (by : By) (name : List ℕ) (seat after : Seat) (ms : List Matcher) (from to : ℕ) (d : Deleted) (what : What)
    → HasHistory old → IsSeat old.tenants (rules_of old.limits) name seat → CutsOut seat ms from to d what after → IsEntered old by after what new
    → nat_le (length old.journal.items + old.reserved + 1) old.limits.journal ≡ true
    → HasHistory new × IsDeleted (core_of old) by name ms from to d (core_of new)
deleted old new by name seat after ms from to d what h p t e room =
    let here = placed old name seat h p in
    let before = log_of (machine_in old).logs seat.number in
    let log = log_without before ms from to in
    let told : d ≡ deleted_after (rules_of old.limits) log = t.told (rules_of old.limits) before here.is in
    let both = changed old new by name seat after (λ u. delete u ms from to d.generation d.entry) log h p t.number t.newcomer (t.stands (rules_of old.limits) before here.is) refl
    (λ names. record { tenant = here.number; aged = ap (λ (x : Deleted). x.generation) told; counted = ap (λ (x : Deleted). x.entry) told })
    (subst (λ (x : What). IsEntered old by after x new) t.what e) room in
    (both.0, (room_for old 1 h room, both.1))

-- an entry that changes nothing of the machine but the number of entries
pub told : (old new : State) (by : By) (what : What)
    → HasHistory old → IsTold old by what new
    → next (machine_in old) what ≡ machine_with (machine_in old).logs (machine_in old).queries ((machine_in old).count + 1)
    → Allowed old.limits (old.tenants.names ++ []) (machine_in old) what
    → length old.journal.items + old.reserved + 1 ≤ old.limits.journal
    → HasHistory new × Enters (core_of old) by what (core_of new)
told old new by what h s stepping allowed room =
    let m = machine_in old in
    stepped old new by what old.tenants (kept_in old) old.reserved [] h s (sym (append-nil old.tenants.names))
    (h.stands.names.many ∙ ap (λ (n : Machine). length n.logs) (sym stepping))
    h.stands.names.different allowed
    (subst (λ (n : Machine). Keeps old.limits old.tenants (kept_in old) old.reserved n) (sym stepping) (record {
      keeps_logs = h.keeps.keeps_logs;
      keeps_counts = h.keeps.keeps_counts;
      within = h.keeps.within;
      keeps_queries = h.keeps.keeps_queries;
      keeps_room = h.keeps.keeps_room;
      are_open = are_open_same m h.keeps.are_open;
    }))
    (omega (arith, room))

pub one_fits : (n reserved entries most : ℕ) → 1 ≤ entries → nat_le (n + reserved + entries) most ≡ true → n + reserved + 1 ≤ most
one_fits n reserved entries most some t = let f : n + reserved + entries ≤ most = grind (arith, nat_tests, t) in omega (arith, f, some)

-- a stranger's entry
pub refused : (old new : State) (by : By) (name : List ℕ) → HasHistory old → IsStranger old.tenants name → IsTold old by (no_tenant name) new
    → length old.journal.items + old.reserved + 1 ≤ old.limits.journal → HasHistory new × Enters (core_of old) by (no_tenant name) (core_of new)
refused old new by name h s e room = told old new by (no_tenant name) h e refl (stranger old name h s) room

-- the entry of a tenant that has as many open queries as it may
fills : (old new : State) (by : By) (name : List ℕ) (seat : Seat) (n : ℕ) (newcomer : Option (List ℕ))
    → HasHistory old → IsSeat old.tenants (rules_of old.limits) name seat → seat.newcomer ≡ newcomer → IsFree old.tenants seat.number newcomer
    → n ≡ count_at old.tenants.counts seat.number → old.limits.outstanding ≤ n
    → IsTold old by (full seat.number n) new
    → length old.journal.items + old.reserved + 1 ≤ old.limits.journal
    → HasHistory new × ((n ≡ old.limits.outstanding) × EntersFor (core_of old) by name (λ u. full u n) (core_of new))
fills old new by name seat n None h p e free counted reached t room =
    let many = h.stands.names.many in
    let many_counts = p.tenants.many_counts in
    let s = stored old.tenants.counts seat.number (omega (arith, free, many_counts)) in
    let there = count_there old.tenants.counts seat.number s.element s.there in
    let so_many = h.keeps.keeps_counts seat.number s.element s.there in
    let most = limited old.limits old.tenants.names (map entry_of old.journal.items) h.stands.legal seat.number in
    let is : n ≡ old.limits.outstanding = omega (arith, counted, there, so_many, most, reached) in
    let both = told old new by (full seat.number n) h t refl
    (record { known = omega (arith, free, many); counted = omega (arith, counted, there, so_many); most = is }) room in (
      both.0,
      (
        is,
        record {
          number = seat.number;
          named = subst (λ (x : TenantsData). slice_get x.names seat.number ≡ Some name) (sym t.tenants)
              (subst (λ (o : Option (List ℕ)). slice_get (settled old.tenants seat.number seat.log o).names seat.number ≡ Some name) e
              ((placed old name seat h p).named seat.log));
          entered = both.1;
        },
      ),
    )
fills old new by name seat n (Some new_name) h p e free counted reached t room =
    let some = h.stands.limits.some in
    let many_counts = p.tenants.many_counts in
    let at_end = free.0 in
    let none = count_past old.tenants.counts seat.number (omega (arith, at_end, many_counts)) in
    absurd (omega (arith, counted, none, reached, some))

pub filled : (old new : State) (by : By) (name : List ℕ) (seat : Seat) (n : ℕ)
    → HasHistory old → IsSeat old.tenants (rules_of old.limits) name seat
    → n ≡ count_at old.tenants.counts seat.number → old.limits.outstanding ≤ n
    → IsTold old by (full seat.number n) new
    → length old.journal.items + old.reserved + 1 ≤ old.limits.journal
    → HasHistory new × ((n ≡ old.limits.outstanding) × EntersFor (core_of old) by name (λ u. full u n) (core_of new))
filled old new by name seat n h p counted reached t room = fills old new by name seat n seat.newcomer h p refl p.free counted reached t room
