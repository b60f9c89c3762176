-- A state with an entry more stands for its longer journal.
use Rattle.std.proofs.Common.{◌≡◌, ℕ, ◌+◌, ◌<◌, ◌≤◌, map, false, true, nat_le, Option, List, [], ◌∷◌, ◌++◌, length, sym, ap, ◌∙◌, arith, subst, vec_capacity}
use Rattle.std.proofs.lemmas.Bool.Decides.{nat_tests}
use Rattle.std.proofs.lemmas.List.{length-map}
use Rattle.pf_base.specs.declared.plain.By.{By}
use Rattle.pf_base.specs.declared.plain.Limits.{Limits}
use Rattle.pf_journal.specs.Legal.{AreNames, Legal, machine_after}
use Rattle.pf_journal.specs.Machine.{Allowed, Entry, Machine, What, next, open_at, started}
use Rattle.pf_model.specs.Log.{rules_of}
use Rattle.pf_query.specs.declared.job.Job.{Job}
use Rattle.pf_core.specs.Cores.{AreLimits, Enters, HasRoomFor, IsFull}
use Rattle.pf_core.specs.Entries.{entry_of}
use Rattle.pf_core.specs.Jobs.{by_tenant}
use Rattle.pf_core.specs.Seats.{AreApart, TenantsData}
use Rattle.pf_core.specs.States.{HasHistory, IsSame, Keeps, Steps, core_of, kept_in, machine_in, progress_of, IsKept}
use Rattle.pf_core.specs.declared.query.Query.{Query}
use Rattle.pf_core.specs.declared.state.State.{State}
use Rattle.pf_core.proofs.Keeping.{legal_push}
use Rattle.pf_core.proofs.Lists.{length_front}
use Rattle.pf_core.proofs.Machines.{after_push, count_after}

-- the number of entries is that of the journal
pub counted : (s : State) → (machine_in s).count ≡ length s.journal.items
counted s =
    let n = count_after started (map entry_of s.journal.items) in
    let m : length (map entry_of s.journal.items) ≡ length s.journal.items = length-map s.journal.items entry_of in
    omega (arith, n, m)

-- where a test of room fails, the journal is full
pub is_full : (s : State) (n : ℕ) → HasHistory s → nat_le (length s.journal.items + s.reserved + n) s.limits.journal ≡ false → IsFull (core_of s) n
is_full s n h t =
    let c = counted s in
    let r = h.keeps.keeps_room in
    let over : s.limits.journal < length s.journal.items + s.reserved + n = grind (arith, nat_tests, t) in
    omega (arith, c, r, over)

-- where it succeeds, so many entries find room
pub room_for : (s : State) (n : ℕ) → HasHistory s → nat_le (length s.journal.items + s.reserved + n) s.limits.journal ≡ true → HasRoomFor (core_of s) n
room_for s n h t =
    let c = counted s in
    let r = h.keeps.keeps_room in
    let within : length s.journal.items + s.reserved + n ≤ s.limits.journal = grind (arith, nat_tests, t) in
    omega (arith, c, r, within)

-- ---- nothing but room in memory changed

pub same_core : (old new : State) → IsSame old new → core_of new ≡ core_of old
same_core old new e =
    λ i. record {
      limits = e.limits i;
      names = (e.tenants i).names;
      journal = map entry_of (e.journal i);
      progress = progress_of (machine_after started (map entry_of (e.journal i))).queries (λ q. e.jobs.table.entries q i)
          (λ q. e.jobs.table.tried q i);
      queues = by_tenant (λ u. record {
        waiting = map (λ (j : Job). j.head) ((e.jobs.table.queues.queues u).waiting i);
        hands = (e.jobs.table.queues.queues u).hands i;
      });
      ring = e.jobs.table.queues.ring i;
      failed = (e.jobs.failed i).items;
      kept = e.jobs.results i;
    }

keeps_alike : (l : Limits) (t : TenantsData) (kept other : ℕ → Option Query) (room : ℕ) (m : Machine)
    → ((place : ℕ) → other place ≡ kept place) → Keeps l t kept room m → Keeps l t other room m
keeps_alike l t kept other room m e h = record {
  keeps_logs = h.keeps_logs;
  keeps_counts = h.keeps_counts;
  within = h.within;
  keeps_queries = λ place. subst (λ (k : Option Query). IsKept (rules_of l) k (open_at place m.queries)) (sym (e place)) (h.keeps_queries place);
  keeps_room = h.keeps_room;
  are_open = h.are_open;
}

keeps_as : (l k : Limits) (t u : TenantsData) (kept other : ℕ → Option Query) (room space : ℕ) (m n : Machine)
    → k ≡ l → u ≡ t → ((place : ℕ) → other place ≡ kept place) → space ≡ room → n ≡ m → Keeps l t kept room m → Keeps k u other space n
keeps_as l k t u kept other room space m n el et e er em h =
    subst (λ (x : Limits). Keeps x u other space n) (sym el)
    (subst (λ (x : TenantsData). Keeps l x other space n) (sym et)
    (subst (λ (x : ℕ). Keeps l t other x n) (sym er)
    (subst (λ (x : Machine). Keeps l t other room x) (sym em) (keeps_alike l t kept other room m e h))))

-- all but room in memory and the table is as it was
pub history_as : (old new : State) → HasHistory old → new.limits ≡ old.limits → new.tenants ≡ old.tenants → ((place : ℕ) → kept_in new place ≡ kept_in old place)
    → new.reserved ≡ old.reserved → new.journal.items ≡ old.journal.items → vec_capacity old.journal ≤ vec_capacity new.journal → HasHistory new
history_as old new h limits tenants queries reserved journal wider =
    let many : length new.journal.items ≡ length old.journal.items = ap length journal in
    let fits = h.fits in
    let capacity = h.capacity in
    let most : new.limits.journal ≡ old.limits.journal = ap (λ (l : Limits). l.journal) limits in
    let entries : map entry_of new.journal.items ≡ map entry_of old.journal.items = ap (map entry_of) journal in
    let names : new.tenants.names ≡ old.tenants.names = ap (λ (t : TenantsData). t.names) tenants in
    record {
      stands = record {
        limits = subst AreLimits (sym limits) h.stands.limits;
        legal = subst (λ (l : Limits). Legal l new.tenants.names (map entry_of new.journal.items)) (sym limits)
            (subst (λ (ns : List (List ℕ)). Legal old.limits ns (map entry_of new.journal.items)) (sym names)
            (subst (λ (es : List Entry). Legal old.limits old.tenants.names es) (sym entries) h.stands.legal));
        names = subst (λ (ns : List (List ℕ)). AreNames ns (map entry_of new.journal.items)) (sym names)
            (subst (λ (es : List Entry). AreNames old.tenants.names es) (sym entries) h.stands.names);
      };
      keeps = keeps_as old.limits new.limits old.tenants new.tenants (kept_in old) (kept_in new) old.reserved new.reserved (machine_in old) (machine_in new)
          limits tenants queries reserved (ap (λ (js : List _). machine_after started (map entry_of js)) journal) h.keeps;
      fits = omega (arith, many, fits, reserved, most);
      capacity = omega (arith, many, capacity, wider, reserved);
    }

pub same_history : (old new : State) → HasHistory old → IsSame old new → HasHistory new
same_history old new h e = history_as old new h e.limits e.tenants e.queries e.reserved e.journal e.capacity

-- ---- an entry that is allowed, after which all is kept

pub behind : (old new : State) (by : By) (what : What)
    → map entry_of new.journal.items ≡ map entry_of old.journal.items ++ record { client = by.client; line = by.line; what = what } ∷ []
    → machine_in new ≡ next (machine_in old) what
behind old new by what journal = ap (machine_after started) journal ∙ after_push started (map entry_of old.journal.items) _

pub stepped : (old new : State) (by : By) (what : What) (t : TenantsData) (kept : ℕ → Option Query) (room : ℕ) (more : List (List ℕ))
    → HasHistory old → Steps old by what t kept room new
    → t.names ≡ old.tenants.names ++ more
    → length t.names ≡ length (next (machine_in old) what).logs
    → AreApart t.names
    → Allowed old.limits (old.tenants.names ++ more) (machine_in old) what
    → Keeps old.limits t kept room (next (machine_in old) what)
    → length old.journal.items + 1 + room ≤ old.limits.journal
    → HasHistory new × Enters (core_of old) by what (core_of new)
stepped old new by what t kept room more h s grown many apart allowed keeps fits =
    let m = machine_in old in
    let J = map entry_of old.journal.items in
    let e : Entry = record { client = by.client; line = by.line; what = what } in
    let after : machine_in new ≡ next m what = behind old new by what s.journal in
    let names : new.tenants.names ≡ old.tenants.names ++ more = ap (λ (x : TenantsData). x.names) s.tenants ∙ grown in
    let c = counted old in
    let kept_room = keeps.keeps_room in
    let many_old = h.stands.names.many in
    let longer = length_front old.tenants.names more in
    let many_new = s.many in
    let reserved = s.reserved in
    let most : new.limits.journal ≡ old.limits.journal = ap (λ (l : Limits). l.journal) s.limits in
    let legal : Legal old.limits (old.tenants.names ++ more) (J ++ e ∷ []) =
    legal_push old.limits old.tenants.names more J e h.stands.legal (record {
      allowed = allowed;
      room = omega (arith, c, kept_room, fits);
      named = omega (arith, many_old, longer);
    }) in (
      record {
        stands = record {
          limits = subst AreLimits (sym s.limits) h.stands.limits;
          legal = subst (λ (l : Limits). Legal l new.tenants.names (map entry_of new.journal.items)) (sym s.limits)
              (subst (λ (ns : List (List ℕ)). Legal old.limits ns (map entry_of new.journal.items)) (sym names)
              (subst (λ (es : List Entry). Legal old.limits (old.tenants.names ++ more) es) (sym s.journal) legal));
          names = record {
            many = ap (λ (x : TenantsData). length x.names) s.tenants ∙ many ∙ ap (λ (x : Machine). length x.logs) (sym after);
            different = subst (λ (x : TenantsData). AreApart x.names) (sym s.tenants) apart;
          };
        };
        keeps = keeps_as old.limits new.limits t new.tenants kept (kept_in new) room new.reserved (next m what) (machine_in new)
            s.limits s.tenants s.queries s.reserved after keeps;
        fits = omega (arith, many_new, fits, reserved, most);
        capacity = s.capacity;
      },
      record { journal = s.journal; limits = s.limits; more = more; grown = names },
    )
