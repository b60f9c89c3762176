-- A state in which nothing was done.
use Rattle.std.proofs.Common.{◌≡◌, ℕ, inr, map, Option, None, List, [], length, refl, sym, ap, ◌∙◌, arith, subst}
use Rattle.std.specs.Prelude.{replicate, sum}
use Rattle.pf_base.specs.declared.plain.Limits.{Limits}
use Rattle.pf_journal.specs.Legal.{AreNames, Legal, machine_after}
use Rattle.pf_journal.specs.Machine.{Entry, started}
use Rattle.pf_model.specs.Lists.{Each}
use Rattle.pf_model.specs.Log.{rules_of}
use Rattle.pf_query.specs.Tables.{EntryData, IsNew, IsTable, entry_in, tried_of, waiting_of}
use Rattle.pf_query.specs.declared.job.Job.{Job}
use Rattle.lru.specs.LruCache.{lru_cache}
use Rattle.pf_core.specs.Cores.{AreCovered, AreLimits, KeepsTruth, started_core}
use Rattle.pf_core.specs.Entries.{entry_of}
use Rattle.pf_core.specs.Jobs.{by_tenant}
use Rattle.pf_core.specs.Seats.{TenantsData}
use Rattle.pf_core.specs.States.{AreCounts, AreJobs, HasHistory, IsKept, IsOutstanding, IsState, JobStands, Keeps, core_of, kept_in, machine_in, progress_of}
use Rattle.pf_core.specs.declared.entry.Entry as code
use Rattle.pf_core.specs.declared.query.Query.{Query}
use Rattle.pf_core.specs.declared.state.State.{State}
use Rattle.pf_core.proofs.Standing.{stands}
use Rattle.pf_core.proofs.Tenanted.{head_of}

abbrev no_tenants : TenantsData
no_tenants = record { names = []; logs = []; counts = [] }

pub begun_core : (s : State) (limits : Limits) → s.limits ≡ limits → s.tenants ≡ no_tenants → s.journal.items ≡ [] → IsNew s.table → s.failed.items ≡ replicate 32 0
    → s.results ≡ lru_cache [] limits.extents → core_of s ≡ started_core limits
begun_core s limits l t j n f c = λ i. record {
  limits = l i;
  names = (t i).names;
  journal = map entry_of (j i);
  progress = progress_of (machine_after started (map entry_of (j i))).queries (entry_in s.table) (tried_of s.table);
  queues = by_tenant (λ u. record { waiting = map head_of (n.queues.waiting u i); hands = n.queues.hands u i });
  ring = n.queues.ring i;
  failed = f i;
  kept = c i;
}

none_kept : (l : Limits) (t : TenantsData) (kept : ℕ → Option Query) (room : ℕ) → t ≡ no_tenants → ((place : ℕ) → kept place ≡ None) → room ≡ 0
    → Keeps l t kept room started
none_kept l t kept room e none zero = subst (λ (x : TenantsData). Keeps l x kept room started) (sym e) (record {
  keeps_logs = λ u d g. cc;
  keeps_counts = λ u n g. cc;
  within = λ u n g. cc;
  keeps_queries = λ place. subst (λ (k : Option Query). IsKept (rules_of l) k None) (sym (none place)) tt;
  keeps_room = zero;
  are_open = record { apart = tt; below = tt; known = tt };
})

begun_history : (s : State) → AreLimits s.limits → s.tenants ≡ no_tenants → ((place : ℕ) → kept_in s place ≡ None) → s.reserved ≡ 0 → s.journal.items ≡ []
    → HasHistory s
begun_history s limits t kept room j =
    let entries : map entry_of s.journal.items ≡ [] = ap (map entry_of) j in
    let many : length s.journal.items ≡ 0 = ap (λ (es : List code.Entry). length es) j in
    record {
      stands = record {
        limits = limits;
        legal = subst (λ (es : List Entry). Legal s.limits s.tenants.names es) (sym entries) tt;
        names = subst (λ (es : List Entry). AreNames s.tenants.names es) (sym entries)
            (subst (λ (x : TenantsData). AreNames x.names []) (sym t) (record { many = refl; different = λ u v name p q. cc }));
      };
      keeps = subst (λ (es : List Entry). Keeps s.limits s.tenants (kept_in s) s.reserved (machine_after started es)) (sym entries)
          (none_kept s.limits s.tenants (kept_in s) s.reserved t kept room);
      fits = omega (arith, many, room);
      capacity = omega (arith, many, room);
    }

-- nothing was tried
begun_covered : (l : Limits) → AreCovered (started_core l)
begun_covered l = inr (omega arith)

-- nothing is kept
begun_truth : (l : Limits) → KeepsTruth (started_core l)
begun_truth l key es there = let within = there.1 in absurd (omega (arith, within))

pub begun_state : (s : State) → AreLimits s.limits → s.tenants ≡ no_tenants → ((place : ℕ) → kept_in s place ≡ None) → s.reserved ≡ 0 → s.journal.items ≡ []
    → IsNew s.table → IsTable s.table → s.failed.items ≡ replicate 32 0 → s.total ≡ 0 → s.results ≡ lru_cache [] s.limits.extents → IsState s
begun_state s limits t kept room j n table f total c =
    let entries : map entry_of s.journal.items ≡ [] = ap (map entry_of) j in
    let counts : AreCounts s.failed.items s.total = record {
      actors = ap (λ (xs : List ℕ). length xs) f;
      summed = ap (λ (xs : List ℕ). sum xs) f ∙ sym total;
    } in
    let jobs : AreJobs (map entry_of s.journal.items) s.limits (machine_in s).queries (entry_in s.table) (waiting_of s.table) =
    subst (λ (es : List Entry). AreJobs es s.limits (machine_after started es).queries (entry_in s.table) (waiting_of s.table)) (sym entries) (record {
      outstanding = λ p. subst (λ (e : Option EntryData). IsOutstanding s.limits None e) (sym (n.entries p)) tt;
      waiting_for = λ u. subst (λ (js : List Job). Each (JobStands [] s.limits) js) (sym (n.queues.waiting u)) tt;
    }) in
    record {
      stands = stands s (begun_history s limits t kept room j) table counts jobs.outstanding
          (subst AreCovered (sym (begun_core s s.limits refl t j n f c)) (begun_covered s.limits))
          (subst KeepsTruth (sym (begun_core s s.limits refl t j n f c)) (begun_truth s.limits));
      history = begun_history s limits t kept room j;
      table = table;
      jobs = jobs;
      counts = counts;
    }
