-- What a plan promises of the core.
use Rattle.std.proofs.Common.{◌≡◌, ℕ, ◌≤◌, ◌++◌, Bool, true, false, Some, Result, Ok, Err, arith, length, map, sym, ap, ◌∙◌, subst}
use Rattle.std.specs.Prelude.{IfErr, IfOk, IsSome, ◌||◌}
use Rattle.pf_block.specs.Snaps.{SnapData}
use Rattle.pf_extent.specs.Done.{steps_in}
use Rattle.pf_journal.specs.Machine.{Open, log_of, open_at}
use Rattle.pf_model.specs.Log.{Rules, rules_of}
use Rattle.pf_query.specs.Jobs.{is_empty}
use Rattle.pf_query.specs.Tables as table
use Rattle.pf_query.specs.Tables.{IsSameTable, IsTable, entry_in}
use Rattle.pf_query.specs.declared.answers.PlanError.{PlanError}
use Rattle.pf_query.specs.declared.answers.Planned.{Planned}
use Rattle.pf_results.specs.Truth.{AreTrue, Logs}
use Rattle.pf_results.specs.declared.serving.Found.{Found}
use Rattle.pf_shard.specs.Lawful.{ResolvedLegs}
use Rattle.pf_core.specs.Cached.{used_by}
use Rattle.pf_core.specs.Calls.{BindsOpen, ChangesQueue, IsPlanned, IsUnplanned, planned_by, planned_for, ring_with}
use Rattle.pf_core.specs.Cores.{CoreData, queue_at}
use Rattle.pf_core.specs.Divisions.{Divides, IsDivisionFor, IsPlannedFirst, used_with}
use Rattle.pf_core.specs.Entries.{entry_of}
use Rattle.pf_core.specs.Progress.{with_progress}
use Rattle.pf_core.specs.States.{IsQuery, IsSameButCache, IsState, KeepsFailures, KeepsHistory, core_of, kept_in, machine_in}
use Rattle.pf_core.specs.declared.plan.Division.{Division}
use Rattle.pf_core.specs.declared.query.Query.{Query}
use Rattle.pf_core.specs.declared.state.State.{State}
use Rattle.pf_core.proofs.Calling.{planned_core, planned_state, state_same, unplanned}
use Rattle.pf_core.proofs.Divided.{division, is_none, used_is}
use Rattle.pf_core.proofs.KeptQueries.{kept_is}
use Rattle.pf_core.proofs.Logs.{front_of}
use Rattle.pf_core.proofs.Looked.{bound, outstanding}
use Rattle.pf_core.proofs.Standing.{core_cached, state_cached}

-- ---- how its steps are divided

-- the query that is kept is the open one
pub query_of : (s : State) (query : ℕ) (q : Query) (o : Open) → IsState s → kept_in s query ≡ Some q → open_at query (machine_in s).queries ≡ Some o
    → IsQuery (rules_of s.limits) q o
query_of s query q o h kept there =
    let found = kept_is (rules_of s.limits) (kept_in s query) (open_at query (machine_in s).queries) q (h.history.keeps.keeps_queries query) kept in
    let both : Some found.opened ≡ Some o = sym found.there ∙ there in
    let same : found.opened ≡ o = cc in
    subst (IsQuery (rules_of s.limits) q) same found.is

pub divided_for : (s : State) (query : ℕ) (q : Query) (d : Division) (instant : Bool) → IsState s → kept_in s query ≡ Some q
    → Divides s.results s.limits.interval q d → instant ≡ is_none d.key
    → (o : Open) → open_at query (machine_in s).queries ≡ Some o → IsDivisionFor s.limits s.results o d.found instant
divided_for s query q d instant h kept v e o there =
    subst (IsDivisionFor s.limits s.results o d.found) (sym e)
    (division s.limits s.results (machine_in s).logs q o d (query_of s query q o h kept there) (front_of (map entry_of s.journal.items) query o there)
    h.stands.kept v)

-- ---- the table's plan

-- whether it is offered by that
pub once_then : (instant offered rest : Bool) → instant ≡ true → offered ≡ true → offered ≡ (instant || rest)
once_then instant offered rest t e = e ∙ sym (ap (λ (b : Bool). b || rest) t)

pub once_else : (instant offered none rest : Bool) → instant ≡ false → offered ≡ none → none ≡ rest → offered ≡ (instant || rest)
once_else instant offered none rest f e n = e ∙ n ∙ sym (ap (λ (b : Bool). b || rest) f)

pub plan_outstanding : (s : State) (query : ℕ) (legs : ResolvedLegs) (snap : SnapData) → IsState s
    → BindsOpen s.limits (open_at query (machine_in s).queries) legs snap → IsSome (entry_in s.table query)
plan_outstanding s query legs snap h binds =
    let b = bound s.limits (open_at query (machine_in s).queries) legs snap binds in
    outstanding s query b.opened h b.there

pub plan_few_runs : (s : State) (query : ℕ) (legs : ResolvedLegs) (snap : SnapData) (found : Found) (instant : Bool)
    → BindsOpen s.limits (open_at query (machine_in s).queries) legs snap
    → ((o : Open) → open_at query (machine_in s).queries ≡ Some o → IsDivisionFor s.limits s.results o found instant)
    → length found.runs.items ≤ 11001
plan_few_runs s query legs snap found instant binds divided =
    let b = bound s.limits (open_at query (machine_in s).queries) legs snap binds in
    (divided b.opened b.there).few_runs

pub plan_few : (s : State) (query : ℕ) (legs : ResolvedLegs) (snap : SnapData) (found : Found) (instant : Bool)
    → BindsOpen s.limits (open_at query (machine_in s).queries) legs snap
    → ((o : Open) → open_at query (machine_in s).queries ≡ Some o → IsDivisionFor s.limits s.results o found instant)
    → steps_in found.cached.items ≤ 11001
plan_few s query legs snap found instant binds divided =
    let b = bound s.limits (open_at query (machine_in s).queries) legs snap binds in
    let d = divided b.opened b.there in
    let few = d.few_cached in
    let most = d.most in
    omega (arith, few, most)

pub plans_state : (old new : State) (query : ℕ) (legs : ResolvedLegs) (snap : SnapData) (found : Found) (instant offered : Bool) (r : Result Planned PlanError)
    → IsState old → KeepsHistory old new → KeepsFailures old new → IsTable new.table
    → BindsOpen old.limits (open_at query (machine_in old).queries) legs snap
    → ((o : Open) → open_at query (machine_in old).queries ≡ Some o → IsDivisionFor old.limits old.results o found instant)
    → offered ≡ (instant || is_empty found.runs.items)
    → IfOk r (λ p. table.IsPlannedOver old.table query legs found.runs.items found.cached.items offered snap p.jobs new.table)
    → IfErr r (λ e. table.IsUnplanned (entry_in old.table query) e × IsSameTable old.table new.table) → IsState new
plans_state old new query legs snap found instant offered (Ok p) h k f t binds divided once ok err =
    let b = bound old.limits (open_at query (machine_in old).queries) legs snap binds in
    let d = divided b.opened b.there in
    planned_state old new query p.jobs legs found.cached.items found.runs.items offered snap b.opened h k f t b.there b.is d.divided d.few_cached d.reused
    (λ alone. once ∙ ap (λ (b : Bool). b || is_empty found.runs.items) (d.instant_is ∙ alone)) ok
plans_state old new query legs snap found instant offered (Err e) h k f t binds divided once ok err = state_same old new h k f t err.1

pub plans : (old new : State) (query : ℕ) (legs : ResolvedLegs) (snap : SnapData) (found : Found) (instant offered : Bool) (r : Result Planned PlanError)
    → IsState old → KeepsHistory old new → KeepsFailures old new → IsTable new.table
    → BindsOpen old.limits (open_at query (machine_in old).queries) legs snap
    → ((o : Open) → open_at query (machine_in old).queries ≡ Some o → IsDivisionFor old.limits old.results o found instant)
    → offered ≡ (instant || is_empty found.runs.items)
    → IfOk r (λ p. table.IsPlannedOver old.table query legs found.runs.items found.cached.items offered snap p.jobs new.table)
    → IfOk r (λ p. p.cached ≡ steps_in found.cached.items)
    → IfOk r (λ p. IsPlannedFirst (core_of old) query p (core_of new))
plans old new query legs snap found instant offered (Ok p) h k f t binds divided once ok steps =
    let b = bound old.limits (open_at query (machine_in old).queries) legs snap binds in
    let d = divided b.opened b.there in
    planned_core old new query p legs found.cached.items found.runs.items offered snap b.opened h k f t b.there b.is d.runs
    (once ∙ (λ i. d.instant_is i || is_empty (d.runs i))) steps d.cached ok
plans old new query legs snap found instant offered (Err e) h k f t binds divided once ok steps = tt

pub unplans : (old new : State) (query : ℕ) (r : Result Planned PlanError) → IsState old → KeepsHistory old new → KeepsFailures old new
    → IfErr r (λ e. table.IsUnplanned (entry_in old.table query) e × IsSameTable old.table new.table)
    → IfErr r (λ e. IsUnplanned (core_of old) query e (core_of new))
unplans old new query (Ok p) h k f err = tt
unplans old new query (Err e) h k f err = unplanned old new query e h k f err.0 err.1

-- ---- its keys are used

pub uses_state : (old new : State) → IsState old → IsSameButCache old new
    → ((rules : Rules) (logs : Logs) → AreTrue rules old.limits.interval logs old.results.entries → AreTrue rules old.limits.interval logs new.results.entries)
    → IsState new
uses_state old new h same kept = state_cached old new h same (kept (rules_of old.limits) (log_of (machine_in old).logs) h.stands.kept)

-- the whole plan
pub planned_whole : (old mid new : State) (query : ℕ) (told : Planned) (q : Query) (d : Division) → IsState old → kept_in old query ≡ Some q
    → Divides old.results old.limits.interval q d → IsPlannedFirst (core_of old) query told (core_of mid) → IsSameButCache mid new
    → new.results ≡ used_with mid.limits.interval d.grid d.key mid.results → IsPlanned (core_of old) query told (core_of new)
planned_whole old mid new query told q d h kept v first same used =
    let o = first.whole.opened in
    let limits : mid.limits ≡ old.limits = first.leaves.history.limits in
    let was : mid.results ≡ old.results = first.leaves.kept_is in
    let now : new.results ≡ used_by old.limits old.results o =
    used ∙ (λ i. used_with (limits i).interval d.grid d.key (was i)) ∙ used_is old.limits old.results q o d (query_of old query q o h kept first.whole.is_open) v in
    record {
      whole = first.whole;
      unplanned = first.unplanned;
      cached_is = first.cached_is;
      count_is = first.count_is;
      leaves = subst (λ (c : CoreData). ChangesQueue (core_of old) o.tenant
          (record { waiting = (queue_at (core_of old) o.tenant).waiting ++ planned_for (core_of old) query o; hands = (queue_at (core_of old) o.tenant).hands })
          (ring_with (core_of old) o.tenant (planned_for (core_of old) query o))
          (with_progress query (planned_by (core_of old) told.cached o) (core_of old).progress) (used_by old.limits old.results o) c) (sym (core_cached mid new same))
          (record {
            queue_is = record { here = first.leaves.queue_is.here; others = first.leaves.queue_is.others; ring_is = first.leaves.queue_is.ring_is };
            history = record {
              limits = first.leaves.history.limits;
              names = first.leaves.history.names;
              journal = first.leaves.history.journal;
            };
            failed = first.leaves.failed;
            progress_is = first.leaves.progress_is;
            kept_is = now;
          });
    }
