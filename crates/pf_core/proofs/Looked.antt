-- What is told of an open query, and what the table is asked and answers beside the other parts of a state.
use Rattle.std.proofs.Common.{◌≡◌, ℕ, ◌<◌, ◌≤◌, Option, Some, None, List, refl, sym, ap, ◌∙◌, arith, subst, vec_capacity}
use Rattle.std.specs.Arc.{arc_value}
use Rattle.std.specs.Option.{option_map}
use Rattle.std.specs.Prelude.{IsSome, OnErr, Result, Ok, Err}
use Rattle.pf_block.specs.Snaps.{SnapData}
use Rattle.pf_base.specs.declared.plain.Limits.{Limits}
use Rattle.pf_journal.specs.Machine.{Open, most_tenants, open_at}
use Rattle.pf_model.specs.Log.{rules_of}
use Rattle.pf_query.specs.Tables as table
use Rattle.pf_query.specs.Tables.{EntryData, IsClosed, IsTable, entry_in, progress_of, tried_of}
use Rattle.pf_query.specs.declared.table.Table.{Table}
use Rattle.pf_query.specs.declared.answers.Progress.{Progress}
use Rattle.pf_store.specs.Standing.{IsPin, PinData}
use Rattle.pf_shard.specs.Lawful.{ResolvedLegs}
use Rattle.pf_core.specs.Calls.{BindsOpen}
use Rattle.pf_core.specs.Cores.{IsOpened}
use Rattle.pf_core.specs.Jobs.{IsLegsOf}
use Rattle.pf_core.specs.Progress.{cancel_in}
use Rattle.pf_core.specs.Seats.{AreTenants, IsFree, TenantsData}
use Rattle.pf_core.specs.States.{IsSame, IsState, core_of, far_of, kept_in, machine_in}
use Rattle.pf_core.specs.declared.answers.Opened.{Opened}
use Rattle.pf_core.specs.declared.query.Query.{Query}
use Rattle.pf_core.specs.declared.state.State.{State}
use Rattle.pf_core.proofs.KeptQueries.{kept_is, kept_none}
use Rattle.pf_core.proofs.Outstanding.{closed_there, entry_there, open_there}
use Rattle.pf_core.proofs.Progressing.{far_at}
use Rattle.pf_core.proofs.Standing.{undone}

-- ---- what is told

pub unkept : (s : State) (query : ℕ) → IsState s → kept_in s query ≡ None → open_at query (machine_in s).queries ≡ None
unkept s query h e = kept_none (rules_of s.limits) (kept_in s query) (open_at query (machine_in s).queries) (h.history.keeps.keeps_queries query) e

no_progress : (e : Option EntryData) → option_map progress_of e ≡ None → e ≡ None
no_progress None p = refl
no_progress (Some d) p = cc

pub untold : (s : State) (query : ℕ) → IsState s → option_map progress_of (entry_in s.table query) ≡ None → open_at query (machine_in s).queries ≡ None
untold s query h e =
    closed_there s.limits (open_at query (machine_in s).queries) (entry_in s.table query) (h.jobs.outstanding query)
    (no_progress (entry_in s.table query) e)

record Progresses (e : Option EntryData) (p : Progress) : Type 0 where
  entry : EntryData
  there : e ≡ Some entry
  is : progress_of entry ≡ p

progressing : (e : Option EntryData) (p : Progress) → option_map progress_of e ≡ Some p → Progresses e p
progressing None p h = cc
progressing (Some d) p h = record { entry = d; there = refl; is = cc }

pub told : (s : State) (query : ℕ) (q : Query) (p : Progress) (o : Opened) → IsState s → kept_in s query ≡ Some q → option_map progress_of (entry_in s.table query) ≡ Some p
    → o.tenant ≡ q.tenant → arc_value o.asked.now ≡ arc_value q.asked → o.pin.now ≡ q.pin → o.cancelled ≡ q.cancelled → o.planned ≡ p.planned → o.stop ≡ p.stop
    → o.cached ≡ p.cached → o.offered ≡ p.offered → IsOpened (core_of s) query o
told s query q p o h kept progress tenant asked pin cancelled planned stop cached offered =
    let found = kept_is (rules_of s.limits) (kept_in s query) (open_at query (machine_in s).queries) q (h.history.keeps.keeps_queries query) kept in
    let e = progressing (entry_in s.table query) p progress in
    let opened = open_there s.limits (open_at query (machine_in s).queries) (entry_in s.table query) e.entry (h.jobs.outstanding query) e.there in
    let both : Some opened.opened ≡ Some found.opened = sym opened.there ∙ found.there in
    let same : opened.opened ≡ found.opened = cc in
    record {
      opened = found.opened;
      is_open = found.there;
      tenant = found.is.tenant ∙ sym tenant;
      asked = found.is.asked ∙ sym asked;
      pinned = subst (λ (x : PinData). IsPin x (rules_of s.limits) found.opened.log) (sym pin) found.is.pinned;
      cancelled = found.is.cancelled ∙ sym cancelled;
      far = far_of query (Some e.entry) (tried_of s.table query);
      is_far = far_at query (machine_in s).queries (entry_in s.table) (tried_of s.table) found.opened found.there
          ∙ ap (λ (x : Option EntryData). Some (far_of query x (tried_of s.table query))) e.there;
      planned = ap (λ (x : Progress). x.planned) e.is ∙ sym planned;
      stop = ap (λ (x : Progress). x.stop) e.is ∙ sym stop;
      cached = ap (λ (x : Progress). x.cached) e.is ∙ sym cached;
      offered = ap (λ (x : Progress). x.offered) e.is ∙ sym offered;
      by_cancel = ap cancel_in (stop ∙ ap (λ (x : Progress). x.stop) (sym e.is)) ∙ opened.is.stop ∙ ap (λ (x : Open). x.cancelled) same;
    }

-- ---- what is asked of the table

pub free_known : (t : TenantsData) (number : ℕ) (newcomer : Option (List ℕ)) → AreTenants t → IsFree t number newcomer → number < most_tenants
free_known t number None h f = let few = h.few in omega (arith, few, f)
free_known t number (Some name) h f = f.1.0

pub on_err : {A B : Type 0} (r : Result A B) (P : Type 0) → P → OnErr r P
on_err (Ok x) P p = tt
on_err (Err e) P p = p

-- an ask that wants memory at its last step leaves nothing behind
pub unsettled : (old new : State) (before opened : Table) (place u : ℕ) → IsState old → entry_in old.table place ≡ None → before ≡ old.table
    → table.IsOpened before place u opened → IsClosed opened place new.table → IsTable new.table
    → new.limits ≡ old.limits → new.tenants ≡ old.tenants → ((p : ℕ) → kept_in new p ≡ kept_in old p) → new.reserved ≡ old.reserved
    → new.journal.items ≡ old.journal.items → vec_capacity old.journal ≤ vec_capacity new.journal → new.failed ≡ old.failed → new.total ≡ old.total → new.results ≡ old.results → IsSame old new
unsettled old new before opened place u h none same o c t limits tenants queries reserved journal capacity failed total results = record {
  limits = limits;
  tenants = tenants;
  queries = queries;
  reserved = reserved;
  journal = journal;
  capacity = capacity;
  jobs = record {
    table = undone old.table opened new.table place u h.table t none (subst (λ (x : Table). table.IsOpened x place u opened) same o) c;
    lawful = λ _. t;
    failed = failed;
    total = total;
    results = results;
  };
}

-- ---- what a plan asks

pub never_unbound : (l : Limits) (found : Option Open) (legs : ResolvedLegs) (snap : SnapData) → BindsOpen l found legs snap → found ≡ None → ⊥
never_unbound l None legs snap h e = h
never_unbound l (Some o) legs snap h e = cc

pub record IsBound (l : Limits) (found : Option Open) (legs : ResolvedLegs) (snap : SnapData) : Type 0 where
  pub opened : Open
  pub there : found ≡ Some opened
  pub is : IsLegsOf l opened legs snap

pub bound : (l : Limits) (found : Option Open) (legs : ResolvedLegs) (snap : SnapData) → BindsOpen l found legs snap → IsBound l found legs snap
bound l None legs snap h = absurd h
bound l (Some o) legs snap h = record { opened = o; there = refl; is = h }

some_entry : (e : Option EntryData) (d : EntryData) → e ≡ Some d → IsSome e
some_entry None d h = cc
some_entry (Some c) d h = refl

pub outstanding : (s : State) (query : ℕ) (o : Open) → IsState s → open_at query (machine_in s).queries ≡ Some o → IsSome (entry_in s.table query)
outstanding s query o h there =
    let entry = entry_there s.limits (open_at query (machine_in s).queries) (entry_in s.table query) o (h.jobs.outstanding query) there in
    some_entry (entry_in s.table query) entry.kept entry.there
