-- How far the work on open queries is, as contracts see it. This project's own.
use Rattle.std.specs.Prelude.{◌≡◌, ◌≤◌, ℕ, Bool, true, false, not, cond, nat_eq, Option, Some, None, List, [], ◌∷◌, filter, length, map}
use Rattle.std.specs.List.{sum_by}
use Rattle.pf_base.specs.GridLists.{GridData}
use Rattle.pf_base.specs.Grids.{points}
use Rattle.pf_base.specs.declared.plain.Limits.{Limits}
use Rattle.pf_journal.specs.Machine.{CanBeCached, Open}
use Rattle.pf_query.specs.Entries.{one_more, stop_after}
use Rattle.pf_query.specs.declared.stop.Stop.{Stop}
use Rattle.pf_query.specs.declared.stop.Stop.TheVariants.{Cancelled, Exhausted, Starved}
use Rattle.pf_core.specs.Jobs.{AreRunsOf}

-- of an open query, by the place of its ask: why it was stopped, if it was; whether it is planned; whether its parts were handed
-- out; the runs of its jobs, none before its plan; how many of its steps were cached at its plan; whether it is offered; and how
-- often its jobs failed, all together
pub record QueryProgress : Type 0 where
  pub query : ℕ
  pub stop : Option Stop
  pub planned : Bool
  pub given : Bool
  pub runs : List GridData
  pub cached : ℕ
  pub offered : Bool
  pub tried : ℕ

-- of a query that was just asked
abbrev pub begun : ℕ → QueryProgress
begun query = record { query = query; stop = None; planned = false; given = false; runs = []; cached = 0; offered = false; tried = 0 }

abbrev pub progress_at : ℕ → List QueryProgress → Option QueryProgress
progress_at query [] = None
progress_at query (p ∷ ps) = cond (nat_eq p.query query) (Some p) (progress_at query ps)

-- with that of one query changed
abbrev pub with_progress : ℕ → (QueryProgress → QueryProgress) → List QueryProgress → List QueryProgress
with_progress query change ps = map (λ p. cond (nat_eq p.query query) (change p) p) ps

-- and without it
abbrev pub without_progress : ℕ → List QueryProgress → List QueryProgress
without_progress query ps = filter (λ p. not (nat_eq p.query query)) ps

-- it is planned with these runs, so many cached steps, and offered by that or not; its parts are handed out, it is offered, it is
-- stopped
abbrev pub planned : List GridData → (cached : ℕ) → (offered : Bool) → QueryProgress → QueryProgress
planned runs cached offered p = record p { planned = true; runs = runs; cached = cached; offered = offered }

abbrev pub handed_out : QueryProgress → QueryProgress
handed_out p = record p { given = true }

abbrev pub offered : QueryProgress → QueryProgress
offered p = record p { offered = true }

abbrev pub stopped : Stop → QueryProgress → QueryProgress
stopped why p = record p { stop = Some (stop_after p.stop why) }

-- a job of it failed; for the fifth time
abbrev pub tried_once : QueryProgress → QueryProgress
tried_once p = record p { tried = one_more p.tried }

abbrev pub exhausted : ℕ → QueryProgress → QueryProgress
exhausted job p = tried_once (stopped (Exhausted job) p)

-- a stop by a cancel names the place of the cancel
abbrev pub cancel_in : Option Stop → Option ℕ
cancel_in (Some (Cancelled place)) = Some place
cancel_in (Some (Exhausted job)) = None
cancel_in (Some Starved) = None
cancel_in None = None

-- a query that is stopped by a job was planned, since it has jobs
abbrev pub GoesWithPlan : Option Stop → (planned : Bool) → Type 0
GoesWithPlan (Some (Exhausted job)) planned = planned ≡ true
GoesWithPlan (Some (Cancelled place)) planned = Unit {0}
GoesWithPlan (Some Starved) planned = Unit {0}
GoesWithPlan None planned = Unit {0}

-- it is that of an open query: it is stopped by a cancel exactly where that was cancelled, and by a job only once it is planned; at
-- most all steps were cached, and no more than may be, none before its plan, the runs of its jobs are of its other steps, and an
-- instant query is offered by its plan
pub record IsProgressOf (l : Limits) (o : Open) (p : QueryProgress) : Type 0 where
  pub place : p.query ≡ o.place
  pub stop : cancel_in p.stop ≡ o.cancelled
  pub stopped_when : GoesWithPlan p.stop p.planned
  pub few : p.cached ≤ length (points o.asked.query.grid)
  pub reused : CanBeCached l o p.cached
  pub none : p.planned ≡ false → p.cached ≡ 0
  pub runs : p.planned ≡ true → AreRunsOf l o p.runs
  pub alone : p.planned ≡ true → o.asked.instant ≡ true → p.offered ≡ true

-- one for each open query, in the order of the asks
abbrev pub GoesWith : Limits → List Open → List QueryProgress → Type 0
GoesWith l [] [] = Unit {0}
GoesWith l [] (p ∷ ps) = ⊥
GoesWith l (o ∷ os) [] = ⊥
GoesWith l (o ∷ os) (p ∷ ps) = IsProgressOf l o p × GoesWith l os ps

-- how often the jobs of open queries failed, all together
abbrev pub tried_in : List QueryProgress → ℕ
tried_in ps = sum_by (λ p. p.tried) ps
