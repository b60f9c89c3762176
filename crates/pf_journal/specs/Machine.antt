-- The journal machine: what one entry of the journal may be, and what it changes. This project's own.
use Rattle.std.specs.Prelude.{◌≡◌, ℕ, zero, suc, pos, ◌+◌, ◌<◌, ◌≤◌, ◌⊎◌, true, Option, None, Some, cond, List, [], ◌∷◌, ◌++◌, filter, length, take, nat_eq, slice_get}
use Rattle.pf_base.specs.declared.plain.Limits.{Limits}
use Rattle.pf_base.specs.Batches.{BatchData}
use Rattle.pf_base.specs.Grids.{points}
use Rattle.pf_model.specs.declared.expr.Matcher.{Matcher}
use Rattle.pf_model.specs.Direct.{Answer, gathered, failed, direct}
use Rattle.pf_model.specs.Log.{Change, Verdict, rules_of, store_of, floor_of, verdicts_of, log_with, log_without}
use Rattle.pf_model.specs.Reach.{is_frozen}
use Rattle.pf_journal.specs.Asking.{Asked}

-- what an entry of the journal says; a tenant is a number, and a query the place of its ask in the journal
pub data What : Type 0 where
  append : (tenant : ℕ) → (batch : BatchData) → (verdicts : List Verdict) → (entry : ℕ) → What
  delete : (tenant : ℕ) → (matchers : List Matcher) → (from : ℕ) → (to : ℕ) → (generation : ℕ) → (entry : ℕ) → What
  ask : (tenant : ℕ) → (asked : Asked) → (pin : ℕ) → (generation : ℕ) → (floor : Option ℕ) → What
  -- an ask of a tenant that has as many open queries as it may
  full : (tenant : ℕ) → (outstanding : ℕ) → What
  -- a further tenant, where as many are known as may be
  no_tenant : (name : List ℕ) → What
  cancel : (query : ℕ) → What
  answer : (query : ℕ) → (code : ℕ) → (cached : ℕ) → (evaluated : ℕ) → What

-- an entry, with the client and the line of its script that made it
pub record Entry : Type 0 where
  pub client : ℕ
  pub line : ℕ
  pub what : What

-- an open query: where it was asked, by whom, what, its tenant's log at the ask, and where it was cancelled
pub record Open : Type 0 where
  pub place : ℕ
  pub tenant : ℕ
  pub asked : Asked
  pub log : List Change
  pub cancelled : Option ℕ

-- the logs of the known tenants, the open queries, and the number of entries
pub record Machine : Type 0 where
  pub logs : List (List Change)
  pub queries : List Open
  pub count : ℕ

abbrev pub started : Machine
started = record { logs = []; queries = []; count = 0 }

-- a tenant's log; a new tenant's is empty
abbrev pub log_of : List (List Change) → ℕ → List Change
log_of [] u = []
log_of (l ∷ ls) zero = l
log_of (l ∷ ls) (suc u) = log_of ls u

-- the logs with one tenant's put in; a new tenant stands at the end
abbrev pub with_log : List (List Change) → ℕ → List Change → List (List Change)
with_log [] u log = log ∷ []
with_log (l ∷ ls) zero log = log ∷ ls
with_log (l ∷ ls) (suc u) log = l ∷ with_log ls u log

-- the open query that was asked at a place
abbrev pub open_at : ℕ → List Open → Option Open
open_at place [] = None
open_at place (o ∷ os) = cond (nat_eq o.place place) (Some o) (open_at place os)

abbrev pub closed : ℕ → List Open → List Open
closed place [] = []
closed place (o ∷ os) = cond (nat_eq o.place place) (closed place os) (o ∷ closed place os)

-- how many open queries a tenant has
abbrev pub open_of : ℕ → List Open → ℕ
open_of u [] = 0
open_of u (o ∷ os) = cond (nat_eq o.tenant u) (1 + open_of u os) (open_of u os)

-- the query that was asked at a place, cancelled at another
abbrev pub cancelled_at : (place query : ℕ) → List Open → List Open
cancelled_at place query [] = []
cancelled_at place query (o ∷ os) =
    cond (nat_eq o.place query)
    (record { place = o.place; tenant = o.tenant; asked = o.asked; log = o.log; cancelled = Some place } ∷ os)
    (o ∷ cancelled_at place query os)

-- an open query keeps room for its answer, and for its cancel until that came
abbrev pub room_kept : Option ℕ → ℕ
room_kept None = 2
room_kept (Some place) = 1

abbrev pub reserved : List Open → ℕ
reserved [] = 0
reserved (o ∷ os) = room_kept o.cancelled + reserved os

-- an entry of a tenant that was not known makes it known
abbrev pub logs_after : List (List Change) → What → List (List Change)
logs_after logs (append u batch vs entry) = with_log logs u (log_with (log_of logs u) batch.rows vs)
logs_after logs (delete u ms from to generation entry) = with_log logs u (log_without (log_of logs u) ms from to)
logs_after logs (ask u asked pin generation floor) = with_log logs u (log_of logs u)
logs_after logs _ = logs

abbrev pub queries_after : Machine → What → List Open
queries_after m (append u batch vs entry) = m.queries
queries_after m (delete u ms from to generation entry) = m.queries
queries_after m (ask u asked pin generation floor) =
    m.queries ++ record { place = m.count; tenant = u; asked = asked; log = log_of m.logs u; cancelled = None } ∷ []
queries_after m (full u outstanding) = m.queries
queries_after m (no_tenant name) = m.queries
queries_after m (cancel query) = cancelled_at m.count query m.queries
queries_after m (answer query code cached evaluated) = closed query m.queries

-- one step
abbrev pub next : Machine → What → Machine
next m x = record { logs = logs_after m.logs x; queries = queries_after m x; count = m.count + 1 }

-- the greatest number of tenants
abbrev pub most_tenants : ℕ
most_tenants = 1024

-- how many open queries a tenant may have
abbrev pub outstanding_of : Limits → (tenant : ℕ) → ℕ
outstanding_of l u = l.outstanding

-- the tenant is known, or the next new one where fewer than 1,024 are known
pub record IsTenant (m : Machine) (u : ℕ) : Type 0 where
  pub next : u ≤ length m.logs
  pub most : u < most_tenants

abbrev pub code_of : Answer → ℕ
code_of (gathered rows) = 200
code_of (failed step kind) = 422

-- what a query's answer is over the samples that its tenant had at the ask
abbrev pub answer_of : Limits → Open → Answer
answer_of l o = direct (store_of (rules_of l) o.log).samples o.asked.query

pub record AppendsRight (l : Limits) (m : Machine) (u : ℕ) (batch : BatchData) (vs : List Verdict) (entry : ℕ) : Type 0 where
  pub tenant : IsTenant m u
  pub judged : vs ≡ verdicts_of (rules_of l) (log_of m.logs u) batch.rows
  pub counted : entry ≡ length (log_with (log_of m.logs u) batch.rows vs)

pub record DeletesRight (l : Limits) (m : Machine) (u : ℕ) (ms : List Matcher) (from to generation entry : ℕ) : Type 0 where
  pub tenant : IsTenant m u
  pub aged : generation ≡ (store_of (rules_of l) (log_without (log_of m.logs u) ms from to)).generation
  pub counted : entry ≡ length (log_without (log_of m.logs u) ms from to)

pub record AsksRight (l : Limits) (m : Machine) (u pin generation : ℕ) (floor : Option ℕ) : Type 0 where
  pub tenant : IsTenant m u
  pub below : open_of u m.queries < outstanding_of l u
  pub pinned : pin ≡ length (log_of m.logs u)
  pub aged : generation ≡ (store_of (rules_of l) (log_of m.logs u)).generation
  pub floored : floor ≡ floor_of (rules_of l) (log_of m.logs u)

pub record FillsRight (l : Limits) (m : Machine) (u outstanding : ℕ) : Type 0 where
  pub known : u < length m.logs
  pub counted : outstanding ≡ open_of u m.queries
  pub most : outstanding ≡ outstanding_of l u

-- as many tenants are known as may be, and the name is none of theirs
pub record IsNoTenant (names : List (List ℕ)) (m : Machine) (name : List ℕ) : Type 0 where
  pub many : length m.logs ≡ most_tenants
  pub unknown : (u : ℕ) → slice_get (take (length m.logs) names) u ≡ Some name → ⊥

-- the query is open and was not cancelled
abbrev pub CancelsOpen : Option Open → Type 0
CancelsOpen None = ⊥
CancelsOpen (Some o) = o.cancelled ≡ None

-- the code of a query that is not cancelled is that of the direct evaluation, or 500, where a job failed five times, or 507, for
-- want of memory
abbrev pub IsCode : Limits → Open → Option ℕ → ℕ → Type 0
IsCode l o None code = (code ≡ code_of (answer_of l o)) ⊎ ((code ≡ 500) ⊎ (code ≡ 507))
IsCode l o (Some place) code = code ≡ 503

-- the code of a query that may be stopped before it is planned, and so has no job: by a cancel, or for want of memory
abbrev pub CanBeUnplanned : ℕ → Type 0
CanBeUnplanned code = (code ≡ 503) ⊎ (code ≡ 507)

-- each step was cached or evaluated, or the query was stopped before it was planned
abbrev pub AreSteps : (steps code counted : ℕ) → Type 0
AreSteps steps code counted = (counted ≡ steps) ⊎ ((counted ≡ 0) × CanBeUnplanned code)

-- how many steps of a query are frozen at the floor of its tenant's log at the ask
abbrev pub frozen_steps : Limits → Open → ℕ
frozen_steps l o =
    length (filter (λ t. is_frozen o.asked.query.tree (pos t) (floor_of (rules_of l) o.log)) (points o.asked.query.grid))

-- so many steps of a query may be cached: none of an instant query, and at most those that are frozen
pub record CanBeCached (l : Limits) (o : Open) (cached : ℕ) : Type 0 where
  pub at_once : o.asked.instant ≡ true → cached ≡ 0
  pub frozen : cached ≤ frozen_steps l o

pub record AnswersRight (l : Limits) (o : Open) (code cached evaluated : ℕ) : Type 0 where
  pub coded : IsCode l o o.cancelled code
  pub stepped : AreSteps (length (points o.asked.query.grid)) code (cached + evaluated)
  pub reused : CanBeCached l o cached

abbrev pub AnswersOpen : Limits → Option Open → ℕ → ℕ → ℕ → Type 0
AnswersOpen l None code cached evaluated = ⊥
AnswersOpen l (Some o) code cached evaluated = AnswersRight l o code cached evaluated

-- when an entry is allowed; the names are those of the tenants by number
abbrev pub Allowed : Limits → List (List ℕ) → Machine → What → Type 0
Allowed l names m (append u batch vs entry) = AppendsRight l m u batch vs entry
Allowed l names m (delete u ms from to generation entry) = DeletesRight l m u ms from to generation entry
Allowed l names m (ask u asked pin generation floor) = AsksRight l m u pin generation floor
Allowed l names m (full u outstanding) = FillsRight l m u outstanding
Allowed l names m (no_tenant name) = IsNoTenant names m name
Allowed l names m (cancel query) = CancelsOpen (open_at query m.queries)
Allowed l names m (answer query code cached evaluated) = AnswersOpen l (open_at query m.queries) code cached evaluated

-- the entries and what they reserve are within the journal's greatest length
abbrev pub HasRoom : Limits → Machine → Type 0
HasRoom l m = m.count + reserved m.queries ≤ l.journal
