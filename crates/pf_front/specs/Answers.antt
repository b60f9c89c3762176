-- What is answered of open queries: this project's own.
use Rattle.std.specs.Prelude.{◌≡◌, ℕ, ◌+◌, ◌<◌, None, Some, length}
use Rattle.pf_base.specs.Grids.{points}
use Rattle.pf_base.specs.declared.plain.By.{By}
use Rattle.pf_base.specs.declared.plain.Limits.{Limits}
use Rattle.pf_core.specs.Calls.{IsStoppedBy, IsWhole, cached_of, evaluated_of}
use Rattle.pf_core.specs.Cores.{AreClosed, CoreData, Enters, in_hand_of, machine_of, queued_of}
use Rattle.pf_front.specs.Works.{WorksOn}
use Rattle.pf_front.specs.declared.answering.Answering.{Answering}
use Rattle.pf_front.specs.declared.answering.Answering.TheVariants.{Waits, Answered}
use Rattle.pf_front.specs.declared.answering.Reply.{Reply}
use Rattle.pf_front.specs.declared.outcome.Outcome.{Outcome}
use Rattle.pf_front.specs.declared.outcome.Outcome.TheVariants as outcome
use Rattle.pf_journal.specs.Machine.{AreSteps, Open, answer, answer_of, open_at}
use Rattle.pf_model.specs.Direct.{failed, gathered}
use Rattle.pf_query.specs.declared.stop.Stop.TheVariants.{Cancelled, Exhausted, Starved}

-- the code that goes with what came out of a query
abbrev pub code_in : Outcome → ℕ
code_in (outcome.Matrix rows) = 200
code_in (outcome.Failed step kind) = 422
code_in outcome.Cancelled = 503
code_in (outcome.Exhausted job) = 500
code_in outcome.Starved = 507

-- what may come out of an open query: its direct evaluation, or that it was cancelled; of one that is not cancelled also that a job
-- failed five times, or that memory ran out
abbrev pub IsOutcomeOf : Limits → Open → Outcome → Type 0
IsOutcomeOf l o (outcome.Matrix rows) = (o.cancelled ≡ None) × (answer_of l o ≡ gathered rows)
IsOutcomeOf l o (outcome.Failed step kind) = (o.cancelled ≡ None) × (answer_of l o ≡ failed step kind)
IsOutcomeOf l o outcome.Cancelled = (place : ℕ) × (o.cancelled ≡ Some place)
IsOutcomeOf l o (outcome.Exhausted job) = o.cancelled ≡ None
IsOutcomeOf l o outcome.Starved = o.cancelled ≡ None

-- what came out of an open query goes with why it is stopped, if it is
abbrev pub GoesWithStop : CoreData → (query : ℕ) → Outcome → Type 0
GoesWithStop c query (outcome.Matrix rows) = IsWhole c query
GoesWithStop c query (outcome.Failed step kind) = IsWhole c query
GoesWithStop c query outcome.Cancelled = (place : ℕ) × IsStoppedBy c query (Cancelled place)
GoesWithStop c query (outcome.Exhausted job) = IsStoppedBy c query (Exhausted job)
GoesWithStop c query outcome.Starved = IsStoppedBy c query Starved

-- a reply tells what came out, its code, and how many steps were cached and evaluated
pub record IsReplyOf (l : Limits) (o : Open) (reply : Reply) : Type 0 where
  pub coded : reply.code ≡ code_in reply.outcome
  pub outcome_of : IsOutcomeOf l o reply.outcome
  pub steps : AreSteps (length (points o.asked.query.grid)) reply.code (reply.cached + reply.evaluated)

-- an open query was answered, after work that entered nothing
pub record IsReplied (before after : ℕ) (old : CoreData) (by : By) (query : ℕ) (reply : Reply) (new : CoreData) : Type 0 where
  pub opened : Open
  pub is_open : open_at query (machine_of old).queries ≡ Some opened
  pub middle : CoreData
  pub works : WorksOn before after old middle
  pub stop : GoesWithStop middle query reply.outcome
  pub cached : reply.cached ≡ cached_of middle query
  pub evaluated : reply.evaluated ≡ evaluated_of middle query
  pub entered : Enters middle by (answer query reply.code reply.cached reply.evaluated) new
  pub closed : AreClosed middle query new
  pub is : IsReplyOf old.limits opened reply

-- a query that isn't stopped has so many jobs, all in hand
pub record IsInHands (before after : ℕ) (old : CoreData) (query jobs : ℕ) (new : CoreData) : Type 0 where
  pub works : WorksOn before after old new
  pub whole : IsWhole new query
  pub none_waits : queued_of new whole.opened.tenant query ≡ 0
  pub jobs_are : jobs ≡ in_hand_of new whole.opened.tenant query
  pub some : 0 < jobs

-- by the counts of a hop's faults before and after
abbrev pub IsAnswered : (before after : ℕ) → CoreData → By → (query : ℕ) → Answering → CoreData → Type 0
IsAnswered before after old by query (Waits jobs) new = IsInHands before after old query jobs new
IsAnswered before after old by query (Answered reply) new = IsReplied before after old by query reply new
