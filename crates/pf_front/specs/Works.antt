-- What work on jobs leaves of a core: this project's own.
use Rattle.std.specs.Prelude.{◌≡◌, ◌⊎◌, ℕ, ◌+◌, ◌≤◌, sum}
use Rattle.pf_core.specs.Calls.{IsFailed, IsFinished, IsLacked, IsLackedBy, IsUnplanned}
use Rattle.pf_core.specs.Cores.{CoreData, IsSameHistory, queue_at}
use Rattle.pf_front.specs.declared.working.Worked.{Worked}
use Rattle.pf_front.specs.declared.working.Worked.TheVariants as worked
use Rattle.pf_io.specs.Outside.{Rose}
use Rattle.pf_model.specs.Lists.{Each}
use Rattle.pf_query.specs.declared.answers.FailedTry.TheVariants as failed
use Rattle.pf_query.specs.declared.answers.Finished.TheVariants as finished
use Rattle.pf_query.specs.declared.answers.PlanError.{PlanError}
use Rattle.pf_query.specs.declared.answers.PlanError.TheVariants as plan_error
use Rattle.pf_query.specs.declared.job.Held.{Held}

-- no job is in an actor's hand
abbrev pub IsIdle : CoreData → (actor : ℕ) → Type 0
IsIdle c actor = (u : ℕ) → Each (λ h. h.actor ≡ actor → ⊥) (queue_at c u).hands

-- failed tries rose by no more than a hop's count of faults, before and after, or that count stands at its greatest value
abbrev pub AreCarried : (before after : ℕ) → CoreData → CoreData → Type 0
AreCarried before after old new = (18446744073709551615 ≤ after) ⊎ (sum new.failed + before ≤ sum old.failed + after)

-- what is left by plans, and by takes of jobs each of which was worked on: no entry is added, the same jobs are in hand, no failed
-- try is forgotten, and none failed without its hop
pub record WorksOn (before after : ℕ) (old new : CoreData) : Type 0 where
  pub history : IsSameHistory old new
  pub hands : (u : ℕ) → (queue_at new u).hands ≡ (queue_at old u).hands
  pub failed : sum old.failed ≤ sum new.failed
  pub carried : AreCarried before after old new

-- why a query isn't planned, and what that leaves: for want of memory it is stopped
abbrev pub IsNotPlanned : CoreData → (query : ℕ) → PlanError → CoreData → Type 0
IsNotPlanned old query plan_error.PlannedBefore new = IsUnplanned old query plan_error.PlannedBefore new
IsNotPlanned old query (plan_error.Stopped why) new = IsUnplanned old query (plan_error.Stopped why) new
IsNotPlanned old query plan_error.OutOfMemory new = IsLacked old query new

-- what became of a job in hand whose way failed
abbrev pub HasFailed : CoreData → Held → Worked → CoreData → Type 0
HasFailed old held worked.Stored new = ⊥
HasFailed old held (worked.Again tries) new = IsFailed old held (failed.Again tries) new
HasFailed old held (worked.Exhausted job) new = IsFailed old held (failed.Exhausted job) new
HasFailed old held worked.Lacked new = ⊥
HasFailed old held (worked.Gone why) new = IsFailed old held (failed.Gone why) new
HasFailed old held worked.NotHeld new = IsFailed old held failed.NotHeld new

-- and of one that was evaluated
abbrev pub IsEvaluated : CoreData → Held → Worked → CoreData → Type 0
IsEvaluated old held worked.Stored new = IsFinished old held finished.Stored new
IsEvaluated old held (worked.Again tries) new = ⊥
IsEvaluated old held (worked.Exhausted job) new = ⊥
IsEvaluated old held worked.Lacked new = IsLackedBy old held new
IsEvaluated old held (worked.Gone why) new = IsFinished old held (finished.Gone why) new
IsEvaluated old held worked.NotHeld new = IsFinished old held finished.NotHeld new

-- what became of a job in hand, by the counts of its way's faults before and after: a try failed only where the count rose
abbrev pub IsWorked : (before after : ℕ) → CoreData → Held → Worked → CoreData → Type 0
IsWorked before after old held result new =
    (Rose before after × HasFailed old held result new) ⊎ ((after ≡ before) × IsEvaluated old held result new)
