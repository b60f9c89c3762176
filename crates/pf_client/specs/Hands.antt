-- The jobs in workers' hands: this project's own.
use Rattle.std.specs.Fmt.{decimal}
use Rattle.std.specs.Prelude.{codes, ◌≡◌, ℕ, ◌+◌, ◌-◌, ◌<◌, ◌≤◌, ◌⊎◌, Bool, false, cond, nat_eq, not, Option, Some, None, List, [], ◌∷◌, ◌++◌, filter, length, option_map, slice_get, sum}
use Rattle.pf_core.specs.Calls.{StandsForAsk}
use Rattle.pf_core.specs.Cores.{CoreData, machine_of, queue_at}
use Rattle.pf_base.specs.declared.plain.JobHead.{JobHead}
use Rattle.pf_front.specs.Works.{IsIdle}
use Rattle.pf_front.specs.declared.keeping.Keeping.{Keeping}
use Rattle.pf_front.specs.declared.keeping.Keeping.TheVariants as keeping
use Rattle.pf_front.specs.declared.working.Worked.{Worked}
use Rattle.pf_front.specs.declared.working.Worked.TheVariants as worked
use Rattle.pf_journal.specs.Machine.{Open, open_at}
use Rattle.pf_journal.specs.Replies.{reply_line}
use Rattle.pf_journal.specs.Rest.{Told, of_done, of_take}
use Rattle.pf_journal.specs.Scripts as script
use Rattle.pf_journal.specs.Scripts.{Line}
use Rattle.pf_journal.specs.Steps as steps
use Rattle.pf_journal.specs.Steps.{empty, took}
use Rattle.pf_journal.specs.Turns as turns
use Rattle.pf_journal.specs.Weave.{failed_in}
use Rattle.pf_model.specs.Lists.{Each, first_with}
use Rattle.pf_query.specs.Jobs.{hand_of, without_hand}
use Rattle.pf_query.specs.Tables.{is_of}
use Rattle.pf_query.specs.declared.job.Hand.{Hand}
use Rattle.pf_query.specs.declared.job.Held.{Held}
use Rattle.pf_query.specs.declared.stop.Stop.{Stop}
use Rattle.pf_query.specs.declared.stop.Stop.TheVariants as stop
use Rattle.pf_client.specs.declared.client.Client.{Client}

-- ---- what workers have

-- the job that a worker has
abbrev pub in_place : Option (Option Held) → Option Held
in_place None = None
in_place (Some held) = held

abbrev pub held_by : List (Option Held) → (worker : ℕ) → Option Held
held_by held worker = in_place (slice_get held worker)

-- a worker is the actor of its number and 16
abbrev pub is_by : (worker : ℕ) → Hand → Bool
is_by worker h = nat_eq h.actor (16 + worker)

abbrev pub is_by_other : (worker : ℕ) → Hand → Bool
is_by_other worker h = not (nat_eq h.actor (16 + worker))

-- what is kept of a job in hand as it is told, and that of several: the job that was taken last comes first
abbrev pub told_hand : Hand → turns.Hand
told_hand h = record { worker = h.actor - 16; query = h.head.query }

abbrev pub told_onto : List turns.Hand → List Hand → List turns.Hand
told_onto told [] = told
told_onto told (h ∷ hs) = told_onto (told_hand h ∷ told) hs

-- no two have the same actor
abbrev pub AreApart : List Hand → Type 0
AreApart [] = Unit {0}
AreApart (h ∷ hs) = Each (λ x. nat_eq x.actor h.actor ≡ false) hs × AreApart hs

-- what is kept of the jobs that workers have, in the order of the takes
pub record AreInOrder (held : List (Option Held)) (order : List Hand) : Type 0 where
  pub found : (worker : ℕ) → first_with (is_by worker) order ≡ option_map hand_of (held_by held worker)
  pub workers : Each (λ h. 16 ≤ h.actor) order
  pub apart : AreApart order

-- ---- what the core has in hand

-- those of a query
abbrev pub is_job_of : (query : ℕ) → Hand → Bool
is_job_of query h = is_of query h.head

abbrev pub jobs_in_hand : CoreData → (tenant query : ℕ) → List Hand
jobs_in_hand c u query = filter (is_job_of query) (queue_at c u).hands

-- a query of a tenant is open, or its place is not reached yet
abbrev pub IsLive : CoreData → (tenant query : ℕ) → Type 0
IsLive c u query = ((o : Open) × ((open_at query (machine_of c).queries ≡ Some o) × (o.tenant ≡ u))) ⊎ ((machine_of c).count ≤ query)

-- of each query that is not answered the core has in hand what workers have
abbrev pub HasInHand : CoreData → List Hand → Type 0
HasInHand c order = (u query : ℕ) → IsLive c u query → jobs_in_hand c u query ≡ filter (is_job_of query) order

-- the jobs in hand are those of which it was told
pub record HaveHands (c : Client) (told : List turns.Hand) : Type 0 where
  pub order : List Hand
  pub in_order : AreInOrder c.hands.items order
  pub told_is : told ≡ told_onto [] order
  pub in_hand : HasInHand c.core order

-- each job in a worker's hand stands for its ask, and the client, which is one of 16, has none in its own
pub record HoldsJobs (c : Client) : Type 0 where
  pub many : length c.hands.items ≡ 16
  pub stands : (worker : ℕ) (h : Held) → held_by c.hands.items worker ≡ Some h → StandsForAsk c.core h × (h.actor ≡ 16 + worker)
  pub below : c.client < 16
  pub idle : IsIdle c.core c.client

-- ---- what a line does to jobs in hand

pub record KeepsHands (old new : Client) : Type 0 where
  pub held : new.hands.items ≡ old.hands.items
  pub jobs : (u query : ℕ) → IsLive new.core u query → jobs_in_hand new.core u query ≡ jobs_in_hand old.core u query

-- a job of a query is in a worker's hand
pub record TakesJob (worker query : ℕ) (old new : Client) : Type 0 where
  pub job : Held
  pub actor : job.actor ≡ 16 + worker
  pub of_query : job.head.query ≡ query
  pub vacant : held_by old.hands.items worker ≡ None
  pub held : (w : ℕ) → held_by new.hands.items w ≡ cond (nat_eq worker w) (Some job) (held_by old.hands.items w)
  pub jobs : (u q : ℕ) → IsLive new.core u q → jobs_in_hand new.core u q ≡ jobs_in_hand old.core u q ++ filter (is_job_of q) (hand_of job ∷ [])

-- a worker's job is in no hand any more
pub record DropsJob (worker : ℕ) (old new : Client) : Type 0 where
  pub job : Held
  pub there : held_by old.hands.items worker ≡ Some job
  pub actor : job.actor ≡ 16 + worker
  pub held : (w : ℕ) → held_by new.hands.items w ≡ cond (nat_eq worker w) None (held_by old.hands.items w)
  pub jobs : (u q : ℕ) → IsLive new.core u q → jobs_in_hand new.core u q ≡ without_hand (hand_of job) (jobs_in_hand old.core u q)

abbrev pub AfterTake : (worker : ℕ) → Told → (old new : Client) → Type 0
AfterTake worker (of_take (took query job leg first last)) old new = TakesJob worker query old new
AfterTake worker _ old new = KeepsHands old new

abbrev pub AfterDone : (worker : ℕ) → Told → (old new : Client) → Type 0
AfterDone worker (of_done empty) old new = (held_by old.hands.items worker ≡ None) × KeepsHands old new
AfterDone worker _ old new = DropsJob worker old new

abbrev pub HandsAfter : Line → Told → (old new : Client) → Type 0
HandsAfter (script.take worker) told old new = AfterTake worker told old new
HandsAfter (script.done worker) told old new = AfterDone worker told old new
HandsAfter _ told old new = KeepsHands old new

-- ---- what is told of jobs

-- why a query was stopped
abbrev pub stop_told : Stop → steps.Stop
stop_told (stop.Cancelled place) = steps.by_cancel place
stop_told (stop.Exhausted job) = steps.by_tries job
stop_told stop.Starved = steps.by_memory

-- what became of a job in hand
abbrev pub done_told : Worked → steps.DoneReply
done_told worked.Stored = steps.stored
done_told (worked.Again tries) = steps.again tries
done_told (worked.Exhausted job) = steps.exhausted job
done_told worked.Lacked = steps.lacked
done_told (worked.Gone why) = steps.gone (stop_told why)
done_told worked.NotHeld = steps.not_held

-- what a `keep` came to
abbrev pub keep_told : Keeping → steps.KeepReply
keep_told (keeping.Kept count) = steps.kept count
keep_told (keeping.Outdated generation) = steps.outdated generation
keep_told keeping.NoMemory = steps.keep_lacked
keep_told keeping.Failed = steps.keep_failed
keep_told (keeping.Waits jobs) = steps.keep_waits jobs
keep_told keeping.Stopped = steps.keep_stopped
keep_told keeping.Unplanned = steps.unplanned

-- the reply to a `take` that gave a job of the tenant of this name
abbrev pub took_text : (n worker : ℕ) → (name : List ℕ) → JobHead → List ℕ
took_text n worker name h =
    reply_line n (codes "take") (decimal worker)
    (name ∷ codes "query" ∷ decimal h.query ∷ codes "job" ∷ decimal h.job ∷ codes "leg" ∷ decimal h.leg
    ∷ codes "first" ∷ decimal h.first ∷ codes "last" ∷ decimal h.last ∷ [])

-- ---- failed tries

-- the failed tries rose by what was told of a line, or their total stands at its greatest value
abbrev pub CountsTries : CoreData → Told → CoreData → Type 0
CountsTries old told new = (18446744073709551615 ≤ sum new.failed) ⊎ (sum old.failed + failed_in told ≤ sum new.failed)
