-- What each answer of the table promises of the core.
use Rattle.std.proofs.Common.{ℕ, true, Option, Some, None, refl, sym, ap}
use Rattle.pf_query.specs.Jobs.{hand_of, has_hand, without_hand}
use Rattle.pf_query.specs.Tables as table
use Rattle.pf_query.specs.Tables.{IsTable, entry_in, hands_of}
use Rattle.pf_query.specs.declared.answers.FailedTry.{FailedTry}
use Rattle.pf_query.specs.declared.answers.FailedTry.TheVariants as failed
use Rattle.pf_query.specs.declared.answers.Finished.{Finished}
use Rattle.pf_query.specs.declared.answers.Finished.TheVariants as finished
use Rattle.pf_query.specs.declared.job.Held.{Held}
use Rattle.pf_query.specs.declared.stop.Stop.TheVariants.{Starved}
use Rattle.pf_shard.specs.declared.parts.Part.{Part}
use Rattle.pf_core.specs.Calls.{IsFinished, IsLacked, IsLackedBy, IsPartOf, IsTried, StandsForAsk, Takes}
use Rattle.pf_core.specs.Cores.{queue_at}
use Rattle.pf_core.specs.Jobs.{QueueHeads}
use Rattle.pf_core.specs.States.{IsAhead, IsState, KeepsFailures, KeepsHistory, core_of}
use Rattle.pf_core.specs.declared.state.State.{State}
use Rattle.pf_core.proofs.Calling.{again_core, again_state, core_same, covered_beside, covered_if, exhausted_core, exhausted_state, gone_by, gone_released, in_hand_as, lacked_none, lacked_some, lacked_state, not_held, released_state, state_same, stored_released, stored_state, taken_core, taken_state, tried_released, whole_of}
use Rattle.pf_core.proofs.Tenanted.{queue_is}

pub takes_state : (old new : State) (actor : ℕ) (answer : Option Held) → IsState old → KeepsHistory old new → KeepsFailures old new → IsTable new.table
    → table.TakesFrom old.table actor answer new.table → IsState new
takes_state old new actor None h k f t x = state_same old new h k f t x.1
takes_state old new actor (Some held) h k f t x = taken_state old new actor held h k f t x

pub takes : (old new : State) (actor : ℕ) (answer : Option Held) → IsState old → KeepsHistory old new → KeepsFailures old new → IsTable new.table
    → table.TakesFrom old.table actor answer new.table → Takes (core_of old) actor answer (core_of new)
takes old new actor None h k f t x = (x.0, core_same old new k f x.1)
takes old new actor (Some held) h k f t x = taken_core old new actor held h k f t x

pub finished_state : (old new : State) (held : Held) (part : Part) (answer : Finished) → IsState old → KeepsHistory old new → KeepsFailures old new → IsTable new.table
    → StandsForAsk (core_of old) held → IsPartOf (core_of old) held part → table.IsFinished old.table held part answer new.table → IsState new
finished_state old new held part finished.Stored h k f t stands is x = stored_state old new held part h k f t stands is x
finished_state old new held part (finished.Gone why) h k f t stands is x =
    released_state old new held h k f t x.entries x.queues (covered_beside old new h k f x.tried)
finished_state old new held part finished.NotHeld h k f t stands is x = state_same old new h k f t x.same

pub finishes : (old new : State) (held : Held) (part : Part) (answer : Finished) → IsState old → KeepsHistory old new → KeepsFailures old new → IsTable new.table
    → table.IsFinished old.table held part answer new.table → IsFinished (core_of old) held answer (core_of new)
finishes old new held part finished.Stored h k f t x =
    (whole_of old held x.work h x.held_of, (in_hand_as old held true h x.held_of.in_hand, stored_released old new held part h k f t x))
finishes old new held part (finished.Gone why) h k f t x = (gone_by old held.head.query why h x.stopped, gone_released old new held why h k f t x)
finishes old new held part finished.NotHeld h k f t x = (not_held old held h x.not_held, core_same old new k f x.same)

pub tried_state : (old new : State) (held : Held) (answer : FailedTry) → IsState old → KeepsHistory old new → KeepsFailures old new → IsTable new.table
    → IsAhead (core_of old) → StandsForAsk (core_of old) held → table.IsFailed old.table held answer new.table → IsState new
tried_state old new held (failed.Again tries) h k f t ahead stands x = again_state old new held tries h k f t ahead stands x
tried_state old new held (failed.Exhausted job) h k f t ahead stands x = exhausted_state old new held job h k f t ahead x
tried_state old new held (failed.Gone why) h k f t ahead stands x =
    released_state old new held h k f t x.entries x.queues
    (covered_if old new held.head.query (has_hand (hand_of held) (hands_of old.table held.head.tenant)) h k f ahead x.tried)
tried_state old new held failed.NotHeld h k f t ahead stands x = state_same old new h k f t x.same

pub tries_again : (old new : State) (held : Held) (answer : FailedTry) → IsState old → KeepsHistory old new → KeepsFailures old new → IsTable new.table
    → table.IsFailed old.table held answer new.table → IsTried (core_of old) held answer (core_of new)
tries_again old new held (failed.Again tries) h k f t x = again_core old new held tries h k f t x
tries_again old new held (failed.Exhausted job) h k f t x = exhausted_core old new held job h k f t x
tries_again old new held (failed.Gone why) h k f t x = (gone_by old held.head.query why h x.stopped, tried_released old new held why h k f t x)
tries_again old new held failed.NotHeld h k f t x = (not_held old held h x.not_held, core_same old new k f x.same)

pub lacks_job_state : (old new : State) (held : Held) → IsState old → KeepsHistory old new → KeepsFailures old new → IsTable new.table
    → table.IsLacking old.table held new.table → IsState new
lacks_job_state old new held h k f t x =
    lacked_state old new held.head.query (entry_in old.table held.head.query) (λ d. without_hand (hand_of held) (hands_of old.table d.tenant)) h k f t refl x

pub lacks_job : (old new : State) (held : Held) → IsState old → KeepsHistory old new → KeepsFailures old new → IsTable new.table
    → table.IsLacking old.table held new.table → IsLackedBy (core_of old) held (core_of new)
lacks_job old new held h k f t x = record {
  none = lacked_none old new held.head.query (λ d. without_hand (hand_of held) (hands_of old.table d.tenant)) h k f x;
  some = lacked_some old new held.head.query (λ u. without_hand (hand_of held) (hands_of old.table u))
      (λ u. without_hand (hand_of held) (queue_at (core_of old) u).hands) h k f t x
      (λ u. sym (ap (λ (q : QueueHeads). without_hand (hand_of held) q.hands) (queue_is old h.table u)));
}

pub lacks_query_state : (old new : State) (query : ℕ) → IsState old → KeepsHistory old new → KeepsFailures old new → IsTable new.table
    → table.IsStopped old.table query Starved new.table → IsState new
lacks_query_state old new query h k f t x =
    lacked_state old new query (entry_in old.table query) (λ d. hands_of old.table d.tenant) h k f t refl x

pub lacks_query : (old new : State) (query : ℕ) → IsState old → KeepsHistory old new → KeepsFailures old new → IsTable new.table
    → table.IsStopped old.table query Starved new.table → IsLacked (core_of old) query (core_of new)
lacks_query old new query h k f t x = record {
  none = lacked_none old new query (λ d. hands_of old.table d.tenant) h k f x;
  some = lacked_some old new query (λ u. hands_of old.table u) (λ u. (queue_at (core_of old) u).hands) h k f t x
      (λ u. sym (ap (λ (q : QueueHeads). q.hands) (queue_is old h.table u)));
}
