-- The replies of step lines, by which a script shows the work on queries one job at a time. This project's own.
use Rattle.std.specs.Prelude.{ℕ}

-- why a query was stopped: by a cancel at a place of the journal, by a job that failed five times, or for want of memory
pub data Stop : Type 0 where
  by_cancel : (place : ℕ) → Stop
  by_tries : (job : ℕ) → Stop
  by_memory : Stop

-- of `plan`: how many steps are cached, and how many jobs evaluate the others; the query was planned before; it is stopped; its
-- ask was refused
pub data PlanReply : Type 0 where
  planned : (cached : ℕ) → (jobs : ℕ) → PlanReply
  planned_before : PlanReply
  plan_stopped : PlanReply
  plan_refused : PlanReply

-- of `take`: a job of a query, the query being the place of its ask, with its leg and the first and the last time of its run in
-- milliseconds; no job waits; the worker has a job in hand
pub data TakeReply : Type 0 where
  took : (query : ℕ) → (job : ℕ) → (leg : ℕ) → (first : ℕ) → (last : ℕ) → TakeReply
  none_waits : TakeReply
  busy : TakeReply

-- of `done`: the job's part is stored; its try failed, and it waits again or was its query's last; it lacked memory; its query is
-- stopped; the job is no longer in hand; the worker has none
pub data DoneReply : Type 0 where
  stored : DoneReply
  again : (tries : ℕ) → DoneReply
  exhausted : (job : ℕ) → DoneReply
  lacked : DoneReply
  gone : Stop → DoneReply
  not_held : DoneReply
  empty : DoneReply

-- of `keep`: how many steps are kept; a deletion of this generation came after the ask; there is no memory to keep them; the query
-- has an error; jobs wait or are in hand; the query is stopped; its ask was refused; it was not planned
pub data KeepReply : Type 0 where
  kept : (steps : ℕ) → KeepReply
  outdated : (generation : ℕ) → KeepReply
  keep_lacked : KeepReply
  keep_failed : KeepReply
  keep_waits : (jobs : ℕ) → KeepReply
  keep_stopped : KeepReply
  keep_refused : KeepReply
  unplanned : KeepReply
