-- What a report says and the journal does not hold. This project's own.
use Rattle.std.specs.Prelude.{ℕ, List, length}
use Rattle.pf_base.specs.declared.plain.Limits.{Limits}
use Rattle.pf_model.specs.Queries.{Readings}
use Rattle.pf_journal.specs.Files.{FileRefusal}
use Rattle.pf_journal.specs.Steps.{PlanReply, TakeReply, DoneReply, KeepReply}

-- what lines and journals are judged by: the limits of the run, the names of the known tenants by number, what files hold by
-- name, which expressions are refused as patterns, and how queries are read by their texts
pub record Known : Type 0 where
  pub limits : Limits
  pub names : List (List ℕ)
  pub files : List ℕ → List ℕ
  pub refused : List (List ℕ)
  pub readings : Readings

-- what was told of a line beside its entry
pub data Told : Type 0 where
  nothing : Told
  refused_file : FileRefusal → Told
  no_memory : Told
  journal_full : Told
  -- an answer waits for so many jobs in workers' hands
  waiting : (jobs : ℕ) → Told
  -- the job that failed five times, of an answer with 500
  failed_five : (job : ℕ) → Told
  of_plan : PlanReply → Told
  of_take : TakeReply → Told
  of_done : DoneReply → Told
  of_keep : KeepReply → Told

-- why a client stopped: at its script's end, at a line that met the full journal, or for want of memory
pub data Why : Type 0 where
  at_end : Why
  at_full : Why
  at_memory : Why

-- of a client: what was told of each line that it ran, in order, and why it stopped
pub record Client : Type 0 where
  pub told : List Told
  pub why : Why

-- how many lines a client ran
abbrev pub ran : Client → ℕ
ran c = length c.told

-- a record for each client, and the failed tries of each actor by its number
pub record Rest : Type 0 where
  pub clients : List Client
  pub failed : List ℕ
