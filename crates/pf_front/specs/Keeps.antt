-- What a keep of an open query came to: this project's own.
use Rattle.std.specs.Prelude.{◌≡◌, ◌⊎◌, ℕ, ◌+◌, ◌<◌, min, true, List, Some, Result, Ok, Err}
use Rattle.pf_core.specs.Calls.{AreCountedOf, IsKeepable, IsKeptOf, IsStoppedBy, IsUnbegun}
use Rattle.pf_core.specs.Cores.{CoreData, machine_of}
use Rattle.pf_core.specs.Jobs.{pieces_in}
use Rattle.pf_core.specs.declared.answers.Kept.{Kept}
use Rattle.pf_core.specs.declared.answers.Kept.TheVariants as core
use Rattle.pf_extent.specs.declared.done.DoneCells.{DoneCells}
use Rattle.pf_front.specs.Settling.{IsOffered, runs_over}
use Rattle.pf_front.specs.Spans.{AreNotedOf}
use Rattle.pf_front.specs.Works.{WorksOn}
use Rattle.pf_front.specs.declared.outcome.Found.{Found}
use Rattle.pf_front.specs.declared.outcome.Found.TheVariants as found
use Rattle.pf_front.specs.declared.keeping.Keeping.{Keeping}
use Rattle.pf_front.specs.declared.keeping.Keeping.TheVariants as keeping
use Rattle.pf_journal.specs.Machine.{Open, answer_of, open_at}
use Rattle.pf_model.specs.Direct.{failed}
use Rattle.pf_model.specs.declared.cell.ErrorKind.{ErrorKind}
use Rattle.pf_query.specs.declared.stop.Stop.{Stop}
use Rattle.pf_query.specs.declared.stop.Stop.TheVariants.{Starved}

-- ---- cells are kept

-- cells of an open query were offered to the cache
pub record IsKeptAs (old : CoreData) (query : ℕ) (cells : List DoneCells) (answer : Kept) (new : CoreData) : Type 0 where
  pub keepable : IsKeepable old query cells
  pub kept : IsKeptOf old query cells answer new
  pub offered : IsOffered new query

-- an open query is asked at one time alone
abbrev pub IsInstant : CoreData → (query : ℕ) → Type 0
IsInstant c query = (o : Open) × (open_at query (machine_of c).queries ≡ Some o) × (o.asked.instant ≡ true)

-- what came of cells of an open query: nothing of an instant query is offered
abbrev pub AreKept : CoreData → (query : ℕ) → List DoneCells → Keeping → CoreData → Type 0
AreKept old query cells (keeping.Kept steps) new =
    IsKeptAs old query cells (core.Steps steps) new ⊎ (IsInstant old query × ((steps ≡ 0) × (new ≡ old)))
AreKept old query cells (keeping.Outdated generation) new = IsKeptAs old query cells (core.Outdated generation) new
AreKept old query cells keeping.NoMemory new = IsKeptAs old query cells core.NoMemory new
AreKept old query cells keeping.Failed new = ⊥
AreKept old query cells (keeping.Waits jobs) new = ⊥
AreKept old query cells keeping.Stopped new = ⊥
AreKept old query cells keeping.Unplanned new = ⊥

-- and of what was found of it
abbrev pub IsFoundKept : {E : Type 0} → CoreData → (query : ℕ) → Result Found E → Keeping → CoreData → Type 0
IsFoundKept old query (Ok (found.Cells pieces noted)) told new = AreKept old query noted.items told new
IsFoundKept old query (Ok (found.Failed step kind)) told new = (told ≡ keeping.Failed) × (new ≡ old)
IsFoundKept old query (Err e) told new = (told ≡ keeping.NoMemory) × (IsStoppedBy new query Starved × (new.kept ≡ old.kept))

-- ---- what a keep came to

-- a query that isn't stopped was planned, and none of its jobs waits or is in hand
abbrev pub IsReady : CoreData → (query : ℕ) → Type 0
IsReady c query = AreCountedOf c query 0 0

-- a query's cells were offered to the cache, over a core in which nothing but how far it is was changed: those of each of its pieces
-- in which one of the runs lies that it was evaluated over
pub record IsOfferedAs (old : CoreData) (query : ℕ) (answer : Kept) (new : CoreData) : Type 0 where
  pub ready : IsReady old query
  pub middle : CoreData
  pub works : WorksOn 0 0 old middle
  pub kept_is : middle.kept ≡ old.kept
  pub cells : List DoneCells
  pub pieces : AreNotedOf (pieces_in old.limits ready.whole.opened) (runs_over old.limits ready.whole.opened ready.whole.far) cells
  pub kept : IsKeptAs middle query cells answer new

-- nothing was kept of a query
pub record IsUnkept (old : CoreData) (query : ℕ) (new : CoreData) : Type 0 where
  pub ready : IsReady old query
  pub kept_is : new.kept ≡ old.kept

-- so many jobs of a query wait or are in hand, told up to 2^32 - 1
pub record IsWaiting (c : CoreData) (query jobs : ℕ) : Type 0 where
  pub queued : ℕ
  pub in_hand : ℕ
  pub counts : AreCountedOf c query queued in_hand
  pub some : 0 < queued + in_hand
  pub jobs_are : jobs ≡ min (queued + in_hand) 4294967295

-- nothing is offered of an instant query, nor of one that has an error
abbrev pub IsKeptFor : CoreData → (query : ℕ) → Keeping → CoreData → Type 0
IsKeptFor old query (keeping.Kept steps) new =
    IsOfferedAs old query (core.Steps steps) new ⊎ (IsUnkept old query new × (IsInstant old query × (steps ≡ 0)))
IsKeptFor old query (keeping.Outdated generation) new = IsOfferedAs old query (core.Outdated generation) new
IsKeptFor old query keeping.NoMemory new =
    IsOfferedAs old query core.NoMemory new ⊎ (IsUnkept old query new × IsStoppedBy new query Starved)
IsKeptFor old query keeping.Failed new =
    (u : IsUnkept old query new) × (step : ℕ) × (kind : ErrorKind) × (answer_of old.limits u.ready.whole.opened ≡ failed step kind)
IsKeptFor old query (keeping.Waits jobs) new = IsWaiting old query jobs × (new ≡ old)
IsKeptFor old query keeping.Stopped new = ((why : Stop) × IsStoppedBy old query why) × (new ≡ old)
IsKeptFor old query keeping.Unplanned new = IsUnbegun old query × (new ≡ old)
