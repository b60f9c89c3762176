-- What a line does to a client that runs it: this project's own.
use Rattle.std.specs.Prelude.{◌≡◌, ℕ, ◌<◌, Option, Some, None, List, [], ◌∷◌, ◌++◌, true}
use Rattle.pf_block.specs.Snaps.{are_timed}
use Rattle.pf_core.specs.Cores.{CoreData, IsFull, machine_of}
use Rattle.pf_journal.specs.Entered.{room_of}
use Rattle.pf_journal.specs.Files.{Gives, IsRefusedAs}
use Rattle.pf_journal.specs.Legal.{Moment}
use Rattle.pf_journal.specs.Machine.{Entry, Machine, What}
use Rattle.pf_journal.specs.Replies.{reply_to}
use Rattle.pf_journal.specs.Rest.{Known, Told, at_full, at_memory}
use Rattle.pf_journal.specs.Scripts.{Line, Numbered}
use Rattle.pf_journal.specs.Turns.{Hand, Ran, Turn, answer_of, asked_by, asking_line, asking_ran, cancel_of}
use Rattle.pf_journal.specs.Weave.{FoundRoom, IsMatched, stops_at}
use Rattle.pf_report.specs.Replies.{fault_of}
use Rattle.pf_front.specs.Works.{AreCarried, IsIdle}
use Rattle.pf_client.specs.Hands.{CountsTries, HandsAfter}
use Rattle.pf_client.specs.declared.client.Client.{Client}
use Rattle.pf_client.specs.declared.client.FileRead.{FileRead}
use Rattle.pf_client.specs.declared.client.FileRead.TheVariants.{Batch, Refused}
use Rattle.pf_client.specs.declared.client.LineRun.{LineRun}
use Rattle.pf_client.specs.declared.client.LineRun.TheVariants.{On, Full, Starved}

-- ---- what a line is judged by

-- the limits are a core's, and the names begin with its names
pub record IsKnown (known : Known) (c : CoreData) : Type 0 where
  pub limits : known.limits ≡ c.limits
  pub more : List (List ℕ)
  pub names : known.names ≡ c.names ++ more

-- the jobs in hand, and of the query that a line names the line that asked it, and the moments of its ask, cancel and answer
pub record Naming : Type 0 where
  pub hands : List Hand
  pub asking : Option Ran
  pub asked : Option Moment
  pub cancelled : Option Moment
  pub answered : Option Moment

-- what a line names by what was told of it, behind own entries and lines above
abbrev pub naming : (own : List Moment) → (above : List Ran) → List Hand → Line → Told → Naming
naming own above hands line told = record {
  hands = hands;
  asking = asking_ran (asking_line line) (asked_by (asking_line line) told own) above;
  asked = asked_by (asking_line line) told own;
  cancelled = cancel_of (asked_by (asking_line line) told own) own;
  answered = answer_of (asked_by (asking_line line) told own) own;
}

-- its turn
abbrev pub turn_by : Naming → Numbered → Told → Option Moment → Turn
turn_by n l told mine = record {
  ran = record { line = l; told = told };
  mine = mine;
  hands = n.hands;
  asking = n.asking;
  asked = n.asked;
  cancelled = n.cancelled;
  answered = n.answered;
}

-- ---- what a line enters

-- the entry of a line of a client
abbrev pub entry_by : (client line : ℕ) → What → Entry
entry_by client n what = record { client = client; line = n; what = what }

-- the entry that a line makes, if it makes one, and its moment
abbrev pub entries_by : (client line : ℕ) → Option What → List Entry
entries_by client n None = []
entries_by client n (Some what) = entry_by client n what ∷ []

abbrev pub moment_by : Machine → (client line : ℕ) → What → Moment
moment_by m client n what = record { before = m; entry = entry_by client n what }

abbrev pub moment_with : Machine → (client line : ℕ) → Option What → Option Moment
moment_with m client n None = None
moment_with m client n (Some what) = Some (moment_by m client n what)

-- ---- a line that was run

-- the client goes on, or the line met the full journal, or lacked memory
abbrev pub Ends : CoreData → Line → Told → Option What → LineRun → Type 0
Ends old l told entered On = stops_at l told ≡ None
Ends old l told entered Full = (stops_at l told ≡ Some at_full) × ((entered ≡ None) × IsFull old (room_of l))
Ends old l told entered Starved = stops_at l told ≡ Some at_memory

-- a line was run: it entered at most one entry, which fits it and found room, and its reply was said
pub record IsStep (known : Known) (n : Told → Naming) (old : Client) (l : Numbered) (run : LineRun) (new : Client) : Type 0 where
  pub told : Told
  pub entered : Option What
  pub ends : Ends old.core l.line told entered run
  pub limits : new.core.limits ≡ old.core.limits
  pub journal : new.core.journal ≡ old.core.journal ++ entries_by old.client l.number entered
  pub more : List (List ℕ)
  pub grown : new.core.names ≡ old.core.names ++ more
  pub matched : IsMatched known (turn_by (n told) l told (moment_with (machine_of old.core) old.client l.number entered))
      (moment_with (machine_of old.core) old.client l.number entered)
  pub roomy : FoundRoom known.limits l.line (moment_with (machine_of old.core) old.client l.number entered)
  pub tried : CountsTries old.core told new.core
  pub hands : HandsAfter l.line told old new
  pub said : new.out.items
      ≡ old.out.items ++ reply_to known (turn_by (n told) l told (moment_with (machine_of old.core) old.client l.number entered)) l.number l.line

-- the limits stay, names and entries are only added, a client that had no job in its own hand has none, and failed tries rose by no
-- more than hops' counts of faults
pub record Grows (before after : ℕ) (old new : CoreData) : Type 0 where
  pub limits : new.limits ≡ old.limits
  pub more : List (List ℕ)
  pub names : new.names ≡ old.names ++ more
  pub entries : List Entry
  pub journal : new.journal ≡ old.journal ++ entries
  pub idle : (client : ℕ) → client < 16 → IsIdle old client → IsIdle new client
  pub carried : AreCarried before after old new

-- the same of a line that names no query
abbrev pub Runs : Known → Client → Numbered → LineRun → Client → Type 0
Runs known old l run new = (n : Told → Naming) → IsKnown known new.core → IsStep known n old l run new

-- ---- files

-- what a file was read as
abbrev pub IsFileRead : List ℕ → ℕ → FileRead → Type 0
IsFileRead bytes time (Batch batch) = Gives bytes time batch
IsFileRead bytes time (Refused fault) = IsRefusedAs bytes time (fault_of fault)

abbrev pub IsTimed : FileRead → Type 0
IsTimed (Batch batch) = are_timed batch.rows ≡ true
IsTimed (Refused fault) = Unit {0}
