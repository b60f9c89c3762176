-- How a journal is woven from the scripts of its clients. This project's own.
use Rattle.std.specs.Prelude.{◌≡◌, ℕ, ◌+◌, ◌*◌, ◌<◌, ◌≤◌, ◌⊎◌, Bool, true, false, Option, Some, None, List, [], ◌∷◌, length, drop, nat_eq, cond, slice_get, take}
use Rattle.std.specs.List.{sum}
use Rattle.pf_base.specs.declared.plain.Limits.{Limits}
use Rattle.pf_match.specs.Tables.{AreTooBig}
use Rattle.pf_model.specs.Lists.{Each}
use Rattle.pf_model.specs.Queries.{IsReading, Reading}
use Rattle.pf_journal.specs.Entered.{Fits, room_of}
use Rattle.pf_journal.specs.Legal.{Moment, moments, machine_after}
use Rattle.pf_journal.specs.Machine.{Entry, What, answer, started, reserved}
use Rattle.pf_journal.specs.Rest.{Known, Told, nothing, failed_five, no_memory, journal_full, of_done, Client, Why, at_end, at_full, at_memory, ran, Rest}
use Rattle.pf_journal.specs.Scripts.{Line, Numbered}
use Rattle.pf_journal.specs.Scripts as script
use Rattle.pf_journal.specs.Steps.{again, exhausted}
use Rattle.pf_journal.specs.Turns.{Ran, Turn, asker_of, own_moments, ran_lines, turns}
use Rattle.pf_journal.specs.Unentered.{Unentered}

-- ---- one line

-- of an answer with 500 its job is told, and of other entries nothing
abbrev pub ToldOfCode : (failed : Bool) → Told → Type 0
ToldOfCode true (failed_five job) = Unit {0}
ToldOfCode true _ = ⊥
ToldOfCode false told = told ≡ nothing

abbrev pub ToldBeside : What → Told → Type 0
ToldBeside (answer query code cached evaluated) told = ToldOfCode (nat_eq code 500) told
ToldBeside _ told = told ≡ nothing

-- a line's entry fits it, or the line has none for a cause
abbrev pub IsMatched : Known → Turn → Option Moment → Type 0
IsMatched known t None = Unentered known t t.ran.line.line t.ran.told
IsMatched known t (Some x) = Fits known (asker_of t.asking) t.asked t.ran.line.line x.entry.what × ToldBeside x.entry.what t.ran.told

-- an entry found the room that it wants
abbrev pub FoundRoom : Limits → Line → Option Moment → Type 0
FoundRoom limits l None = Unit {0}
FoundRoom limits l (Some x) = x.before.count + reserved x.before.queries + room_of l ≤ limits.journal

pub record IsWoven (known : Known) (t : Turn) : Type 0 where
  pub matched : IsMatched known t t.mine
  pub roomy : FoundRoom known.limits t.ran.line.line t.mine

-- ---- one client

-- a client's entries have strictly rising line numbers
abbrev pub Rises : (below : ℕ) → List Moment → Type 0
Rises below [] = Unit {0}
Rises below (x ∷ xs) = (below < x.entry.line) × Rises x.entry.line xs

-- a line of the script has this number
abbrev pub IsLineOf : List Numbered → ℕ → Type 0
IsLineOf [] n = ⊥
IsLineOf (l ∷ ls) n = (l.number ≡ n) ⊎ IsLineOf ls n

-- a line stops its client where it met the full journal, and, where it brings or deletes samples, for want of memory
abbrev pub stops_at : Line → Told → Option Why
stops_at l journal_full = Some at_full
stops_at (script.ingest tenant file time) no_memory = Some at_memory
stops_at (script.delete tenant from to selector) no_memory = Some at_memory
stops_at _ _ = None

-- a front of the journal that has all of a client's entries leaves too little room for a line
pub record LacksRoom (limits : Limits) (journal : List Entry) (client : ℕ) (l : Line) : Type 0 where
  pub front : ℕ
  pub has_all : Each (λ e. e.client ≡ client → ⊥) (drop front journal)
  pub over : limits.journal
      < (machine_after started (take front journal)).count + reserved (machine_after started (take front journal)).queries + room_of l

-- what stands of the journal where a client stops at a line
abbrev pub Lacks : Limits → List Entry → ℕ → Line → Why → Type 0
Lacks limits journal client l at_full = LacksRoom limits journal client l
Lacks limits journal client l _ = Unit {0}

-- a line that stops its client is the last that it ran
abbrev pub StopsAt : Limits → List Entry → (client : ℕ) → Why → Line → (behind : List Ran) → Why → Type 0
StopsAt limits journal client why l behind stop = (why ≡ stop) × (behind ≡ []) × Lacks limits journal client l stop

abbrev pub UnlessStopped : Option Why → (stopped : Why → Type 0) → (goes_on : Type 0) → Type 0
UnlessStopped None stopped goes_on = goes_on
UnlessStopped (Some stop) stopped goes_on = stopped stop

-- a client runs on to the first line that stops it, or to its script's end
abbrev pub RunsTo : Limits → List Entry → (client : ℕ) → Why → (left : List Numbered) → List Ran → Type 0
RunsTo limits journal client why left [] = (why ≡ at_end) × (left ≡ [])
RunsTo limits journal client why left (r ∷ rs) =
    UnlessStopped (stops_at r.line.line r.told) (StopsAt limits journal client why r.line.line rs)
    (RunsTo limits journal client why left rs)

-- one client's own entries, its lines, and what was told of them
pub record Woven (known : Known) (own : List Moment) (lines : List Numbered) (c : Client) : Type 0 where
  pub few : ran c ≤ length lines
  pub rising : Rises 0 own
  pub lined : Each (λ x. IsLineOf (take (ran c) lines) x.entry.line) own
  pub each : Each (IsWoven known) (turns own (ran_lines lines c.told))

-- One client's weave, over a journal in which others have entries too: its own moments in their order, what was told of each of its
-- lines by these alone and by the front of the journal that each of them met, and where it stops.
pub record WovenClient (known : Known) (journal : List Entry) (client : ℕ) (own : List Moment) (lines : List Numbered) (c : Client) : Type 0 where
  pub woven : Woven known own lines c
  pub runs : RunsTo known.limits journal client c.why (drop (ran c) lines) (ran_lines lines c.told)

-- ---- failed tries

abbrev pub failed_in : Told → ℕ
failed_in (of_done (again tries)) = 1
failed_in (of_done (exhausted job)) = 1
failed_in _ = 0

-- the replies that tell a failed try
abbrev pub failed_told : List Told → ℕ
failed_told [] = 0
failed_told (t ∷ ts) = failed_in t + failed_told ts

abbrev pub failed_replies : List Client → ℕ
failed_replies [] = 0
failed_replies (c ∷ cs) = failed_told c.told + failed_replies cs

abbrev pub is_500 : What → ℕ
is_500 (answer query code cached evaluated) = cond (nat_eq code 500) 1 0
is_500 _ = 0

-- the answers with 500
abbrev pub failed_answers : List Entry → ℕ
failed_answers [] = 0
failed_answers (e ∷ es) = is_500 e.what + failed_answers es

-- the failed tries of all actors, of which there are at most 32: at least five for each 500, unless their total stands at its
-- greatest value, and at least those that replies tell
pub record AreTried (journal : List Entry) (rest : Rest) : Type 0 where
  pub actors : length rest.failed ≤ 32
  pub five : (sum rest.failed ≡ 18446744073709551615) ⊎ (5 * failed_answers journal ≤ sum rest.failed)
  pub shown : failed_replies rest.clients ≤ sum rest.failed

-- ---- all clients

-- the journal holds the entries of the scripts' lines and no others; a script is known by its place
pub record Weave (known : Known) (journal : List Entry) (scripts : List (List Numbered)) (rest : Rest) : Type 0 where
  pub many : length rest.clients ≡ length scripts
  pub each : (client : ℕ) (lines : List Numbered) (c : Client)
      → slice_get scripts client ≡ Some lines → slice_get rest.clients client ≡ Some c
      → WovenClient known journal client (own_moments client (moments journal)) lines c
  pub nobody_else : Each (λ e. e.client < length scripts) journal
  pub too_big : AreTooBig known.refused
  pub read : (text : List ℕ) (r : Reading) → known.readings text ≡ Some r → IsReading known.refused text r
  pub tried : AreTried journal rest
