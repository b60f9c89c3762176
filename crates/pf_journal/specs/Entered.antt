-- Lines with an entry: the entry is of its line's kind and carries the line's arguments. This project's own.
use Rattle.std.specs.Prelude.{◌≡◌, ℕ, ◌≤◌, Option, Some, None, Result, Ok, List, slice_get}
use Rattle.pf_base.specs.Batches.{BatchData}
use Rattle.pf_base.specs.Limits.{greatest_time}
use Rattle.pf_model.specs.declared.expr.Matcher.{Matcher}
use Rattle.pf_model.specs.Queries.{IsSelector}
use Rattle.pf_journal.specs.Asking.{Asked, ranged, at_once}
use Rattle.pf_journal.specs.Files.{Gives}
use Rattle.pf_journal.specs.Legal.{Moment}
use Rattle.pf_journal.specs.Machine.{What, append, delete, ask, full, no_tenant, cancel, answer}
use Rattle.pf_journal.specs.Rest.{Known}
use Rattle.pf_journal.specs.Scripts.{Line}
use Rattle.pf_journal.specs.Scripts as script
use Rattle.pf_journal.specs.Turns.{place_of}

-- the entry's tenant is the one that the line names
abbrev pub IsNamed : List (List ℕ) → List ℕ → What → Type 0
IsNamed names tenant (append u batch vs entry) = slice_get names u ≡ Some tenant
IsNamed names tenant (delete u ms from to generation entry) = slice_get names u ≡ Some tenant
IsNamed names tenant (ask u asked pin generation floor) = slice_get names u ≡ Some tenant
IsNamed names tenant (full u outstanding) = slice_get names u ≡ Some tenant
IsNamed names tenant (no_tenant name) = name ≡ tenant
IsNamed names tenant (cancel query) = ⊥
IsNamed names tenant (answer query code cached evaluated) = ⊥

-- no time past the greatest, and no end before the start
abbrev pub IsRange : ℕ → ℕ → Type 0
IsRange from to = (from ≤ to) × (to ≤ greatest_time)

-- what is asked for is not refused
abbrev pub IsAsked : Option (Result Asked (List ℕ)) → Type 0
IsAsked (Some (Ok asked)) = Unit {0}
IsAsked _ = ⊥

abbrev pub what_of : Option Moment → Option What
what_of None = None
what_of (Some x) = Some x.entry.what

abbrev pub FitsIngest : (bytes : List ℕ) → ℕ → What → Type 0
FitsIngest bytes time (append u batch vs entry) = Gives bytes time batch
FitsIngest bytes time (no_tenant name) = (batch : BatchData) × Gives bytes time batch
FitsIngest bytes time _ = ⊥

abbrev pub FitsDelete : (refused : List (List ℕ)) → ℕ → ℕ → (selector : List ℕ) → What → Type 0
FitsDelete refused from to selector (delete u ms from' to' generation entry) =
    IsRange from to × IsSelector refused selector ms × (from' ≡ from) × (to' ≡ to)
FitsDelete refused from to selector (no_tenant name) = IsRange from to × ((ms : List Matcher) × IsSelector refused selector ms)
FitsDelete refused from to selector _ = ⊥

abbrev pub FitsAsk : Option (Result Asked (List ℕ)) → What → Type 0
FitsAsk wanted (ask u asked pin generation floor) = wanted ≡ Some (Ok asked)
FitsAsk wanted (full u outstanding) = IsAsked wanted
FitsAsk wanted (no_tenant name) = IsAsked wanted
FitsAsk wanted _ = ⊥

-- the query is the one that was asked at the line that is named
abbrev pub IsOfAsk : Option Moment → ℕ → Type 0
IsOfAsk None query = ⊥
IsOfAsk (Some x) query = query ≡ place_of x

-- a tenant cancels a query that it asked
abbrev pub FitsCancel : (tenant asker : List ℕ) → Option Moment → What → Type 0
FitsCancel tenant asker asked (cancel query) = IsOfAsk asked query × (tenant ≡ asker)
FitsCancel tenant asker asked _ = ⊥

abbrev pub FitsAnswer : Option Moment → What → Type 0
FitsAnswer asked (answer query code cached evaluated) = IsOfAsk asked query
FitsAnswer asked _ = ⊥

-- an entry fits a line; of a line that names an ask's line, the tenant that asked there and the ask's moment are told
abbrev pub Fits : Known → (asker : List ℕ) → (asked : Option Moment) → Line → What → Type 0
Fits known asker asked (script.ingest tenant file time) what = IsNamed known.names tenant what × FitsIngest (known.files file) time what
Fits known asker asked (script.delete tenant from to selector) what =
    IsNamed known.names tenant what × FitsDelete known.refused from to selector what
Fits known asker asked (script.ask id tenant start end step query) what =
    IsNamed known.names tenant what × FitsAsk (ranged known.readings start end step query) what
Fits known asker asked (script.instant id tenant time query) what =
    IsNamed known.names tenant what × FitsAsk (at_once known.readings time query) what
Fits known asker asked (script.cancel id line tenant) what = FitsCancel tenant asker asked what
Fits known asker asked (script.answer id line) what = FitsAnswer asked what
Fits known asker asked _ what = ⊥

-- the room that a line's entry wants in the journal beside what open queries keep: an ask's is for its cancel and its answer too,
-- and these have what the ask kept
abbrev pub room_of : Line → ℕ
room_of (script.ingest tenant file time) = 1
room_of (script.delete tenant from to selector) = 1
room_of (script.ask id tenant start end step query) = 3
room_of (script.instant id tenant time query) = 3
room_of _ = 0
