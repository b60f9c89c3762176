-- A client on its way through its script: this project's own.
use Rattle.std.specs.Prelude.{◌≡◌, ℕ, ◌+◌, ◌≤◌, ◌⊎◌, Some, None, List, [], ◌∷◌, ◌++◌, drop, length, slice_get, sum, take}
use Rattle.pf_base.specs.declared.plain.Limits.{Limits}
use Rattle.pf_core.specs.Cores.{CoreData, machine_of}
use Rattle.pf_journal.specs.Legal.{Moment, moments}
use Rattle.pf_journal.specs.Machine.{Open, open_at}
use Rattle.pf_journal.specs.Report.{client_text}
use Rattle.pf_journal.specs.Rest.{Known, Told, Why, at_end, at_full, at_memory}
use Rattle.pf_journal.specs.Scripts.{Numbered}
use Rattle.pf_journal.specs.Turns.{Hand, Ran, hands_after, own_moments, ran_lines}
use Rattle.pf_journal.specs.Weave.{RunsTo, Woven, failed_told, stops_at}
use Rattle.pf_model.specs.Lists.{Each}
use Rattle.pf_script.specs.Lines.{Follows, IsRead, line_of}
use Rattle.pf_script.specs.declared.script.NumberedLine.{NumberedLine}
use Rattle.pf_client.specs.Asks.{AreKept, HaveSlots, IsAskAt}
use Rattle.pf_client.specs.Clients.{IsKnown}
use Rattle.pf_client.specs.Files.{IsKept, LineNames}
use Rattle.pf_client.specs.Hands.{HaveHands}
use Rattle.pf_client.specs.Queries.{AreReadAs, IsKeptFor, IsPart, IsTold}
use Rattle.pf_client.specs.declared.client.Client.{Client}
use Rattle.pf_client.specs.declared.client.LineRun.{LineRun}
use Rattle.pf_client.specs.declared.client.LineRun.TheVariants.{On, Full, Starved}
use Rattle.pf_client.specs.declared.loaded.Loaded.{Loaded}

-- the moments of a client
abbrev pub own_of : (client : ℕ) → CoreData → List Moment
own_of client c = own_moments client (moments c.journal)

-- each open query was asked by a line above of the client
abbrev pub AreAsked : (client : ℕ) → Known → (above : List Ran) → CoreData → Type 0
AreAsked client known above c = (q : ℕ) (o : Open) → open_at q (machine_of c).queries ≡ Some o → (k : ℕ) × IsAskAt known above (own_of client c) k q

-- lines, the last one first
abbrev pub last_first : List Ran → List Ran → List Ran
last_first above [] = above
last_first above (r ∷ rs) = last_first (r ∷ above) rs

-- the jobs in hand behind lines
abbrev pub hands_last : List Hand → List Ran → List Hand
hands_last hands [] = hands
hands_last hands (r ∷ rs) = hands_last (hands_after r.line.line r.told hands) rs

-- the failed tries cover those that were told, or their total stands at its greatest value
abbrev pub AreCounted : CoreData → List Told → Type 0
AreCounted c told = (18446744073709551615 ≤ sum c.failed) ⊎ (failed_told told ≤ sum c.failed)

-- what was told of lines: all are woven, and their replies were said: what was sent of them, and what the client holds
pub record HasTold (known : Known) (lines : List Numbered) (told : List Told) (why : Why) (sent : List ℕ) (c : Client) : Type 0 where
  pub woven : Woven known (own_of c.client c.core) lines (record { told = told; why = why })
  pub said : sent ++ c.out.items ≡ client_text known (own_of c.client c.core) c.client lines (record { told = told; why = why })
  pub alone : Each (λ e. e.client ≡ c.client) c.core.journal
  pub tried : AreCounted c.core told

-- a client ran so many lines, and none stopped it
pub record Going (known : Known) (limits : Limits) (lines : List Numbered) (n : ℕ) (sent : List ℕ) (c : Client) : Type 0 where
  pub limited : c.core.limits ≡ limits
  pub told : List Told
  pub many : length told ≡ n
  pub has_told : HasTold known lines told at_end sent c
  pub goes : Each (λ r. stops_at r.line.line r.told ≡ None) (ran_lines lines told)
  pub slots : HaveSlots known (last_first [] (ran_lines lines told)) (own_of c.client c.core) (machine_of c.core).count (take n lines) c.slots
  pub kept : AreKept c.core c.slots
  pub hands : HaveHands c (hands_last [] (ran_lines lines told))

-- a client ran its lines, and stopped
pub record HasRun (known : Known) (limits : Limits) (lines : List Numbered) (why : Why) (sent : List ℕ) (c : Client) : Type 0 where
  pub limited : c.core.limits ≡ limits
  pub told : List Told
  pub has_told : HasTold known lines told why sent c
  pub runs : RunsTo known.limits c.core.journal c.client why (drop (length told) lines) (ran_lines lines told)

-- the same, wherever what files hold is told and whatever names stand behind those of the core
abbrev pub IsGoing : Loaded → Limits → List Numbered → ℕ → (sent : List ℕ) → Client → Type 0
IsGoing loaded limits lines n sent c = (known : Known) → IsTold known loaded → IsKnown known c.core → Going known limits lines n sent c

abbrev pub HasStopped : Loaded → Limits → List Numbered → Why → (sent : List ℕ) → Client → Type 0
HasStopped loaded limits lines why sent c = (known : Known) → IsTold known loaded → IsKnown known c.core → HasRun known limits lines why sent c

-- a further line was run, or met the full journal, or lacked memory
abbrev pub Goes : Loaded → Limits → List Numbered → ℕ → (sent : List ℕ) → LineRun → Client → Type 0
Goes loaded limits lines n sent On new = IsGoing loaded limits lines (n + 1) sent new
Goes loaded limits lines n sent Full new = HasStopped loaded limits lines at_full sent new
Goes loaded limits lines n sent Starved new = HasStopped loaded limits lines at_memory sent new

abbrev pub GoesOn : Loaded → Client → Numbered → LineRun → Client → Type 0
GoesOn loaded old l run new =
    (limits : Limits) (lines : List Numbered) (n : ℕ) (sent : List ℕ) → slice_get lines n ≡ Some l → Follows (take n lines) l
    → IsGoing loaded limits lines n sent old → Goes loaded limits lines n sent run new

-- the same with what is left of what was loaded first
abbrev pub GoesOnWith : (left : Loaded) → Client → Numbered → LineRun → Client → Type 0
GoesOnWith left old l run new = (loaded : Loaded) → IsPart loaded left → GoesOn loaded old l run new

-- what running a line needs
pub record IsReady (loaded : Loaded) (l : NumberedLine) : Type 0 where
  pub read : IsRead l
  pub files : (name : List ℕ) → LineNames (line_of l.line) name → IsKept loaded.files name
  pub right : AreReadAs loaded.queries
  pub text : IsKeptFor loaded.queries (line_of l.line)
