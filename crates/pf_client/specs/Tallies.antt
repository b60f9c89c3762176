-- What is counted of a client's answers on its way: this project's own.
use Rattle.std.specs.Prelude.{◌≡◌, ℕ, Option, Some, None, List, slice_get, take}
use Rattle.pf_base.specs.declared.plain.Limits.{Limits}
use Rattle.pf_core.specs.Cores.{CoreData}
use Rattle.pf_journal.specs.Legal.{moments}
use Rattle.pf_journal.specs.Rest.{Known}
use Rattle.pf_journal.specs.Scripts as script
use Rattle.pf_journal.specs.Scripts.{Line, Numbered}
use Rattle.pf_journal.specs.Summaries.{Tally, tally_of, with_answer}
use Rattle.pf_report.specs.Bodies.{code_in}
use Rattle.pf_report.specs.Summaries.{rows_in}
use Rattle.pf_script.specs.Lines.{Follows}
use Rattle.pf_client.specs.Clients.{IsKnown}
use Rattle.pf_client.specs.Going.{IsGoing}
use Rattle.pf_client.specs.Queries.{IsPart, IsTold}
use Rattle.pf_client.specs.declared.answers.Answered.{Answered}
use Rattle.pf_client.specs.declared.client.Client.{Client}
use Rattle.pf_client.specs.declared.loaded.Loaded.{Loaded}

-- what is counted of a core's journal
abbrev pub counted : CoreData → Tally
counted c = tally_of c.limits (moments c.journal)

-- with an answer, if one was given
abbrev pub with_answered : Tally → Option Answered → Tally
with_answered t None = t
with_answered t (Some a) = with_answer t (code_in a.body) a.cached a.evaluated (rows_in a.body)

-- what was counted of a client, wherever what files hold is told and whatever names stand behind those of the core
abbrev pub IsCounted : Loaded → Tally → Client → Type 0
IsCounted loaded t c = (known : Known) → IsTold known loaded → IsKnown known c.core → counted c.core ≡ t

-- a further line of a client that was going made the one tally the other, with what is left of what was loaded first
abbrev pub Counts : (left : Loaded) → Client → Numbered → Tally → Client → Tally → Type 0
Counts left old l before new after =
    (loaded : Loaded) → IsPart loaded left → (limits : Limits) (lines : List Numbered) (n : ℕ) (sent : List ℕ) → slice_get lines n ≡ Some l
    → Follows (take n lines) l → IsGoing loaded limits lines n sent old → IsCounted loaded before old → IsCounted loaded after new

-- a line that answers nothing leaves what was counted
abbrev pub AnswersNothing : Line → Type 0
AnswersNothing (script.answer id asked) = ⊥
AnswersNothing _ = Unit {0}

abbrev pub CountsNothing : (left : Loaded) → Client → Numbered → Client → Type 0
CountsNothing left old l new = AnswersNothing l.line → (t : Tally) → Counts left old l t new t
