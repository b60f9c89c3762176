-- The turns of a client: each line that it ran with all that it is judged by. What is said of a client is said over its own
-- entries' moments, each with the machine before it. This project's own.
use Rattle.std.specs.Prelude.{ℕ, Bool, true, false, Option, Some, None, List, [], ◌∷◌, cond, filter, not, suc, nat_eq, nat_lt}
use Rattle.pf_model.specs.Lists.{first_with}
use Rattle.pf_journal.specs.Legal.{Moment}
use Rattle.pf_journal.specs.Machine.{What, cancel, answer}
use Rattle.pf_journal.specs.Rest.{Told, of_take}
use Rattle.pf_journal.specs.Scripts.{Line, Numbered}
use Rattle.pf_journal.specs.Scripts as script
use Rattle.pf_journal.specs.Steps.{took}

-- ---- moments of one client

abbrev pub own_moments : (client : ℕ) → List Moment → List Moment
own_moments client xs = filter (λ x. nat_eq x.entry.client client) xs

abbrev pub place_of : Moment → ℕ
place_of x = x.before.count

-- those of the lines above one
abbrev pub entered_above : (line : ℕ) → List Moment → List Moment
entered_above line own = filter (λ x. nat_lt x.entry.line line) own

-- the moment of a line
abbrev pub moment_of : (line : ℕ) → List Moment → Option Moment
moment_of line own = first_with (λ x. nat_eq x.entry.line line) own

-- the moment at a place of the journal
abbrev pub moment_at : (place : ℕ) → List Moment → Option Moment
moment_at place own = first_with (λ x. nat_eq (place_of x) place) own

abbrev pub is_cancel_of : (query : ℕ) → What → Bool
is_cancel_of query (cancel q) = nat_eq q query
is_cancel_of query _ = false

abbrev pub is_answer_of : (query : ℕ) → What → Bool
is_answer_of query (answer q code cached evaluated) = nat_eq q query
is_answer_of query _ = false

-- the cancel and the answer of a query
abbrev pub cancel_of : Option Moment → List Moment → Option Moment
cancel_of None own = None
cancel_of (Some asked) own = first_with (λ x. is_cancel_of (place_of asked) x.entry.what) own

abbrev pub answer_of : Option Moment → List Moment → Option Moment
answer_of None own = None
answer_of (Some asked) own = first_with (λ x. is_answer_of (place_of asked) x.entry.what) own

-- ---- lines that ran

-- a line, and what was told of it
pub record Ran : Type 0 where
  pub line : Numbered
  pub told : Told

abbrev pub ran_lines : List Numbered → List Told → List Ran
ran_lines [] ts = []
ran_lines (l ∷ ls) [] = []
ran_lines (l ∷ ls) (t ∷ ts) = record { line = l; told = t } ∷ ran_lines ls ts

abbrev pub ran_at : (line : ℕ) → List Ran → Option Ran
ran_at line rs = first_with (λ r. nat_eq r.line.number line) rs

-- ---- jobs in workers' hands

-- Jobs are counted by the client's own `take` and `done` lines and what was told of them. What others have in hand is not counted.

-- a worker with a job of the query that was asked at a place
pub record Hand : Type 0 where
  pub worker : ℕ
  pub query : ℕ

abbrev pub holds : (worker : ℕ) → List Hand → Bool
holds w [] = false
holds w (h ∷ hs) = cond (nat_eq h.worker w) true (holds w hs)

abbrev pub hands_without : (worker : ℕ) → List Hand → List Hand
hands_without w hs = filter (λ h. not (nat_eq h.worker w)) hs

-- how many workers have a job of a query
abbrev pub hands_on : (query : ℕ) → List Hand → ℕ
hands_on query [] = 0
hands_on query (h ∷ hs) = cond (nat_eq h.query query) (suc (hands_on query hs)) (hands_on query hs)

-- a `take` that names a job puts it into its worker's hand, and a `done` takes it out
abbrev pub hands_taking : ℕ → Told → List Hand → List Hand
hands_taking w (of_take (took query job leg first last)) hs = record { worker = w; query = query } ∷ hands_without w hs
hands_taking w _ hs = hs

abbrev pub hands_after : Line → Told → List Hand → List Hand
hands_after (script.take w) told hs = hands_taking w told hs
hands_after (script.done w) told hs = hands_without w hs
hands_after _ told hs = hs

-- ---- turns

-- a line that ran, its moment in the journal, the jobs in hand before it, and the query that it names: the line that asked it,
-- and the moments of its ask, cancel and answer in lines above
pub record Turn : Type 0 where
  pub ran : Ran
  pub mine : Option Moment
  pub hands : List Hand
  pub asking : Option Ran
  pub asked : Option Moment
  pub cancelled : Option Moment
  pub answered : Option Moment

-- the line of the ask that a line names
abbrev pub asking_line : Line → Option ℕ
asking_line (script.cancel id asked tenant) = Some asked
asking_line (script.answer id asked) = Some asked
asking_line (script.plan id asked) = Some asked
asking_line (script.keep id asked) = Some asked
asking_line _ = None

-- that line, or else the line of an ask's moment
abbrev pub asking_ran : Option ℕ → Option Moment → List Ran → Option Ran
asking_ran (Some line) asked rs = ran_at line rs
asking_ran None (Some x) rs = ran_at x.entry.line rs
asking_ran None None rs = None

-- the tenant that an ask names
abbrev pub asker_of : Option Ran → List ℕ
asker_of None = []
asker_of (Some r) = named_by r.line.line where
  named_by : Line → List ℕ
  named_by (script.ask id tenant start end step query) = tenant
  named_by (script.instant id tenant time query) = tenant
  named_by _ = []

-- the ask that a line names, or whose query the reply of a `take` names
abbrev pub asked_by : Option ℕ → Told → List Moment → Option Moment
asked_by (Some line) told own = moment_of line own
asked_by None (of_take (took query job leg first last)) own = moment_at query own
asked_by None _ own = None

-- a turn, behind the lines and the entries above it
abbrev pub turn_with : (above : List Ran) → (entered : List Moment) → List Hand → Ran → (mine asked : Option Moment) → Turn
turn_with above entered hands r mine asked = record {
  ran = r;
  mine = mine;
  hands = hands;
  asking = asking_ran (asking_line r.line.line) asked above;
  asked = asked;
  cancelled = cancel_of asked entered;
  answered = answer_of asked entered;
}

abbrev pub turn_of : (own : List Moment) → (above : List Ran) → List Hand → Ran → Turn
turn_of own above hands r =
    turn_with above (entered_above r.line.number own) hands r (moment_of r.line.number own)
    (asked_by (asking_line r.line.line) r.told (entered_above r.line.number own))

abbrev pub turns_from : (own : List Moment) → (above : List Ran) → List Hand → List Ran → List Turn
turns_from own above hands [] = []
turns_from own above hands (r ∷ rs) =
    turn_of own above hands r ∷ turns_from own (r ∷ above) (hands_after r.line.line r.told hands) rs

-- the turns of a client's lines
abbrev pub turns : (own : List Moment) → List Ran → List Turn
turns own rs = turns_from own [] [] rs
