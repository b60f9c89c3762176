-- What is read of a script: this project's own.
use Rattle.std.specs.Prelude.{◌≡◌, ℕ, ◌<◌, ◌≤◌, cond, nat_eq, Option, Some, None, Result, Ok, Err, map, List, [], ◌∷◌, ◌++◌}
use Rattle.pf_base.specs.Limits.{greatest_time}
use Rattle.pf_model.specs.Lists.{Each}
use Rattle.pf_journal.specs.Scripts as script
use Rattle.pf_journal.specs.Scripts.{Numbered}
use Rattle.pf_journal.specs.Turns.{asking_line}
use Rattle.pf_script.specs.declared.script.Line.{Line}
use Rattle.pf_script.specs.declared.script.Line.TheVariants.{Ingest, Delete, Ask, Instant, Cancel, Answer, Plan, Keep, Take, Done}
use Rattle.pf_script.specs.declared.script.NumberedLine.{NumberedLine}
use Rattle.pf_script.specs.declared.script.Script.{Script}
use Rattle.pf_script.specs.declared.fault.LineError.{LineError}
use Rattle.pf_script.specs.declared.fault.LineError.TheVariants as fault
use Rattle.pf_script.specs.declared.fault.ScriptError.{ScriptError}
use Rattle.pf_script.specs.declared.fault.ScriptError.TheVariants as error

-- ---- what is read

-- the answer for a script is what its definition reads, seen by a view, or the number of the line that is refused, unless memory
-- ran out
abbrev pub Reads : {X Y : Type 0} → (X → Y) → Result X ScriptError → Result Y ℕ → Type 0
Reads view (Ok x) read = read ≡ Ok (view x)
Reads view (Err (error.Line n)) read = read ≡ Err n
Reads view (Err error.OutOfMemory) read = Unit {0}

-- the same for a line
abbrev pub ReadsLine : {X Y : Type 0} → (X → Y) → Result X LineError → Option Y → Type 0
ReadsLine view (Ok x) read = read ≡ Some (view x)
ReadsLine view (Err fault.Refused) read = read ≡ None
ReadsLine view (Err fault.OutOfMemory) read = Unit {0}

abbrev pub at_line : ℕ → LineError → ScriptError
at_line n fault.Refused = error.Line n
at_line n fault.OutOfMemory = error.OutOfMemory

abbrev pub line_of : Line → script.Line
line_of (Ingest tenant file time) = script.ingest tenant file time
line_of (Delete tenant from to selector) = script.delete tenant from to selector
line_of (Ask id tenant start end step query) = script.ask id tenant start end step query
line_of (Instant id tenant time query) = script.instant id tenant time query
line_of (Cancel id asked tenant) = script.cancel id asked tenant
line_of (Answer id asked) = script.answer id asked
line_of (Plan id asked) = script.plan id asked
line_of (Keep id asked) = script.keep id asked
line_of (Take worker) = script.take worker
line_of (Done worker) = script.done worker

abbrev pub numbered_of : NumberedLine → Numbered
numbered_of l = record { number = l.number; line = line_of l.line }

abbrev pub lines_of : Script → List Numbered
lines_of s = map numbered_of s.lines.items

-- the time of a file's samples is one that a sample may have, and a worker is one of 16
abbrev pub IsReadLine : Line → Type 0
IsReadLine (Ingest tenant file time) = time ≤ greatest_time
IsReadLine (Delete tenant from to selector) = Unit {0}
IsReadLine (Ask id tenant start end step query) = Unit {0}
IsReadLine (Instant id tenant time query) = Unit {0}
IsReadLine (Cancel id asked tenant) = Unit {0}
IsReadLine (Answer id asked) = Unit {0}
IsReadLine (Plan id asked) = Unit {0}
IsReadLine (Keep id asked) = Unit {0}
IsReadLine (Take worker) = worker ≤ 15
IsReadLine (Done worker) = worker ≤ 15

abbrev pub IsRead : NumberedLine → Type 0
IsRead l = IsReadLine l.line

-- ---- a line behind those before it

-- the line of a number
abbrev pub line_at : ℕ → List Numbered → Option script.Line
line_at n [] = None
line_at n (l ∷ ls) = cond (nat_eq l.number n) (Some l.line) (line_at n ls)

-- a line that asks under an ID, a query over a range or an instant query
abbrev pub IsAsk : List ℕ → Option script.Line → Type 0
IsAsk id (Some (script.ask i tenant start end step query)) = i ≡ id
IsAsk id (Some (script.instant i tenant time query)) = i ≡ id
IsAsk id _ = ⊥

-- the ID that a line names
abbrev pub id_of : script.Line → List ℕ
id_of (script.ask id tenant start end step query) = id
id_of (script.instant id tenant time query) = id
id_of (script.cancel id asked tenant) = id
id_of (script.answer id asked) = id
id_of (script.plan id asked) = id
id_of (script.keep id asked) = id
id_of _ = []

-- the line that is named asks under this ID, and stands among the lines before
abbrev pub NamesAsk : List Numbered → (id : List ℕ) → Option ℕ → Type 0
NamesAsk before id None = Unit {0}
NamesAsk before id (Some line) = IsAsk id (line_at line before)

-- a line that answers what the line of a number asked, and one that keeps it
abbrev pub IsAnswerOf : script.Line → ℕ → Type 0
IsAnswerOf (script.answer id asked) n = asked ≡ n
IsAnswerOf _ n = ⊥

abbrev pub IsKeepOf : script.Line → ℕ → Type 0
IsKeepOf (script.keep id asked) n = asked ≡ n
IsKeepOf _ n = ⊥

abbrev pub IsUnanswered : List Numbered → ℕ → Type 0
IsUnanswered before n = Each (λ b. IsAnswerOf b.line n → ⊥) before

abbrev pub IsUnkept : List Numbered → ℕ → Type 0
IsUnkept before n = Each (λ b. IsKeepOf b.line n → ⊥) before

-- what a line answers, plans or keeps is not answered by a line before it, and what it keeps is not kept by one
abbrev pub IsOpen : List Numbered → script.Line → Type 0
IsOpen before (script.answer id asked) = IsUnanswered before asked
IsOpen before (script.plan id asked) = IsUnanswered before asked
IsOpen before (script.keep id asked) = IsUnanswered before asked × IsUnkept before asked
IsOpen before _ = Unit {0}

-- a line's number is above those before it, and what it names was asked before it
pub record Follows (before : List Numbered) (l : Numbered) : Type 0 where
  pub first : 0 < l.number
  pub rising : Each (λ b. b.number < l.number) before
  pub names : NamesAsk before (id_of l.line) (asking_line l.line)
  pub is_open : IsOpen before l.line

abbrev pub AllFollow : List Numbered → List Numbered → Type 0
AllFollow before [] = Unit {0}
AllFollow before (l ∷ ls) = Follows before l × AllFollow (before ++ l ∷ []) ls
