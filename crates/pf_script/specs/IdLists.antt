-- What the IDs so far mean: this project's own.
use Rattle.std.specs.Prelude.{◌≡◌, ℕ, not, map, List, Option}
use Rattle.pf_model.specs.Cuts.{only_if, ◌>>=◌}
use Rattle.pf_journal.specs.Scripts.{Issued, Line, issued_after, issued_as}
use Rattle.pf_script.specs.declared.ids.Asked.{Asked}
use Rattle.pf_script.specs.declared.ids.Ids.{Ids}
use denote.Ref.{Bor}

abbrev pub as_issued : List ℕ → Asked → Issued
as_issued id a = record { id = id; line = a.line; answered = a.answered; kept = a.kept }

abbrev pub issued_by : Bor (List ℕ) × Asked → Issued
issued_by e = as_issued e.0.now e.1

-- in the order of the IDs
abbrev pub issued_in : Ids → List Issued
issued_in i = map issued_by i.asked.entries

-- two lists say the same of each ID
abbrev pub Alike : List Issued → List Issued → Type 0
Alike is js = (id : List ℕ) → issued_as id is ≡ issued_as id js

-- a line that issues no ID, and neither answers nor keeps one
abbrev pub IsIdle : Line → Type 0
IsIdle line = (n : ℕ) (is : List Issued) → issued_after n line is ≡ is

-- what was asked under an ID, where it is not answered, and where it is neither answered nor kept
abbrev pub unless_answered : Issued → Option Issued
unless_answered i = only_if (not i.answered) i

abbrev pub unless_kept : Issued → Option Issued
unless_kept i = only_if (not i.kept) i

abbrev pub unanswered_as : List ℕ → List Issued → Option Issued
unanswered_as id is = issued_as id is >>= unless_answered

abbrev pub unkept_as : List ℕ → List Issued → Option Issued
unkept_as id is = unanswered_as id is >>= unless_kept
