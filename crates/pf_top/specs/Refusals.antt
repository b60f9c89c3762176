-- What is printed in place of a report: this project's own.
use Rattle.std.specs.Prelude.{ℕ, List, [], ◌∷◌, codes}
use Rattle.std.specs.Fmt.{decimal}
use Rattle.pf_model.specs.Exposition.{bad_line, late_line, too_many}
use Rattle.pf_journal.specs.Files.{FileRefusal, at_line, too_long}
use Rattle.pf_journal.specs.Replies.{line_text}

-- a file with this name was not read
abbrev pub refused_read : List ℕ → List ℕ
refused_read name = line_text (codes "refused:" ∷ codes "read" ∷ name ∷ [])

-- no form that is built
abbrev pub refused_not_built : List ℕ
refused_not_built = line_text (codes "refused:" ∷ codes "not" ∷ codes "built" ∷ [])

-- a script is refused, by the first of its lines that is: 0 where the script is too long; scripts are counted from 0
abbrev pub refused_script : (script line : ℕ) → List ℕ
refused_script script line =
    line_text (codes "refused:" ∷ codes "script" ∷ decimal script ∷ codes "line" ∷ decimal line ∷ [])

-- the line of a refused file: that of the first bad one, and 0 where the file has too many rows or bytes
abbrev pub refused_line : FileRefusal → ℕ
refused_line (at_line bad_line n) = n
refused_line (at_line late_line n) = n
refused_line (at_line too_many n) = 0
refused_line too_long = 0

-- an evaluation's file is refused
abbrev pub refused_file : FileRefusal → List ℕ
refused_file refusal = line_text (codes "refused:" ∷ codes "file" ∷ codes "line" ∷ decimal (refused_line refusal) ∷ [])
