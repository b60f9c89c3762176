-- What is printed of an evaluation over one file. This project's own.
use Rattle.std.specs.Prelude.{ℕ, Option, Some, None, Result, Ok, Err, List, [], ◌∷◌, ◌++◌, codes}
use Rattle.std.specs.Fmt.{decimal}
use Rattle.pf_base.specs.declared.plain.Row.{Row}
use Rattle.pf_model.specs.Direct.{direct}
use Rattle.pf_journal.specs.Asking.{Asked}
use Rattle.pf_journal.specs.Bodies.{body_text, refused_body}
use Rattle.pf_journal.specs.Machine.{code_of}
use Rattle.pf_journal.specs.Replies.{line_text}

-- a code, and a body, each on a line of its own
abbrev pub evaluation_text : List ℕ → List ℕ → List ℕ
evaluation_text code body = line_text (code ∷ []) ++ line_text (body ∷ [])

-- what is printed of a query that is asked over samples, or that is refused
abbrev pub evaluated_text : List Row → Option (Result Asked (List ℕ)) → List ℕ
evaluated_text samples None = []
evaluated_text samples (Some (Err text)) = evaluation_text (codes "400") (refused_body text)
evaluated_text samples (Some (Ok asked)) =
    evaluation_text (decimal (code_of (direct samples asked.query))) (body_text asked (direct samples asked.query))
