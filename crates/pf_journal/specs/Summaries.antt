-- What is counted of the answers of a journal, and the line that is printed of it. This project's own.
use Rattle.std.specs.Prelude.{ℕ, ◌+◌, ◌%◌, ◌^◌, Bool, true, false, Option, Some, None, List, [], ◌∷◌, codes, cond, count_by, length, nat_eq}
use Rattle.std.specs.Fmt.{decimal}
use Rattle.std.specs.Int.{cast_unsigned, w64}
use Rattle.std.specs.List.{fold}
use Rattle.pf_base.specs.declared.plain.Limits.{Limits}
use Rattle.pf_base.specs.declared.plain.Sample.{Sample}
use Rattle.pf_model.specs.Direct.{Answer, MatrixRow, gathered, failed}
use Rattle.pf_journal.specs.Legal.{Moment}
use Rattle.pf_journal.specs.Machine.{Machine, Open, What, answer, answer_of, open_at}
use Rattle.pf_journal.specs.Replies.{line_text}
use Rattle.pf_journal.specs.Scripts.{Line, Numbered, ask}

-- ---- sums

-- a sum in 64 bits
abbrev pub added : ℕ → ℕ → ℕ
added x y = (x + y) % 2 ^ 64

-- with a point's micros, in two's complement
abbrev pub with_micros : ℕ → Sample → ℕ
with_micros sum p = added sum (cast_unsigned w64 p.value)

-- ---- answers

-- of the answers: how many have the code 200, how many steps were cached and evaluated, and how many points their matrices have,
-- with the sum of these points' micros; all in 64 bits
pub record Tally : Type 0 where
  pub ok : ℕ
  pub cached : ℕ
  pub evaluated : ℕ
  pub elements : ℕ
  pub sum : ℕ

abbrev pub nothing_counted : Tally
nothing_counted = record { ok = 0; cached = 0; evaluated = 0; elements = 0; sum = 0 }

abbrev pub with_row : Tally → MatrixRow → Tally
with_row t row = record {
  ok = t.ok;
  cached = t.cached;
  evaluated = t.evaluated;
  elements = added t.elements (length row.points);
  sum = fold with_micros t.sum row.points;
}

-- with an answer and the rows of its matrix
abbrev pub with_answer : Tally → (code cached evaluated : ℕ) → List MatrixRow → Tally
with_answer t code cached evaluated rows = fold with_row (record {
  ok = added t.ok (cond (nat_eq code 200) 1 0);
  cached = added t.cached cached;
  evaluated = added t.evaluated evaluated;
  elements = t.elements;
  sum = t.sum;
}) rows

abbrev pub rows_of : Answer → List MatrixRow
rows_of (gathered rows) = rows
rows_of (failed step kind) = []

-- the matrix of an answer: that of its query, if its code is 200
abbrev pub rows_answered : Limits → (code : ℕ) → Option Open → List MatrixRow
rows_answered limits code None = []
rows_answered limits code (Some o) = cond (nat_eq code 200) (rows_of (answer_of limits o)) []

-- ---- journals

-- an entry counts if it is an answer
abbrev pub with_entry : Limits → Tally → Machine → What → Tally
with_entry limits t before (answer query code cached evaluated) =
    with_answer t code cached evaluated (rows_answered limits code (open_at query before.queries))
with_entry limits t before _ = t

abbrev pub with_moment : Limits → Tally → Moment → Tally
with_moment limits t x = with_entry limits t x.before x.entry.what

-- what is counted of the moments of a journal
abbrev pub tally_of : Limits → List Moment → Tally
tally_of limits xs = fold (with_moment limits) nothing_counted xs

-- ---- the line

-- how many of a script's lines are an `ask`
abbrev pub is_ask : Line → Bool
is_ask (ask id tenant start end step query) = true
is_ask _ = false

abbrev pub asks : List Numbered → ℕ
asks lines = count_by (λ l. is_ask l.line) lines

abbrev pub summary_text : (seed queries : ℕ) → Tally → List ℕ
summary_text seed queries t = line_text
    (codes "load" ∷ decimal seed ∷ codes "queries" ∷ decimal queries ∷ codes "ok" ∷ decimal t.ok
    ∷ codes "steps" ∷ decimal (added t.cached t.evaluated) ∷ codes "cached" ∷ decimal t.cached ∷ codes "evaluated" ∷ decimal t.evaluated
    ∷ codes "elements" ∷ decimal t.elements ∷ codes "sum" ∷ decimal t.sum ∷ [])
