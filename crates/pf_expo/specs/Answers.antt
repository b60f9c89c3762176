-- What the reader of a file answers: this project's own.
use Rattle.std.specs.Prelude.{◌≡◌, ℕ, ◌+◌, ◌≤◌, Result, Ok, Err, List, [], ◌∷◌, ◌++◌, length}
use Rattle.pf_base.specs.Batches.{BatchData}
use Rattle.pf_base.specs.Limits.{most_samples}
use Rattle.pf_model.specs.Exposition.{Given, Gives, IsAtFault, LineGives, Stops, rows_of, skipped_of, bad_line, late_line, too_many, file_lines}
use Rattle.pf_expo.specs.declared.exposition.Taken.{Taken}
use Rattle.pf_expo.specs.declared.fault.ExpoError.{ExpoError}
use Rattle.pf_expo.specs.declared.fault.ExpoError.TheVariants.{BadLine, TimeTooLarge, TooMany, OutOfMemory}

-- an answer is what a file gives, unless memory ran out
abbrev pub Answers : ℕ → List ℕ → Result BatchData ExpoError → Type 0
Answers default bytes (Ok batch) = Gives default (file_lines bytes) batch
Answers default bytes (Err (BadLine line)) = Stops default (file_lines bytes) line bad_line
Answers default bytes (Err (TimeTooLarge line)) = Stops default (file_lines bytes) line late_line
Answers default bytes (Err (TooMany line)) = Stops default (file_lines bytes) line too_many
Answers default bytes (Err OutOfMemory) = Unit {0}

-- a line is added to a file's rows and to the number of its skipped lines
pub record Added (default : ℕ) (text : List ℕ) (before after : BatchData) : Type 0 where
  pub given : Given
  pub gives : LineGives default text (Ok given)
  pub rows : after.rows ≡ before.rows ++ rows_of (given ∷ [])
  pub skipped : after.skipped ≡ before.skipped + skipped_of (given ∷ [])
  pub few : length after.rows ≤ most_samples

abbrev pub Adds : ℕ → List ℕ → ℕ → BatchData → BatchData → Result (Unit {0}) ExpoError → Type 0
Adds default text line before after (Ok _) = Added default text before after
Adds default text line before after (Err (BadLine n)) = (n ≡ line) × IsAtFault default before.rows text bad_line
Adds default text line before after (Err (TimeTooLarge n)) = (n ≡ line) × IsAtFault default before.rows text late_line
Adds default text line before after (Err (TooMany n)) = (n ≡ line) × IsAtFault default before.rows text too_many
Adds default text line before after (Err OutOfMemory) = Unit {0}

-- what was taken of a file, seen as a batch
abbrev pub taken_of : Taken → BatchData
taken_of t = record { rows = t.rows.items; skipped = t.skipped }
