-- What a file gives, or why it is refused. This project's own.
use Rattle.std.specs.Prelude.{ℕ, ◌<◌, ◌≤◌, List, length}
use Rattle.pf_base.specs.Batches.{BatchData}
use Rattle.pf_model.specs.Exposition.{Fault, file_lines, Stops}
use Rattle.pf_model.specs.Exposition as exposition
use Rattle.pf_journal.specs.Scripts.{most_bytes}

-- why a file is refused: a line of it is at fault, or it is longer than the greatest length
pub data FileRefusal : Type 0 where
  at_line : Fault → (line : ℕ) → FileRefusal
  too_long : FileRefusal

-- a file gives a batch; samples without a time have the default time, in milliseconds
pub record Gives (bytes : List ℕ) (time : ℕ) (batch : BatchData) : Type 0 where
  pub short : length bytes ≤ most_bytes
  pub gives : exposition.Gives time (file_lines bytes) batch

abbrev pub IsRefusedAs : List ℕ → ℕ → FileRefusal → Type 0
IsRefusedAs bytes time (at_line fault line) = (length bytes ≤ most_bytes) × Stops time (file_lines bytes) line fault
IsRefusedAs bytes time too_long = most_bytes < length bytes
