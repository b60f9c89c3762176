-- What the program promises: this project's own.
use Rattle.std.specs.Prelude.{◌≡◌, ℕ, List}
use Rattle.pf_base.specs.declared.plain.Limits.{Limits}
use Rattle.pf_io.specs.Outside.{Rose}
use Rattle.pf_client.specs.Written.{Begins, Writes, WritesPart}
use Rattle.pf_top.specs.Commands.{Says, command_of}
use Rattle.pf_top.specs.Seen.{Outside}

-- how a run ends, by its status, with the limits of a run without options
pub data Correct (limits : Limits) (o : Outside) (words : List (List ℕ)) (status : ℕ) : Type 0 where
  -- what the words ask for was written, whole, with its status
  written : (taken : o.out_after ≡ o.out_before) → Writes (Says limits o.hops o.files (command_of words) status) o.old o.new → Correct limits o words status
  -- 5: the output's count of faults rose, behind a front of what was to be written
  unwritten : status ≡ 5 → Rose o.out_before o.out_after
      → WritesPart (λ text. (meant : ℕ) × Says limits o.hops o.files (command_of words) meant text) o.old o.new → Correct limits o words status
  -- 6: memory ran out, and nothing was written, or a front of a report
  starved : status ≡ 6 → (taken : o.out_after ≡ o.out_before) → Begins (Says limits o.hops o.files (command_of words) 6) o.old o.new → Correct limits o words status
