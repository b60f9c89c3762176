-- What the readers of lines promise: this project's own.
use Rattle.std.specs.Prelude.{◌≡◌, ℕ, ◌+◌, min, Option, Some, None, Result, Ok, Err, List}
use Rattle.pf_base.specs.LabelSets.{Pairs}
use Rattle.pf_base.specs.Limits.{greatest_time}
use Rattle.pf_base.specs.declared.number.Read.{Read}
use Rattle.pf_base.specs.declared.number.Read.TheVariants.{Number, NotANumber}
use Rattle.pf_model.specs.Exposition.{Given, IsSample, LineGives, bad, late, nothing, no_number, sample}
use Rattle.pf_expo.specs.declared.line.LineRead.{LineRead}
use Rattle.pf_expo.specs.declared.line.LineRead.TheVariants as line
use Rattle.pf_expo.specs.declared.fault.ReadFault.{ReadFault}
use Rattle.pf_expo.specs.declared.fault.ReadFault.TheVariants.{Bad, Late, OutOfMemory}

-- a reader's answer is what its definition reads, seen by a view, unless memory ran out
abbrev pub Reads : {X Y : Type 0} → (X → Y) → Result X ReadFault → Option Y → Type 0
Reads view (Ok x) read = read ≡ Some (view x)
Reads view (Err Bad) read = read ≡ None
Reads view (Err Late) read = ⊥
Reads view (Err OutOfMemory) read = Unit {0}

-- a line is a sample, whose time is seen up to the first one that is too large
pub record IsCapped (default : ℕ) (line : List ℕ) (labels : Pairs) (value : Read) (seen : ℕ) : Type 0 where
  pub time : ℕ
  pub found : IsSample default line labels value time
  pub capped : seen ≡ min time (greatest_time + 1)

pub record IsNoSample (default : ℕ) (line : List ℕ) : Type 0 where
  pub none : (labels : Pairs) (value : Read) (time : ℕ) → IsSample default line labels value time → ⊥

-- what a line gives
abbrev pub given_of : LineRead → Given
given_of line.Nothing = nothing
given_of line.NoNumber = no_number
given_of (line.Sample row) = sample row

abbrev pub seen : Pairs → Read → ℕ → Given
seen labels NotANumber time = no_number
seen labels (Number value) time = sample (record { labels = labels; time = time; value = value })

abbrev pub LineAnswers : ℕ → List ℕ → Result LineRead ReadFault → Type 0
LineAnswers default text (Ok read) = LineGives default text (Ok (given_of read))
LineAnswers default text (Err Bad) = LineGives default text (Err bad)
LineAnswers default text (Err Late) = LineGives default text (Err late)
LineAnswers default text (Err OutOfMemory) = Unit {0}
