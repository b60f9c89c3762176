-- Verdicts as the code has them, seen as those of the definitions of logs. This project's own.
use Rattle.std.specs.Prelude.{ℕ, List}
use Rattle.pf_model.specs.Log as log
use Rattle.pf_store.specs.declared.verdict.Verdict.{Verdict}
use Rattle.pf_store.specs.declared.verdict.Verdict.TheVariants.{Taken, TooOld, Repeated, Differs}

abbrev pub verdict_of : Verdict → log.Verdict
verdict_of Taken = log.taken
verdict_of (TooOld floor) = log.too_old floor
verdict_of Repeated = log.repeated
verdict_of (Differs held) = log.differs held

-- the verdicts on a batch, and the number of entries of the log afterwards
pub record VerdictsData : Type 0 where
  pub list : List log.Verdict
  pub entry : ℕ
