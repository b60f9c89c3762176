use Rattle.std.proofs.Common.{◌≡◌, ◌<◌, ℕ, drop}
use Rattle.pf_eval.specs.Calls.{scalars_at}
use Rattle.pf_eval.proofs.instant.are_constant.Given as goal

-- where the scalars behind are constant, all are
abbrev pub invariant-loop-values : goal.invariant-loop-values
invariant-loop-values l =
    (k : ℕ) → k < l.len → scalars_at (drop l.values-index l.scalars) k ≡ scalars_at (drop l.values-index l.scalars) 0
    → scalars_at l.scalars k ≡ scalars_at l.scalars 0
