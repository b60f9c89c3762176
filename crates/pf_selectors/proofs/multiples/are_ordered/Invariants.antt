use Rattle.std.proofs.Common.{◌<◌, ℕ, suc, ◌≤ℤ◌}
use Rattle.pf_selectors.specs.Times.{time_at}
use Rattle.pf_selectors.proofs.multiples.are_ordered.Given as goal

abbrev pub invariant-loop-i : goal.invariant-loop-i
invariant-loop-i l = (k : ℕ) → suc k < l.i → time_at l.times k ≤ℤ time_at l.times (suc k)
