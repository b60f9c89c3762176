use Rattle.std.proofs.Common.{◌≡◌, ◌≤◌, ◌<◌, ◌-◌, ℕ, true, false}
use Rattle.pf_model.specs.Trees.{tree_of}
use Rattle.pf_results.specs.Keeping.{is_fixed}
use Rattle.pf_results.specs.Runs.{time_of}
use Rattle.pf_results.proofs.fixed.first_open.Given as goal

abbrev pub invariant-loop-low : goal.invariant-loop-low
invariant-loop-low l = record {
  order : l.low ≤ l.high;
  within : l.high ≤ l.run.len;
  fixed : (k : ℕ) → k < l.low → is_fixed (tree_of l.expr) l.asker (time_of l.run k) ≡ true;
  behind : (k : ℕ) → l.high ≤ k → k < l.run.len → is_fixed (tree_of l.expr) l.asker (time_of l.run k) ≡ false;
}

abbrev pub decreases-loop-low : goal.decreases-loop-low
decreases-loop-low l = l.high - l.low
