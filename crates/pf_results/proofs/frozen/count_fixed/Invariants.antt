use Rattle.std.proofs.Common.{◌≡◌, ◌≤◌, ◌<◌, ℕ}
use Rattle.pf_model.specs.Trees.{tree_of}
use Rattle.pf_results.specs.Keeping.{is_fixed}
use Rattle.pf_results.specs.Runs.{time_of}
use Rattle.pf_results.proofs.frozen.count_fixed.Given as goal

abbrev pub invariant-loop-i : goal.invariant-loop-i
invariant-loop-i l = record {
  begun : l.from ≤ l.i;
  are : (k : ℕ) → l.from ≤ k → k < l.i → is_fixed (tree_of l.expr) l.asker (time_of l.run k) ≡ l.wanted;
}
