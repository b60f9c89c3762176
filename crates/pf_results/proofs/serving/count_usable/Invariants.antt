use Rattle.std.proofs.Common.{◌≡◌, ◌≤◌, ◌<◌, ℕ, pos, true}
use Rattle.pf_extent.specs.Uses.{is_usable}
use Rattle.pf_model.specs.Reach.{reach}
use Rattle.pf_model.specs.Trees.{tree_of}
use Rattle.pf_results.specs.Runs.{time_of}
use Rattle.pf_results.proofs.serving.count_usable.Given as goal

abbrev pub invariant-loop-i : goal.invariant-loop-i
invariant-loop-i l = record {
  begun : l.from ≤ l.i;
  last : (k : ℕ) → l.from ≤ k → k < l.i → time_of l.run k ≤ l.extent.last;
  usable : (k : ℕ) → l.from ≤ k → k < l.i → is_usable l.extent (reach (tree_of l.expr) (pos (time_of l.run k))) l.asker ≡ true;
}
