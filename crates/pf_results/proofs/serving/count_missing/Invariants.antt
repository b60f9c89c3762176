use Rattle.std.proofs.Common.{◌≡◌, ◌≤◌, ◌<◌, ℕ, false}
use Rattle.pf_model.specs.Trees.{tree_of}
use Rattle.pf_results.specs.Runs.{time_of}
use Rattle.pf_results.specs.Serving.{is_served}
use Rattle.pf_results.proofs.serving.count_missing.Given as goal

abbrev pub invariant-loop-i : goal.invariant-loop-i
invariant-loop-i l = record {
  begun : l.from ≤ l.i;
  missing : (k : ℕ) → l.from ≤ k → k < l.i → is_served l.list (tree_of l.expr) l.asker (time_of l.run k) ≡ false;
}
