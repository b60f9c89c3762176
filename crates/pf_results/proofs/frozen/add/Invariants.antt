use Rattle.std.proofs.Common.{◌-◌}
use Rattle.pf_model.specs.Trees.{tree_of}
use Rattle.pf_results.proofs.Adding.{IsAdded}
use Rattle.pf_results.proofs.frozen.add.Given as goal

abbrev pub invariant-loop-from : goal.invariant-loop-from
invariant-loop-from l = IsAdded (tree_of l.expr) l.asker l.run l.cells l.list l.kept l.steps l.from

abbrev pub decreases-loop-from : goal.decreases-loop-from
decreases-loop-from l = l.run.len - l.from
