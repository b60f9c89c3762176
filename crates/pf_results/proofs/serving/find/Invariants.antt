use Rattle.std.proofs.Common.{◌-◌}
use Rattle.pf_model.specs.Trees.{tree_of}
use Rattle.pf_results.proofs.Served.{IsFound}
use Rattle.pf_results.proofs.serving.find.Given as goal

abbrev pub invariant-loop-from : goal.invariant-loop-from
invariant-loop-from l = IsFound l.list (tree_of l.expr) l.asker l.run l.fn.found.cached.items l.fn.found.runs.items l.cached.items l.runs.items l.from

abbrev pub decreases-loop-from : goal.decreases-loop-from
decreases-loop-from l = l.run.len - l.from
