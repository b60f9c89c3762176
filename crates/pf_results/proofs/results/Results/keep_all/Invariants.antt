use Rattle.pf_model.specs.Trees.{tree_of}
use Rattle.pf_results.specs.Pieces.{AreOfOneQuery}
use Rattle.pf_results.proofs.Pieced.{IsKeptOver}
use Rattle.pf_results.proofs.results.Results.keep_all.Given as goal

abbrev pub invariant-loop-done : goal.invariant-loop-done
invariant-loop-done l = record {
  key : AreOfOneQuery l.fn.key l.key;
  kept : IsKeptOver l.fn.self l.fn.key (tree_of l.expr) l.asker l.interval l.cells l.self l.steps l.done-index;
}
