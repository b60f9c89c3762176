use Rattle.pf_base.specs.Grids.{points}
use Rattle.pf_model.specs.Trees.{tree_of}
use Rattle.pf_split.specs.Pieces.{pieces_of}
use Rattle.pf_results.specs.Pieces.{AreOfOneQuery}
use Rattle.pf_results.proofs.Pieced.{IsFoundOver}
use Rattle.pf_results.proofs.results.Results.find_all.Given as goal

abbrev pub invariant-loop-piece : goal.invariant-loop-piece
invariant-loop-piece l = record {
  goes : goal.iterator-loop-piece.can_next l.piece-iterator × goal.iterator-loop-piece.is_finite l.piece-iterator;
  key : AreOfOneQuery l.fn.key l.key;
  found : IsFoundOver l.self l.fn.key (tree_of l.expr) l.asker (pieces_of l.interval l.grid.step (points l.grid)) l.piece-iterator l.grid.len l.found.cached.items l.found.runs.items;
}
