use Rattle.std.proofs.Common.{◌≡◌, ◌++◌}
use Rattle.pf_base.specs.Grids.{points}
use Rattle.pf_front.specs.Spans.{piece_runs}
use Rattle.pf_front.proofs.whole.piece_runs.Given as goal
use Rattle.pf_split.specs.Pieces.{pieces_of}

abbrev pub invariant-loop-piece : goal.invariant-loop-piece
invariant-loop-piece l = record {
  goes : goal.iterator-loop-piece.can_next l.piece-iterator × goal.iterator-loop-piece.is_finite l.piece-iterator;
  value : l.runs.items ++ piece_runs l.piece-iterator ≡ piece_runs (pieces_of l.interval l.grid.step (points l.grid));
}
