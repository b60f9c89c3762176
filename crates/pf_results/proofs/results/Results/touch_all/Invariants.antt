use Rattle.std.proofs.Common.{◌≡◌}
use Rattle.pf_base.specs.Grids.{points}
use Rattle.pf_split.specs.Pieces.{pieces_of}
use Rattle.pf_results.specs.Pieces.{AreOfOneQuery, touched_over}
use Rattle.pf_results.proofs.results.Results.touch_all.Given as goal

abbrev pub invariant-loop-piece : goal.invariant-loop-piece
invariant-loop-piece l = record {
  goes : goal.iterator-loop-piece.can_next l.piece-iterator × goal.iterator-loop-piece.is_finite l.piece-iterator;
  key : AreOfOneQuery l.fn.key l.key;
  used : touched_over l.fn.key l.piece-iterator l.self-inside.cache ≡ touched_over l.fn.key (pieces_of l.interval l.grid.step (points l.grid)) l.fn.self;
}
