use Rattle.std.proofs.Common.{length}
use Rattle.pf_front.proofs.Joined.{AreBegun}
use Rattle.pf_front.proofs.joining.joined_pieces.Given as goal

abbrev pub invariant-loop-noted : goal.invariant-loop-noted
invariant-loop-noted l =
    AreBegun l.interval l.fn.grid l.fn.left.cached.items l.fn.left.evaluated.items l.pieces l.left.cached.items l.left.evaluated.items l.cells.items l.noted.items

abbrev pub decreases-loop-noted : goal.decreases-loop-noted
decreases-loop-noted l = length l.pieces
