use Rattle.std.proofs.Common.{◌-◌}
use Rattle.pf_front.proofs.Walks.{IsWalked}
use Rattle.pf_front.proofs.joining.next_piece.Given as goal

abbrev pub invariant-loop-done : goal.invariant-loop-done
invariant-loop-done l =
    IsWalked l.run l.pieces l.initial.left.cached.items l.initial.left.evaluated.items l.left.cached.items l.left.evaluated.items l.done l.parts.items

abbrev pub decreases-loop-done : goal.decreases-loop-done
decreases-loop-done l = l.run.len - l.done
