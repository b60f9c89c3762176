use Rattle.std.proofs.Common.{◌≤◌, length}
use Rattle.pf_block.proofs.index_stack.kept_below.Given as goal

abbrev pub invariant-loop-kept : goal.invariant-loop-kept
invariant-loop-kept l = l.kept ≤ length l.layers

abbrev pub decreases-loop-kept : goal.decreases-loop-kept
decreases-loop-kept l = l.kept
