use Rattle.std.proofs.Common.{◌≡◌, ◌++◌, take}
use Rattle.pf_block.proofs.grown.with_each.Given as goal

abbrev pub invariant-loop-labels : goal.invariant-loop-labels
invariant-loop-labels l = l.index ≡ l.fn.index ++ take l.labels-index l.fresh
