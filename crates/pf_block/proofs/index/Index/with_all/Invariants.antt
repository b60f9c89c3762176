use Rattle.std.proofs.Common.{◌≡◌, ◌++◌, take}
use Rattle.pf_block.proofs.index.Index.with_all.Given as goal

abbrev pub invariant-loop-labels : goal.invariant-loop-labels
invariant-loop-labels l = l.index ≡ l.fn.self ++ take l.labels-index l.labels-items
