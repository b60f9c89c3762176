use Rattle.std.proofs.Common.{length}
use Rattle.pf_expo.specs.Scans.{all_labels, with_pairs}
use Rattle.pf_expo.proofs.Pairs.{Left}
use Rattle.pf_expo.proofs.labels.push_labels.Given as goal

abbrev pub invariant-loop-alloc : goal.invariant-loop-alloc
invariant-loop-alloc l = Left l.pairs.items l.rest (with_pairs l.fn.pairs.items (all_labels l.bytes))

abbrev pub decreases-loop-alloc : goal.decreases-loop-alloc
decreases-loop-alloc l = length l.rest
