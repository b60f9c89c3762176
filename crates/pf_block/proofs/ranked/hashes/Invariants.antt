use Rattle.std.proofs.Common.{◌≡◌, take}
use Rattle.pf_block.specs.Indexes.{hashes_of}
use Rattle.pf_block.proofs.ranked.hashes.Given as goal

abbrev pub invariant-loop-id : goal.invariant-loop-id
invariant-loop-id l = l.hashes.items ≡ hashes_of (take l.id l.index)
