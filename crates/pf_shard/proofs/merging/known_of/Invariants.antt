use Rattle.std.proofs.Common.{◌≡◌, length}
use Rattle.std.specs.Vec.Iter.{into_iter_items, into_iter_len}
use Rattle.pf_shard.proofs.MergedShards.{AreLeft}
use Rattle.pf_shard.proofs.merging.known_of.Given as goal

abbrev pub invariant-loop-part : goal.invariant-loop-part
invariant-loop-part l = record {
  done : AreLeft l.len l.fn.parts.items l.found.columns l.found.bads (into_iter_items l.part-iterator);
  left : into_iter_len l.part-iterator ≡ length (into_iter_items l.part-iterator);
}
