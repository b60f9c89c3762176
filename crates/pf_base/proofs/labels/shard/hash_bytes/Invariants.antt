use Rattle.std.proofs.Common.{◌≡◌, drop}
use Rattle.pf_base.specs.ShardHash.{hash_onto}
use Rattle.pf_base.proofs.labels.shard.hash_bytes.Given as goal

abbrev pub invariant-loop-byte : goal.invariant-loop-byte
invariant-loop-byte l = hash_onto l.hash (drop l.byte-index l.bytes) ≡ hash_onto l.fn.hash l.bytes
