use Rattle.std.proofs.Common.{◌≡◌, map, take}
use Rattle.pf_model.specs.Merging.{below}
use Rattle.pf_shard.specs.Bound.{ids_in_shard}
use Rattle.pf_eval.proofs.sharding.by_shard.Given as goal

abbrev pub invariant-loop-i : goal.invariant-loop-i
invariant-loop-i l = map (λ list. list.items) l.lists.items ≡ below (λ shard. ids_in_shard shard l.shards l.snap.labels (take l.i l.ids)) l.shards
