use Rattle.std.proofs.Common.{◌≡◌, ◌++◌, map, drop}
use Rattle.pf_model.specs.Lists.{joined}
use Rattle.pf_eval.proofs.ShardLists.{divided}
use Rattle.pf_eval.proofs.sharding.all_by_shard.Given as goal

abbrev pub invariant-loop-ids : goal.invariant-loop-ids
invariant-loop-ids l =
    map (λ list. list.items) l.found.items ++ joined (divided l.snap.labels l.shards) (map (λ ids. ids.items) (drop l.ids-index l.series))
    ≡ joined (divided l.snap.labels l.shards) (map (λ ids. ids.items) l.series)
