use Rattle.std.proofs.Common.{ℕ, List, map, Vec, Global, ap, ◌∙◌}
use Rattle.std.proofs.lemmas.List.{map-append}
use Rattle.pf_eval.proofs.ShardLists.{divided, divided_more}
use Rattle.pf_eval.proofs.sharding.all_by_shard.Goals as goal

abbrev list : Vec ℕ Global → List ℕ
list v = v.items

pub loop-ids-preserved : goal.loop-ids-preserved
loop-ids-preserved c =
    divided_more list c.args.snap.now.labels c.args.shards c.args.series.now c.loop-ids.ids-index c.ids-item.result (map list c.loop-ids.found.items)
    (map list c.in_ok-lists.lists.items) (map list c.append.new.self.items) c.loop-ids-test.true c.ids-item.is
    (c.in_ok-lists.ensures ∙ ap (divided c.args.snap.now.labels c.args.shards) c.deref.ensures.value)
    (ap (map list) c.in_ok-append.ensures.items ∙ map-append list c.loop-ids.found.items c.in_ok-lists.lists.items)
    ∙ c.loop-ids.invariant
