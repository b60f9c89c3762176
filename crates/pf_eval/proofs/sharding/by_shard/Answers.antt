use Rattle.std.proofs.Common.{◌≡◌, ◌<◌, ℕ, List, map, take, length, get_or, Vec, Global, rules, subst, ap, sym, ◌∙◌}
use Rattle.std.proofs.lemmas.List.{length-map}
use Rattle.pf_block.specs.Snaps.{labels_of}
use Rattle.pf_columns.proofs.Below.{length_below}
use Rattle.pf_shard.specs.Bound.{ids_in_shard}
use Rattle.pf_eval.proofs.ShardLists.{shard_below, shard_more}
use Rattle.pf_eval.proofs.sharding.by_shard.Goals as goal

abbrev list : Vec ℕ Global → List ℕ
list v = v.items

pub put_id-requires : goal.put_id-requires
put_id-requires c =
    let n = c.args.shards in
    let f : ℕ → List ℕ = λ shard. ids_in_shard shard n c.args.snap.now.labels (take c.loop-i.i c.args.ids.now) in
    let many : length c.loop-i.lists.items ≡ n = sym (length-map c.loop-i.lists.items list) ∙ ap length c.loop-i.invariant ∙ length_below f n in
    subst (λ m. c.shard-shard.result < m) (sym many) (shard_below (labels_of c.args.snap.now (get_or c.args.ids.now c.loop-i.i 0)) n c.shard-shard.result c.requires.some c.shard-shard.ensures)

pub loop-i-preserved : goal.loop-i-preserved
loop-i-preserved c =
    let n = c.args.shards in
    let id = get_or c.args.ids.now c.loop-i.i 0 in
    shard_more c.args.snap.now.labels c.args.ids.now n c.loop-i.i id c.shard-shard.result (map list c.loop-i.lists.items) (map list c.put_id.new.lists.items)
    c.loop-i-test.true (search rules) c.shard-shard.ensures
    (shard_below (labels_of c.args.snap.now (get_or c.args.ids.now c.loop-i.i 0)) n c.shard-shard.result c.requires.some c.shard-shard.ensures) c.loop-i.invariant c.in_ok-put_id.ensures
