use Rattle.std.proofs.Common.{rules, of_calls, nat_lt, arith}
use Rattle.std.proofs.lemmas.Bool.{ltb-false, ltb-true}
use Rattle.std.proofs.lemmas.List.Sorted.{IsPartitionPoint-from_clause}
use Rattle.pf_block.proofs.OrderedIds.{rise_parted}
use Rattle.pf_block.proofs.interleaving.count_below.Goals as goal

pub returns-clause-below : goal.returns-clause-below
returns-clause-below c = λ k l.
    let point = IsPartitionPoint-from_clause (λ id. nat_lt id c.args.first) _ _ c.partition_point.ensures.partitioned (rise_parted c.args.first c.args.ids.now c.requires) (λ a r q k. search (rules, of_calls)) in
    ltb-true _ _ (point.0 k 0 (omega arith) l)

pub returns-clause-above : goal.returns-clause-above
returns-clause-above c = λ k l m.
    let point = IsPartitionPoint-from_clause (λ id. nat_lt id c.args.first) _ _ c.partition_point.ensures.partitioned (rise_parted c.args.first c.args.ids.now c.requires) (λ a r q k. search (rules, of_calls)) in
    ltb-false _ _ (point.1 k 0 l m)
