use Rattle.std.proofs.Common.{rules, of_calls}
use Rattle.std.specs.Prelude.{nat_lt}
use Rattle.std.proofs.lemmas.List.Sorted.{IsPartitionPoint-from_clause}
use Rattle.pf_extent.proofs.Places.{ended_is, is_partitioned}
use Rattle.pf_extent.proofs.list.count_ended.Goals as goal

pub returns : goal.returns
returns c =
    let point = IsPartitionPoint-from_clause (λ e. nat_lt e.last c.args.time) _ _ c.partition_point.ensures.partitioned (is_partitioned c.args.time c.args.extents.now c.requires) (λ a r q k. search (rules, of_calls)) in
    ended_is c.args.time c.args.extents.now c.partition_point.result c.partition_point.ensures.bound point.0 point.1
