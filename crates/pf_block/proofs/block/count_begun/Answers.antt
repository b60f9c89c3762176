use Rattle.std.proofs.Common.{rules, of_calls, nat_le}
use Rattle.std.proofs.lemmas.List.Sorted.{IsPartitionPoint-from_clause}
use Rattle.pf_block.proofs.Runs.{begun_parted, count_is}
use Rattle.pf_block.proofs.block.count_begun.Goals as goal

pub returns-clause-value : goal.returns-clause-value
returns-clause-value c =
    let point = IsPartitionPoint-from_clause (λ r. nat_le r.1 c.args.place) _ _ c.partition_point.ensures.partitioned (begun_parted c.args.place c.args.runs.now c.requires) (λ a r q k. search (rules, of_calls)) in
    count_is (λ r. nat_le r.1 c.args.place) c.args.runs.now c.partition_point.result c.partition_point.ensures.bound point.0 point.1
