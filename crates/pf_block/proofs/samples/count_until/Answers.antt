use Rattle.std.proofs.Common.{rules, of_calls, int_le}
use Rattle.std.proofs.lemmas.List.Sorted.{IsPartitionPoint-from_clause}
use Rattle.pf_block.proofs.Searches.{is_partitioned, until_is}
use Rattle.pf_block.proofs.samples.count_until.Goals as goal

pub returns-clause-value : goal.returns-clause-value
returns-clause-value c =
    let point = IsPartitionPoint-from_clause (λ s. int_le s.time c.args.time) _ _ c.partition_point.ensures.partitioned (is_partitioned c.args.time c.args.samples.now c.requires) (λ a r q k. search (rules, of_calls)) in
    until_is c.args.time c.args.samples.now c.partition_point.result c.partition_point.ensures.bound point.0 point.1
