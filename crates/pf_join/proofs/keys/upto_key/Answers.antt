use Rattle.std.proofs.Common.{Bool, rules, of_calls, not}
use Rattle.std.specs.Ordering.{is_gt}
use Rattle.std.proofs.lemmas.List.Sorted.{IsPartitionPoint-from_clause}
use Rattle.pf_base.specs.LabelOrder.{labels_cmp}
use Rattle.pf_join.specs.KeyedElements.{key_of}
use Rattle.pf_join.specs.declared.keys.Keyed.{Keyed}
use Rattle.pf_join.proofs.Finding.{front_is, upto_parted}
use Rattle.pf_join.proofs.keys.upto_key.Goals as goal

pub returns : goal.returns
returns c =
    let p : Keyed → Bool = λ x. not (is_gt (labels_cmp x.key c.args.key.now)) in
    let point = IsPartitionPoint-from_clause p _ _ c.partition_point-count.ensures.partitioned (upto_parted key_of c.args.key.now c.args.entries.now c.requires) (λ a r q k. search (rules, of_calls)) in
    front_is p c.args.entries.now c.partition_point-count.result c.partition_point-count.ensures.bound point.0 point.1
