use Rattle.std.proofs.Common.{Bool, rules, of_calls}
use Rattle.std.specs.Ordering.{is_lt}
use Rattle.std.proofs.lemmas.List.Sorted.{IsPartitionPoint-from_clause}
use Rattle.pf_base.specs.LabelOrder.{labels_cmp}
use Rattle.pf_join.specs.KeyPlaces.{key_of}
use Rattle.pf_join.specs.declared.places.KeyPlace.{KeyPlace}
use Rattle.pf_join.proofs.Finding.{back_is, below_parted}
use Rattle.pf_join.proofs.places.lesser.Goals as goal

pub returns-clause-rest : goal.returns-clause-rest
returns-clause-rest c =
    let p : KeyPlace → Bool = λ x. is_lt (labels_cmp x.key c.args.key.now) in
    let point = IsPartitionPoint-from_clause p _ _ c.partition_point.ensures.partitioned (below_parted key_of c.args.key.now c.args.entries.now c.requires) (λ a r q k. search (rules, of_calls)) in
    back_is p c.args.entries.now c.partition_point.result c.partition_point.ensures.bound point.0 point.1
