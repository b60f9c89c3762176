use Rattle.std.proofs.Common.{pos, sym, int_le, rules, arith, of_calls}
use Rattle.std.proofs.lemmas.Int.{ints}
use Rattle.std.proofs.lemmas.List.Sorted.{IsPartitionPoint-from_clause}
use Rattle.pf_model.specs.declared.cell.ErrorKind.TheVariants.{DoubleLabels}
use Rattle.pf_selectors.proofs.MomentErrors.{at_end, found_at, is_partitioned, missed_at}
use Rattle.pf_selectors.proofs.moments.earliest.Goals as goal

pub returns-then-place-bads : goal.returns-then-place-bads
returns-then-place-bads c =
    let point = IsPartitionPoint-from_clause (λ b. int_le b.time c.args.from) _ _ c.partition_point-place.ensures.partitioned (is_partitioned c.args.from c.args.bads.now c.requires) (λ a r q k. search (rules, of_calls)) in
    sym (at_end c.args.from c.args.to c.args.bads.now c.partition_point-place.result c.if-place-bads.true point.0)

pub returns-then-bad-to : goal.returns-then-bad-to
returns-then-bad-to c =
    let point = IsPartitionPoint-from_clause (λ b. int_le b.time c.args.from) _ _ c.partition_point-place.ensures.partitioned (is_partitioned c.args.from c.args.bads.now c.requires) (λ a r q k. search (rules, of_calls)) in
    found_at c.args.from c.args.to c.args.bads.now c.partition_point-place.result _ c.requires (omega arith) point.0 point.1 (omega (arith, ints, c.if-bad-to.true))

pub returns-else-bad-to : goal.returns-else-bad-to
returns-else-bad-to c =
    let point = IsPartitionPoint-from_clause (λ b. int_le b.time c.args.from) _ _ c.partition_point-place.ensures.partitioned (is_partitioned c.args.from c.args.bads.now c.requires) (λ a r q k. search (rules, of_calls)) in
    missed_at c.args.from c.args.to c.args.bads.now c.partition_point-place.result (record { time = pos 0; kind = DoubleLabels }) c.requires (omega arith) point.0 point.1 (omega (arith, ints, c.if-bad-to.false))
