use Rattle.std.proofs.Common.{arith}
use Rattle.std.proofs.Common.{rules, ◌≡◌, length, min, ap, ◌∙◌}
use Rattle.std.proofs.lemmas.Grind.{common_steps}
use Rattle.pf_shard.proofs.JoinedColumns.{all_added}
use Rattle.pf_shard.proofs.merging.add_all.Goals as goal

pub returns : goal.returns
returns c =
    let many : c.len.result ≡ length c.args.known.now.items = search rules in
    all_added _ _ _ _ c.loop-i.i c.min-count.result c.loop-i.invariant.many
    (c.min-count.ensures ∙ ap (λ m. min m (length c.args.more.now)) many) c.loop-i.auto.i-end c.loop-i-test.false c.loop-i.invariant.same
    c.in_ok-extend_from_slice.ensures.items

pub loop-i-preserved : goal.loop-i-preserved
loop-i-preserved c = grind (arith, common_steps)
