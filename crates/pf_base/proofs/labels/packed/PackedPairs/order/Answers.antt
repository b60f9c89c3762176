use Rattle.std.proofs.Common.{◌≡◌, length, min, nat_cmp, arith, sym, ◌∙◌}
use Rattle.std.proofs.lemmas.Grind.{common_steps}
use Rattle.pf_base.proofs.LabelSteps.{order_end}
use Rattle.pf_base.proofs.labels.packed.PackedPairs.order.Goals as goal

pub returns : goal.returns
returns c =
    let e : c.loop-i.i ≡ min (length c.args.self.now) (length c.args.other.now) = omega arith in
    c.cmp.ensures ∙ (λ i. nat_cmp (c.count-3.ensures.value i) (c.count-4.ensures.value i)) ∙ sym (order_end c.args.self.now c.args.other.now c.loop-i.i e) ∙ c.loop-i.invariant

pub loop-i-preserved : goal.loop-i-preserved
loop-i-preserved c = grind (arith, common_steps)
