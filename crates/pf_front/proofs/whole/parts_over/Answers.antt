-- One leg more.
use Rattle.std.proofs.Common.{◌+◌, List, sym, subst}
use Rattle.pf_front.proofs.LegParts.{first_more}
use Rattle.pf_front.specs.Settling.{AreFirstParts}
use Rattle.pf_front.proofs.whole.parts_over.Goals as goal
use Rattle.pf_shard.specs.declared.parts.Part.{Part}

pub loop-leg-preserved : goal.loop-leg-preserved
loop-leg-preserved c =
    subst (λ (ps : List Part). AreFirstParts c.args.legs.now c.args.snap.now c.args.run.now (c.loop-leg.leg + 1) ps) (sym c.in_ok-push.ensures.items)
    (first_more c.args.legs.now c.args.snap.now c.args.run.now c.loop-leg.leg c.loop-leg.parts.items c.in_ok-eval_leg.field-0 c.loop-leg.invariant
    c.in_ok-eval_leg.ensures.fits c.in_ok-eval_leg.ensures.value)
