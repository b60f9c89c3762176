use Rattle.pf_front.proofs.whole.parts_over.Given as goal
use Rattle.pf_front.specs.Settling.{AreFirstParts}

abbrev pub invariant-loop-leg : goal.invariant-loop-leg
invariant-loop-leg l = AreFirstParts l.legs l.snap l.run l.leg l.parts.items
