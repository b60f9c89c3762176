use Rattle.std.proofs.Common.{take}
use Rattle.pf_front.specs.Settling.{AreAllParts}
use Rattle.pf_front.proofs.whole.parts_over_all.Given as goal

abbrev pub invariant-loop-run : goal.invariant-loop-run
invariant-loop-run l = AreAllParts l.legs l.snap (take l.run-index l.runs) l.parts.items
