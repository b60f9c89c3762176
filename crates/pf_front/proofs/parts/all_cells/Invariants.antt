use Rattle.pf_front.proofs.Merged.{AreMerged}
use Rattle.pf_front.proofs.parts.all_cells.Given as goal

abbrev pub invariant-loop-run : goal.invariant-loop-run
invariant-loop-run l = AreMerged l.legs l.runs l.fn.parts.items l.run-index l.left.items l.found.items
