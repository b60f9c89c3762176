use Rattle.pf_selectors.specs.Times.{Spans}
use Rattle.pf_selectors.proofs.times.Times.span_of_all.Given as goal

abbrev pub invariant-loop-i : goal.invariant-loop-i
invariant-loop-i l = Spans l.first l.last l.i l.self
