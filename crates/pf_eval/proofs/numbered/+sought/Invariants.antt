use Rattle.std.proofs.Common.{drop}
use Rattle.pf_eval.proofs.NumberedNodes.{IsLeft, all_of}
use Rattle.pf_eval.proofs.numbered.+sought.Given as goal

abbrev pub invariant-sought_among-loop-arg : goal.invariant-sought_among-loop-arg
invariant-sought_among-loop-arg l = IsLeft (all_of l.args) (all_of (drop l.arg-index l.args)) l.number l.further
