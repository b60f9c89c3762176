use Rattle.std.proofs.Common.{◌≡◌, ◌++◌, drop}
use Rattle.pf_eval.specs.Zipped.{met}
use Rattle.pf_eval.proofs.pairing.met.Given as goal

abbrev pub invariant-loop-column : goal.invariant-loop-column
invariant-loop-column l = l.found.items ++ met l.wanted l.matching l.len l.others (drop l.column-index l.columns) ≡ met l.wanted l.matching l.len l.others l.columns
