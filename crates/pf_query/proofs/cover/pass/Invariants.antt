use Rattle.std.proofs.Common.{◌≡◌, drop}
use Rattle.pf_query.specs.Covers.{beyond}
use Rattle.pf_query.proofs.cover.pass.Given as goal

abbrev pub invariant-loop-i : goal.invariant-loop-i
invariant-loop-i l = beyond l.whole (drop l.i l.runs) ≡ beyond l.whole (drop l.from l.runs)
