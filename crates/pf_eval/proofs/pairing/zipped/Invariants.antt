use Rattle.std.proofs.Common.{◌≡◌, ◌++◌, drop}
use Rattle.pf_eval.specs.Zipped.{zipped}
use Rattle.pf_eval.proofs.pairing.zipped.Given as goal

abbrev pub invariant-loop-i : goal.invariant-loop-i
invariant-loop-i l = l.found.items ++ zipped l.op l.matching l.len (drop l.i l.lefts) l.rights ≡ zipped l.op l.matching l.len l.lefts l.rights
