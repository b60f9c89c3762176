-- One hop for each actor so far.
use Rattle.std.proofs.Common.{◌≡◌, vec_len}
use Rattle.cases.proofs.hops.hops_of.Given as goal

abbrev pub invariant-loop-actor : goal.invariant-loop-actor
invariant-loop-actor l = vec_len l.hops ≡ l.actor
