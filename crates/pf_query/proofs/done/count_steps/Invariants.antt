use Rattle.std.proofs.Common.{◌≡◌, ◌+◌, drop}
use Rattle.pf_extent.specs.Done.{steps_in}
use Rattle.pf_query.proofs.done.count_steps.Given as goal

abbrev pub invariant-loop-part : goal.invariant-loop-part
invariant-loop-part l = l.count + steps_in (drop l.part-index l.done) ≡ steps_in l.done
