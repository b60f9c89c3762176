use Rattle.std.proofs.Common.{◌≡◌, drop, filter, []}
use Rattle.pf_model.specs.InstantFunctions.{is_absent_label, with_matchers}
use Rattle.pf_math.proofs.absent.labels_of.Given as goal

abbrev pub invariant-loop-i : goal.invariant-loop-i
invariant-loop-i l = l.labels ≡ with_matchers (filter (is_absent_label l.matchers) (drop l.i l.matchers)) []
