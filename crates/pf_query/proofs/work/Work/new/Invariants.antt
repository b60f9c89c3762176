use Rattle.std.proofs.Common.{◌≡◌}
use Rattle.pf_query.specs.Works.{empty_slots}
use Rattle.pf_query.proofs.work.Work.new.Given as goal

abbrev pub invariant-loop-job : goal.invariant-loop-job
invariant-loop-job l = l.slots.items ≡ empty_slots l._job
