use Rattle.std.proofs.Common.{subst}
use Rattle.pf_core.specs.Calls.{TriesAfter}
use Rattle.pf_core.specs.Cores.{CoreData}
use Rattle.pf_core.specs.States.{core_of}
use Rattle.pf_core.proofs.Tries.{tries_counted}
use Rattle.pf_core.proofs.state.State.fail.Goals as goal

pub returns-clause-tries : goal.returns-clause-tries
returns-clause-tries c =
    tries_counted (core_of c.args.self.now) c.args.held.actor c.try_again.result (core_of c.try_again.new.self)
    (subst (λ (x : CoreData). TriesAfter x c.try_again.result (core_of c.try_again.new.self)) c.count_failed.ensures.counted c.try_again.ensures.tries)
