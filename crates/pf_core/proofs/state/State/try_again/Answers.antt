use Rattle.std.proofs.Common.{refl}
use Rattle.pf_core.specs.States.{core_of}
use Rattle.pf_core.proofs.Answering.{tried_state, tries_again}
use Rattle.pf_core.proofs.Tries.{failed_tries}
use Rattle.pf_core.proofs.state.State.try_again.Goals as goal

pub returns-clause-state : goal.returns-clause-state
returns-clause-state c =
    tried_state c.args.self.now _ c.args.held _ c.requires.state
    (record { limits = refl; tenants = refl; queries = refl; reserved = refl; journal = refl }) (record { results = refl; failed = refl; total = refl })
    c.fail.ensures.table c.requires.ahead c.requires.stands c.fail.ensures.failed

pub returns-clause-tried : goal.returns-clause-tried
returns-clause-tried c =
    tries_again c.args.self.now _ c.args.held _ c.requires.state
    (record { limits = refl; tenants = refl; queries = refl; reserved = refl; journal = refl }) (record { results = refl; failed = refl; total = refl })
    c.fail.ensures.table c.fail.ensures.failed

pub returns-clause-tries : goal.returns-clause-tries
returns-clause-tries c =
    failed_tries (core_of c.args.self.now) (core_of (record c.args.self.now { table = c.fail.new.self })) c.args.self.now.table _ c.args.held _ refl refl c.requires.state.table c.fail.ensures.table c.fail.ensures.failed
