use Rattle.std.proofs.Common.{refl}
use Rattle.pf_core.proofs.Answering.{finished_state, finishes}
use Rattle.pf_core.proofs.Tries.{finished_tries}
use Rattle.pf_core.proofs.state.State.finish.Goals as goal

pub returns-clause-state : goal.returns-clause-state
returns-clause-state c =
    finished_state c.args.self.now _ c.args.held c.args.part _ c.requires.state
    (record { limits = refl; tenants = refl; queries = refl; reserved = refl; journal = refl }) (record { results = refl; failed = refl; total = refl })
    c.finish.ensures.table c.requires.stands c.requires.part c.finish.ensures.finished

pub returns-clause-finished : goal.returns-clause-finished
returns-clause-finished c =
    finishes c.args.self.now _ c.args.held c.args.part _ c.requires.state
    (record { limits = refl; tenants = refl; queries = refl; reserved = refl; journal = refl }) (record { results = refl; failed = refl; total = refl })
    c.finish.ensures.table c.finish.ensures.finished

pub returns-clause-tries : goal.returns-clause-tries
returns-clause-tries c =
    finished_tries c.args.self.now.table _ c.args.held c.args.part _ c.requires.state.table c.finish.ensures.table c.finish.ensures.finished
