use Rattle.std.proofs.Common.{refl}
use Rattle.pf_core.proofs.Answering.{lacks_job, lacks_job_state}
use Rattle.pf_core.proofs.Tries.{lacked_tries}
use Rattle.pf_core.proofs.state.State.lack_job.Goals as goal

pub returns-clause-state : goal.returns-clause-state
returns-clause-state c =
    lacks_job_state c.args.self.now _ c.args.held c.requires.state
    (record { limits = refl; tenants = refl; queries = refl; reserved = refl; journal = refl }) (record { results = refl; failed = refl; total = refl })
    c.lack_job.ensures.table c.lack_job.ensures.stopped

pub returns-clause-lacked : goal.returns-clause-lacked
returns-clause-lacked c =
    lacks_job c.args.self.now _ c.args.held c.requires.state
    (record { limits = refl; tenants = refl; queries = refl; reserved = refl; journal = refl }) (record { results = refl; failed = refl; total = refl })
    c.lack_job.ensures.table c.lack_job.ensures.stopped

pub returns-clause-tries : goal.returns-clause-tries
returns-clause-tries c =
    lacked_tries c.args.self.now.table _ c.args.held c.requires.state.table c.lack_job.ensures.table c.lack_job.ensures.stopped
