use Rattle.std.proofs.Common.{refl}
use Rattle.pf_core.proofs.Answering.{takes, takes_state}
use Rattle.pf_core.proofs.state.State.take.Goals as goal

pub returns-clause-state : goal.returns-clause-state
returns-clause-state c =
    takes_state c.args.self.now _ c.args.actor _ c.requires.state (record { limits = refl; tenants = refl; queries = refl; reserved = refl; journal = refl })
    (record { results = refl; failed = refl; total = refl }) c.take.ensures.table c.take.ensures.taken

pub returns-clause-taken : goal.returns-clause-taken
returns-clause-taken c =
    takes c.args.self.now _ c.args.actor _ c.requires.state (record { limits = refl; tenants = refl; queries = refl; reserved = refl; journal = refl })
    (record { results = refl; failed = refl; total = refl }) c.take.ensures.table c.take.ensures.taken
