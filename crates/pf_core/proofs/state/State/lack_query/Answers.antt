use Rattle.std.proofs.Common.{refl}
use Rattle.pf_core.proofs.Answering.{lacks_query, lacks_query_state}
use Rattle.pf_core.proofs.state.State.lack_query.Goals as goal

pub returns-clause-state : goal.returns-clause-state
returns-clause-state c =
    lacks_query_state c.args.self.now _ c.args.query c.requires.state
    (record { limits = refl; tenants = refl; queries = refl; reserved = refl; journal = refl }) (record { results = refl; failed = refl; total = refl })
    c.lack_query.ensures.table c.lack_query.ensures.stopped

pub returns-clause-lacked : goal.returns-clause-lacked
returns-clause-lacked c =
    lacks_query c.args.self.now _ c.args.query c.requires.state
    (record { limits = refl; tenants = refl; queries = refl; reserved = refl; journal = refl }) (record { results = refl; failed = refl; total = refl })
    c.lack_query.ensures.table c.lack_query.ensures.stopped
