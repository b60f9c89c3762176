use Rattle.std.proofs.Common.{refl}
use Rattle.pf_core.proofs.Collecting.{collect_core, collect_state}
use Rattle.pf_core.proofs.Tries.{collect_tries}
use Rattle.pf_core.proofs.state.State.collect.Goals as goal

pub returns-clause-state : goal.returns-clause-state
returns-clause-state c =
    collect_state c.args.self.now _ c.args.query _ c.requires.state
    (record { limits = refl; tenants = refl; queries = refl; reserved = refl; journal = refl }) (record { results = refl; failed = refl; total = refl })
    c.collect.ensures.table c.collect.ensures.collected

pub returns-clause-collected : goal.returns-clause-collected
returns-clause-collected c =
    collect_core c.args.self.now _ c.args.query _ c.requires.state
    (record { limits = refl; tenants = refl; queries = refl; reserved = refl; journal = refl }) (record { results = refl; failed = refl; total = refl })
    c.collect.ensures.collected

pub returns-clause-tries : goal.returns-clause-tries
returns-clause-tries c =
    collect_tries c.args.self.now.table _ c.args.query _ c.requires.state.table c.collect.ensures.table c.collect.ensures.collected
