use Rattle.std.proofs.Common.{refl}
use Rattle.pf_core.proofs.Planning.{uses_state}
use Rattle.pf_core.proofs.state.State.use_keys.Goals as goal

pub returns-in-Some-clause-state : goal.returns-in-Some-clause-state
returns-in-Some-clause-state c =
    uses_state c.args.self.now _ c.requires
    (record { history = record { limits = refl; tenants = refl; queries = refl; reserved = refl; journal = refl }; table = refl; failed = refl; total = refl })
    (λ rules logs. c.touch_all.ensures.kept rules logs)
