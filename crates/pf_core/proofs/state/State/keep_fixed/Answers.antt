use Rattle.std.proofs.Common.{rules, refl}
use Rattle.pf_core.proofs.Offering.{fixed_state}
use Rattle.pf_core.proofs.state.State.keep_fixed.Goals as goal

pub returns-clause-state : goal.returns-clause-state
returns-clause-state c =
    fixed_state c.args.self.now _ c.args.query c.in-Some.open.now c.args.cells.now c.requires.state (search rules) c.requires.keepable
    (record { history = record { limits = refl; tenants = refl; queries = refl; reserved = refl; journal = refl }; table = refl; failed = refl; total = refl })
    c.keep_of.ensures.kept
