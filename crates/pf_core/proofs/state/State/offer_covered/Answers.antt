use Rattle.std.proofs.Common.{rules, refl}
use Rattle.pf_core.proofs.Offering.{offers, offers_none, offers_state}
use Rattle.pf_core.proofs.state.State.offer_covered.Goals as goal

pub returns-then-not-is_covered-clause-offered : goal.returns-then-not-is_covered-clause-offered
returns-then-not-is_covered-clause-offered c = offers_none c.args.self.now c.args.query c.args.cells.now c.requires (search rules)

pub returns-clause-state : goal.returns-clause-state
returns-clause-state c =
    offers_state c.args.self.now _ c.args.query c.args.cells.now c.requires
    (record { limits = refl; tenants = refl; queries = refl; reserved = refl; journal = refl }) (record { results = refl; failed = refl; total = refl })
    c.offer.ensures.table (search rules) c.offer.ensures.offered

pub returns-clause-offered : goal.returns-clause-offered
returns-clause-offered c =
    offers c.args.self.now _ c.args.query c.args.cells.now c.requires
    (record { limits = refl; tenants = refl; queries = refl; reserved = refl; journal = refl }) (record { results = refl; failed = refl; total = refl })
    (search rules) c.offer.ensures.offered
