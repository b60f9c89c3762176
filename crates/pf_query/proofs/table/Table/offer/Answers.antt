use Rattle.std.proofs.Common.{refl}
use Rattle.pf_query.proofs.Offering.{is_offered, offered_table}
use Rattle.pf_query.proofs.table.Table.offer.Goals as goal

pub returns-clause-offered : goal.returns-clause-offered
returns-clause-offered c = is_offered c.args.self.now _ c.args.query c.offer.ensures refl

pub returns-clause-table : goal.returns-clause-table
returns-clause-table c = offered_table c.args.self.now _ c.args.query c.offer.ensures refl c.requires c.requires.queues
