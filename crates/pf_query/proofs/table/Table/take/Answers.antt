use Rattle.std.proofs.Common.{refl}
use Rattle.pf_query.proofs.Finishing.{taken_from, taken_table, takes_room}
use Rattle.pf_query.proofs.Tabled.{table_same}
use Rattle.pf_query.proofs.table.Table.take.Goals as goal

pub returns-in_err-held-clause-table : goal.returns-in_err-held-clause-table
returns-in_err-held-clause-table c = table_same c.args.self.now _ c.requires c.take.ensures.queues c.in_err-held.ensures.taken.1 (λ p. refl)

pub take-requires-2 : goal.take-requires-2
take-requires-2 c = takes_room c.args.self.now c.args.actor c.in_ok-held.held c.take.new.self c.requires c.in_ok-held.ensures.taken

pub returns-clause-taken : goal.returns-clause-taken
returns-clause-taken c =
    taken_from c.args.self.now _ c.args.actor c.in_ok-held.held c.requires c.in_ok-held.ensures.taken c.take-2.ensures c.in_ok-held.ensures.tries

pub returns-clause-table : goal.returns-clause-table
returns-clause-table c =
    taken_table c.args.self.now _ c.args.actor c.in_ok-held.held c.requires c.in_ok-held.ensures.taken c.take-2.ensures c.take.ensures.queues
