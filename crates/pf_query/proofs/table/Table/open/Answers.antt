use Rattle.std.proofs.Common.{refl}
use Rattle.pf_query.proofs.Tabled.{are_same, opened_table, table_same}
use Rattle.pf_query.proofs.table.Table.open.Goals as goal

pub returns-in_err-add-clause-table : goal.returns-in_err-add-clause-table
returns-in_err-add-clause-table c = table_same c.args.self.now _ c.requires.table c.requires.table.queues (are_same _ _ refl) c.in_err-add.ensures.err

pub returns-clause-table : goal.returns-clause-table
returns-clause-table c =
    opened_table c.args.self.now _ c.args.query c.args.tenant c.requires.table c.requires.fresh c.requires.known c.in_ok-add.ensures.ok refl c.requires.table.queues
