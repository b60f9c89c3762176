use Rattle.std.proofs.Common.{rules}
use Rattle.pf_query.proofs.Finishing.{stop_is_told, stop_table}
use Rattle.pf_query.proofs.Tabled.{told_tenant}
use Rattle.pf_query.proofs.table.Table.stop.Goals as goal

pub drop_waiting-requires-clause-known : goal.drop_waiting-requires-clause-known
drop_waiting-requires-clause-known c = told_tenant c.args.self.now c.args.query c.in-Some.state (search rules) c.requires.table

pub returns-clause-stopped : goal.returns-clause-stopped
returns-clause-stopped c =
    stop_is_told c.args.self.now _ c.args.query c.in-Some.state (search rules) c.requires.table c.args.why c.stop.ensures c.drop_waiting.ensures.dropped
    c.drop_waiting.ensures.tries

pub returns-clause-table : goal.returns-clause-table
returns-clause-table c =
    stop_table c.args.self.now _ c.args.query c.in-Some.state (search rules) c.requires.table c.args.why c.stop.ensures c.drop_waiting.ensures.dropped
    c.requires.untried c.drop_waiting.ensures.queues
