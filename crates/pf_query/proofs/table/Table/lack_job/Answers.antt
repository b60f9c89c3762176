use Rattle.std.proofs.Common.{rules, refl, arith}
use Rattle.pf_query.specs.Entries.{stopped_entry}
use Rattle.pf_query.specs.declared.stop.Stop.TheVariants.{Starved}
use Rattle.pf_query.proofs.Finishing.{lack_is, lack_table, lack_tried}
use Rattle.pf_query.proofs.Tabled.{told_tenant}
use Rattle.pf_query.proofs.Trying.{keeps_tried}
use Rattle.pf_query.proofs.table.Table.lack_job.Goals as goal

pub drop_waiting-requires-clause-known : goal.drop_waiting-requires-clause-known
drop_waiting-requires-clause-known c = told_tenant c.args.self.now c.args.held.head.query c.in-Some.state (search rules) c.requires

pub returns-clause-stopped : goal.returns-clause-stopped
returns-clause-stopped c =
    lack_is c.args.self.now _ c.args.held c.in-Some.state (search rules) c.requires Starved (λ n. n) c.release.new.self c.stop.ensures c.release.ensures.released
    c.drop_waiting.ensures.dropped (let a = c.release.ensures.tries in let b = c.drop_waiting.ensures.tries in omega (arith, a, b))
    (keeps_tried _ _ c.args.held.head.query (stopped_entry Starved) c.stop.ensures (λ e. refl))

pub returns-clause-table : goal.returns-clause-table
returns-clause-table c =
    lack_table c.args.self.now _ c.args.held c.in-Some.state (search rules) c.requires Starved (λ n. n) c.release.new.self c.stop.ensures c.release.ensures.released
    c.drop_waiting.ensures.dropped c.drop_waiting.ensures.queues
    (lack_tried c.args.self.now (record { entries = c.stop.new.entries; queues = c.drop_waiting.new.self }) c.args.held c.in-Some.state (search rules) c.requires Starved (λ n. n) c.release.new.self c.stop.ensures c.release.ensures.released
    c.drop_waiting.ensures.dropped refl (λ n. refl))
