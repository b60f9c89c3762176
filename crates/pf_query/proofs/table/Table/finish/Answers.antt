use Rattle.std.proofs.Common.{rules, refl}
use Rattle.pf_query.proofs.Finishing.{goes_table, not_in_hand, released_same, stored_is, stored_room, stored_table}
use Rattle.pf_query.proofs.Tabled.{same_table, table_same}
use Rattle.pf_query.proofs.table.Table.finish.Goals as goal

pub returns-in-Some-stop-clause-table : goal.returns-in-Some-stop-clause-table
returns-in-Some-stop-clause-table c =
    goes_table c.args.self.now c.args.held c.in-Some.state (search rules) c.requires _ c.in-Some-stop.why (search rules) (λ p. refl)
    c.release-found.ensures.released c.release-found.ensures.queues

pub returns-then-not-found-clause-finished : goal.returns-then-not-found-clause-finished
returns-then-not-found-clause-finished c =
    not_in_hand c.args.self.now c.args.held c.in-Some.state (search rules) c.requires (search rules) (search rules) _
    (same_table c.args.self.now _ (released_same c.args.self.now.queues c.release-found.new.self c.args.held c.release-found.ensures.released (search rules))
    c.release-found.ensures.tries (λ p. refl))

pub returns-then-not-found-clause-table : goal.returns-then-not-found-clause-table
returns-then-not-found-clause-table c =
    table_same c.args.self.now _ c.requires c.release-found.ensures.queues
    (released_same c.args.self.now.queues c.release-found.new.self c.args.held c.release-found.ensures.released (search rules)) (λ p. refl)

pub store-requires : goal.store-requires
store-requires c = stored_room c.args.self.now c.args.held c.in-Some.state (search rules) c.requires (search rules) (search rules)

pub returns-clause-finished : goal.returns-clause-finished
returns-clause-finished c =
    stored_is c.args.self.now c.args.held c.in-Some.state (search rules) c.requires (search rules) (search rules) _ c.args.part
    c.release-found.ensures.released c.store.ensures c.release-found.ensures.tries

pub returns-clause-table : goal.returns-clause-table
returns-clause-table c =
    stored_table c.args.self.now c.args.held c.in-Some.state (search rules) c.requires (search rules) (search rules) _ c.args.part
    c.release-found.ensures.released c.store.ensures c.release-found.ensures.queues
