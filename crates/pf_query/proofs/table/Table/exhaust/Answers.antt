use Rattle.std.proofs.Common.{rules, refl, arith}
use Rattle.pf_query.specs.Entries.{one_more}
use Rattle.pf_query.specs.declared.stop.Stop.TheVariants.{Exhausted}
use Rattle.pf_query.proofs.Finishing.{exhausted_is, exhausted_tried, held_is, lack_table, not_in_hand, released_same}
use Rattle.pf_query.proofs.Tabled.{same_table, table_same, told_tenant}
use Rattle.pf_query.proofs.table.Table.exhaust.Goals as goal

pub drop_waiting-requires-clause-known : goal.drop_waiting-requires-clause-known
drop_waiting-requires-clause-known c = told_tenant c.args.self.now c.args.held.head.query c.args.state c.requires.told c.requires.table

pub returns-then-not-release-clause-failed : goal.returns-then-not-release-clause-failed
returns-then-not-release-clause-failed c =
    not_in_hand c.args.self.now c.args.held c.args.state c.requires.told c.requires.table c.requires.running (search rules) _
    (same_table c.args.self.now _ (released_same c.args.self.now.queues c.release.new.self c.args.held c.release.ensures.released (search rules))
    c.release.ensures.tries (λ p. refl))

pub returns-then-not-release-clause-table : goal.returns-then-not-release-clause-table
returns-then-not-release-clause-table c =
    table_same c.args.self.now _ c.requires.table c.release.ensures.queues
    (released_same c.args.self.now.queues c.release.new.self c.args.held c.release.ensures.released (search rules)) (λ p. refl)

pub returns-clause-failed : goal.returns-clause-failed
returns-clause-failed c =
    let k = held_is c.args.self.now c.args.held c.args.state c.requires.told c.requires.table c.requires.running (search rules) in
    let few = k.head.tries in
    let last = c.requires.last in
    exhausted_is c.args.self.now _ c.args.held c.args.state c.requires.told c.requires.table (Exhausted c.args.held.head.job) one_more c.release.new.self
    c.exhaust.ensures c.release.ensures.released c.drop_waiting.ensures.dropped c.requires.running (search rules) refl (λ n. refl) (omega (arith, few, last))
    (let a = c.release.ensures.tries in let b = c.drop_waiting.ensures.tries in omega (arith, a, b))

pub returns-clause-table : goal.returns-clause-table
returns-clause-table c =
    let k = held_is c.args.self.now c.args.held c.args.state c.requires.told c.requires.table c.requires.running (search rules) in
    let few = k.head.tries in
    let last = c.requires.last in
    lack_table c.args.self.now _ c.args.held c.args.state c.requires.told c.requires.table (Exhausted c.args.held.head.job) one_more c.release.new.self
    c.exhaust.ensures c.release.ensures.released c.drop_waiting.ensures.dropped c.drop_waiting.ensures.queues
    (exhausted_tried c.args.self.now (record { entries = c.exhaust.new.entries; queues = c.drop_waiting.new.self }) c.args.held c.args.state c.requires.told c.requires.table (Exhausted c.args.held.head.job) one_more c.release.new.self
    c.exhaust.ensures c.release.ensures.released c.drop_waiting.ensures.dropped c.requires.running (search rules) refl (λ n. refl) (omega (arith, few, last)))
