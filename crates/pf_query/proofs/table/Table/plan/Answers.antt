use Rattle.std.proofs.Common.{◌≤◌, rules, refl, arith, length}
use Rattle.std.proofs.lemmas.Grind.{common_steps}
use Rattle.std.specs.Arc.{arc_value}
use Rattle.pf_query.proofs.Slotted.{jobs_few}
use Rattle.pf_query.proofs.Tabled.{no_memory, planned_is, planned_table, refused, same_table, table_same, told_tenant}
use Rattle.pf_query.proofs.table.Table.plan.Goals as goal

pub add-requires-clause-known : goal.add-requires-clause-known
add-requires-clause-known c = told_tenant c.args.self.now c.args.query c.in-Some.state (search rules) c.requires.table

pub returns-in_err-add-clause-err : goal.returns-in_err-add-clause-err
returns-in_err-add-clause-err c =
    refused c.args.self.now _ c.args.query c.from_residual-in_err-add.result (search rules)
    (no_memory c.args.self.now c.args.query c.in-Some.state (search rules) (search rules) (search rules))
    (same_table c.args.self.now _ c.in_err-add.ensures.err c.in_err-add.ensures.err_tries (λ p. refl))

pub returns-in_err-add-clause-table : goal.returns-in_err-add-clause-table
returns-in_err-add-clause-table c = table_same c.args.self.now _ c.requires.table c.in_err-add.ensures.queues c.in_err-add.ensures.err (λ p. refl)

pub returns-clause-ok : goal.returns-clause-ok
returns-clause-ok c =
    planned_is c.args.self.now _ c.args.query c.in-Some.state (search rules) (search rules) (search rules) (arc_value c.args.legs) c.args.runs.items c.args.cached.items c.args.offered
    (arc_value c.args.snap.now) c.in_ok-jobs.jobs.items c.in_ok-work.work _ c.requires.table c.requires.lawful c.requires.few (search rules)
    c.in_ok-work.ensures (search rules) c.in_ok-add.ensures.ok c.plan.ensures c.in_ok-add.ensures.ok_tries

pub returns-clause-table : goal.returns-clause-table
returns-clause-table c =
    let many : length c.in_ok-jobs.jobs.items ≤ 2816256 =
    jobs_few (arc_value c.args.legs) (length c.in_ok-jobs.jobs.items) (length c.args.runs.items) c.requires.lawful c.requires.few (search rules) in
    planned_table c.args.self.now _ c.args.query c.in-Some.state (search rules) (search rules) (search rules) (arc_value c.args.legs) c.args.runs.items c.args.cached.items c.args.offered
    (arc_value c.args.snap.now) c.in_ok-jobs.jobs.items c.in_ok-work.work _ c.requires.table c.requires.lawful c.requires.few (search rules)
    c.in_ok-work.ensures (search rules) c.in_ok-add.ensures.ok c.plan.ensures c.in_ok-add.ensures.queues (omega (arith, many))

pub returns-clause-cached : goal.returns-clause-cached
returns-clause-cached c = grind (arith, common_steps)

pub returns-clause-err : goal.returns-clause-err
returns-clause-err c = grind (arith, common_steps)
