use Rattle.std.proofs.Common.{arith}
use Rattle.std.proofs.Common.{rules, ◌≡◌, None, length, sym, subst, ℕ}
use Rattle.std.proofs.lemmas.Grind.{common_steps}
use Rattle.pf_core.proofs.Looked.{on_err, unsettled}
use Rattle.pf_core.proofs.OpenQueries.{settled_inside}
use Rattle.pf_core.proofs.Standing.{unopened}
use Rattle.pf_core.proofs.state.State.open_query.Goals as goal
use Rattle.pf_query.specs.Tables.{entry_in}
use Rattle.pf_query.specs.declared.table.Table.{Table}

pub open-requires-clause-fresh : goal.open-requires-clause-fresh
open-requires-clause-fresh c =
    let at : c.len-place.result ≡ length c.args.self.now.journal.items = search rules in
    subst (λ (t : Table). entry_in t c.len-place.result ≡ None) (sym c.make_room.ensures.jobs.table)
    (subst (λ (n : ℕ). entry_in c.args.self.now.table n ≡ None) (sym at) (unopened c.args.self.now c.requires.state))

pub returns-in_err-settle_for-clause-err : goal.returns-in_err-settle_for-clause-err
returns-in_err-settle_for-clause-err c =
    let at : c.len-place.result ≡ length c.args.self.now.journal.items = search rules in
    let e = c.in_err-settle_for.ensures.err in
    on_err _ _ (unsettled c.args.self.now c.settle_for.new.self c.make_room.new.self.table c.open.new.self c.len-place.result c.args.seat.number c.requires.state
    (subst (λ (n : ℕ). entry_in c.args.self.now.table n ≡ None) (sym at) (unopened c.args.self.now c.requires.state)) c.make_room.ensures.jobs.table
    c.in_ok-open.ensures.ok e.closed e.table (search rules) (search rules) (search rules) (search rules) (search rules) (search rules) (search rules) (search rules) (search rules))

pub set_count-requires : goal.set_count-requires
set_count-requires c =
    settled_inside c.args.self.now.tenants c.settle_for.new.self.tenants c.args.seat.number c.args.seat.log c.args.seat.newcomer
    c.requires.tenants c.requires.free (search rules)

pub returns-clause-pin : goal.returns-clause-pin
returns-clause-pin c = grind (arith, common_steps)

pub returns-clause-ok : goal.returns-clause-ok
returns-clause-ok c = grind (arith, common_steps)

pub returns-clause-opened : goal.returns-clause-opened
returns-clause-opened c = grind (arith, common_steps)

pub returns-clause-table : goal.returns-clause-table
returns-clause-table c = grind (arith, common_steps)

pub returns-clause-failures : goal.returns-clause-failures
returns-clause-failures c = grind (arith, common_steps)

pub returns-clause-err : goal.returns-clause-err
returns-clause-err c = grind (arith, common_steps)
