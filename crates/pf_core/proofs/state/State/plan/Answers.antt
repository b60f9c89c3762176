use Rattle.std.proofs.Common.{rules}
use Rattle.pf_core.proofs.Divided.{none_is}
use Rattle.pf_core.proofs.Planning.{divided_for, planned_whole}
use Rattle.pf_core.proofs.state.State.plan.Goals as goal

pub plan_over-requires-clause-divided : goal.plan_over-requires-clause-divided
plan_over-requires-clause-divided c =
    divided_for c.args.self.now c.args.query c.in-Some.open.now c.in_ok-found.field-0 c.is_none.result c.requires.state (search rules) c.in_ok-found.ensures
    (none_is c.in_ok-found.field-0.key c.is_none.result c.is_none.ensures)

pub returns-clause-ok : goal.returns-clause-ok
returns-clause-ok c =
    planned_whole c.args.self.now c.plan_over.new.self c.use_keys.new.self c.args.query c.in_ok-planned.planned c.in-Some.open.now c.in_ok-found.field-0
    c.requires.state (search rules) c.in_ok-found.ensures c.in_ok-planned.ensures.ok c.use_keys.ensures.same
    c.use_keys.ensures.used
