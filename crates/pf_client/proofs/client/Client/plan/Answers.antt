use Rattle.std.proofs.Common.{rules, ◌≡◌, refl, subst, Some}
use Rattle.std.specs.BTreeMap.{get}
use Rattle.std.specs.Ordering.{nat_cmp}
use Rattle.pf_report.specs.Steps.{plan_of}
use Rattle.pf_client.proofs.Cases.{on_ok_all, on_ok_map}
use Rattle.pf_client.proofs.StepLines.{open_still, step_planned, step_unplanned}
use Rattle.pf_client.proofs.Steps.{grows_same, grows_works}
use Rattle.pf_client.specs.Asks.{SlotRight}
use Rattle.pf_client.specs.Going.{own_of}
use Rattle.pf_client.specs.declared.slots.Slot.TheVariants as slot
use Rattle.pf_client.proofs.client.Client.plan.Goals as goal

pub returns-in-Some-clause-step : goal.returns-in-Some-clause-step
returns-in-Some-clause-step c =
    on_ok_map _ _ c.push_plan_reply.result
    (λ said known above hands k alone right kept.
    let found : get nat_cmp c.args.self.now.slots c.args.asked ≡ Some (slot.Asked c.in-Some.query) = search rules in
    let h = subst (SlotRight known above (own_of c.args.self.now.client c.args.self.now.core) c.args.asked) found right in
    step_planned known above hands c.args.self.now (record c.plan_query-reply.new.self { out = c.push_plan_reply.new.out }) c.plan_query-reply.ensures.hands c.args.number c.args.id.now c.args.asked
    c.in-Some.query (plan_of c.plan_query-reply.result) h
    (λ e. open_still c.args.self.now.client known above c.args.self.now.core c.plan_query-reply.new.self.core c.args.asked c.in-Some.query h alone c.plan_query-reply.ensures.works.history c.plan_query-reply.ensures.stands
    (c.plan_query-reply.ensures.refused e))
    c.plan_query-reply.ensures.works (search rules))
    c.push_plan_reply.ensures.ok

pub returns-in-Some-clause-grows : goal.returns-in-Some-clause-grows
returns-in-Some-clause-grows c = on_ok_all _ c.push_plan_reply.result (grows_works c.args.self.now.core c.plan_query-reply.new.self.core c.plan_query-reply.ensures.works)

pub returns-in-None-clause-step : goal.returns-in-None-clause-step
returns-in-None-clause-step c =
    on_ok_map _ _ c.push_plan_reply-in-None.result
    (λ said known above hands k alone right kept.
    step_unplanned known above hands c.args.self.now (record c.args.self.now { out = c.push_plan_reply-in-None.new.out }) refl c.args.number c.args.id.now c.args.asked
    (get nat_cmp c.args.self.now.slots c.args.asked) refl (search rules) kept right (search rules))
    c.push_plan_reply-in-None.ensures.ok

pub returns-in-None-clause-grows : goal.returns-in-None-clause-grows
returns-in-None-clause-grows c = on_ok_all _ c.push_plan_reply-in-None.result (grows_same c.args.self.now.core c.args.self.now.core refl)
