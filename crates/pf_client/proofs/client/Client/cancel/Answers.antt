use Rattle.std.proofs.Common.{rules, ◌≡◌, refl, subst, Some}
use Rattle.std.specs.BTreeMap.{get}
use Rattle.std.specs.Ordering.{nat_cmp}
use Rattle.pf_client.proofs.Cancelling.{step_unfound}
use Rattle.pf_client.proofs.Steps.{grows_same}
use Rattle.pf_client.specs.Asks.{SlotRight}
use Rattle.pf_client.specs.Going.{own_of}
use Rattle.pf_client.specs.declared.slots.Slot.TheVariants as slot
use Rattle.pf_client.proofs.client.Client.cancel.Goals as goal

pub returns-in_ok-cancel_query-in-Some-clause-step : goal.returns-in_ok-cancel_query-in-Some-clause-step
returns-in_ok-cancel_query-in-Some-clause-step c known above hands k alone right =
    let found : get nat_cmp c.args.self.now.slots c.args.asked ≡ Some (slot.Asked c.in-Some.query) = search rules in
    c.in_ok-cancel_query-in-Some.ensures.step known above hands c.args.asked k alone
    (subst (SlotRight known above (own_of c.args.self.now.client c.args.self.now.core) c.args.asked) found right)

pub returns-in_ok-push_cancel_reply-in-None-clause-step : goal.returns-in_ok-push_cancel_reply-in-None-clause-step
returns-in_ok-push_cancel_reply-in-None-clause-step c known above hands k alone right =
    step_unfound known above hands c.args.self.now _ c.args.number c.args.id.now c.args.asked c.args.tenant.now (get nat_cmp c.args.self.now.slots c.args.asked)
    refl refl (search rules) right (search rules)

pub returns-in_ok-push_cancel_reply-in-None-clause-grows : goal.returns-in_ok-push_cancel_reply-in-None-clause-grows
returns-in_ok-push_cancel_reply-in-None-clause-grows c = grows_same c.args.self.now.core _ refl
