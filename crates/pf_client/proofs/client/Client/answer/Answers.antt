use Rattle.std.proofs.Common.{rules, ◌≡◌, ◌∙◌, ap, refl, subst, Bool, Some, None, cond, is_some, nat_eq}
use Rattle.std.specs.BTreeMap.{get}
use Rattle.std.specs.Ordering.{nat_cmp}
use Rattle.pf_journal.specs.Scripts as script
use Rattle.pf_client.proofs.Answering.{answer_closed, answer_gone, answer_waits}
use Rattle.pf_client.proofs.Steps.{grows_same}
use Rattle.pf_client.proofs.Tallying.{counted_as}
use Rattle.pf_client.specs.Asks.{IsQueryAnswer, SlotRight, Slots}
use Rattle.pf_client.specs.Clients.{naming}
use Rattle.pf_client.specs.Going.{own_of}
use Rattle.pf_client.specs.declared.slots.Slot.TheVariants as slot
use Rattle.pf_client.proofs.client.Client.answer.Goals as goal

pub returns-in_default-clause-grows : goal.returns-in_default-clause-grows
returns-in_default-clause-grows g c = grows_same c.args.self.now.core c.args.self.now.core refl

pub returns-in-Asked-clause-step : goal.returns-in-Asked-clause-step
returns-in-Asked-clause-step g c known above hands k alone right kept have =
    let there : get nat_cmp c.args.self.now.slots c.args.asked ≡ Some (slot.Asked c.in-Asked.query) = search rules in
    let h = subst (SlotRight known above (own_of c.args.self.now.client c.args.self.now.core) c.args.asked) there right in
    answer_closed known (naming (own_of c.args.self.now.client c.args.self.now.core) above hands (script.answer c.args.id.now c.args.asked)) c.args.self.now c.answer_query.new.self
    (record c.answer_query.new.self { slots = c.forget.new.slots }) c.args.number c.args.id.now c.args.asked c.in-Asked.query refl refl refl there
    (λ j. c.forget.ensures j ∙ ap (λ (s : Slots). cond (nat_eq c.args.asked j) None (get nat_cmp s j)) c.in_ok-answered.ensures.slots)
    (subst (λ (b : Bool). IsQueryAnswer known (naming (own_of c.args.self.now.client c.args.self.now.core) above hands (script.answer c.args.id.now c.args.asked)) c.args.self.now
    (record { number = c.args.number; line = script.answer c.args.id.now c.args.asked }) c.in-Asked.query b c.answer_query.new.self) (ap is_some c.in-Some-2.is)
    (c.in_ok-answered.ensures.step known above hands c.args.asked k alone h have))

pub returns-in_default-2-clause-step : goal.returns-in_default-2-clause-step
returns-in_default-2-clause-step g c known above hands k alone right kept have =
    let there : get nat_cmp c.args.self.now.slots c.args.asked ≡ Some (slot.Asked c.in-Asked.query) = search rules in
    let h = subst (SlotRight known above (own_of c.args.self.now.client c.args.self.now.core) c.args.asked) there right in
    answer_waits known (naming (own_of c.args.self.now.client c.args.self.now.core) above hands (script.answer c.args.id.now c.args.asked)) c.args.self.now c.answer_query.new.self
    c.args.number c.args.id.now c.args.asked c.in-Asked.query c.in_ok-answered.ensures.slots
    (subst (λ (b : Bool). IsQueryAnswer known (naming (own_of c.args.self.now.client c.args.self.now.core) above hands (script.answer c.args.id.now c.args.asked)) c.args.self.now
    (record { number = c.args.number; line = script.answer c.args.id.now c.args.asked }) c.in-Asked.query b c.answer_query.new.self) (ap is_some c.in_default-2.is)
    (c.in_ok-answered.ensures.step known above hands c.args.asked k alone h have))

pub returns-clause-grows : goal.returns-clause-grows
returns-clause-grows g c = grows_same c.args.self.now.core c.answer_refused.new.self.core (search rules)

pub returns-clause-step : goal.returns-clause-step
returns-clause-step g c known above hands k alone right kept have =
    let there : get nat_cmp c.args.self.now.slots c.args.asked ≡ Some c.in-Some.slot = search rules in
    let h = subst (SlotRight known above (own_of c.args.self.now.client c.args.self.now.core) c.args.asked) there right in
    answer_gone known (naming (own_of c.args.self.now.client c.args.self.now.core) above hands (script.answer c.args.id.now c.args.asked)) c.args.self.now c.answer_refused.new.self
    (record c.answer_refused.new.self { slots = c.forget-2.new.slots }) c.args.number c.args.id.now c.args.asked c.in-Some.slot refl refl refl there c.in_default-slot.not-Asked
    (λ j. c.forget-2.ensures j ∙ ap (λ (s : Slots). cond (nat_eq c.args.asked j) None (get nat_cmp s j)) c.in_ok-answer_refused.ensures.slots)
    (c.in_ok-answer_refused.ensures.step known above hands c.args.asked h c.in_default-slot.not-Asked)

pub returns-clause-counted : goal.returns-clause-counted
returns-clause-counted g c = counted_as c.args.self.now.core c.answer_refused.new.self.core (search rules)
