use Rattle.std.proofs.Common.{rules, refl}
use Rattle.std.specs.Arc.{arc_value}
use Rattle.pf_client.proofs.Answering.{grows_replied, grows_waits, step_answered, step_waiting}
use Rattle.pf_client.proofs.Cancelling.{absent}
use Rattle.pf_client.proofs.Steps.{grows_same}
use Rattle.pf_client.proofs.Tallying.{counted_reply, counted_waits}
use Rattle.pf_client.proofs.client.Client.answer_query.Goals as goal

pub returns-in_default-clause-step : goal.returns-in_default-clause-step
returns-in_default-clause-step g c known above hands line k alone h have =
    absurd (absent c.args.self.now.client known above c.args.self.now.core line c.args.query h alone (search rules) (search rules))

pub returns-in_default-clause-grows : goal.returns-in_default-clause-grows
returns-in_default-clause-grows g c = grows_same c.args.self.now.core _ refl

pub returns-in_ok-push_waiting-in-Waits-clause-step : goal.returns-in_ok-push_waiting-in-Waits-clause-step
returns-in_ok-push_waiting-in-Waits-clause-step g c known above hands line k alone h have =
    step_waiting known above hands c.args.self.now _ refl c.args.number c.args.id.now line c.args.query c.in-Waits.jobs alone (search rules) have h {before = g.H.Hop.faults c.args.hop.now} {after = g.H.Hop.faults c.answer.new.hop} (search rules) (search rules)

pub returns-in_ok-push_waiting-in-Waits-clause-grows : goal.returns-in_ok-push_waiting-in-Waits-clause-grows
returns-in_ok-push_waiting-in-Waits-clause-grows g c = grows_waits c.args.self.now.core _ c.args.query c.in-Waits.jobs (search rules)

pub returns-in_ok-push_answered-in-Answered-clause-step : goal.returns-in_ok-push_answered-in-Answered-clause-step
returns-in_ok-push_answered-in-Answered-clause-step g c known above hands line k alone h have =
    step_answered known above hands c.args.self.now _ refl c.args.number c.args.id.now line c.by-by.result c.args.query c.in-Answered.reply
    c.in-Some.ensures.found.opened (arc_value c.in-Some.opened.asked.now) c.body_of-body.result k h {before = g.H.Hop.faults c.args.hop.now} {after = g.H.Hop.faults c.answer.new.hop} (search rules) (search rules) (search rules) (search rules)
    c.in-Some.ensures.found.is_open c.in-Some.ensures.found.asked (search rules) (search rules)

pub returns-in_ok-push_answered-in-Answered-clause-grows : goal.returns-in_ok-push_answered-in-Answered-clause-grows
returns-in_ok-push_answered-in-Answered-clause-grows g c = grows_replied c.args.self.now.core _ c.by-by.result c.args.query c.in-Answered.reply (search rules)

pub returns-in_ok-push_waiting-in-Waits-clause-counted : goal.returns-in_ok-push_waiting-in-Waits-clause-counted
returns-in_ok-push_waiting-in-Waits-clause-counted g c = counted_waits {before = g.H.Hop.faults c.args.hop.now} {after = g.H.Hop.faults c.answer.new.hop} c.args.self.now.core c.answer.new.core c.args.query c.in-Waits.jobs (search rules)

pub returns-in_ok-push_answered-in-Answered-clause-counted : goal.returns-in_ok-push_answered-in-Answered-clause-counted
returns-in_ok-push_answered-in-Answered-clause-counted g c =
    counted_reply {before = g.H.Hop.faults c.args.hop.now} {after = g.H.Hop.faults c.answer.new.hop} c.args.self.now.core c.answer.new.core c.by-by.result c.args.query c.in-Answered.reply (arc_value c.in-Some.opened.asked.now).instant (arc_value c.in-Some.opened.asked.now).kind
    c.body_of-body.result (search rules) (search rules)
