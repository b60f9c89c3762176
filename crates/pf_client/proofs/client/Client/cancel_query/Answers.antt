use Rattle.std.proofs.Common.{rules, refl}
use Rattle.pf_client.proofs.Cancelling.{absent, grows_cancelled, step_again, step_cancelled, step_others}
use Rattle.pf_client.proofs.Steps.{grows_same}
use Rattle.pf_client.proofs.client.Client.cancel_query.Goals as goal

pub returns-in_ok-push_cancel_reply-in-Done-clause-step : goal.returns-in_ok-push_cancel_reply-in-Done-clause-step
returns-in_ok-push_cancel_reply-in-Done-clause-step c known above hands line k alone h =
    step_cancelled known above hands c.args.self.now _ refl c.args.number c.args.id.now line c.args.query h c.args.tenant.now
    c.by-by.result k alone (search rules) (search rules) (search rules) (search rules) (search rules) (search rules) (search rules)

pub returns-in_ok-push_cancel_reply-in-Done-clause-grows : goal.returns-in_ok-push_cancel_reply-in-Done-clause-grows
returns-in_ok-push_cancel_reply-in-Done-clause-grows c =
    grows_cancelled c.args.self.now.core _ c.by-by.result c.args.query c.args.tenant.now (search rules) (search rules) (search rules)

pub returns-in_ok-tell_owner-in-OtherTenant-clause-step : goal.returns-in_ok-tell_owner-in-OtherTenant-clause-step
returns-in_ok-tell_owner-in-OtherTenant-clause-step c known above hands line k alone h =
    step_others known above hands c.args.self.now c.tell_owner.new.self (search rules) c.args.number c.args.id.now line c.args.query h c.args.tenant.now
    c.in-OtherTenant.owner k alone (search rules) (search rules) (search rules) (λ name g. c.in_ok-tell_owner-in-OtherTenant.ensures.said name (search rules))

pub returns-in_ok-tell_owner-in-OtherTenant-clause-grows : goal.returns-in_ok-tell_owner-in-OtherTenant-clause-grows
returns-in_ok-tell_owner-in-OtherTenant-clause-grows c = grows_same c.args.self.now.core _ (search rules)

pub returns-in_ok-push_cancel_reply-in-Already-clause-step : goal.returns-in_ok-push_cancel_reply-in-Already-clause-step
returns-in_ok-push_cancel_reply-in-Already-clause-step c known above hands line k alone h =
    step_again known above hands c.args.self.now _ refl c.args.number c.args.id.now line c.args.query h c.args.tenant.now
    c.in-Already.place k alone (search rules) (search rules) (search rules) (search rules)

pub returns-in_ok-push_cancel_reply-in-Already-clause-grows : goal.returns-in_ok-push_cancel_reply-in-Already-clause-grows
returns-in_ok-push_cancel_reply-in-Already-clause-grows c = grows_same c.args.self.now.core _ (search rules)

pub returns-in-NotOutstanding-clause-step : goal.returns-in-NotOutstanding-clause-step
returns-in-NotOutstanding-clause-step c known above hands line k alone h =
    absurd (absent c.args.self.now.client known above c.args.self.now.core line c.args.query h alone (search rules) (search rules))

pub returns-in-NotOutstanding-clause-grows : goal.returns-in-NotOutstanding-clause-grows
returns-in-NotOutstanding-clause-grows c = grows_same c.args.self.now.core _ (search rules)
