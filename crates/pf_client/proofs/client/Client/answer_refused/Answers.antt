use Rattle.std.proofs.Common.{rules}
use Rattle.pf_client.proofs.Answering.{step_unanswered, step_unanswered_starved}
use Rattle.pf_client.proofs.Cases.{on_ok_map}
use Rattle.pf_client.proofs.client.Client.answer_refused.Goals as goal

pub returns-in-Ok-clause-step : goal.returns-in-Ok-clause-step
returns-in-Ok-clause-step c =
    on_ok_map _ _ c.push_unanswered.result
    (λ said known above hands line right shut.
    step_unanswered known above hands c.args.self.now c.push_unanswered.new.self (search rules) c.args.number c.args.id.now line c.args.slot c.in-Ok.body (search rules) right shut (search rules) said)
    c.push_unanswered.ensures.said

pub returns-in-Err-clause-step : goal.returns-in-Err-clause-step
returns-in-Err-clause-step c =
    on_ok_map _ _ c.push_unanswered-in-Err.result
    (λ said known above hands line right shut.
    step_unanswered_starved known above hands c.args.self.now c.push_unanswered-in-Err.new.self (search rules) c.args.number c.args.id.now line c.args.slot (search rules) right shut said)
    c.push_unanswered-in-Err.ensures.said
