use Rattle.std.proofs.Common.{rules}
use Rattle.std.specs.Arc.{arc_value}
use Rattle.pf_client.proofs.Asking.{starved_ask, step_refused}
use Rattle.pf_client.proofs.FileReads.{asked_found, asked_refused, refused_slot}
use Rattle.pf_client.proofs.Cases.{if_ok_map}
use Rattle.pf_client.proofs.Steps.{grows_if, grows_same}
use Rattle.pf_types.specs.Errors.{words_of_error}
use Rattle.pf_types.specs.Asking.{grid_in, is_instant}
use Rattle.pf_client.specs.declared.slots.Slot.TheVariants as slot
use Rattle.pf_client.proofs.client.Client.ask_read.Goals as goal

pub returns-in-Ok-clause-runs : goal.returns-in-Ok-clause-runs
returns-in-Ok-clause-runs c =
    if_ok_map _ _ c.ask_over.result
    (λ r run known line own_it readings wanted. run known line own_it
    (asked_found c.args.queries.now c.args.query.now c.in-Some.read.now c.in-Lawful.query known line (is_instant c.args.when) (grid_in c.args.when) (arc_value c.in-Ok.asked)
    (search rules) (search rules) (search rules) readings wanted))
    c.ask_over.ensures.runs

pub returns-in-Err-clause-runs : goal.returns-in-Err-clause-runs
returns-in-Err-clause-runs c =
    if_ok_map _ _ c.starve_ask.result (λ r h known line own_it readings wanted. h known line own_it)
    (starved_ask c.args.self.now c.starve_ask.new.self c.args.number c.args.id.now c.args.tenant.now c.starve_ask.result
    c.starve_ask.ensures.on (search rules) (search rules) (search rules) (search rules))

pub returns-in-Err-clause-grows : goal.returns-in-Err-clause-grows
returns-in-Err-clause-grows c = grows_if c.args.self.now.core _ c.starve_ask.result (search rules)

pub returns-in_ok-refuse_ask-in-Refused-clause-runs : goal.returns-in_ok-refuse_ask-in-Refused-clause-runs
returns-in_ok-refuse_ask-in-Refused-clause-runs c known line own_it readings wanted n k =
    let refused = asked_refused c.args.queries.now c.args.query.now c.in-Some.read.now c.in-Refused.error known line (is_instant c.args.when) (grid_in c.args.when)
    c.requires.right (search rules) (search rules) readings wanted in
    step_refused known n c.args.self.now c.refuse_ask.new.self (search rules) c.args.number c.args.id.now c.args.tenant.now line own_it
    (words_of_error c.in-Refused.error) (slot.BadQuery c.in-Refused.error) (search rules) refused (refused_slot known line (words_of_error c.in-Refused.error) refused) (search rules) (search rules)

pub returns-in_ok-refuse_ask-in-Refused-clause-grows : goal.returns-in_ok-refuse_ask-in-Refused-clause-grows
returns-in_ok-refuse_ask-in-Refused-clause-grows c = grows_same c.args.self.now.core _ (search rules)
