use Rattle.std.proofs.Common.{rules, refl}
use Rattle.std.specs.Arc.{arc_value}
use Rattle.pf_client.proofs.Asking.{grows_asked, grows_filled, starved_ask, step_asked, step_filled, step_stranger, step_unasked}
use Rattle.pf_client.proofs.Cases.{if_ok_map}
use Rattle.pf_client.proofs.Steps.{grows_if, grows_refused, grows_same}
use Rattle.pf_client.proofs.client.Client.ask_over.Goals as goal

pub returns-in_ok-open_query-in-Ok-clause-runs : goal.returns-in_ok-open_query-in-Ok-clause-runs
returns-in_ok-open_query-in-Ok-clause-runs c known line own_it wanted n k =
    step_asked known n c.args.self.now c.open_query.new.self (search rules) c.args.number c.args.id.now c.args.tenant.now line own_it
    c.by-by.result (arc_value c.args.asked) c.in-Ok.admitted.query c.in-Ok.admitted.pin c.ask.new.self k (search rules) (search rules) (search rules) (search rules) (search rules) (search rules) wanted (search rules) (search rules)

pub returns-in_ok-open_query-in-Ok-clause-grows : goal.returns-in_ok-open_query-in-Ok-clause-grows
returns-in_ok-open_query-in-Ok-clause-grows c =
    grows_asked c.args.self.now.core c.ask.new.self _ c.by-by.result c.args.tenant.now (arc_value c.args.asked) c.in-Ok.admitted.query c.in-Ok.admitted.pin (search rules) (search rules) (search rules)

pub returns-in_ok-refuse_ask-in-Err-TooManyTenants-clause-runs : goal.returns-in_ok-refuse_ask-in-Err-TooManyTenants-clause-runs
returns-in_ok-refuse_ask-in-Err-TooManyTenants-clause-runs c known line own_it wanted n k =
    step_stranger known n c.args.self.now c.refuse_ask.new.self (search rules) c.args.number c.args.id.now c.args.tenant.now line own_it
    c.by-by.result (arc_value c.args.asked) k (search rules) (search rules) (search rules) (search rules) (search rules) wanted (search rules) (search rules)

pub returns-in_ok-refuse_ask-in-Err-TooManyTenants-clause-grows : goal.returns-in_ok-refuse_ask-in-Err-TooManyTenants-clause-grows
returns-in_ok-refuse_ask-in-Err-TooManyTenants-clause-grows c = grows_refused c.args.self.now.core _ c.by-by.result c.args.tenant.now (search rules) (search rules)

pub returns-in_ok-refuse_ask-in-Err-Full-clause-runs : goal.returns-in_ok-refuse_ask-in-Err-Full-clause-runs
returns-in_ok-refuse_ask-in-Err-Full-clause-runs c known line own_it wanted n k =
    step_filled known n c.args.self.now c.refuse_ask-in-Err-Full.new.self (search rules) c.args.number c.args.id.now c.args.tenant.now line own_it
    c.by-by.result (arc_value c.args.asked) c.in-Err-Full._outstanding k (search rules) (search rules) (search rules) (search rules) (search rules) wanted (search rules) (search rules)

pub returns-in_ok-refuse_ask-in-Err-Full-clause-grows : goal.returns-in_ok-refuse_ask-in-Err-Full-clause-grows
returns-in_ok-refuse_ask-in-Err-Full-clause-grows c = grows_filled c.args.self.now.core _ c.by-by.result c.args.tenant.now c.in-Err-Full._outstanding (search rules) (search rules)

pub returns-in_ok-push_ask_reply-in-Err-JournalFull-clause-runs : goal.returns-in_ok-push_ask_reply-in-Err-JournalFull-clause-runs
returns-in_ok-push_ask_reply-in-Err-JournalFull-clause-runs c known line own_it wanted n k =
    step_unasked known n c.args.self.now _ refl c.args.number c.args.id.now c.args.tenant.now line own_it
    (arc_value c.args.asked) (search rules) (search rules) wanted (search rules)

pub returns-in_ok-push_ask_reply-in-Err-JournalFull-clause-grows : goal.returns-in_ok-push_ask_reply-in-Err-JournalFull-clause-grows
returns-in_ok-push_ask_reply-in-Err-JournalFull-clause-grows c = grows_same c.args.self.now.core _ (search rules)

pub returns-in-Err-OutOfMemory-clause-runs : goal.returns-in-Err-OutOfMemory-clause-runs
returns-in-Err-OutOfMemory-clause-runs c =
    if_ok_map _ _ c.starve_ask.result (λ r h known line own_it wanted. h known line own_it)
    (starved_ask c.args.self.now c.starve_ask.new.self c.args.number c.args.id.now c.args.tenant.now c.starve_ask.result
    c.starve_ask.ensures.on (search rules) (search rules) (search rules) (search rules))

pub returns-in-Err-OutOfMemory-clause-grows : goal.returns-in-Err-OutOfMemory-clause-grows
returns-in-Err-OutOfMemory-clause-grows c = grows_if c.args.self.now.core _ c.starve_ask.result (search rules)
