use Rattle.std.proofs.Common.{rules, ◌≤◌}
use Rattle.std.specs.Arc.{arc_value}
use Rattle.pf_journal.specs.Scripts as script
use Rattle.pf_client.proofs.HandLines.{keeps_same}
use Rattle.pf_client.proofs.Steps.{grows_deleted, grows_if, grows_refused, grows_same, starved_any, step_deleted, step_full, step_undeleted}
use Rattle.pf_client.proofs.client.Client.delete_selected.Goals as goal

pub returns-in_ok-push_delete_reply-in-Ok-clause-runs : goal.returns-in_ok-push_delete_reply-in-Ok-clause-runs
returns-in_ok-push_delete_reply-in-Ok-clause-runs c known selector selects n k =
    step_deleted known n c.args.self.now _ c.by-by.result c.args.number c.args.tenant.now c.args.from c.args.to selector (arc_value c.args.matchers) c.in-Ok.deleted
    k (search rules) (search rules) (search rules) (search rules) (search rules) (search rules) (search rules) selects (search rules)

pub returns-in_ok-push_delete_reply-in-Err-TooManyTenants-clause-runs : goal.returns-in_ok-push_delete_reply-in-Err-TooManyTenants-clause-runs
returns-in_ok-push_delete_reply-in-Err-TooManyTenants-clause-runs c known selector selects n k =
    step_undeleted known n c.args.self.now _ c.by-by.result c.args.number c.args.tenant.now c.args.from c.args.to selector (arc_value c.args.matchers)
    k (search rules) (search rules) (search rules) (search rules) (search rules) (search rules) (search rules) (search rules) selects (search rules)

pub returns-in_ok-push_delete_reply-in-Err-JournalFull-clause-runs : goal.returns-in_ok-push_delete_reply-in-Err-JournalFull-clause-runs
returns-in_ok-push_delete_reply-in-Err-JournalFull-clause-runs c known selector selects n k =
    let forward : c.args.from ≤ c.args.to = search rules in
    let within : c.args.to ≤ 4398046511103 = search rules in
    step_full known n c.args.self.now _ (record { number = c.args.number; line = script.delete c.args.tenant.now c.args.from c.args.to selector })
    (search rules) (search rules) ((forward, within), (arc_value c.args.matchers, selects)) (keeps_same c.args.self.now _ (search rules) (search rules)) (search rules)

pub returns-in-Err-OutOfMemory-clause-runs : goal.returns-in-Err-OutOfMemory-clause-runs
returns-in-Err-OutOfMemory-clause-runs c =
    starved_any c.args.self.now c.starve_delete.new.self c.args.number c.args.tenant.now c.args.from c.args.to (arc_value c.args.matchers) c.starve_delete.result
    c.starve_delete.ensures.starved (search rules) (search rules) (search rules)

pub returns-in-Err-OutOfMemory-clause-grows : goal.returns-in-Err-OutOfMemory-clause-grows
returns-in-Err-OutOfMemory-clause-grows c = grows_if c.args.self.now.core _ c.starve_delete.result (search rules)

pub returns-in_ok-push_delete_reply-in-Ok-clause-grows : goal.returns-in_ok-push_delete_reply-in-Ok-clause-grows
returns-in_ok-push_delete_reply-in-Ok-clause-grows c = grows_deleted c.args.self.now.core _ c.by-by.result c.args.tenant.now (arc_value c.args.matchers) c.args.from c.args.to c.in-Ok.deleted (search rules) (search rules)

pub returns-in_ok-push_delete_reply-in-Err-TooManyTenants-clause-grows : goal.returns-in_ok-push_delete_reply-in-Err-TooManyTenants-clause-grows
returns-in_ok-push_delete_reply-in-Err-TooManyTenants-clause-grows c = grows_refused c.args.self.now.core _ c.by-by.result c.args.tenant.now (search rules) (search rules)

pub returns-in_ok-push_delete_reply-in-Err-JournalFull-clause-grows : goal.returns-in_ok-push_delete_reply-in-Err-JournalFull-clause-grows
returns-in_ok-push_delete_reply-in-Err-JournalFull-clause-grows c = grows_same c.args.self.now.core _ (search rules)
