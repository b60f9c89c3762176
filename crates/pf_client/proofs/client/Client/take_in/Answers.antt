use Rattle.std.proofs.Common.{rules}
use Rattle.std.specs.Arc.{arc_value}
use Rattle.pf_journal.specs.Scripts as script
use Rattle.pf_client.proofs.Cases.{if_ok_map}
use Rattle.pf_client.proofs.HandLines.{keeps_same}
use Rattle.pf_client.proofs.Steps.{grows_appended, grows_if, grows_refused, grows_same, starved_ingest, step_full, step_ingested, step_uningested}
use Rattle.pf_client.proofs.client.Client.take_in.Goals as goal

pub returns-in_ok-push_ingest_reply-in-Ok-clause-runs : goal.returns-in_ok-push_ingest_reply-in-Ok-clause-runs
returns-in_ok-push_ingest_reply-in-Ok-clause-runs c known gives n k =
    step_ingested known n c.args.self.now _ c.by-by.result c.args.number c.args.tenant.now c.args.file.now c.args.time c.args.batch (arc_value c.in-Ok.verdicts)
    k (search rules) (search rules) (search rules) (search rules) (search rules) gives (search rules)

pub returns-in_ok-push_ingest_reply-in-Err-TooManyTenants-clause-runs : goal.returns-in_ok-push_ingest_reply-in-Err-TooManyTenants-clause-runs
returns-in_ok-push_ingest_reply-in-Err-TooManyTenants-clause-runs c known gives n k =
    step_uningested known n c.args.self.now _ c.by-by.result c.args.number c.args.tenant.now c.args.file.now c.args.time c.args.batch
    k (search rules) (search rules) (search rules) (search rules) (search rules) (search rules) gives (search rules)

pub returns-in_ok-push_ingest_reply-in-Err-JournalFull-clause-runs : goal.returns-in_ok-push_ingest_reply-in-Err-JournalFull-clause-runs
returns-in_ok-push_ingest_reply-in-Err-JournalFull-clause-runs c known gives n k =
    step_full known n c.args.self.now _ (record { number = c.args.number; line = script.ingest c.args.tenant.now c.args.file.now c.args.time })
    (search rules) (search rules) (c.args.batch, gives) (keeps_same c.args.self.now _ (search rules) (search rules)) (search rules)

pub returns-in_default-clause-runs : goal.returns-in_default-clause-runs
returns-in_default-clause-runs c =
    if_ok_map _ _ c.starve_ingest.result (λ r h known gives. h known)
    (starved_ingest c.args.self.now c.starve_ingest.new.self c.args.number c.args.tenant.now c.args.file.now c.args.time c.starve_ingest.result
    c.starve_ingest.ensures.starved (search rules) (search rules) (search rules))

pub returns-in_default-clause-grows : goal.returns-in_default-clause-grows
returns-in_default-clause-grows c = grows_if c.args.self.now.core _ c.starve_ingest.result (search rules)

pub returns-in-Err-OutOfMemory-clause-runs : goal.returns-in-Err-OutOfMemory-clause-runs
returns-in-Err-OutOfMemory-clause-runs c =
    if_ok_map _ _ c.starve_ingest-in-Err-OutOfMemory.result (λ r h known gives. h known)
    (starved_ingest c.args.self.now c.starve_ingest-in-Err-OutOfMemory.new.self c.args.number c.args.tenant.now c.args.file.now c.args.time c.starve_ingest-in-Err-OutOfMemory.result
    c.starve_ingest-in-Err-OutOfMemory.ensures.starved (search rules) (search rules) (search rules))

pub returns-in-Err-OutOfMemory-clause-grows : goal.returns-in-Err-OutOfMemory-clause-grows
returns-in-Err-OutOfMemory-clause-grows c = grows_if c.args.self.now.core _ c.starve_ingest-in-Err-OutOfMemory.result (search rules)

pub returns-in_ok-push_ingest_reply-in-Ok-clause-grows : goal.returns-in_ok-push_ingest_reply-in-Ok-clause-grows
returns-in_ok-push_ingest_reply-in-Ok-clause-grows c = grows_appended c.args.self.now.core _ c.by-by.result c.args.tenant.now c.args.batch (arc_value c.in-Ok.verdicts) (search rules) (search rules)

pub returns-in_ok-push_ingest_reply-in-Err-TooManyTenants-clause-grows : goal.returns-in_ok-push_ingest_reply-in-Err-TooManyTenants-clause-grows
returns-in_ok-push_ingest_reply-in-Err-TooManyTenants-clause-grows c = grows_refused c.args.self.now.core _ c.by-by.result c.args.tenant.now (search rules) (search rules)

pub returns-in_ok-push_ingest_reply-in-Err-JournalFull-clause-grows : goal.returns-in_ok-push_ingest_reply-in-Err-JournalFull-clause-grows
returns-in_ok-push_ingest_reply-in-Err-JournalFull-clause-grows c = grows_same c.args.self.now.core _ (search rules)
