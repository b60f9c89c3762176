use Rattle.std.proofs.Common.{rules, refl, subst}
use Rattle.pf_journal.specs.Rest.{refused_file}
use Rattle.pf_journal.specs.Scripts as script
use Rattle.pf_report.specs.Replies.{fault_of}
use Rattle.pf_client.proofs.Cases.{if_ok_map}
use Rattle.pf_client.proofs.FileReads.{read_named}
use Rattle.pf_client.proofs.HandLines.{keeps_same}
use Rattle.pf_client.proofs.Steps.{grows_if, grows_same, starved_ingest, step_stayed}
use Rattle.pf_client.specs.Clients.{IsFileRead}
use Rattle.pf_client.proofs.client.Client.ingest.Goals as goal

pub returns-in-Batch-clause-runs : goal.returns-in-Batch-clause-runs
returns-in-Batch-clause-runs c =
    if_ok_map _ _ c.take_in.result
    (λ r run known held. run known
    (subst (IsFileRead (known.files c.args.file.now) c.args.time) c.in-Batch.is (read_named known.files c.args.file.now c.as_str.result.now c.args.time c.in-Ok.read (search rules) (c.in-Ok.ensures.read known.files held))))
    c.take_in.ensures.runs

pub returns-in_ok-push_ingest_reply-in-Refused-clause-runs : goal.returns-in_ok-push_ingest_reply-in-Refused-clause-runs
returns-in_ok-push_ingest_reply-in-Refused-clause-runs c known held n k =
    step_stayed known n c.args.self.now _ (record { number = c.args.number; line = script.ingest c.args.tenant.now c.args.file.now c.args.time })
    (refused_file (fault_of c.in-Refused.fault)) refl refl refl
    (subst (IsFileRead (known.files c.args.file.now) c.args.time) c.in-Refused.is (read_named known.files c.args.file.now c.as_str.result.now c.args.time c.in-Ok.read (search rules) (c.in-Ok.ensures.read known.files held)))
    (keeps_same c.args.self.now (record c.args.self.now { out = c.push_ingest_reply.new.out }) refl refl) (search rules)

pub returns-in_default-clause-runs : goal.returns-in_default-clause-runs
returns-in_default-clause-runs c =
    if_ok_map _ _ c.starve_ingest.result (λ r h known held. h known)
    (starved_ingest c.args.self.now c.starve_ingest.new.self c.args.number c.args.tenant.now c.args.file.now c.args.time c.starve_ingest.result
    c.starve_ingest.ensures.starved (search rules) (search rules) (search rules))

pub returns-in_default-clause-grows : goal.returns-in_default-clause-grows
returns-in_default-clause-grows c = grows_if c.args.self.now.core _ c.starve_ingest.result (search rules)

pub returns-in_ok-push_ingest_reply-in-Refused-clause-grows : goal.returns-in_ok-push_ingest_reply-in-Refused-clause-grows
returns-in_ok-push_ingest_reply-in-Refused-clause-grows c = grows_same c.args.self.now.core _ refl
