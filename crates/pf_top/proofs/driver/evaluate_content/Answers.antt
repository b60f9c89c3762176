use Rattle.std.proofs.Common.{inl, inr, subst}
use Rattle.pf_client.proofs.Cases.{if_ok_map}
use Rattle.pf_report.specs.Replies.{fault_of}
use Rattle.pf_client.specs.Clients.{IsFileRead}
use Rattle.pf_top.proofs.driver.evaluate_content.Goals as goal

pub returns-in-Batch : goal.returns-in-Batch
returns-in-Batch c =
    if_ok_map _ _ c.evaluate_batch.result
    (λ o printed bytes held. inl (printed.0, (c.in-Batch.batch, (subst (IsFileRead bytes 0) c.in-Batch.is (c.in_ok-batch.ensures.read bytes held), printed.1))))
    c.evaluate_batch.ensures

pub returns-in-Refused : goal.returns-in-Refused
returns-in-Refused c =
    if_ok_map _ _ c.file_refused.result
    (λ o p bytes held. inr (p.0, (fault_of c.in-Refused.fault, (subst (IsFileRead bytes 0) c.in-Refused.is (c.in_ok-batch.ensures.read bytes held), p.1))))
    c.file_refused.ensures
