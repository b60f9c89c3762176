use Rattle.std.proofs.Common.{◌∷◌, [], codes, decimal}
use Rattle.pf_journal.specs.Replies.{reply_line}
use Rattle.pf_report.proofs.Retold.{retold}
use Rattle.pf_report.proofs.ingest.push_late_line.Goals as goal

pub returns-clause-ok : goal.returns-clause-ok
returns-clause-ok c =
    retold c.push_reply.result
    (λ n. reply_line c.args.number (codes "ingest") c.args.tenant.now
    (codes "time" ∷ codes "too" ∷ codes "large" ∷ codes "line" ∷ decimal n ∷ []))
    _ _ c.args.out.now.items c.push_reply.new.out.items c.from.ensures c.push_reply.ensures.ok
