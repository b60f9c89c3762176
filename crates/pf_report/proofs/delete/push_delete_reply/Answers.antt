use Rattle.std.proofs.Common.{sym}
use Rattle.pf_report.specs.Replies.{delete_text}
use Rattle.pf_report.proofs.Retold.{retold}
use Rattle.pf_report.proofs.delete.push_delete_reply.Goals as goal

pub returns-in-Deleted-clause-ok : goal.returns-in-Deleted-clause-ok
returns-in-Deleted-clause-ok c =
    retold c.push_deleted.result (delete_text c.args.number c.args.tenant.now) _ _ c.args.out.now.items c.push_deleted.new.out.items (sym c.in-Deleted.is) c.push_deleted.ensures.ok
