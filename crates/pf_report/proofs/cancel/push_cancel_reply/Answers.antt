use Rattle.std.proofs.Common.{sym}
use Rattle.pf_report.specs.Replies.{cancel_text}
use Rattle.pf_report.proofs.Retold.{retold}
use Rattle.pf_report.proofs.cancel.push_cancel_reply.Goals as goal

pub returns-in-NotOutstanding-clause-ok : goal.returns-in-NotOutstanding-clause-ok
returns-in-NotOutstanding-clause-ok c =
    retold c.push_reply-in-NotOutstanding.result (cancel_text c.args.number c.args.id.now) _ _ c.args.out.now.items c.push_reply-in-NotOutstanding.new.out.items (sym c.in-NotOutstanding.is)
    c.push_reply-in-NotOutstanding.ensures.ok
