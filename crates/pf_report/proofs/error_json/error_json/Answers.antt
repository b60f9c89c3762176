use Rattle.std.proofs.Common.{◌∙◌}
use Rattle.pf_report.proofs.ErrorTokens.{error_written}
use Rattle.pf_report.proofs.error_json.error_json.Goals as goal

pub returns : goal.returns
returns c =
    error_written _ _ _ _ _ _ _ _ _ c.args.kind.now c.args.message.now (c.new-writer.ensures.before ∙ c.new.ensures.items) c.new-writer.ensures.tokens c.in_ok-begin_object.ensures.room.0 c.in_ok-write_members.ensures.before c.in_ok-end_object.ensures.room.0 c.in_ok-begin_object.ensures.ok c.in_ok-write_members.ensures.tokens c.in_ok-end_object.ensures.ok c.into_inner.ensures.items
