use Rattle.std.proofs.Common.{arith}
use Rattle.std.proofs.lemmas.Grind.{common_steps}
use Rattle.pf_report.proofs.ErrorTokens.{members_after}
use Rattle.pf_report.proofs.error_json.write_members.Goals as goal

pub returns-clause-tokens : goal.returns-clause-tokens
returns-clause-tokens c =
    members_after _ _ _ _ c.args.kind.now c.args.message.now c.in_ok-write_member.ensures.tokens c.in_ok-write_member-2.ensures.tokens c.in_ok-write_member-3.ensures.tokens

pub returns-clause-before : goal.returns-clause-before
returns-clause-before c = grind (arith, common_steps)
