use Rattle.std.proofs.Common.{arith}
use Rattle.std.proofs.lemmas.Grind.{common_steps}
use Rattle.pf_report.proofs.error_json.write_member.Goals as goal

pub returns-clause-tokens : goal.returns-clause-tokens
returns-clause-tokens c = grind (arith, common_steps)

pub returns-clause-before : goal.returns-clause-before
returns-clause-before c = grind (arith, common_steps)
