use Rattle.std.proofs.Common.{◌≡◌, rules, arith, length, vec_len}
use Rattle.std.proofs.lemmas.Grind.{common_steps}
use Rattle.pf_report.proofs.Joined.{kept_on}
use Rattle.pf_report.proofs.answers.push_answered.Goals as goal

pub returns-in_err-push_body-clause-kept : goal.returns-in_err-push_body-clause-kept
returns-in_err-push_body-clause-kept c =
    let before : length c.args.out.now.items ≡ vec_len c.args.out.now = first_of (search rules, grind (arith, common_steps)) in
    let now : length c.push_code.new.out.items ≡ vec_len c.push_code.new.out = first_of (search rules, grind (arith, common_steps)) in
    kept_on _ _ _ _ _ c.push_code.ensures.kept c.push_body.ensures.kept before now
