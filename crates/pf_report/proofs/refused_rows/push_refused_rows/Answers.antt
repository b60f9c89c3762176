use Rattle.std.proofs.Common.{◌≡◌, rules, arith, length, vec_len}
use Rattle.std.proofs.lemmas.Grind.{common_steps}
use Rattle.pf_report.proofs.Joined.{kept_on}
use Rattle.pf_report.proofs.refused_rows.push_refused_rows.Goals as goal

pub returns-in_err-push_refused_row-clause-kept : goal.returns-in_err-push_refused_row-clause-kept
returns-in_err-push_refused_row-clause-kept c =
    let before : length c.args.out.now.items ≡ vec_len c.args.out.now = first_of (search rules, grind (arith, common_steps)) in
    let now : length c.loop-row.out.items ≡ vec_len c.loop-row.out = first_of (search rules, grind (arith, common_steps)) in
    kept_on _ _ _ _ _ c.loop-row.invariant.kept c.push_refused_row.ensures.kept before now

pub loop-row-preserved : goal.loop-row-preserved
loop-row-preserved c =
    let before : length c.args.out.now.items ≡ vec_len c.args.out.now = first_of (search rules, grind (arith, common_steps)) in
    let now : length c.loop-row.out.items ≡ vec_len c.loop-row.out = first_of (search rules, grind (arith, common_steps)) in
    record {
      ok = grind (arith, common_steps);
      kept = kept_on _ _ _ _ _ c.loop-row.invariant.kept c.in_ok-push_refused_row.ensures.kept before now;
    }
