use Rattle.std.proofs.Common.{◌≡◌, rules, arith, length, vec_len}
use Rattle.std.proofs.lemmas.Grind.{common_steps}
use Rattle.pf_model.specs.Json.{row_text}
use Rattle.pf_report.proofs.Joined.{comma_step, kept_on}
use Rattle.pf_report.proofs.json_text.push_more_rows.Goals as goal

pub loop-row-preserved : goal.loop-row-preserved
loop-row-preserved c =
    let before : length c.args.out.now.items ≡ vec_len c.args.out.now = first_of (search rules, grind (arith, common_steps)) in
    let now : length c.loop-row.out.items ≡ vec_len c.loop-row.out = first_of (search rules, grind (arith, common_steps)) in
    record {
      ok = comma_step row_text c.args.rows.now c.loop-row.row-index c.row-item.result _ _ _ c.loop-row-test.true c.row-item.is c.in_ok-push_next_row.ensures.ok c.loop-row.invariant.ok;
      kept = kept_on _ _ _ _ _ c.loop-row.invariant.kept c.in_ok-push_next_row.ensures.kept before now;
    }

pub returns-in_err-push_next_row-clause-kept : goal.returns-in_err-push_next_row-clause-kept
returns-in_err-push_next_row-clause-kept c =
    let before : length c.args.out.now.items ≡ vec_len c.args.out.now = first_of (search rules, grind (arith, common_steps)) in
    let now : length c.loop-row.out.items ≡ vec_len c.loop-row.out = first_of (search rules, grind (arith, common_steps)) in
    kept_on _ _ _ _ _ c.loop-row.invariant.kept c.push_next_row.ensures.kept before now
