use Rattle.std.proofs.Common.{◌≡◌, ◌++◌, drop, take, vec_len}
use Rattle.pf_model.specs.Json.{row_text}
use Rattle.pf_model.specs.Lists.{comma_before}
use Rattle.pf_report.proofs.json_text.push_more_rows.Given as goal

abbrev pub invariant-loop-row : goal.invariant-loop-row
invariant-loop-row l = record {
  ok : l.out.items ++ comma_before row_text (drop l.row-index l.rows)
      ≡ l.initial.out.items ++ comma_before row_text l.rows;
  kept : take (vec_len l.initial.out) l.out.items ≡ l.initial.out.items;
}
