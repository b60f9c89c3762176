use Rattle.std.proofs.Common.{◌≡◌, ◌++◌, drop, take, vec_len}
use Rattle.pf_journal.specs.Bodies.{element_text}
use Rattle.pf_model.specs.Lists.{comma_before}
use Rattle.pf_report.proofs.vectors.push_more_elements.Given as goal

abbrev pub invariant-loop-row : goal.invariant-loop-row
invariant-loop-row l = record {
  ok : l.out.items ++ comma_before element_text (drop l.row-index l.rows)
      ≡ l.initial.out.items ++ comma_before element_text l.rows;
  kept : take (vec_len l.initial.out) l.out.items ≡ l.initial.out.items;
}
